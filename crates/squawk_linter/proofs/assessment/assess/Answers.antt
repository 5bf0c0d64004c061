use Rattle.std.proofs.Common.{◌∙◌, ap, subst, sym}
use Rattle.std.specs.Str.{IsUtf8}
use Rattle.squawk_linter.specs.Assessments.{assessment}
use Rattle.squawk_linter.specs.CleanAnswers.{IsCleanAnswer, WorksAlone}
use Rattle.squawk_linter.specs.Reports.{cleared}
use Rattle.squawk_linter.proofs.assessment.assess.Goals as goal

pub returns-in-Ok-clause-ok : goal.returns-in-Ok-clause-ok
returns-in-Ok-clause-ok c = record { tree = c.in_ok-file.file; of_text = c.in_ok-file.ensures.ok; is = c.in-Ok.ensures.ok }

pub returns-in-Ok-clause-valid : goal.returns-in-Ok-clause-valid
returns-in-Ok-clause-valid c = λ tree is.
    c.in-Ok.ensures.ok ∙ ap (λ t. assessment t c.args.linter.now.rules c.args.linter.now.settings) (c.in_ok-file.ensures.valid tree is)

pub returns-in-Ok-clause-unterminated : goal.returns-in-Ok-clause-unterminated
returns-in-Ok-clause-unterminated c = λ at opens. c.in_ok-file.ensures.unterminated at opens

pub returns-in-Ok-clause-syntax : goal.returns-in-Ok-clause-syntax
returns-in-Ok-clause-syntax c = λ at fault. c.in_ok-file.ensures.syntax at fault

pub returns-in-Ok-clause-settings : goal.returns-in-Ok-clause-settings
returns-in-Ok-clause-settings c = λ tree is.
    c.in-Ok.ensures.settings ∙ ap (λ t. cleared t c.args.linter.now.settings) (c.in_ok-file.ensures.valid tree is)

pub returns-in-Ok-clause-clean : goal.returns-in-Ok-clause-clean
returns-in-Ok-clause-clean c = λ tree is clean.
    let rules = c.args.linter.now.rules in
    let settings = c.args.linter.now.settings in
    let same = c.in-Ok.ensures.ok ∙ ap (λ t. assessment t rules settings) (c.in_ok-file.ensures.valid tree is) in
    subst (λ a. WorksAlone tree settings a.works) (sym same)
    (c.clean_answers.ensures tree rules settings (record { read = is.1; utf8 = subst IsUtf8 (sym is.0) c.utf8.text })
    (subst (λ a. IsCleanAnswer tree rules a.violations a.plain) same clean))
