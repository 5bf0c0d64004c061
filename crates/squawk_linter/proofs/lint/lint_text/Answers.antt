use Rattle.std.proofs.Common.{◌∙◌, ap, rules}
use Rattle.squawk_linter.specs.Answers.{reports}
use Rattle.squawk_linter.specs.Headline.{headline_of}
use Rattle.squawk_linter.specs.Reports.{cleared}
use Rattle.squawk_linter.proofs.lint.lint_text.Goals as goal

pub returns-in-Ok-clause-ok : goal.returns-in-Ok-clause-ok
returns-in-Ok-clause-ok c = record { tree = c.in_ok-file.file; of_text = c.in_ok-file.ensures.ok; reports_of = c.in-Ok.ensures.ok }

pub returns-in-Ok-clause-valid : goal.returns-in-Ok-clause-valid
returns-in-Ok-clause-valid c = λ tree is.
    c.in-Ok.ensures.ok ∙ ap (λ t. reports t c.args.linter.now.rules c.args.linter.now.settings) (c.in_ok-file.ensures.valid tree is)

pub returns-in-Ok-clause-unterminated : goal.returns-in-Ok-clause-unterminated
returns-in-Ok-clause-unterminated c = λ at opens. c.in_ok-file.ensures.unterminated at opens

pub returns-in-Ok-clause-syntax : goal.returns-in-Ok-clause-syntax
returns-in-Ok-clause-syntax c = λ at fault. c.in_ok-file.ensures.syntax at fault

pub returns-in-Ok-clause-headline : goal.returns-in-Ok-clause-headline
returns-in-Ok-clause-headline c = λ tree is none.
    ap (headline_of tree) (c.in-Ok.ensures.ok ∙ ap (λ t. reports t c.args.linter.now.rules c.args.linter.now.settings) (c.in_ok-file.ensures.valid tree is))
    ∙ c.headline.ensures tree c.args.linter.now.rules c.args.linter.now.settings is.1 none

pub returns-in-Ok-clause-settings : goal.returns-in-Ok-clause-settings
returns-in-Ok-clause-settings c = λ tree is.
    c.in-Ok.ensures.settings ∙ ap (λ t. cleared t c.args.linter.now.settings) (c.in_ok-file.ensures.valid tree is)

pub returns-in_err-file-clause-ok : goal.returns-in_err-file-clause-ok
returns-in_err-file-clause-ok c = search rules

pub returns-in_err-file-clause-err : goal.returns-in_err-file-clause-err
returns-in_err-file-clause-err c = search rules

pub returns-in_err-file-clause-too_long : goal.returns-in_err-file-clause-too_long
returns-in_err-file-clause-too_long c = search rules

pub returns-in_err-file-clause-valid : goal.returns-in_err-file-clause-valid
returns-in_err-file-clause-valid c = search rules

pub returns-in_err-file-clause-unterminated : goal.returns-in_err-file-clause-unterminated
returns-in_err-file-clause-unterminated c = search rules

pub returns-in_err-file-clause-syntax : goal.returns-in_err-file-clause-syntax
returns-in_err-file-clause-syntax c = search rules

pub returns-in_err-file-clause-headline : goal.returns-in_err-file-clause-headline
returns-in_err-file-clause-headline c = search rules

pub returns-in_err-file-clause-places : goal.returns-in_err-file-clause-places
returns-in_err-file-clause-places c = search rules

pub returns-in_err-file-clause-rules : goal.returns-in_err-file-clause-rules
returns-in_err-file-clause-rules c = search rules

pub returns-in_err-file-clause-settings : goal.returns-in_err-file-clause-settings
returns-in_err-file-clause-settings c = search rules

pub returns-in-Ok-clause-err : goal.returns-in-Ok-clause-err
returns-in-Ok-clause-err c = search rules

pub returns-in-Ok-clause-too_long : goal.returns-in-Ok-clause-too_long
returns-in-Ok-clause-too_long c = search rules

pub returns-in-Ok-clause-places : goal.returns-in-Ok-clause-places
returns-in-Ok-clause-places c = search rules

pub returns-in-Ok-clause-rules : goal.returns-in-Ok-clause-rules
returns-in-Ok-clause-rules c = search rules

pub returns-clause-ok : goal.returns-clause-ok
returns-clause-ok c = search rules

pub returns-clause-err : goal.returns-clause-err
returns-clause-err c = search rules

pub returns-clause-too_long : goal.returns-clause-too_long
returns-clause-too_long c = search rules

pub returns-clause-valid : goal.returns-clause-valid
returns-clause-valid c = search rules

pub returns-clause-unterminated : goal.returns-clause-unterminated
returns-clause-unterminated c = search rules

pub returns-clause-syntax : goal.returns-clause-syntax
returns-clause-syntax c = search rules

pub returns-clause-headline : goal.returns-clause-headline
returns-clause-headline c = search rules

pub returns-clause-places : goal.returns-clause-places
returns-clause-places c = search rules

pub returns-clause-rules : goal.returns-clause-rules
returns-clause-rules c = search rules

pub returns-clause-settings : goal.returns-clause-settings
returns-clause-settings c = search rules
