use Rattle.std.proofs.Common.{◌≡◌, ◌∙◌, List, Option, subst}
use Rattle.std.proofs.lemmas.Result.{IfOk-weaker}
use Rattle.psql_edit.specs.psql_text.Psql.{Passes}
use Rattle.psql_edit.specs.psql_text.Told.{IsAnswer}
use Rattle.psql_edit.specs.psql_text.declared.blank.Blanked.{Blanked}
use Rattle.psql_edit.specs.psql_text.declared.part.Part.{Part}
use Rattle.fix_command.proofs.Putting.{answer_for_psql, short_sql}
use Rattle.fix_command.proofs.fixer.answer.Goals as goal

pub outcome_for_psql-requires-clause-short : goal.outcome_for_psql-requires-clause-short
outcome_for_psql-requires-clause-short c =
    let text = c.args.text.now in
    let told = subst (λ (o : Option Blanked). (ps : List Part) × Passes text ps × IsAnswer text ps o) c.in-Some.is c.in_ok-found.ensures.some in
    short_sql text c.as_str.result.now told.0 (c.as_str.ensures.value ∙ told.2.text) c.requires

pub returns-in-Some-clause-answer : goal.returns-in-Some-clause-answer
returns-in-Some-clause-answer c =
    let text = c.args.text.now in
    let told = subst (λ (o : Option Blanked). (ps : List Part) × Passes text ps × IsAnswer text ps o) c.in-Some.is c.in_ok-found.ensures.some in
    IfOk-weaker c.outcome_for_psql.result _ _ (λ outcome h. answer_for_psql c.args.wide c.args.linter.now text told.0 c.in-Some.read.first outcome told.1 told.2.first h)
    (c.outcome_for_psql.ensures.answer told.0 told.1 told.2.first (c.as_str.ensures.value ∙ told.2.text))
