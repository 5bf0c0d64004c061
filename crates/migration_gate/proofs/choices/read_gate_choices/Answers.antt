use Rattle.std.proofs.Common.{◌∙◌, sym}
use Rattle.std.proofs.lemmas.Result.{IfOk-weaker}
use Rattle.migration_gate.proofs.Defaults.{taken_all}
use Rattle.migration_gate.proofs.choices.read_gate_choices.Goals as goal

pub returns-clause-defaults : goal.returns-clause-defaults
returns-clause-defaults c =
    IfOk-weaker c.read_choices.result _ _ (λ o e. taken_all c.foreign_stays_unset.ensures c.args.words.now o (sym c.has_foreign.ensures ∙ c.if-has_foreign.false) e) c.read_choices.ensures.value
