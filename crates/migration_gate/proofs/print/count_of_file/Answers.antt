use Rattle.std.proofs.Common.{◌∙◌, sym, ap, length}
use Rattle.std.specs.Prelude.{unwrap_or}
use Rattle.migration_gate.proofs.print.count_of_file.Goals as goal

pub returns-in-Some-clause-value : goal.returns-in-Some-clause-value
returns-in-Some-clause-value c = ap (λ o. unwrap_or o (length c.args.works.now)) (sym c.in-Some.is ∙ c.first_of_other.ensures.value)

pub returns-in-None-clause-value : goal.returns-in-None-clause-value
returns-in-None-clause-value c = ap (λ o. unwrap_or o (length c.args.works.now)) (sym c.in-None.is ∙ c.first_of_other.ensures.value)
