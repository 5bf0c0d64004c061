use Rattle.fix_edit.proofs.of_lint_base.RuleSets.{has-with_rule_other}
use Rattle.squawk_linter.proofs.laws.apart.Goals as goal

pub returns : goal.returns
returns g c = λ tree rules settings r q differ. g.P.StepPass.apart _ tree settings q _ _ (has-with_rule_other rules q r differ)
