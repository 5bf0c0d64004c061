use Rattle.std.proofs.Common.{refl}
use Rattle.lint_base.specs.Rules.{all_rules, facts_of}
use Rattle.lint_base.proofs.rule.facts_of.Goals as goal

pub facts_in-requires : goal.facts_in-requires
unfolding all_rules facts_of
facts_in-requires c = refl
