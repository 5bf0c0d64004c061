-- The rows of changes of who may do what are of the pass's own rules.
use Rattle.std.specs.Prelude.{◌≡◌, true, refl}
use Rattle.lint_pass.specs.lint_base.Rules.{number_of}
use Rattle.lint_pass.specs.lint_base.RuleSets.{has, with_rule}
use Rattle.lint_pass.specs.Ruled.{owns}
use Rattle.pass_client.specs.SecurityCompatibility.{security_rules, rows_of_security_compatibility}

-- each row's rule is one of them
pub security_owned : owns security_rules rows_of_security_compatibility ≡ true
unfolding has with_rule number_of
security_owned = refl
