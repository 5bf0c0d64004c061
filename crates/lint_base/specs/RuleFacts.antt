-- What the program keeps of a rule.
use Rattle.std.specs.Prelude.{ℕ, List}
use Rattle.std.specs.Borrow.{Bor}
use Rattle.lint_base.specs.declared.rule.Enabled.{Enabled}
use Rattle.lint_base.specs.declared.rule.Enabled.TheVariants.{AliasOf, ByDefault, ByName}
use Rattle.lint_base.specs.Rules.{Facts, alias_rule, default_rule, opt_in_rule}

-- its facts
abbrev pub facts : Bor (List ℕ) × Enabled → Facts
facts (name, ByDefault) = default_rule name.now
facts (name, ByName) = opt_in_rule name.now
facts (name, AliasOf rules) = alias_rule name.now rules.now
