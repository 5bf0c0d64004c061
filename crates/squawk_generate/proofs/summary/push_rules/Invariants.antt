use Rattle.std.proofs.Common.{◌≡◌, ℕ, List, ◌++◌, drop, get_or}
use Rattle.std.specs.List.{flat_map}
use Rattle.lint_base.specs.declared.rule.Rule.{Rule}
use Rattle.lint_base.specs.Rules.{number_of}
use Rattle.squawk_generate.specs.Summary.{rule_line}
use Rattle.squawk_generate.proofs.summary.push_rules.Given as goal

abbrev pub invariant-loop-rule : goal.invariant-loop-rule
invariant-loop-rule l =
    let line : Rule → List ℕ = λ rule. rule_line rule (get_or l.counts (number_of rule) 0) in
    l.text.items ++ flat_map line (drop l.rule-index l.rules) ≡ l.initial.text.items ++ flat_map line l.rules
