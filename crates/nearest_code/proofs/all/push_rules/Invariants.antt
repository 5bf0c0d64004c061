use Rattle.std.proofs.Common.{◌≡◌, ◌++◌, drop, map}
use Rattle.lint_report.specs.declared.code.Code.TheVariants as code
use Rattle.nearest_code.proofs.all.push_rules.Given as goal

-- what was added, and what is left, is all
abbrev pub invariant-loop-rule : goal.invariant-loop-rule
invariant-loop-rule l = l.codes.items ++ map (λ rule. code.Rule rule) (drop l.rule-index l.rules) ≡ l.initial.codes.items ++ map (λ rule. code.Rule rule) l.rules
