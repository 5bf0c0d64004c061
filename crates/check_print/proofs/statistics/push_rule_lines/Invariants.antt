use Rattle.std.proofs.Common.{◌≡◌, ◌++◌, drop, flat_map}
use Rattle.check_print.specs.Statistics.{rule_line}
use Rattle.check_print.proofs.statistics.push_rule_lines.Given as goal

-- what was added, and then the lines of the rules that are left
abbrev pub invariant-loop-rule : goal.invariant-loop-rule
invariant-loop-rule l = l.to.items ++ flat_map (rule_line l.files) (drop l.rule-index l.rules) ≡ l.initial.to.items ++ flat_map (rule_line l.files) l.rules
