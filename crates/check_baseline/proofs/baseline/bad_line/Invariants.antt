use Rattle.std.proofs.Common.{◌≡◌, ◌+◌, drop, map}
use Rattle.check_baseline.specs.Known.{bad_line_from}
use Rattle.check_baseline.proofs.baseline.bad_line.Given as goal

-- what is found among the lines that are left is found among all
abbrev pub invariant-loop-line : goal.invariant-loop-line
invariant-loop-line l = record {
  number : l.number ≡ l.line-index + 1;
  found : bad_line_from l.number (map (λ s. s.now) (drop l.line-index l.lines)) ≡ bad_line_from 1 (map (λ s. s.now) l.lines);
}
