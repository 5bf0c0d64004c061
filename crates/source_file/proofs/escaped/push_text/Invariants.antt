use Rattle.std.proofs.Common.{◌≡◌, ◌-◌, ◌++◌, drop, length}
use Rattle.source_file.specs.Escaped.{escaped_after}
use Rattle.source_file.proofs.escaped.push_text.Given as goal

abbrev pub decreases-text : goal.decreases-text
decreases-text l = length l.text - l.at

-- what was added, and how what is left is written
abbrev pub invariant-text : goal.invariant-text
invariant-text l = l.to.items ++ escaped_after l.marks 0 (drop l.at l.text) ≡ l.initial.to.items ++ escaped_after l.marks 0 l.text
