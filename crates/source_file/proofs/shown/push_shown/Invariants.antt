use Rattle.std.proofs.Common.{◌≡◌, ◌-◌, ◌++◌, drop, length}
use Rattle.source_file.specs.Shown.{shown}
use Rattle.source_file.proofs.shown.push_shown.Given as goal

abbrev pub decreases-text : goal.decreases-text
decreases-text l = length l.piece - l.at

-- what was added, and how what is left is shown
abbrev pub invariant-text : goal.invariant-text
invariant-text l = l.to.items ++ shown (drop l.at l.piece) ≡ l.initial.to.items ++ shown l.piece
