use Rattle.std.proofs.Common.{◌≡◌, ◌++◌, length, map}
use Rattle.text_diff.specs.Lines.{lines_of}
use Rattle.text_diff.proofs.line.lines.Given as goal

abbrev pub decreases-lines : goal.decreases-lines
decreases-lines l = length l.rest

-- the lines so far, and those of what is left
abbrev pub invariant-lines : goal.invariant-lines
invariant-lines l = map (λ line. line.now) l.all.items ++ lines_of l.rest ≡ lines_of l.text
