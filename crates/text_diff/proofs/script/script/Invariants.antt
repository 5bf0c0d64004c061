use Rattle.std.proofs.Common.{◌≡◌, ◌+◌, ◌++◌, length, map}
use Rattle.text_diff.specs.Script.{new_lines, old_lines}
use Rattle.text_diff.proofs.script.script.Given as goal

abbrev pub decreases-lines : goal.decreases-lines
decreases-lines l = length l.old_rest + length l.new_rest

-- the lines so far, and those that are left
abbrev pub invariant-lines : goal.invariant-lines
invariant-lines l = record {
  old_side : old_lines l.steps.items ++ map (λ line. line.now) l.old_rest ≡ map (λ line. line.now) l.old;
  new_side : new_lines l.steps.items ++ map (λ line. line.now) l.new_rest ≡ map (λ line. line.now) l.new;
}
