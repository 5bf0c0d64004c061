use Rattle.std.proofs.Common.{◌≡◌, ◌++◌, drop, map}
use Rattle.text_diff.specs.Script.{new_lines, new_some, old_lines, old_some}
use Rattle.text_diff.proofs.script.push_all.Given as goal

-- what was added, and what is left to be added
abbrev pub invariant-loop-line : goal.invariant-loop-line
invariant-loop-line l = record {
  old_side : old_lines l.steps.items ++ old_some l.mark (map (λ line. line.now) (drop l.line-index l.lines)) ≡ old_lines l.initial.steps.items ++ old_some l.mark (map (λ line. line.now) l.lines);
  new_side : new_lines l.steps.items ++ new_some l.mark (map (λ line. line.now) (drop l.line-index l.lines)) ≡ new_lines l.initial.steps.items ++ new_some l.mark (map (λ line. line.now) l.lines);
}
