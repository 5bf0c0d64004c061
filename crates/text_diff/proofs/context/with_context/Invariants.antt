use Rattle.std.proofs.Common.{◌≡◌, ◌++◌, drop}
use Rattle.text_diff.specs.Context.{with_context}
use Rattle.text_diff.proofs.context.with_context.Given as goal

abbrev pub invariant-loop-i : goal.invariant-loop-i
invariant-loop-i l = l.all.items ++ with_context l.left (drop l.i l.steps) ≡ with_context 0 l.steps
