use Rattle.std.proofs.Common.{◌≡◌, false, take}
use Rattle.std.specs.List.{list_any}
use Rattle.lint_lock.specs.Slow.{refers}
use Rattle.lint_lock.proofs.analyze.has_reference.Given as goal

-- none of those so far
abbrev pub invariant-loop-elem : goal.invariant-loop-elem
invariant-loop-elem l = list_any refers (take l.elem-index l.elems) ≡ false
