use Rattle.std.proofs.Common.{◌≡◌, ◌++◌, take}
use Rattle.std.specs.List.{flat_map}
use Rattle.check_baseline.specs.Written.{refusal_line}
use Rattle.check_baseline.proofs.lines.push_refusals.Given as goal

-- the comments on the refusals so far were added
abbrev pub invariant-loop-refusal : goal.invariant-loop-refusal
invariant-loop-refusal l = l.to.items ≡ l.fn.to.items ++ flat_map (refusal_line l.name) (take l.refusal-index l.refusals)
