use Rattle.std.proofs.Common.{◌≡◌, ◌++◌, take}
use Rattle.std.specs.List.{flat_map}
use Rattle.lint_pass.specs.NodeWalk.{at_piece}
use Rattle.lint_pass.proofs.nodes.report_pieces.Given as goal

-- what came so far was reported
abbrev pub invariant-loop-q : goal.invariant-loop-q
invariant-loop-q g l = l.out ≡ l.fn.out ++ flat_map (at_piece (g.R.NodeReader.by l.r) l.p l.kind) (take l.q-index l.pieces)
