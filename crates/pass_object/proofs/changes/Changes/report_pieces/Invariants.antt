use Rattle.std.proofs.Common.{◌≡◌, ◌++◌, take}
use Rattle.std.specs.List.{flat_map}
use Rattle.pass_object.specs.Changes.{at_piece, by}
use Rattle.pass_object.proofs.changes.Changes.report_pieces.Given as goal

-- what came so far was reported
abbrev pub invariant-loop-q : goal.invariant-loop-q
invariant-loop-q l = l.out ≡ l.fn.out ++ flat_map (at_piece (by l.self) l.p l.is_all) (take l.q-index l.pieces)
