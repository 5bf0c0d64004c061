-- The parts and the pieces that are still to come.
use Rattle.std.specs.Prelude.{List, [], if◌then◌else◌}
use Rattle.sql_token.specs.declared.terminal.Terminal.{Terminal}
use Rattle.sql_tree.specs.Split.{split_from}
use Rattle.sql_tree.specs.Pieces.{pieces_at}
use Rattle.sql_mark.specs.Marks.{test_of, head_of}
use Rattle.sql_mark.specs.declared.parts.Parts.TheInside.{Inside}
use Rattle.sql_mark.specs.declared.pieces.Pieces.TheInside as piece

abbrev pub parts_left : Inside → List (List Terminal)
parts_left p = if p.more then split_from (test_of p.mark) p.earlier 0 0 p.left.now else []

abbrev pub pieces_left : piece.Inside → List (List Terminal)
pieces_left p = pieces_at (test_of p.mark) (head_of p.mark) p.left.now
