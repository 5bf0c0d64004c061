use Rattle.std.proofs.Common.{Option, subst}
use Rattle.lint_ignore.specs.declared.part.Part.{Part as Kept}
use Rattle.lint_ignore.specs.Found.{lists_of}
use Rattle.lint_ignore.specs.Part.{part_of}
use Rattle.lint_ignore.proofs.Growth.{IsReading, reading_goes_on}
use Rattle.lint_ignore.proofs.found.read_names.Goals as goal

pub loop-left-preserved : goal.loop-left-preserved
loop-left-preserved c =
    let P : Option Kept → Type 0 = λ left. IsReading (part_of c.args.rest) (lists_of c.args.found.now) c.args.ignore left c.loop-left.names (lists_of c.loop-left.found) in
    reading_goes_on (part_of c.args.rest) (lists_of c.args.found.now) c.args.ignore c.in-Some.part c.split_comma.result.0 c.split_comma.result.1 c.loop-left.names c.read_piece.new.names (lists_of c.loop-left.found) (lists_of c.read_piece.new.found)
    (subst P c.in-Some.is c.loop-left.invariant) c.split_comma.ensures.pieces c.in_ok-read_piece.ensures.names c.in_ok-read_piece.ensures.ok
