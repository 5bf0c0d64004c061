-- What is asked of a statement stays under other numbers.
use Rattle.std.proofs.Common.{refl}
use Rattle.law_type_fixes.proofs.ColumnTypes.{types_moved}
use Rattle.law_type_fixes.specs.Moves.{StatementsMove}
use Rattle.law_fixes.proofs.Statements.{ends_moved, chains_moved, created_moved}

pub statements_move : StatementsMove
statements_move f s = record {
  begins = refl;
  ends = ends_moved f s.body;
  chains = chains_moved f s.body;
  created = created_moved f s.kind s.body;
  types = types_moved f s;
}
