-- Which changes of types are reported, and with which words.
use Rattle.std.specs.Prelude.{List, ◌∷◌, codes}
use Rattle.lint_pass.specs.sql_tree.declared.kinds.PieceKind.TheVariants as piece
use Rattle.lint_pass.specs.sql_tree.declared.kinds.StmtKind.TheVariants as stmt
use Rattle.lint_pass.specs.declared.bans.Spot.TheVariants as spot
use Rattle.lint_pass.specs.Bans.{BanRow}
use Rattle.lint_pass.specs.Rows.{at, breaks}

abbrev pub rows_of_changing_column_type : List BanRow
rows_of_changing_column_type = (
  spot.Piece stmt.AlterTable piece.SetType,
  codes "changing a column type rewrites the table under an `access exclusive` lock",
  codes "the lock blocks reads and writes while the table is rewritten, and the new type may break other clients reading from the table",
)
    ∷ (
      spot.Piece stmt.AlterForeignTable piece.SetType,
      codes "changing a column type rewrites the table under an `access exclusive` lock",
      codes "the lock blocks reads and writes while the table is rewritten, and the new type may break other clients reading from the table",
    )
    ∷ at (spot.Piece stmt.AlterType piece.AlterAttribute) (breaks (codes "changing an attribute type"))
