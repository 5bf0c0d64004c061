-- Which columns that get their values in another way are reported, and with which words.
use Rattle.std.specs.Prelude.{List, [], ◌∷◌, ◌++◌, codes}
use Rattle.lint_pass.specs.sql_tree.declared.kinds.ActionKind.TheVariants as action
use Rattle.lint_pass.specs.sql_tree.declared.kinds.PieceKind.TheVariants as piece
use Rattle.lint_pass.specs.sql_tree.declared.kinds.StmtKind.TheVariants as stmt
use Rattle.lint_pass.specs.sql_tree.declared.nodes.ConKind.TheVariants as con
use Rattle.lint_pass.specs.declared.bans.Spot.TheVariants as spot
use Rattle.lint_pass.specs.Bans.{BanRow}
use Rattle.lint_pass.specs.Rows.{at, at_actions, at_pieces, tables}

abbrev pub rows_of_ban_alter_identity : List BanRow
rows_of_ban_alter_identity =
    at (spot.Piece stmt.AlterTable piece.AddGenerated) (codes "changing column identity may break inserts from existing clients")
    ++ at (spot.Piece stmt.AlterTable piece.DropIdentity) (codes "changing column identity may break inserts from existing clients")
    ++ at (spot.Always stmt.AlterTable) (codes "changing column identity may break inserts from existing clients")

abbrev pub rows_of_ban_alter_generated_expression : List BanRow
rows_of_ban_alter_generated_expression =
    at (spot.Piece stmt.AlterTable piece.SetExpression) (codes "changing a generated column expression may change values read by existing clients")
    ++ at (spot.NewColumn stmt.AlterTable con.Generated) (codes "adding a generated column may break inserts from existing clients")

abbrev pub rows_of_ban_set_default : List BanRow
rows_of_ban_set_default =
    at_actions (stmt.AlterDomain ∷ stmt.AlterView ∷ []) action.SetDefault (codes "setting a column default may silently change values written by existing clients")
    ++ at_pieces tables piece.SetDefault (codes "setting a column default may silently change values written by existing clients")
