-- Which dropped parts of tables, types and domains are reported, and with which words.
use Rattle.std.specs.Prelude.{List, [], ◌∷◌, ◌++◌, codes}
use Rattle.lint_pass.specs.sql_tree.declared.kinds.ActionKind.TheVariants as action
use Rattle.lint_pass.specs.sql_tree.declared.kinds.PieceKind.TheVariants as piece
use Rattle.lint_pass.specs.sql_tree.declared.kinds.StmtKind.TheVariants as stmt
use Rattle.lint_pass.specs.declared.bans.Spot.TheVariants as spot
use Rattle.lint_pass.specs.Bans.{BanRow}
use Rattle.lint_pass.specs.Rows.{at, at_actions, at_pieces, breaks, tables}

abbrev pub rows_of_ban_drop_column : List BanRow
rows_of_ban_drop_column =
    at_actions tables action.DropColumn (breaks (codes "dropping a column"))
    ++ at (spot.Piece stmt.AlterType piece.DropAttribute) (breaks (codes "dropping an attribute"))

abbrev pub rows_of_ban_drop_not_null : List BanRow
rows_of_ban_drop_not_null =
    at (spot.Action stmt.AlterDomain action.DropNotNull) (breaks (codes "dropping a `not null` constraint"))
    ++ at_pieces tables piece.DropNotNull (breaks (codes "dropping a `not null` constraint"))

abbrev pub rows_of_ban_drop_default : List BanRow
rows_of_ban_drop_default =
    at_actions (stmt.AlterDomain ∷ stmt.AlterView ∷ []) action.DropDefault (breaks (codes "dropping a column default"))
    ++ at_pieces tables piece.DropDefault (breaks (codes "dropping a column default"))

abbrev pub rows_of_ban_drop_constraint : List BanRow
rows_of_ban_drop_constraint =
    at_actions (stmt.AlterTable ∷ stmt.AlterForeignTable ∷ stmt.AlterDomain ∷ []) action.DropConstraint (codes "dropping a constraint may remove a guarantee that existing clients assume")
    ++ at_pieces tables piece.NotEnforced (codes "disabling constraint enforcement may remove a guarantee that existing clients assume")

abbrev pub rows_of_ban_drop_generated_expression : List BanRow
rows_of_ban_drop_generated_expression = at (spot.Piece stmt.AlterTable piece.DropExpression) (breaks (codes "dropping a generated expression"))
