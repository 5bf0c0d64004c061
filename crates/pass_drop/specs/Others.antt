-- Which other dropped objects are reported, and with which words.
use Rattle.std.specs.Prelude.{List, [], ◌∷◌, codes}
use Rattle.lint_pass.specs.sql_tree.declared.kinds.StmtKind.TheVariants as stmt
use Rattle.lint_pass.specs.declared.bans.Spot.TheVariants as spot
use Rattle.lint_pass.specs.Bans.{BanRow}
use Rattle.lint_pass.specs.Rows.{at, at_statements, breaks, changes_silently}

abbrev pub rows_of_ban_drop_extension : List BanRow
rows_of_ban_drop_extension = at (spot.Statement stmt.DropExtension) (breaks (codes "dropping an extension also removes its functions, types, and other objects, which"))

abbrev pub rows_of_ban_drop_index : List BanRow
rows_of_ban_drop_index = at (spot.Statement stmt.DropIndex) (codes "dropping an index may remove a guarantee or change query plans for existing clients")

abbrev pub rows_of_ban_drop_policy : List BanRow
rows_of_ban_drop_policy = at_statements (stmt.DropPolicy ∷ stmt.DropRule ∷ []) (changes_silently (codes "dropping a policy or rule"))
