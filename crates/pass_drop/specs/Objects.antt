-- Which dropped objects are reported, and with which words.
use Rattle.std.specs.Prelude.{List, [], ◌∷◌, ◌++◌, codes}
use Rattle.lint_pass.specs.sql_tree.declared.kinds.StmtKind.TheVariants as stmt
use Rattle.lint_pass.specs.declared.bans.Spot.TheVariants as spot
use Rattle.lint_pass.specs.Bans.{BanRow}
use Rattle.lint_pass.specs.Rows.{at, at_statements, breaks}

abbrev pub rows_of_ban_drop_database : List BanRow
rows_of_ban_drop_database = at (spot.Statement stmt.DropDatabase) (breaks (codes "dropping a database"))

abbrev pub rows_of_ban_drop_table : List BanRow
rows_of_ban_drop_table = at_statements (stmt.DropTable ∷ stmt.DropForeignTable ∷ []) (breaks (codes "dropping a table"))

abbrev pub rows_of_ban_drop_view : List BanRow
rows_of_ban_drop_view = at_statements (stmt.DropView ∷ stmt.DropMaterializedView ∷ []) (breaks (codes "dropping a view"))

abbrev pub rows_of_ban_drop_function : List BanRow
rows_of_ban_drop_function =
    at (spot.Statement stmt.DropAggregate) (breaks (codes "dropping an aggregate"))
    ++ at_statements (stmt.DropFunction ∷ stmt.DropProcedure ∷ []) (breaks (codes "dropping a function"))
    ++ at (spot.Statement stmt.DropRoutine) (breaks (codes "dropping a routine"))

abbrev pub rows_of_ban_drop_type : List BanRow
rows_of_ban_drop_type =
    at (spot.Statement stmt.DropOperator) (breaks (codes "dropping an operator"))
    ++ at (spot.Statement stmt.DropOperatorClass) (breaks (codes "dropping an operator class"))
    ++ at (spot.Statement stmt.DropOperatorFamily) (breaks (codes "dropping an operator family"))
    ++ at (spot.Statement stmt.DropCast) (breaks (codes "dropping a cast"))
    ++ at (spot.Statement stmt.DropType) (breaks (codes "dropping a type"))

abbrev pub rows_of_ban_drop_trigger : List BanRow
rows_of_ban_drop_trigger = at (spot.Statement stmt.DropTrigger) (codes "dropping a trigger may silently change behavior for existing clients")

abbrev pub rows_of_ban_drop_schema : List BanRow
rows_of_ban_drop_schema = at (spot.Statement stmt.DropSchema) (breaks (codes "dropping a schema"))

abbrev pub rows_of_ban_drop_sequence : List BanRow
rows_of_ban_drop_sequence = at (spot.Statement stmt.DropSequence) (breaks (codes "dropping a sequence"))

abbrev pub rows_of_ban_drop_domain : List BanRow
rows_of_ban_drop_domain = at (spot.Statement stmt.DropDomain) (breaks (codes "dropping a domain"))
