-- Which renamed and moved objects are reported, and with which words.
use Rattle.std.specs.Prelude.{ℕ, List, [], ◌∷◌, ◌++◌, codes}
use Rattle.lint_pass.specs.sql_tree.declared.kinds.ActionKind.TheVariants as action
use Rattle.lint_pass.specs.sql_tree.declared.kinds.StmtKind.{StmtKind}
use Rattle.lint_pass.specs.sql_tree.declared.kinds.StmtKind.TheVariants as stmt
use Rattle.lint_pass.specs.declared.bans.Spot.TheVariants as spot
use Rattle.lint_pass.specs.Bans.{BanRow}
use Rattle.lint_pass.specs.Rows.{at, at_actions, breaks}

abbrev pub rows_of_renaming_column : List BanRow
rows_of_renaming_column =
    at_actions (stmt.AlterType ∷ []) action.RenameAttribute (breaks (codes "renaming an attribute"))
    ++ at_actions (stmt.AlterTable ∷ stmt.AlterForeignTable ∷ stmt.AlterView ∷ stmt.AlterMaterializedView ∷ []) action.RenameColumn (breaks (codes "renaming a column"))

abbrev pub rows_of_renaming_table : List BanRow
rows_of_renaming_table = at (spot.Action stmt.AlterTable action.RenameTo) (breaks (codes "renaming a table"))

abbrev renamed : StmtKind → List ℕ → List BanRow
renamed kind object = at (spot.Action kind action.RenameTo) (breaks (codes "renaming " ++ object))

abbrev pub rows_of_renaming_object : List BanRow
rows_of_renaming_object =
    renamed stmt.AlterForeignTable (codes "a foreign table")
    ++ renamed stmt.AlterRole (codes "a role")
    ++ renamed stmt.AlterUser (codes "a user")
    ++ renamed stmt.AlterGroup (codes "a group")
    ++ renamed stmt.AlterDatabase (codes "a database")
    ++ renamed stmt.AlterTrigger (codes "a trigger")
    ++ renamed stmt.AlterPolicy (codes "a policy")
    ++ renamed stmt.AlterRoutine (codes "a routine")
    ++ renamed stmt.AlterView (codes "a view")
    ++ renamed stmt.AlterMaterializedView (codes "a materialized view")
    ++ renamed stmt.AlterFunction (codes "a function")
    ++ renamed stmt.AlterAggregate (codes "an aggregate")
    ++ renamed stmt.AlterProcedure (codes "a procedure")
    ++ renamed stmt.AlterType (codes "a type")
    ++ renamed stmt.AlterSequence (codes "a sequence")
    ++ renamed stmt.AlterSchema (codes "a schema")
    ++ renamed stmt.AlterDomain (codes "a domain")
    ++ renamed stmt.AlterIndex (codes "an index")
    ++ at_actions (stmt.AlterTable ∷ stmt.AlterDomain ∷ []) action.RenameConstraint (breaks (codes "renaming a constraint"))
    ++ at (spot.Action stmt.AlterType action.RenameValue) (breaks (codes "renaming a type value"))

abbrev pub rows_of_ban_set_schema : List BanRow
rows_of_ban_set_schema =
    at_actions
    (stmt.AlterTable ∷ stmt.AlterForeignTable ∷ stmt.AlterView ∷ stmt.AlterMaterializedView ∷ stmt.AlterAggregate ∷ stmt.AlterExtension ∷ stmt.AlterProcedure
    ∷ stmt.AlterRoutine ∷ stmt.AlterFunction ∷ stmt.AlterType ∷ stmt.AlterSequence ∷ stmt.AlterDomain ∷ [])
    action.SetSchema (breaks (codes "moving an object to another schema"))
