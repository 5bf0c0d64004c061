-- Which changes of what acts, is replicated, may be done or is replaced are reported, and with which words.
use Rattle.std.specs.Prelude.{List, [], ◌∷◌, ◌++◌, codes}
use Rattle.lint_pass.specs.sql_tree.declared.kinds.ActionKind.{ActionKind}
use Rattle.lint_pass.specs.sql_tree.declared.kinds.ActionKind.TheVariants as action
use Rattle.lint_pass.specs.sql_tree.declared.kinds.StmtKind.TheVariants as stmt
use Rattle.lint_pass.specs.declared.bans.Spot.TheVariants as spot
use Rattle.lint_pass.specs.Bans.{BanRow}
use Rattle.lint_pass.specs.Rows.{at, at_replacing, breaks, changes_silently, tables}

abbrev replica_only : ActionKind → BanRow
replica_only kind =
    (spot.Action stmt.AlterTable kind, codes "making a trigger or rule replica-only stops it firing for normal application writes", codes "earlier application revisions may depend on its side effects")

abbrev firing : ActionKind → List BanRow
firing kind = at (spot.Action stmt.AlterTable kind) (codes "changing trigger or rule firing may change database side effects for existing clients")

abbrev row_security : ActionKind → List BanRow
row_security kind = at (spot.Action stmt.AlterTable kind) (codes "changing row level security can change visible rows or reject access for existing clients")

abbrev pub rows_of_ban_disable_trigger : List BanRow
rows_of_ban_disable_trigger =
    (replica_only action.EnableReplicaTrigger ∷ replica_only action.EnableReplicaRule ∷ [])
    ++ firing action.EnableTrigger
    ++ firing action.EnableAlwaysTrigger
    ++ firing action.DisableTrigger
    ++ firing action.EnableRule
    ++ firing action.EnableAlwaysRule
    ++ firing action.DisableRule
    ++ row_security action.DisableRls
    ++ row_security action.ForceRls
    ++ row_security action.NoForceRls

abbrev pub rows_of_ban_replica_identity : List BanRow
rows_of_ban_replica_identity =
    at (spot.Action stmt.AlterTable action.ReplicaIdentity) (codes "changing replica identity may silently change replication for existing clients")
    ++ at (spot.Statement stmt.DropPublication) (codes "dropping a publication stops replication for existing consumers")
    ++ at (spot.Action stmt.AlterPublication action.PublicationDrop) (codes "changing publication tables or options can stop or change replication for existing consumers")
    ++ at (spot.Action stmt.AlterPublication action.PublicationSet) (codes "changing publication tables or options can stop or change replication for existing consumers")

abbrev pub rows_of_ban_revoke : List BanRow
rows_of_ban_revoke =
    at (spot.AnyAction action.OwnerTo) (breaks (codes "changing object ownership"))
    ++ at (spot.Statement stmt.Revoke) (breaks (codes "revoking privileges"))
    ++ at (spot.Having stmt.AlterDefaultPrivileges action.RevokePrivileges) (breaks (codes "revoking privileges"))
    ++ at (spot.Statement stmt.DropOwned) (breaks (codes "dropping owned objects or privileges"))
    ++ at (spot.Statement stmt.Reassign) (breaks (codes "reassigning owned objects"))
    ++ at (spot.Statement stmt.DropUser) (breaks (codes "dropping a user"))
    ++ at (spot.Statement stmt.DropRole) (breaks (codes "dropping a role"))
    ++ at (spot.Action stmt.AlterGroup action.GroupDrop) (breaks (codes "removing role membership"))

abbrev pub rows_of_ban_replace_view_function : List BanRow
rows_of_ban_replace_view_function =
    at_replacing (stmt.CreateView ∷ stmt.CreateFunction ∷ stmt.CreateProcedure ∷ []) (changes_silently (codes "replacing a view, function, or procedure"))
    ++ at (spot.Replacing stmt.CreateTrigger) (changes_silently (codes "replacing a trigger"))
    ++ at (spot.Replacing stmt.CreateRule) (changes_silently (codes "replacing a rule"))
    ++ at (spot.Replacing stmt.CreateAggregate) (changes_silently (codes "replacing an aggregate"))
