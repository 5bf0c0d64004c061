-- What is reported of changes of who may do what, and of how the server behaves.
use Rattle.std.specs.Prelude.{List, [], ◌∷◌, ◌++◌, codes}
use Rattle.lint_pass.specs.lint_base.declared.rule.Rule.TheVariants as rule
use Rattle.lint_pass.specs.lint_base.RuleSets.{Rules, rules_in}
use Rattle.lint_pass.specs.sql_tree.declared.kinds.ActionKind.{ActionKind}
use Rattle.lint_pass.specs.sql_tree.declared.kinds.ActionKind.TheVariants as action
use Rattle.lint_pass.specs.sql_tree.declared.kinds.PieceKind.TheVariants as piece
use Rattle.lint_pass.specs.sql_tree.declared.kinds.StmtKind.{StmtKind}
use Rattle.lint_pass.specs.sql_tree.declared.kinds.StmtKind.TheVariants as stmt
use Rattle.lint_pass.specs.declared.bans.Spot.TheVariants as spot
use Rattle.lint_pass.specs.Ruled.{RuledRow}
use Rattle.lint_pass.specs.Rows.{changes, changes_access}

-- the rules, in the order of their rows
abbrev pub security_rules : Rules
security_rules =
    rules_in
    (rule.BanCreatePolicy ∷ rule.BanAlterPolicyRoles ∷ rule.BanAlterPolicyCondition ∷ rule.BanAlterFunctionOptions ∷ rule.BanAlterViewOptions
    ∷ rule.BanAlterRoleOptions ∷ rule.BanAlterDatabaseOptions ∷ rule.BanAlterSystemOptions ∷ rule.BanAlterExtension ∷ rule.BanAlterRowLevelSecurity ∷ [])

abbrev role_rows : StmtKind → List RuledRow
role_rows kind =
    (rule.BanAlterRoleOptions, spot.Action kind action.Options, changes_access (codes "changing role options"))
    ∷ (rule.BanAlterRoleOptions, spot.Action kind action.SetConfig, changes (codes "changing role configuration"))
    ∷ (rule.BanAlterRoleOptions, spot.Action kind action.ResetConfig, changes (codes "changing role configuration"))
    ∷ []

abbrev row_security : ActionKind → RuledRow
row_security kind = (rule.BanAlterRowLevelSecurity, spot.Action stmt.AlterTable kind, changes_access (codes "changing row level security"))

abbrev pub rows_of_security_compatibility : List RuledRow
rows_of_security_compatibility =
    ((rule.BanCreatePolicy, spot.Statement stmt.CreatePolicy, changes_access (codes "creating a policy"))
    ∷ (rule.BanAlterPolicyRoles, spot.Piece stmt.AlterPolicy piece.PolicyTo, changes_access (codes "changing policy roles"))
    ∷ (rule.BanAlterPolicyCondition, spot.Piece stmt.AlterPolicy piece.PolicyUsing, changes_access (codes "changing a policy condition"))
    ∷ (rule.BanAlterPolicyCondition, spot.Piece stmt.AlterPolicy piece.PolicyCheck, changes_access (codes "changing a policy condition"))
    ∷ (rule.BanAlterFunctionOptions, spot.Action stmt.AlterFunction action.Options, changes (codes "changing function options"))
    ∷ (rule.BanAlterFunctionOptions, spot.Action stmt.AlterProcedure action.Options, changes (codes "changing procedure options"))
    ∷ (rule.BanAlterFunctionOptions, spot.Action stmt.AlterRoutine action.Options, changes (codes "changing routine options"))
    ∷ (rule.BanAlterViewOptions, spot.Action stmt.AlterView action.SetOptions, changes (codes "changing view options"))
    ∷ (rule.BanAlterViewOptions, spot.Action stmt.AlterView action.ResetOptions, changes (codes "changing view options"))
    ∷ [])
    ++ role_rows stmt.AlterRole
    ++ role_rows stmt.AlterUser
    ++ ((rule.BanAlterDatabaseOptions, spot.Action stmt.AlterDatabase action.Options, changes (codes "changing database options"))
    ∷ (rule.BanAlterDatabaseOptions, spot.Action stmt.AlterDatabase action.SetConfig, changes (codes "changing database configuration"))
    ∷ (rule.BanAlterDatabaseOptions, spot.Action stmt.AlterDatabase action.ResetConfig, changes (codes "changing database configuration"))
    ∷ (rule.BanAlterSystemOptions, spot.Action stmt.AlterSystem action.SetConfig, changes (codes "changing server configuration"))
    ∷ (rule.BanAlterSystemOptions, spot.Action stmt.AlterSystem action.ResetConfig, changes (codes "changing server configuration"))
    ∷ (rule.BanAlterExtension, spot.Action stmt.AlterExtension action.ExtensionUpdate, codes "updating an extension can change or remove objects used by existing clients")
    ∷ (rule.BanAlterExtension, spot.Action stmt.AlterExtension action.ExtensionDrop, codes "removing an object from an extension changes how the object is managed for existing clients")
    ∷ [])
    ++ (row_security action.EnableRls ∷ row_security action.DisableRls ∷ row_security action.ForceRls ∷ row_security action.NoForceRls ∷ [])
