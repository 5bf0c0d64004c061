-- The table that an entry is in, by its rule.
use Rattle.std.specs.List.{list_all}
use Rattle.std.specs.Prelude.{Bool, not, All, List, [], ◌∷◌, Contains, Option, Some, None, IfSome}
use Rattle.law_type_fixes.specs.sql_tree.Statement.{Tree}
use Rattle.law_type_fixes.specs.lint_base.declared.rule.Rule.{Rule}
use Rattle.law_type_fixes.specs.lint_base.declared.rule.Rule.TheVariants as rule
use Rattle.law_type_fixes.specs.lint_base.declared.settings.LinterSettings.{LinterSettings}
use Rattle.law_type_fixes.specs.lint_base.declared.violation.Violation.{Violation}
use Rattle.law_type_fixes.specs.lint_base.RuleSets.{Rules, has}
use Rattle.law_type_fixes.specs.lint_pass.Laws.{IsOf}
use Rattle.pass_groups.specs.OwnTable.{own_table}
use Rattle.law_type_fixes.specs.pass_session.RequireTimeoutSettings.{reports_of_require_timeout_settings}
use Rattle.law_type_fixes.specs.law_fixes.Mended.{Table, builds, dropped, rebuilt, detached}
use Rattle.law_type_fixes.specs.Rules.{type_table, ints, smallints, timestamps, varchars}

-- the table of the pass on timeouts
abbrev pub timeouts : Table
timeouts tree rules settings = reports_of_require_timeout_settings tree rules

-- the table of each rule whose fix is known to mend a text; nothing is said of the others
abbrev pub mended_table : Rule → Option Table
mended_table rule.RequireConcurrentIndexCreation = Some builds
mended_table rule.RequireConcurrentIndexDeletion = Some dropped
mended_table rule.RequireConcurrentReindex = Some rebuilt
mended_table rule.RequireConcurrentPartitionDetach = Some detached
mended_table rule.RequireLockTimeout = Some timeouts
mended_table rule.RequireStatementTimeout = Some timeouts
mended_table rule.PreferTextField = Some (type_table varchars)
mended_table rule.PreferTimestampTz = Some (type_table timestamps)
mended_table rule.PreferBigintOverInt = Some (type_table ints)
mended_table rule.PreferBigintOverSmallint = Some (type_table smallints)
mended_table _ = None

-- It is in the table of its rule.
abbrev pub IsInItsTable : Tree → Rules → LinterSettings → Violation → Type 0
IsInItsTable tree rules settings v = IfSome (mended_table v.code) (λ table. Contains (table tree rules settings) v)

-- Each entry of a table is.
abbrev pub AllAreInTheirTables : Table → Type 0
AllAreInTheirTables table =
    (tree : Tree) (rules : Rules) (settings : LinterSettings) → All (IsInItsTable tree rules settings) (table tree rules settings)

-- Of all passes, each entry is, whichever rules are enabled and whatever the settings are.
abbrev pub EntriesAreInTheirTables : Type 0
EntriesAreInTheirTables = AllAreInTheirTables own_table

-- ---- single passes

-- the rules whose tables are known
abbrev pub mended_rules : List Rule
mended_rules =
    rule.RequireConcurrentIndexCreation ∷ rule.RequireConcurrentIndexDeletion ∷ rule.RequireConcurrentReindex ∷ rule.RequireConcurrentPartitionDetach
    ∷ rule.RequireLockTimeout ∷ rule.RequireStatementTimeout
    ∷ rule.PreferTextField ∷ rule.PreferTimestampTz ∷ rule.PreferBigintOverInt ∷ rule.PreferBigintOverSmallint ∷ []

-- none of them is in a set
abbrev pub has_none : Rules → Bool
has_none own = list_all (λ r. not (has own r)) mended_rules

-- each entry of a pass is of one of its rules
abbrev pub IsCoded : Rules → Table → Type 0
IsCoded own table =
    (tree : Tree) (rules : Rules) (settings : LinterSettings) → All (IsOf own rules) (table tree rules settings)
