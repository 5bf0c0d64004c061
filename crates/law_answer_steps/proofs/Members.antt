-- The tables of the listed rules are parts of the table of all passes.
use Rattle.std.proofs.Common.{List, ◌++◌}
use Rattle.std.proofs.lemmas.List.Elements.{Contains-append_left, Contains-append_right}
use Rattle.std.specs.Prelude.{Contains}
use Rattle.law_fix_steps.specs.sql_tree.Statement.{Tree}
use Rattle.law_fix_steps.specs.lint_base.declared.rule.Rule.TheVariants as rule
use Rattle.law_fix_steps.specs.lint_base.declared.settings.LinterSettings.{LinterSettings}
use Rattle.law_fix_steps.specs.lint_base.declared.violation.Violation.{Violation}
use Rattle.law_fix_steps.specs.lint_base.RuleSets.{Rules}
use Rattle.squawk_linter.specs.pass_client.DomainConstraints.{reports_of_ban_create_domain_with_constraint, reports_of_ban_alter_domain_with_add_constraint}
use Rattle.squawk_linter.specs.pass_client.RequireTableSchema.{reports_of_require_table_schema}
use Rattle.squawk_linter.specs.pass_constraint.AddedConstraints as added
use Rattle.squawk_linter.specs.pass_constraint.ConstraintMissingNotValid.{reports_of_constraint_missing_not_valid}
use Rattle.law_fix_steps.specs.pass_data_type.PreferIdentity.{reports_of_prefer_identity}
use Rattle.law_fix_steps.specs.pass_data_type.RequireEnumValueOrdering.{reports_of_require_enum_value_ordering}
use Rattle.squawk_linter.specs.pass_drop.BanTruncateCascade.{reports_of_ban_truncate_cascade}
use Rattle.squawk_linter.specs.pass_client.Renames.{rows_of_renaming_column, rows_of_renaming_table}
use Rattle.squawk_linter.specs.pass_drop.Objects.{rows_of_ban_drop_view, rows_of_ban_drop_function, rows_of_ban_drop_type}
use Rattle.squawk_linter.specs.pass_history.RobustStatements.{reports_of_prefer_robust_stmts}
use Rattle.squawk_linter.specs.pass_name.BanDuplicateColumnAssignments.{reports_of_ban_duplicate_column_assignments}
use Rattle.squawk_linter.specs.pass_name.IdentifierTooLong.{reports_of_identifier_too_long}
use Rattle.law_fix_steps.specs.pass_session.BanUncommittedTransaction.{reports_of_ban_uncommitted_transaction}
use Rattle.law_fix_steps.specs.pass_session.PreferRepack as repacks
use Rattle.law_fix_steps.specs.pass_session.TransactionNesting.{reports_of_transaction_nesting}
use Rattle.squawk_linter.specs.pass_groups.OwnTable.{added_table, after_constraints, ban_table, before_builds, before_constraints, group1_table, group2_table, group3_table, group4_table, group5_table, group6_table, group7_table, group8_table, own_table, statement_table}
use Rattle.law_fix_steps.specs.law_fixes.Mended.{Table, builds, dropped, rebuilt, detached}
use Rattle.law_fix_steps.specs.law_type_fixes.Rules.{type_table, ints, smallints, timestamps, varchars}
use Rattle.law_fix_steps.specs.Step.{timeouts}

module _ (tree : Tree) (rules : Rules) (settings : LinterSettings) (v : Violation) where
  abbrev Here : Table → Type 0
  Here table = Contains (table tree rules settings) v

  abbrev In : List Violation → Type 0
  In vs = Contains vs v

  first : (xs ys : List Violation) → In xs → In (xs ++ ys)
  first xs ys h = Contains-append_left xs ys v h

  second : (xs ys : List Violation) → In ys → In (xs ++ ys)
  second xs ys h = Contains-append_right xs ys v h

  abbrev of : Table → List Violation
  of table = table tree rules settings

  abbrev low : List Violation
  low = (of group1_table ++ of group2_table) ++ (of group3_table ++ of group4_table)

  abbrev high : List Violation
  high = (of group5_table ++ of group6_table) ++ (of group7_table ++ of group8_table)

  in_group2 : Here group2_table → Here own_table
  in_group2 h = first low high (first (of group1_table ++ of group2_table) (of group3_table ++ of group4_table) (second (of group1_table) (of group2_table) h))

  in_group3 : Here group3_table → Here own_table
  in_group3 h = first low high (second (of group1_table ++ of group2_table) (of group3_table ++ of group4_table) (first (of group3_table) (of group4_table) h))

  in_group4 : Here group4_table → Here own_table
  in_group4 h = first low high (second (of group1_table ++ of group2_table) (of group3_table ++ of group4_table) (second (of group3_table) (of group4_table) h))

  in_group5 : Here group5_table → Here own_table
  in_group5 h = second low high (first (of group5_table ++ of group6_table) (of group7_table ++ of group8_table) (first (of group5_table) (of group6_table) h))

  -- ---- the second group

  abbrev disallowed : List Violation
  disallowed = added_table added.row_of_disallowed_unique_constraint tree rules settings

  in_after : Here after_constraints → Here own_table
  in_after h =
      in_group2 (second (of before_constraints) (reports_of_constraint_missing_not_valid tree rules settings ++ of after_constraints) (second (reports_of_constraint_missing_not_valid tree rules settings) (of after_constraints) h))

  pub ints_in : Here (type_table ints) → Here own_table
  ints_in h = in_after (first (disallowed ++ of (type_table ints)) (of (type_table smallints)) (second disallowed (of (type_table ints)) h))

  pub smallints_in : Here (type_table smallints) → Here own_table
  smallints_in h = in_after (second (disallowed ++ of (type_table ints)) (of (type_table smallints)) h)

  -- ---- the third group

  abbrev identity : List Violation
  identity = statement_table rule.PreferIdentity (reports_of_prefer_identity tree) tree rules ++ statement_table rule.PreferRepack (repacks.reports_of_prefer_repack settings tree) tree rules

  abbrev robust : List Violation
  robust = reports_of_prefer_robust_stmts tree rules settings

  abbrev columns : List Violation
  columns = ban_table rule.RenamingColumn rows_of_renaming_column tree rules settings

  abbrev tables : List Violation
  tables = ban_table rule.RenamingTable rows_of_renaming_table tree rules settings

  abbrev zoned : List Violation
  zoned = (of (type_table timestamps) ++ columns) ++ tables

  in_before : Here before_builds → Here own_table
  in_before h = in_group3 (first (of before_builds) (of builds) h)

  pub varchars_in : Here (type_table varchars) → Here own_table
  varchars_in h = in_before (first (identity ++ (robust ++ of (type_table varchars))) zoned (second identity (robust ++ of (type_table varchars)) (second robust (of (type_table varchars)) h)))

  pub timestamps_in : Here (type_table timestamps) → Here own_table
  timestamps_in h =
      in_before (second (identity ++ (robust ++ of (type_table varchars))) zoned (first (of (type_table timestamps) ++ columns) tables (first (of (type_table timestamps)) columns h)))

  pub builds_in : Here builds → Here own_table
  builds_in h = in_group3 (second (of before_builds) (of builds) h)

  -- ---- the fourth group

  abbrev domains : List Violation
  domains = statement_table rule.BanCreateDomainWithConstraint (λ s. reports_of_ban_create_domain_with_constraint tree s.body) tree rules

  abbrev nestings : List Violation
  nestings = statement_table rule.BanAlterDomainWithAddConstraint (reports_of_ban_alter_domain_with_add_constraint tree) tree rules ++ reports_of_transaction_nesting tree rules settings

  abbrev truncates : List Violation
  truncates = statement_table rule.BanTruncateCascade (λ s. reports_of_ban_truncate_cascade tree s.body) tree rules

  abbrev rest4 : List Violation
  rest4 = reports_of_ban_uncommitted_transaction tree rules ++ statement_table rule.RequireEnumValueOrdering (reports_of_require_enum_value_ordering tree) tree rules

  pub dropped_in : Here dropped → Here own_table
  dropped_in h =
      in_group4 (first ((of dropped ++ domains) ++ nestings) ((truncates ++ of timeouts) ++ rest4) (first (of dropped ++ domains) nestings (first (of dropped) domains h)))

  pub timeouts_in : Here timeouts → Here own_table
  timeouts_in h =
      in_group4 (second ((of dropped ++ domains) ++ nestings) ((truncates ++ of timeouts) ++ rest4) (first (truncates ++ of timeouts) rest4 (second truncates (of timeouts) h)))

  -- ---- the fifth group

  abbrev names : List Violation
  names = statement_table rule.RequireTableSchema (reports_of_require_table_schema tree) tree rules ++ statement_table rule.IdentifierTooLong (reports_of_identifier_too_long tree) tree rules

  abbrev rest5 : List Violation
  rest5 =
      (statement_table rule.BanDuplicateColumnAssignments (reports_of_ban_duplicate_column_assignments tree) tree rules ++ ban_table rule.BanDropView rows_of_ban_drop_view tree rules settings)
      ++ (ban_table rule.BanDropFunction rows_of_ban_drop_function tree rules settings ++ ban_table rule.BanDropType rows_of_ban_drop_type tree rules settings)

  pub detached_in : Here detached → Here own_table
  detached_in h = in_group5 (first (names ++ (of detached ++ of rebuilt)) rest5 (second names (of detached ++ of rebuilt) (first (of detached) (of rebuilt) h)))

  pub rebuilt_in : Here rebuilt → Here own_table
  rebuilt_in h = in_group5 (first (names ++ (of detached ++ of rebuilt)) rest5 (second names (of detached ++ of rebuilt) (second (of detached) (of rebuilt) h)))
