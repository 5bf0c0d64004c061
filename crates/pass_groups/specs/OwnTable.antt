-- The reports of all passes of the linter.
use Rattle.std.specs.Prelude.{List, ◌++◌, length}
use Rattle.pass_data_type.specs.sql_tree.declared.nodes.Stmt.{Stmt}
use Rattle.pass_data_type.specs.sql_tree.Statement.{Tree}
use Rattle.pass_data_type.specs.lint_base.declared.rule.Rule.{Rule}
use Rattle.pass_data_type.specs.lint_base.declared.rule.Rule.TheVariants as rule
use Rattle.pass_data_type.specs.lint_base.declared.settings.LinterSettings.{LinterSettings}
use Rattle.pass_data_type.specs.lint_base.declared.violation.Violation.{Violation}
use Rattle.pass_data_type.specs.lint_base.RuleSets.{Rules}
use Rattle.pass_data_type.specs.lint_transaction.Transaction.{stmt_at}
use Rattle.pass_data_type.specs.lint_pass.Bans.{BanRow, bans_on}
use Rattle.pass_data_type.specs.lint_pass.Ruled.{ruled_table}
use Rattle.pass_data_type.specs.lint_pass.RuleTables.{table_of}
use Rattle.pass_client.specs.Columns.{rows_of_ban_alter_identity, rows_of_ban_alter_generated_expression, rows_of_ban_set_default}
use Rattle.pass_client.specs.DomainConstraints.{reports_of_ban_create_domain_with_constraint, reports_of_ban_alter_domain_with_add_constraint}
use Rattle.pass_drop.specs.Others.{rows_of_ban_drop_extension, rows_of_ban_drop_index, rows_of_ban_drop_policy}
use Rattle.pass_client.specs.Renames.{rows_of_renaming_column, rows_of_renaming_table, rows_of_renaming_object, rows_of_ban_set_schema}
use Rattle.pass_client.specs.SecurityCompatibility.{rows_of_security_compatibility}
use Rattle.pass_client.specs.Services.{rows_of_ban_disable_trigger, rows_of_ban_replica_identity, rows_of_ban_revoke, rows_of_ban_replace_view_function}
use Rattle.pass_client.specs.RequireTableSchema.{reports_of_require_table_schema}
use Rattle.pass_constraint.specs.AddedConstraints as added
use Rattle.pass_constraint.specs.AddingFieldWithDefault.{reports_of_adding_field_with_default}
use Rattle.pass_constraint.specs.AddingRequiredField.{reports_of_adding_required_field}
use Rattle.pass_drop.specs.Objects.{rows_of_ban_drop_database, rows_of_ban_drop_table, rows_of_ban_drop_view, rows_of_ban_drop_function, rows_of_ban_drop_type, rows_of_ban_drop_trigger, rows_of_ban_drop_schema, rows_of_ban_drop_sequence, rows_of_ban_drop_domain}
use Rattle.pass_drop.specs.Parts.{rows_of_ban_drop_column, rows_of_ban_drop_not_null, rows_of_ban_drop_default, rows_of_ban_drop_constraint, rows_of_ban_drop_generated_expression}
use Rattle.pass_history.specs.AddingNotNullField.{reports_of_adding_not_null_field}
use Rattle.pass_history.specs.RobustStatements.{reports_of_prefer_robust_stmts}
use Rattle.pass_drop.specs.BanTruncateCascade.{reports_of_ban_truncate_cascade}
use Rattle.pass_constraint.specs.ConstraintMissingNotValid.{reports_of_constraint_missing_not_valid}
use Rattle.pass_concurrent.specs.RequireConcurrentIndexCreation.{reports_of_require_concurrent_index_creation}
use Rattle.pass_concurrent.specs.RequireConcurrentIndexDeletion.{reports_of_require_concurrent_index_deletion}
use Rattle.pass_concurrent.specs.RequireConcurrentPartitionDetach.{reports_of_require_concurrent_partition_detach}
use Rattle.pass_concurrent.specs.RequireConcurrentReindex.{reports_of_require_concurrent_reindex}
use Rattle.pass_name.specs.BanDuplicateColumnAssignments.{reports_of_ban_duplicate_column_assignments}
use Rattle.pass_name.specs.IdentifierTooLong.{reports_of_identifier_too_long}
use Rattle.pass_object.specs.ExistingObjectCompatibility.{reports_of_existing_object_compatibility}
use Rattle.pass_session.specs.BanConcurrentIndexCreationInTransaction.{reports_of_ban_concurrent_index_creation_in_transaction}
use Rattle.pass_session.specs.TransactionNesting.{reports_of_transaction_nesting}
use Rattle.pass_session.specs.PreferRepack as repacks
use Rattle.pass_session.specs.RequireTimeoutSettings.{reports_of_require_timeout_settings}
use Rattle.pass_session.specs.BanUncommittedTransaction.{reports_of_ban_uncommitted_transaction}
use Rattle.pass_data_type.specs.BanCharField.{reports_of_ban_char_field}
use Rattle.pass_data_type.specs.ChangingColumnType.{rows_of_changing_column_type}
use Rattle.pass_data_type.specs.PreferIdentity.{reports_of_prefer_identity}
use Rattle.pass_data_type.specs.PreferTextField.{reports_of_prefer_text_field}
use Rattle.pass_data_type.specs.PreferTimestamptz.{reports_of_prefer_timestamp_tz}
use Rattle.pass_data_type.specs.RequireEnumValueOrdering.{reports_of_require_enum_value_ordering}
use Rattle.pass_data_type.specs.WiderIntegers.{reports_of_prefer_bigint_over_int, reports_of_prefer_bigint_over_smallint}

-- the table of a pass that looks at one statement at a time
abbrev pub statement_table : Rule → (Stmt → List Violation) → Tree → Rules → List Violation
statement_table code reports tree rules = table_of code (λ i. reports (stmt_at tree i)) rules (length tree.stmts)

-- the table of a pass that is a table of rows
abbrev pub ban_table : Rule → List BanRow → Tree → Rules → LinterSettings → List Violation
ban_table code rows tree rules settings = statement_table code (bans_on code rows tree) tree rules

-- the table of a pass on what is added to tables in use
abbrev pub added_table : added.Row → Tree → Rules → LinterSettings → List Violation
added_table row tree rules settings = table_of row.code (λ i. added.added_by row settings tree i (stmt_at tree i)) rules (length tree.stmts)

-- ---- the groups, eight passes each in their order; the last one has five

abbrev pub group1_table : Tree → Rules → LinterSettings → List Violation
group1_table tree rules settings =
    ((statement_table rule.AddingFieldWithDefault (reports_of_adding_field_with_default settings tree) tree rules
    ++ added_table added.row_of_adding_foreign_key_constraint tree rules settings)
    ++ (reports_of_adding_not_null_field tree rules settings
    ++ added_table added.row_of_adding_serial_primary_key_field tree rules settings))
    ++ ((statement_table rule.AddingRequiredField (reports_of_adding_required_field tree) tree rules
    ++ ban_table rule.BanDropDatabase rows_of_ban_drop_database tree rules settings)
    ++ (statement_table rule.BanCharField (reports_of_ban_char_field tree) tree rules
    ++ reports_of_ban_concurrent_index_creation_in_transaction tree rules settings))

abbrev pub before_constraints : Tree → Rules → LinterSettings → List Violation
before_constraints tree rules settings =
    (ban_table rule.BanDropColumn rows_of_ban_drop_column tree rules settings
    ++ ban_table rule.BanDropNotNull rows_of_ban_drop_not_null tree rules settings)
    ++ (ban_table rule.BanDropTable rows_of_ban_drop_table tree rules settings
    ++ ban_table rule.ChangingColumnType rows_of_changing_column_type tree rules settings)

abbrev pub after_constraints : Tree → Rules → LinterSettings → List Violation
after_constraints tree rules settings =
    (added_table added.row_of_disallowed_unique_constraint tree rules settings
    ++ statement_table rule.PreferBigintOverInt (reports_of_prefer_bigint_over_int tree) tree rules)
    ++ statement_table rule.PreferBigintOverSmallint (reports_of_prefer_bigint_over_smallint tree) tree rules

abbrev pub group2_table : Tree → Rules → LinterSettings → List Violation
group2_table tree rules settings =
    before_constraints tree rules settings
    ++ (reports_of_constraint_missing_not_valid tree rules settings
    ++ after_constraints tree rules settings)

abbrev pub before_builds : Tree → Rules → LinterSettings → List Violation
before_builds tree rules settings =
    ((statement_table rule.PreferIdentity (reports_of_prefer_identity tree) tree rules
    ++ statement_table rule.PreferRepack (repacks.reports_of_prefer_repack settings tree) tree rules)
    ++ (reports_of_prefer_robust_stmts tree rules settings
    ++ statement_table rule.PreferTextField (reports_of_prefer_text_field tree) tree rules))
    ++ ((statement_table rule.PreferTimestampTz (reports_of_prefer_timestamp_tz tree) tree rules
    ++ ban_table rule.RenamingColumn rows_of_renaming_column tree rules settings)
    ++ ban_table rule.RenamingTable rows_of_renaming_table tree rules settings)

abbrev pub group3_table : Tree → Rules → LinterSettings → List Violation
group3_table tree rules settings =
    before_builds tree rules settings
    ++ reports_of_require_concurrent_index_creation tree rules settings

abbrev pub group4_table : Tree → Rules → LinterSettings → List Violation
group4_table tree rules settings =
    ((statement_table rule.RequireConcurrentIndexDeletion (reports_of_require_concurrent_index_deletion tree) tree rules
    ++ statement_table rule.BanCreateDomainWithConstraint (λ s. reports_of_ban_create_domain_with_constraint tree s.body) tree rules)
    ++ (statement_table rule.BanAlterDomainWithAddConstraint (reports_of_ban_alter_domain_with_add_constraint tree) tree rules
    ++ reports_of_transaction_nesting tree rules settings))
    ++ ((statement_table rule.BanTruncateCascade (λ s. reports_of_ban_truncate_cascade tree s.body) tree rules
    ++ reports_of_require_timeout_settings tree rules)
    ++ (reports_of_ban_uncommitted_transaction tree rules
    ++ statement_table rule.RequireEnumValueOrdering (reports_of_require_enum_value_ordering tree) tree rules))

abbrev pub group5_table : Tree → Rules → LinterSettings → List Violation
group5_table tree rules settings =
    ((statement_table rule.RequireTableSchema (reports_of_require_table_schema tree) tree rules
    ++ statement_table rule.IdentifierTooLong (reports_of_identifier_too_long tree) tree rules)
    ++ (statement_table rule.RequireConcurrentPartitionDetach (reports_of_require_concurrent_partition_detach tree) tree rules
    ++ statement_table rule.RequireConcurrentReindex (reports_of_require_concurrent_reindex tree) tree rules))
    ++ ((statement_table rule.BanDuplicateColumnAssignments (reports_of_ban_duplicate_column_assignments tree) tree rules
    ++ ban_table rule.BanDropView rows_of_ban_drop_view tree rules settings)
    ++ (ban_table rule.BanDropFunction rows_of_ban_drop_function tree rules settings
    ++ ban_table rule.BanDropType rows_of_ban_drop_type tree rules settings))

abbrev pub group6_table : Tree → Rules → LinterSettings → List Violation
group6_table tree rules settings =
    ((ban_table rule.BanDropDefault rows_of_ban_drop_default tree rules settings
    ++ ban_table rule.BanDropTrigger rows_of_ban_drop_trigger tree rules settings)
    ++ (ban_table rule.BanDropSchema rows_of_ban_drop_schema tree rules settings
    ++ ban_table rule.BanDropSequence rows_of_ban_drop_sequence tree rules settings))
    ++ ((ban_table rule.BanDropDomain rows_of_ban_drop_domain tree rules settings
    ++ ban_table rule.BanDropConstraint rows_of_ban_drop_constraint tree rules settings)
    ++ (ban_table rule.BanDropGeneratedExpression rows_of_ban_drop_generated_expression tree rules settings
    ++ ban_table rule.RenamingObject rows_of_renaming_object tree rules settings))

abbrev pub group7_table : Tree → Rules → LinterSettings → List Violation
group7_table tree rules settings =
    ((ban_table rule.BanSetSchema rows_of_ban_set_schema tree rules settings
    ++ ban_table rule.BanAlterIdentity rows_of_ban_alter_identity tree rules settings)
    ++ (ban_table rule.BanDropExtension rows_of_ban_drop_extension tree rules settings
    ++ ban_table rule.BanAlterGeneratedExpression rows_of_ban_alter_generated_expression tree rules settings))
    ++ ((ban_table rule.BanDropIndex rows_of_ban_drop_index tree rules settings
    ++ ban_table rule.BanSetDefault rows_of_ban_set_default tree rules settings)
    ++ (ban_table rule.BanDisableTrigger rows_of_ban_disable_trigger tree rules settings
    ++ ban_table rule.BanReplicaIdentity rows_of_ban_replica_identity tree rules settings))

abbrev pub group8_table : Tree → Rules → LinterSettings → List Violation
group8_table tree rules settings =
    ((ban_table rule.BanDropPolicy rows_of_ban_drop_policy tree rules settings
    ++ ban_table rule.BanRevoke rows_of_ban_revoke tree rules settings)
    ++ (ban_table rule.BanReplaceViewFunction rows_of_ban_replace_view_function tree rules settings
    ++ ruled_table rows_of_security_compatibility tree rules))
    ++ reports_of_existing_object_compatibility tree rules

-- the tables of the passes in order
abbrev pub own_table : Tree → Rules → LinterSettings → List Violation
own_table tree rules settings =
    ((group1_table tree rules settings ++ group2_table tree rules settings)
    ++ (group3_table tree rules settings ++ group4_table tree rules settings))
    ++ ((group5_table tree rules settings ++ group6_table tree rules settings)
    ++ (group7_table tree rules settings ++ group8_table tree rules settings))
