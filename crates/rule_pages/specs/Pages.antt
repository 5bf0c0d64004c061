-- The page of each rule and each hazard. Written by tools/rule_pages.py.
use Rattle.std.specs.Prelude.{ℕ, List}
use Rattle.lint_report.specs.hazard_base.declared.hazard.Hazard.{Hazard}
use Rattle.lint_report.specs.hazard_base.declared.hazard.Hazard.TheVariants as hazard
use Rattle.lint_report.specs.lint_base.declared.rule.Rule.{Rule}
use Rattle.lint_report.specs.lint_base.declared.rule.Rule.TheVariants as rule
use Rattle.lint_report.specs.declared.code.Code.{Code}
use Rattle.lint_report.specs.declared.code.Code.TheVariants as code
use Rattle.rule_pages.specs.declared.indexes.TheConstants.{REQUIRE_CONCURRENT_INDEX_CREATION, REQUIRE_CONCURRENT_INDEX_DELETION, BAN_CONCURRENT_INDEX_CREATION_IN_TRANSACTION, REQUIRE_CONCURRENT_REINDEX, BAN_DROP_INDEX}
use Rattle.rule_pages.specs.declared.constraints.TheConstants.{CONSTRAINT_MISSING_NOT_VALID, ADDING_FOREIGN_KEY_CONSTRAINT, ADDING_NOT_NULLABLE_FIELD, ADDING_SERIAL_PRIMARY_KEY_FIELD, DISALLOWED_UNIQUE_CONSTRAINT, BAN_DROP_NOT_NULL, BAN_CREATE_DOMAIN_WITH_CONSTRAINT, BAN_ALTER_DOMAIN_WITH_ADD_CONSTRAINT, BAN_DROP_CONSTRAINT, BAN_NEW_WRITE_RESTRICTION}
use Rattle.rule_pages.specs.declared.columns_and_types.TheConstants.{ADDING_FIELD_WITH_DEFAULT, CHANGING_COLUMN_TYPE, BAN_DROP_COLUMN, ADDING_REQUIRED_FIELD, BAN_DROP_DEFAULT, BAN_DROP_GENERATED_EXPRESSION, BAN_ALTER_IDENTITY, BAN_ALTER_GENERATED_EXPRESSION, BAN_SET_DEFAULT, BAN_ADD_COLUMN}
use Rattle.rule_pages.specs.declared.renames_and_moves.TheConstants.{RENAMING_COLUMN, RENAMING_TABLE, RENAMING_OBJECT, BAN_SET_SCHEMA}
use Rattle.rule_pages.specs.declared.drops.TheConstants.{BAN_DROP_DATABASE, BAN_DROP_TABLE, BAN_TRUNCATE_CASCADE, REQUIRE_CONCURRENT_PARTITION_DETACH, BAN_DROP_VIEW, BAN_DROP_FUNCTION, BAN_DROP_TYPE, BAN_DROP_TRIGGER, BAN_DROP_SCHEMA, BAN_DROP_SEQUENCE, BAN_DROP_DOMAIN, BAN_DROP_EXTENSION, BAN_DETACH_INHERITANCE}
use Rattle.rule_pages.specs.declared.columns_and_types_more.TheConstants.{PREFER_BIGINT_OVER_INT, PREFER_BIGINT_OVER_SMALLINT, PREFER_IDENTITY, PREFER_TEXT_FIELD, PREFER_TIMESTAMP_TZ, BAN_CHAR_FIELD, REQUIRE_ENUM_VALUE_ORDERING, BAN_ADD_ENUM_VALUE, BAN_ADD_COMPOSITE_ATTRIBUTE}
use Rattle.rule_pages.specs.declared.transactions_and_timeouts.TheConstants.{PREFER_REPACK, PREFER_ROBUST_STMTS, TRANSACTION_NESTING, BAN_UNCOMMITTED_TRANSACTION, REQUIRE_LOCK_TIMEOUT, REQUIRE_STATEMENT_TIMEOUT}
use Rattle.rule_pages.specs.declared.ignore_comments.TheConstants.{UNUSED_IGNORE}
use Rattle.rule_pages.specs.declared.aliases.TheConstants.{REQUIRE_TIMEOUT_SETTINGS}
use Rattle.rule_pages.specs.declared.names.TheConstants.{REQUIRE_TABLE_SCHEMA, IDENTIFIER_TOO_LONG, BAN_DUPLICATE_COLUMN_ASSIGNMENTS}
use Rattle.rule_pages.specs.declared.behavior_and_replication.TheConstants.{BAN_DISABLE_TRIGGER, BAN_REPLICA_IDENTITY, BAN_REPLACE_VIEW_FUNCTION}
use Rattle.rule_pages.specs.declared.access_and_security.TheConstants.{BAN_DROP_POLICY, BAN_REVOKE, BAN_ALTER_POLICY_CONDITION, BAN_ALTER_POLICY_ROLES, BAN_CREATE_POLICY, BAN_ALTER_ROLE_OPTIONS, BAN_ALTER_ROW_LEVEL_SECURITY}
use Rattle.rule_pages.specs.declared.settings_and_options.TheConstants.{BAN_ALTER_FUNCTION_OPTIONS, BAN_ALTER_VIEW_OPTIONS, BAN_ALTER_DATABASE_OPTIONS, BAN_ALTER_SEQUENCE_VALUES, BAN_ALTER_SYSTEM_OPTIONS, BAN_ALTER_EXTENSION}
use Rattle.rule_pages.specs.declared.hazards.TheConstants.{STATEMENT_IN_TRANSACTION, TABLE_REWRITE, COLUMN_WITH_CHECK, BUILD_UNDER_TIMEOUT, INVALID_INDEX_KEPT, REFRESH_BLOCKS_READS, JSON_COLUMN}

-- what docs/RULES.md says of a rule
unfoldable pub page_of : Rule → List ℕ
page_of rule.RequireConcurrentIndexCreation = REQUIRE_CONCURRENT_INDEX_CREATION.now
page_of rule.RequireConcurrentIndexDeletion = REQUIRE_CONCURRENT_INDEX_DELETION.now
page_of rule.ConstraintMissingNotValid = CONSTRAINT_MISSING_NOT_VALID.now
page_of rule.AddingFieldWithDefault = ADDING_FIELD_WITH_DEFAULT.now
page_of rule.AddingForeignKeyConstraint = ADDING_FOREIGN_KEY_CONSTRAINT.now
page_of rule.ChangingColumnType = CHANGING_COLUMN_TYPE.now
page_of rule.AddingNotNullableField = ADDING_NOT_NULLABLE_FIELD.now
page_of rule.AddingSerialPrimaryKeyField = ADDING_SERIAL_PRIMARY_KEY_FIELD.now
page_of rule.RenamingColumn = RENAMING_COLUMN.now
page_of rule.RenamingTable = RENAMING_TABLE.now
page_of rule.DisallowedUniqueConstraint = DISALLOWED_UNIQUE_CONSTRAINT.now
page_of rule.BanDropDatabase = BAN_DROP_DATABASE.now
page_of rule.PreferBigintOverInt = PREFER_BIGINT_OVER_INT.now
page_of rule.PreferBigintOverSmallint = PREFER_BIGINT_OVER_SMALLINT.now
page_of rule.PreferIdentity = PREFER_IDENTITY.now
page_of rule.PreferRepack = PREFER_REPACK.now
page_of rule.PreferRobustStmts = PREFER_ROBUST_STMTS.now
page_of rule.PreferTextField = PREFER_TEXT_FIELD.now
page_of rule.PreferTimestampTz = PREFER_TIMESTAMP_TZ.now
page_of rule.BanCharField = BAN_CHAR_FIELD.now
page_of rule.BanDropColumn = BAN_DROP_COLUMN.now
page_of rule.BanDropTable = BAN_DROP_TABLE.now
page_of rule.BanDropNotNull = BAN_DROP_NOT_NULL.now
page_of rule.TransactionNesting = TRANSACTION_NESTING.now
page_of rule.AddingRequiredField = ADDING_REQUIRED_FIELD.now
page_of rule.BanConcurrentIndexCreationInTransaction = BAN_CONCURRENT_INDEX_CREATION_IN_TRANSACTION.now
page_of rule.UnusedIgnore = UNUSED_IGNORE.now
page_of rule.BanCreateDomainWithConstraint = BAN_CREATE_DOMAIN_WITH_CONSTRAINT.now
page_of rule.BanAlterDomainWithAddConstraint = BAN_ALTER_DOMAIN_WITH_ADD_CONSTRAINT.now
page_of rule.BanTruncateCascade = BAN_TRUNCATE_CASCADE.now
page_of rule.RequireTimeoutSettings = REQUIRE_TIMEOUT_SETTINGS.now
page_of rule.BanUncommittedTransaction = BAN_UNCOMMITTED_TRANSACTION.now
page_of rule.RequireEnumValueOrdering = REQUIRE_ENUM_VALUE_ORDERING.now
page_of rule.RequireTableSchema = REQUIRE_TABLE_SCHEMA.now
page_of rule.IdentifierTooLong = IDENTIFIER_TOO_LONG.now
page_of rule.RequireConcurrentPartitionDetach = REQUIRE_CONCURRENT_PARTITION_DETACH.now
page_of rule.RequireConcurrentReindex = REQUIRE_CONCURRENT_REINDEX.now
page_of rule.RequireLockTimeout = REQUIRE_LOCK_TIMEOUT.now
page_of rule.RequireStatementTimeout = REQUIRE_STATEMENT_TIMEOUT.now
page_of rule.BanDuplicateColumnAssignments = BAN_DUPLICATE_COLUMN_ASSIGNMENTS.now
page_of rule.BanDropView = BAN_DROP_VIEW.now
page_of rule.BanDropFunction = BAN_DROP_FUNCTION.now
page_of rule.BanDropType = BAN_DROP_TYPE.now
page_of rule.BanDropDefault = BAN_DROP_DEFAULT.now
page_of rule.BanDropTrigger = BAN_DROP_TRIGGER.now
page_of rule.BanDropSchema = BAN_DROP_SCHEMA.now
page_of rule.BanDropSequence = BAN_DROP_SEQUENCE.now
page_of rule.BanDropDomain = BAN_DROP_DOMAIN.now
page_of rule.BanDropConstraint = BAN_DROP_CONSTRAINT.now
page_of rule.BanDropGeneratedExpression = BAN_DROP_GENERATED_EXPRESSION.now
page_of rule.RenamingObject = RENAMING_OBJECT.now
page_of rule.BanSetSchema = BAN_SET_SCHEMA.now
page_of rule.BanAlterIdentity = BAN_ALTER_IDENTITY.now
page_of rule.BanDropExtension = BAN_DROP_EXTENSION.now
page_of rule.BanAlterGeneratedExpression = BAN_ALTER_GENERATED_EXPRESSION.now
page_of rule.BanDropIndex = BAN_DROP_INDEX.now
page_of rule.BanSetDefault = BAN_SET_DEFAULT.now
page_of rule.BanDisableTrigger = BAN_DISABLE_TRIGGER.now
page_of rule.BanReplicaIdentity = BAN_REPLICA_IDENTITY.now
page_of rule.BanDropPolicy = BAN_DROP_POLICY.now
page_of rule.BanRevoke = BAN_REVOKE.now
page_of rule.BanReplaceViewFunction = BAN_REPLACE_VIEW_FUNCTION.now
page_of rule.BanAlterPolicyCondition = BAN_ALTER_POLICY_CONDITION.now
page_of rule.BanAlterPolicyRoles = BAN_ALTER_POLICY_ROLES.now
page_of rule.BanCreatePolicy = BAN_CREATE_POLICY.now
page_of rule.BanAlterFunctionOptions = BAN_ALTER_FUNCTION_OPTIONS.now
page_of rule.BanAlterViewOptions = BAN_ALTER_VIEW_OPTIONS.now
page_of rule.BanAlterRoleOptions = BAN_ALTER_ROLE_OPTIONS.now
page_of rule.BanAlterDatabaseOptions = BAN_ALTER_DATABASE_OPTIONS.now
page_of rule.BanAlterRowLevelSecurity = BAN_ALTER_ROW_LEVEL_SECURITY.now
page_of rule.BanNewWriteRestriction = BAN_NEW_WRITE_RESTRICTION.now
page_of rule.BanAddEnumValue = BAN_ADD_ENUM_VALUE.now
page_of rule.BanAddCompositeAttribute = BAN_ADD_COMPOSITE_ATTRIBUTE.now
page_of rule.BanAddColumn = BAN_ADD_COLUMN.now
page_of rule.BanDetachInheritance = BAN_DETACH_INHERITANCE.now
page_of rule.BanAlterSequenceValues = BAN_ALTER_SEQUENCE_VALUES.now
page_of rule.BanAlterSystemOptions = BAN_ALTER_SYSTEM_OPTIONS.now
page_of rule.BanAlterExtension = BAN_ALTER_EXTENSION.now

-- what it says of a hazard
unfoldable pub hazard_page_of : Hazard → List ℕ
hazard_page_of hazard.StatementInTransaction = STATEMENT_IN_TRANSACTION.now
hazard_page_of hazard.TableRewrite = TABLE_REWRITE.now
hazard_page_of hazard.ColumnWithCheck = COLUMN_WITH_CHECK.now
hazard_page_of hazard.BuildUnderTimeout = BUILD_UNDER_TIMEOUT.now
hazard_page_of hazard.InvalidIndexKept = INVALID_INDEX_KEPT.now
hazard_page_of hazard.RefreshBlocksReads = REFRESH_BLOCKS_READS.now
hazard_page_of hazard.JsonColumn = JSON_COLUMN.now

-- what it says of either
abbrev pub code_page_of : Code → List ℕ
code_page_of (code.Rule rule) = page_of rule
code_page_of (code.Hazard hazard) = hazard_page_of hazard
