-- The rules: their order, and what is known of each.
use Rattle.std.specs.Prelude.{ℕ, Bool, true, false, List, [], ◌∷◌, codes}
use denote.Enum.Declared.{tag_of}
use Rattle.lint_base.specs.contracts.rule.Rule.{the_type}
use Rattle.lint_base.specs.declared.rule.Rule.{Rule}
use Rattle.lint_base.specs.declared.rule.Rule.TheVariants as rule
use Rattle.lint_base.specs.declared.rule.TheConstants.{RULE_COUNT}
use Rattle.lint_base.specs.declared.rule.TheConstants.Rule.{ALL}

-- what is known of a rule
pub record Facts : Type 0 where
  -- the bytes of its printed name
  pub name : List ℕ
  -- whether it is left out of the default set
  pub opt_in : Bool
  -- the rules that it expands to, where it is an alias
  pub expansion : List Rule

-- a rule of the default set
abbrev pub default_rule : List ℕ → Facts
default_rule name = record { name = name; opt_in = false; expansion = [] }

-- a rule that is enabled by name alone
abbrev pub opt_in_rule : List ℕ → Facts
opt_in_rule name = record { name = name; opt_in = true; expansion = [] }

-- an alias, which is enabled by name alone
abbrev pub alias_rule : List ℕ → List Rule → Facts
alias_rule name rules = record { name = name; opt_in = true; expansion = rules }

-- what is known of each rule
unfoldable pub facts_of : Rule → Facts
facts_of rule.RequireConcurrentIndexCreation = default_rule (codes "require-concurrent-index-creation")
facts_of rule.RequireConcurrentIndexDeletion = default_rule (codes "require-concurrent-index-deletion")
facts_of rule.ConstraintMissingNotValid = default_rule (codes "constraint-missing-not-valid")
facts_of rule.AddingFieldWithDefault = default_rule (codes "adding-field-with-default")
facts_of rule.AddingForeignKeyConstraint = default_rule (codes "adding-foreign-key-constraint")
facts_of rule.ChangingColumnType = default_rule (codes "changing-column-type")
facts_of rule.AddingNotNullableField = default_rule (codes "adding-not-nullable-field")
facts_of rule.AddingSerialPrimaryKeyField = default_rule (codes "adding-serial-primary-key-field")
facts_of rule.RenamingColumn = default_rule (codes "renaming-column")
facts_of rule.RenamingTable = default_rule (codes "renaming-table")
facts_of rule.DisallowedUniqueConstraint = default_rule (codes "disallowed-unique-constraint")
facts_of rule.BanDropDatabase = default_rule (codes "ban-drop-database")
facts_of rule.PreferBigintOverInt = default_rule (codes "prefer-bigint-over-int")
facts_of rule.PreferBigintOverSmallint = default_rule (codes "prefer-bigint-over-smallint")
facts_of rule.PreferIdentity = default_rule (codes "prefer-identity")
facts_of rule.PreferRepack = default_rule (codes "prefer-repack")
facts_of rule.PreferRobustStmts = default_rule (codes "prefer-robust-stmts")
facts_of rule.PreferTextField = default_rule (codes "prefer-text-field")
facts_of rule.PreferTimestampTz = default_rule (codes "prefer-timestamp-tz")
facts_of rule.BanCharField = default_rule (codes "ban-char-field")
facts_of rule.BanDropColumn = default_rule (codes "ban-drop-column")
facts_of rule.BanDropTable = default_rule (codes "ban-drop-table")
facts_of rule.BanDropNotNull = default_rule (codes "ban-drop-not-null")
facts_of rule.TransactionNesting = default_rule (codes "transaction-nesting")
facts_of rule.AddingRequiredField = default_rule (codes "adding-required-field")
facts_of rule.BanConcurrentIndexCreationInTransaction = default_rule (codes "ban-concurrent-index-creation-in-transaction")
facts_of rule.UnusedIgnore = default_rule (codes "unused-ignore")
facts_of rule.BanCreateDomainWithConstraint = default_rule (codes "ban-create-domain-with-constraint")
facts_of rule.BanAlterDomainWithAddConstraint = default_rule (codes "ban-alter-domain-with-add-constraint")
facts_of rule.BanTruncateCascade = default_rule (codes "ban-truncate-cascade")
facts_of rule.RequireTimeoutSettings = alias_rule (codes "require-timeout-settings") (rule.RequireLockTimeout ∷ rule.RequireStatementTimeout ∷ [])
facts_of rule.BanUncommittedTransaction = default_rule (codes "ban-uncommitted-transaction")
facts_of rule.RequireEnumValueOrdering = default_rule (codes "require-enum-value-ordering")
facts_of rule.RequireTableSchema = opt_in_rule (codes "require-table-schema")
facts_of rule.IdentifierTooLong = default_rule (codes "identifier-too-long")
facts_of rule.RequireConcurrentPartitionDetach = default_rule (codes "require-concurrent-partition-detach")
facts_of rule.RequireConcurrentReindex = default_rule (codes "require-concurrent-reindex")
facts_of rule.RequireLockTimeout = default_rule (codes "require-lock-timeout")
facts_of rule.RequireStatementTimeout = default_rule (codes "require-statement-timeout")
facts_of rule.BanDuplicateColumnAssignments = default_rule (codes "ban-duplicate-column-assignments")
facts_of rule.BanDropView = default_rule (codes "ban-drop-view")
facts_of rule.BanDropFunction = default_rule (codes "ban-drop-function")
facts_of rule.BanDropType = default_rule (codes "ban-drop-type")
facts_of rule.BanDropDefault = default_rule (codes "ban-drop-default")
facts_of rule.BanDropTrigger = opt_in_rule (codes "ban-drop-trigger")
facts_of rule.BanDropSchema = default_rule (codes "ban-drop-schema")
facts_of rule.BanDropSequence = default_rule (codes "ban-drop-sequence")
facts_of rule.BanDropDomain = default_rule (codes "ban-drop-domain")
facts_of rule.BanDropConstraint = default_rule (codes "ban-drop-constraint")
facts_of rule.BanDropGeneratedExpression = default_rule (codes "ban-drop-generated-expression")
facts_of rule.RenamingObject = default_rule (codes "renaming-object")
facts_of rule.BanSetSchema = default_rule (codes "ban-set-schema")
facts_of rule.BanAlterIdentity = default_rule (codes "ban-alter-identity")
facts_of rule.BanDropExtension = default_rule (codes "ban-drop-extension")
facts_of rule.BanAlterGeneratedExpression = opt_in_rule (codes "ban-alter-generated-expression")
facts_of rule.BanDropIndex = opt_in_rule (codes "ban-drop-index")
facts_of rule.BanSetDefault = opt_in_rule (codes "ban-set-default")
facts_of rule.BanDisableTrigger = opt_in_rule (codes "ban-disable-trigger")
facts_of rule.BanReplicaIdentity = opt_in_rule (codes "ban-replica-identity")
facts_of rule.BanDropPolicy = opt_in_rule (codes "ban-drop-policy")
facts_of rule.BanRevoke = opt_in_rule (codes "ban-revoke")
facts_of rule.BanReplaceViewFunction = opt_in_rule (codes "ban-replace-view-function")
facts_of rule.BanAlterPolicyCondition = opt_in_rule (codes "ban-alter-policy-condition")
facts_of rule.BanAlterPolicyRoles = opt_in_rule (codes "ban-alter-policy-roles")
facts_of rule.BanCreatePolicy = opt_in_rule (codes "ban-create-policy")
facts_of rule.BanAlterFunctionOptions = opt_in_rule (codes "ban-alter-function-options")
facts_of rule.BanAlterViewOptions = opt_in_rule (codes "ban-alter-view-options")
facts_of rule.BanAlterRoleOptions = opt_in_rule (codes "ban-alter-role-options")
facts_of rule.BanAlterDatabaseOptions = opt_in_rule (codes "ban-alter-database-options")
facts_of rule.BanAlterRowLevelSecurity = opt_in_rule (codes "ban-alter-row-level-security")
facts_of rule.BanNewWriteRestriction = opt_in_rule (codes "ban-new-write-restriction")
facts_of rule.BanAddEnumValue = opt_in_rule (codes "ban-add-enum-value")
facts_of rule.BanAddCompositeAttribute = opt_in_rule (codes "ban-add-composite-attribute")
facts_of rule.BanAddColumn = opt_in_rule (codes "ban-add-column")
facts_of rule.BanDetachInheritance = opt_in_rule (codes "ban-detach-inheritance")
facts_of rule.BanAlterSequenceValues = opt_in_rule (codes "ban-alter-sequence-values")
facts_of rule.BanAlterSystemOptions = opt_in_rule (codes "ban-alter-system-options")
facts_of rule.BanAlterExtension = opt_in_rule (codes "ban-alter-extension")

-- a rule's printed name
abbrev pub name_of : Rule → List ℕ
name_of r = (facts_of r).name

-- whether a rule is left out of the default set
abbrev pub is_opt_in : Rule → Bool
is_opt_in r = (facts_of r).opt_in

-- the rules that a rule expands to
abbrev pub expansion_of : Rule → List Rule
expansion_of r = (facts_of r).expansion

-- every rule, in declaration order
unfoldable pub all_rules : List Rule
all_rules = ALL

-- how many rules there are
abbrev pub rule_count : ℕ
rule_count = RULE_COUNT

-- a rule's place in declaration order, from 0
unfoldable pub number_of : Rule → ℕ
number_of r = tag_of the_type r
