-- The rules whose fixes are made one after another until none is left.
use Rattle.std.specs.Prelude.{Bool, true, false}
use Rattle.law_type_fixes.specs.lint_base.declared.rule.Rule.{Rule}
use Rattle.law_type_fixes.specs.lint_base.declared.rule.Rule.TheVariants as rule

-- the rules whose fixes put CONCURRENTLY into a text, set a timeout at its start, or write another column type
abbrev pub is_listed : Rule → Bool
is_listed rule.RequireConcurrentIndexCreation = true
is_listed rule.RequireConcurrentIndexDeletion = true
is_listed rule.RequireConcurrentPartitionDetach = true
is_listed rule.RequireConcurrentReindex = true
is_listed rule.RequireLockTimeout = true
is_listed rule.RequireStatementTimeout = true
is_listed rule.PreferBigintOverInt = true
is_listed rule.PreferBigintOverSmallint = true
is_listed rule.PreferTextField = true
is_listed rule.PreferTimestampTz = true
is_listed _ = false
