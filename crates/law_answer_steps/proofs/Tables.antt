-- The report of an answer is in the table of its rule, of which each fix is a step.
use Rattle.std.proofs.Common.{◌≡◌, true, IfSome}
use Rattle.std.proofs.lemmas.Bool.{false≢true}
use Rattle.std.proofs.lemmas.List.Elements.{All-contains, All-weaker}
use Rattle.std.specs.Prelude.{Contains}
use Rattle.law_fix_steps.specs.sql_tree.Statement.{Tree, IsTree}
use Rattle.law_fix_steps.specs.lint_base.declared.rule.Rule.{Rule}
use Rattle.law_fix_steps.specs.lint_base.declared.rule.Rule.TheVariants as rule
use Rattle.law_fix_steps.specs.lint_base.declared.settings.LinterSettings.{LinterSettings}
use Rattle.law_fix_steps.specs.lint_base.declared.violation.Violation.{Violation}
use Rattle.law_fix_steps.specs.lint_base.RuleSets.{Rules}
use Rattle.law_fix_steps.specs.law_fixes.Mended.{Table, builds, dropped, rebuilt, detached}
use Rattle.law_fix_steps.specs.law_type_fixes.Rules.{type_table, ints, smallints, timestamps, varchars}
use Rattle.law_fix_steps.specs.Listed.{is_listed}
use Rattle.law_fix_steps.specs.Step.{FixesStep, FixSteps, JoinNoWord, timeouts}
use Rattle.squawk_linter.specs.law_answers.Tables.{IsInItsTable, mended_table}
use Rattle.squawk_linter.specs.Answers.{reports}
use Rattle.squawk_linter.specs.Mending.{AnswersAreInTheirTables}
use Rattle.squawk_linter.specs.Reports.{cleared}
use Rattle.law_answer_steps.specs.Answers.{AnswersStep}

-- the laws of the tables of all listed rules
pub record TablesStep : Type 0 where
  pub builds_step : FixesStep builds
  pub dropped_step : FixesStep dropped
  pub rebuilt_step : FixesStep rebuilt
  pub detached_step : FixesStep detached
  pub varchars_step : FixesStep (type_table varchars)
  pub timestamps_step : FixesStep (type_table timestamps)
  pub ints_step : FixesStep (type_table ints)
  pub smallints_step : FixesStep (type_table smallints)
  pub timeouts_step : FixesStep timeouts

module _ (laws : TablesStep) (tree : Tree) (rules : Rules) (settings : LinterSettings) (is : IsTree tree) (v : Violation) where
  abbrev Goes : Type 0
  Goes = FixSteps tree rules settings (JoinNoWord tree) v

  of_table : (table : Table) → FixesStep table → Contains (table tree rules settings) v → Goes
  of_table table law inside = All-contains (FixSteps tree rules settings (JoinNoWord tree)) (table tree rules settings) v (law tree rules settings is) inside

  by_rule : (r : Rule) → IfSome (mended_table r) (λ table. Contains (table tree rules settings) v) → is_listed r ≡ true → Goes
  by_rule rule.RequireConcurrentIndexCreation inside e = of_table builds laws.builds_step inside
  by_rule rule.RequireConcurrentIndexDeletion inside e = of_table dropped laws.dropped_step inside
  by_rule rule.RequireConcurrentReindex inside e = of_table rebuilt laws.rebuilt_step inside
  by_rule rule.RequireConcurrentPartitionDetach inside e = of_table detached laws.detached_step inside
  by_rule rule.RequireLockTimeout inside e = of_table timeouts laws.timeouts_step inside
  by_rule rule.RequireStatementTimeout inside e = of_table timeouts laws.timeouts_step inside
  by_rule rule.PreferTextField inside e = of_table (type_table varchars) laws.varchars_step inside
  by_rule rule.PreferTimestampTz inside e = of_table (type_table timestamps) laws.timestamps_step inside
  by_rule rule.PreferBigintOverInt inside e = of_table (type_table ints) laws.ints_step inside
  by_rule rule.PreferBigintOverSmallint inside e = of_table (type_table smallints) laws.smallints_step inside
  by_rule _ inside e = absurd (false≢true e)

pub answers_go : AnswersAreInTheirTables → TablesStep → AnswersStep
answers_go stand laws tree rules settings is =
    let set : LinterSettings = cleared tree settings in
    All-weaker (IsInItsTable tree rules set) (λ v. is_listed v.code ≡ true → FixSteps tree rules set (JoinNoWord tree) v)
    (λ v inside listed. by_rule laws tree rules set is v v.code inside listed) (reports tree rules settings) (stand tree rules settings)
