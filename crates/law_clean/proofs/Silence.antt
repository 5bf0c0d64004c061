-- Where nothing is reported of a text, no pass reports anything of any statement.
use Rattle.std.proofs.Common.{◌≡◌, refl, ℕ, ◌<◌, false, List, [], length}
use Rattle.lock_machine.specs.sql_tree.Statement.{Tree}
use Rattle.lock_machine.specs.lint_base.declared.rule.Rule.{Rule}
use Rattle.lock_machine.specs.lint_base.declared.rule.Rule.TheVariants as rule
use Rattle.lock_machine.specs.lint_base.declared.settings.LinterSettings.{LinterSettings}
use Rattle.lock_machine.specs.lint_base.declared.violation.Violation.{Violation}
use Rattle.lock_machine.specs.lint_base.Rules.{facts_of, is_opt_in}
use Rattle.lock_machine.specs.lint_base.RuleSets.{Rules}
use Rattle.lock_machine.specs.lint_pass.Bans.{bans_on}
use Rattle.lock_machine.specs.lint_pass.RuleTables.{table_of}
use Rattle.lock_machine.specs.lint_transaction.Transaction.{stmt_at}
use Rattle.pass_groups.specs.pass_constraint.AddedConstraints as added
use Rattle.pass_groups.specs.pass_constraint.AddingFieldWithDefault.{reports_of_adding_field_with_default}
use Rattle.pass_groups.specs.OwnTable.{added_table, ban_table, own_table, statement_table}
use Rattle.pass_groups.specs.pass_constraint.ConstraintMissingNotValid.{additions_of, reports_of_additions, reports_of_validations, validations_in}
use Rattle.pass_groups.specs.pass_concurrent.RequireConcurrentIndexCreation as build
use Rattle.pass_groups.specs.pass_concurrent.RequireConcurrentIndexDeletion.{reports_of_require_concurrent_index_deletion}
use Rattle.pass_groups.specs.pass_concurrent.RequireConcurrentPartitionDetach.{reports_of_require_concurrent_partition_detach}
use Rattle.pass_groups.specs.pass_concurrent.RequireConcurrentReindex.{reports_of_require_concurrent_reindex}
use Rattle.pass_groups.specs.pass_data_type.ChangingColumnType.{rows_of_changing_column_type}
use Rattle.law_clean.specs.Clean.{IsClean}
use Rattle.law_clean.proofs.Nothing.{empty-append, nothing_here}

-- No pass on what blocks the users of a table reports anything of statement i.
pub record IsSilentAt (tree : Tree) (settings : LinterSettings) (i : ℕ) : Type 0 where
  pub values : reports_of_adding_field_with_default settings tree (stmt_at tree i) ≡ []
  pub foreign_keys : added.added_by added.row_of_adding_foreign_key_constraint settings tree i (stmt_at tree i) ≡ []
  pub primary_keys : added.added_by added.row_of_adding_serial_primary_key_field settings tree i (stmt_at tree i) ≡ []
  pub types : bans_on rule.ChangingColumnType rows_of_changing_column_type tree (stmt_at tree i) ≡ []
  pub validations : validations_in settings tree i ≡ []
  pub additions : additions_of settings tree i (stmt_at tree i) ≡ []
  pub uniques : added.added_by added.row_of_disallowed_unique_constraint settings tree i (stmt_at tree i) ≡ []
  pub builds : build.reports_on settings tree i (stmt_at tree i) ≡ []
  pub drops : reports_of_require_concurrent_index_deletion tree (stmt_at tree i) ≡ []
  pub detachments : reports_of_require_concurrent_partition_detach tree (stmt_at tree i) ≡ []
  pub rebuilds : reports_of_require_concurrent_reindex tree (stmt_at tree i) ≡ []

-- What a rule of the default set reports of statement i is nothing, where its table is empty.
rule_here : (tree : Tree) (rules : Rules) (settings : LinterSettings) → IsClean tree rules settings → (i : ℕ) → i < length tree.stmts
    → (code : Rule) → is_opt_in code ≡ false → (reports : ℕ → List Violation) → table_of code reports rules (length tree.stmts) ≡ [] → reports i ≡ []
rule_here tree rules settings clean i l code default reports e =
    nothing_here code reports rules (length tree.stmts) (clean.has_defaults code default) e i l

-- The tables of these passes are empty.
record AreSilent (tree : Tree) (rules : Rules) (settings : LinterSettings) : Type 0 where
  values : statement_table rule.AddingFieldWithDefault (reports_of_adding_field_with_default settings tree) tree rules ≡ []
  foreign_keys : added_table added.row_of_adding_foreign_key_constraint tree rules settings ≡ []
  primary_keys : added_table added.row_of_adding_serial_primary_key_field tree rules settings ≡ []
  types : ban_table rule.ChangingColumnType rows_of_changing_column_type tree rules settings ≡ []
  validations : reports_of_validations tree rules settings ≡ []
  additions : reports_of_additions tree rules settings ≡ []
  uniques : added_table added.row_of_disallowed_unique_constraint tree rules settings ≡ []
  builds : build.reports_of_require_concurrent_index_creation tree rules settings ≡ []
  drops : statement_table rule.RequireConcurrentIndexDeletion (reports_of_require_concurrent_index_deletion tree) tree rules ≡ []
  detachments : statement_table rule.RequireConcurrentPartitionDetach (reports_of_require_concurrent_partition_detach tree) tree rules ≡ []
  rebuilds : statement_table rule.RequireConcurrentReindex (reports_of_require_concurrent_reindex tree) tree rules ≡ []

are_silent : (tree : Tree) (rules : Rules) (settings : LinterSettings) → own_table tree rules settings ≡ [] → AreSilent tree rules settings
are_silent tree rules settings e =
    let halves = empty-append _ _ e in
    let groups1-4 = empty-append _ _ halves.0 in
    let groups1-2 = empty-append _ _ groups1-4.0 in
    let groups3-4 = empty-append _ _ groups1-4.1 in
    let group5 = (empty-append _ _ (empty-append _ _ halves.1).0).0 in
    let passes1-4 = empty-append _ _ (empty-append _ _ groups1-2.0).0 in
    let passes1-2 = empty-append _ _ passes1-4.0 in
    let passes3-4 = empty-append _ _ passes1-4.1 in
    let passes9-16 = empty-append _ _ groups1-2.1 in
    let passes11-12 = empty-append _ _ (empty-append _ _ passes9-16.0).1 in
    let passes13-16 = empty-append _ _ passes9-16.1 in
    let pass13 = empty-append _ _ passes13-16.0 in
    let passes14-15 = empty-append _ _ (empty-append _ _ passes13-16.1).0 in
    let passes17-24 = empty-append _ _ groups3-4.0 in
    let passes25-26 = empty-append _ _ (empty-append _ _ (empty-append _ _ groups3-4.1).0).0 in
    let passes35-36 = empty-append _ _ (empty-append _ _ (empty-append _ _ group5).0).1 in
    record {
      values = passes1-2.0;
      foreign_keys = passes1-2.1;
      primary_keys = passes3-4.1;
      types = passes11-12.1;
      validations = pass13.0;
      additions = pass13.1;
      uniques = passes14-15.0;
      builds = passes17-24.1;
      drops = passes25-26.0;
      detachments = passes35-36.0;
      rebuilds = passes35-36.1;
    }

pub silent_at : (tree : Tree) (rules : Rules) (settings : LinterSettings) → IsClean tree rules settings → (i : ℕ) → i < length tree.stmts → IsSilentAt tree settings i
unfolding facts_of
silent_at tree rules settings clean i l =
    let silent = are_silent tree rules settings clean.no_reports in
    let here = rule_here tree rules settings clean i l in
    record {
      values = here rule.AddingFieldWithDefault refl (λ i. reports_of_adding_field_with_default settings tree (stmt_at tree i)) silent.values;
      foreign_keys = here rule.AddingForeignKeyConstraint refl (λ i. added.added_by added.row_of_adding_foreign_key_constraint settings tree i (stmt_at tree i)) silent.foreign_keys;
      primary_keys = here rule.AddingSerialPrimaryKeyField refl (λ i. added.added_by added.row_of_adding_serial_primary_key_field settings tree i (stmt_at tree i)) silent.primary_keys;
      types = here rule.ChangingColumnType refl (λ i. bans_on rule.ChangingColumnType rows_of_changing_column_type tree (stmt_at tree i)) silent.types;
      validations = here rule.ConstraintMissingNotValid refl (validations_in settings tree) silent.validations;
      additions = here rule.ConstraintMissingNotValid refl (λ i. additions_of settings tree i (stmt_at tree i)) silent.additions;
      uniques = here rule.DisallowedUniqueConstraint refl (λ i. added.added_by added.row_of_disallowed_unique_constraint settings tree i (stmt_at tree i)) silent.uniques;
      builds = here rule.RequireConcurrentIndexCreation refl (λ i. build.reports_on settings tree i (stmt_at tree i)) silent.builds;
      drops = here rule.RequireConcurrentIndexDeletion refl (λ i. reports_of_require_concurrent_index_deletion tree (stmt_at tree i)) silent.drops;
      detachments = here rule.RequireConcurrentPartitionDetach refl (λ i. reports_of_require_concurrent_partition_detach tree (stmt_at tree i)) silent.detachments;
      rebuilds = here rule.RequireConcurrentReindex refl (λ i. reports_of_require_concurrent_reindex tree (stmt_at tree i)) silent.rebuilds;
    }
