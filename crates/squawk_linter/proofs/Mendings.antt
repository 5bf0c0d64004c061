-- The entries of an answer stand in the tables of their rules, so their fixes mend a text.
use Rattle.std.proofs.Common.{◌≡◌, ◌<◌, ◌^◌, List, length, sym, subst, Some, IfSome}
use Rattle.std.proofs.lemmas.List.Elements.{All-contains, All-weaker}
use Rattle.std.specs.Prelude.{Contains}
use Rattle.sql_read.specs.sql_tree.Statement.{Tree, IsTree}
use Rattle.fix_edit.specs.lint_base.declared.rule.Rule.{Rule}
use Rattle.fix_edit.specs.lint_base.declared.rule.Rule.TheVariants as rule
use Rattle.fix_edit.specs.lint_base.declared.settings.LinterSettings.{LinterSettings}
use Rattle.fix_edit.specs.lint_base.declared.violation.Violation.{Violation}
use Rattle.fix_edit.specs.lint_base.Fixes.{FixValue}
use Rattle.fix_edit.specs.lint_base.RuleSets.{Rules}
use Rattle.law_answers.specs.pass_groups.OwnTable.{own_table}
use Rattle.fix_edit.specs.law_fixes.Edited.{edited}
use Rattle.fix_edit.specs.law_fixes.Mended.{FixMends, FixesMend, Table, WithWord, builds, dropped, rebuilt, detached}
use Rattle.fix_edit.specs.law_fixes.Timeouts.{SetMended}
use Rattle.fix_edit.proofs.of_law_fixes.Detached.{detached_mend}
use Rattle.fix_edit.proofs.of_law_fixes.Fixed.{builds_mend, dropped_mend, rebuilt_mend}
use Rattle.fix_edit.proofs.of_law_fixes.TimeoutFixes.{timeouts_mend}
use Rattle.fix_edit.specs.law_type_fixes.Mended.{TypeFixMends, TypeFixesMend}
use Rattle.fix_edit.specs.law_type_fixes.Rules.{type_table, ints, smallints, timestamps, varchars}
use Rattle.fix_edit.proofs.of_law_type_fixes.Fixes.{ints_mend, smallints_mend, timestamps_mend, varchars_mend}
use Rattle.fix_edit.proofs.of_law_type_fixes.Inners.{inners_become_words}
use Rattle.fix_edit.proofs.of_law_type_fixes.LastNames.{names_become_words}
use Rattle.law_answers.specs.Tables.{EntriesAreInTheirTables, IsInItsTable, mended_table, timeouts}
use Rattle.squawk_linter.specs.Answers.{reports}
use Rattle.squawk_linter.specs.Mending.{AnsweredFixesMend, AnswersAreInTheirTables, MendedFor, TypeMended, WordMended}
use Rattle.squawk_linter.specs.Reports.{cleared}
use Rattle.squawk_linter.proofs.Gathering.{answer_each}

pub answers_stand : EntriesAreInTheirTables → AnswersAreInTheirTables
answers_stand law tree rules settings =
    let set : LinterSettings = cleared tree settings in
    answer_each (IsInItsTable tree rules set) tree (own_table tree rules set) rules (law tree rules set)
    (λ v bare. subst (λ (r : Rule). IfSome (mended_table r) (λ table. Contains (table tree rules set) v)) (sym bare.code) tt)

module _ (tree : Tree) (rules : Rules) (settings : LinterSettings) (is : IsTree tree) (v : Violation) (f : FixValue) (fix : v.fix ≡ Some f) (short : length (edited tree.text f.edits) < 2 ^ 32) where
  word_mended : (table : Table) → FixesMend table → Contains (table tree rules settings) v → WordMended table tree rules settings v f
  word_mended table law inside = All-contains (FixMends table tree rules settings) (table tree rules settings) v (law tree rules settings is) inside f fix short

  type_mended : (table : Table) → TypeFixesMend table → Contains (table tree rules settings) v → TypeMended table tree rules settings v f
  type_mended table law inside apart = All-contains (TypeFixMends table tree rules settings) (table tree rules settings) v (law tree rules settings is) inside f fix apart short

  set_mended : Contains (timeouts tree rules settings) v → SetMended v.code tree rules f.edits
  set_mended inside =
      All-contains (λ w. (g : FixValue) → w.fix ≡ Some g → length (edited tree.text g.edits) < 2 ^ 32 → SetMended w.code tree rules g.edits) (timeouts tree rules settings) v (timeouts_mend tree rules is) inside f fix short

  by_code : (r : Rule) → IfSome (mended_table r) (λ table. Contains (table tree rules settings) v) → MendedFor r tree rules settings v f
  by_code rule.RequireConcurrentIndexCreation inside = word_mended builds builds_mend inside
  by_code rule.RequireConcurrentIndexDeletion inside = word_mended dropped dropped_mend inside
  by_code rule.RequireConcurrentReindex inside = word_mended rebuilt rebuilt_mend inside
  by_code rule.RequireConcurrentPartitionDetach inside = word_mended detached detached_mend inside
  by_code rule.RequireLockTimeout inside = set_mended inside
  by_code rule.RequireStatementTimeout inside = set_mended inside
  by_code rule.PreferTextField inside = type_mended (type_table varchars) (varchars_mend inners_become_words) inside
  by_code rule.PreferTimestampTz inside = type_mended (type_table timestamps) (timestamps_mend inners_become_words) inside
  by_code rule.PreferBigintOverInt inside = type_mended (type_table ints) (ints_mend names_become_words) inside
  by_code rule.PreferBigintOverSmallint inside = type_mended (type_table smallints) (smallints_mend names_become_words) inside
  by_code _ inside = tt

pub answered_mend : AnswersAreInTheirTables → AnsweredFixesMend
answered_mend law tree rules settings is =
    let set : LinterSettings = cleared tree settings in
    All-weaker (IsInItsTable tree rules set)
    (λ v. (f : FixValue) → v.fix ≡ Some f → length (edited tree.text f.edits) < 2 ^ 32 → MendedFor v.code tree rules set v f)
    (λ v stands f fix short. by_code tree rules set is v f fix short v.code stands) (reports tree rules settings) (law tree rules settings)
