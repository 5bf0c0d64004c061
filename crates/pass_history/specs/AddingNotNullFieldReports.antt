-- What holds of each report of a column that is set NOT NULL.
use Rattle.std.specs.Prelude.{ℕ, Bool, All, List, Option, Some, None, refl}
use Rattle.std.proofs.lemmas.List.Elements.{All-nil}
use Rattle.sql_tree.specs.declared.nodes.Piece.{Piece}
use Rattle.sql_tree.specs.Statement.{Tree}
use Rattle.lint_pass.specs.lint_base.declared.rule.Rule.TheVariants as rule
use Rattle.lint_pass.specs.lint_base.declared.settings.LinterSettings.{LinterSettings}
use Rattle.lint_pass.specs.lint_base.declared.violation.Violation.{Violation}
use Rattle.lint_pass.specs.lint_node.Altered.{Altered}
use Rattle.lint_pass.specs.Laws.{HasCode, IsRead, IsPlacedIn}
use Rattle.lint_pass.specs.PlaceLaws.{span_place}
use Rattle.lint_pass.specs.RuleLaws.{unless_all}
use Rattle.lint_pass.specs.Those.{those}
use Rattle.lint_pass.specs.ThoseLaws.{those_all}
use Rattle.pass_history.specs.EventLaws.{each_event_all}
use Rattle.pass_history.specs.History.{altered_at, altered_below}
use Rattle.pass_history.specs.AddingNotNullField as spec

not_null_all : (P : Violation → Type 0) (tree : Tree) (settings : LinterSettings) (i : ℕ) → ((p : Piece) → P (spec.report tree p)) → All P (spec.not_null_of tree settings i)
not_null_all P tree settings i h =
    each_event_all P (spec.report_on (spec.uses_checks settings) tree) (altered_below tree i) (altered_at tree i) of_event
  where
    of_column : (excused : List ℕ → List ℕ → Bool) (e : Altered) (column : Option ℕ) → All P (spec.action_reports tree excused e.table.last e.action column)
    of_column excused e None = All-nil P
    of_column excused e (Some column) =
        unless_all P _ (those spec.sets_not_null (spec.report tree) e.action.pieces) (those_all P spec.sets_not_null (spec.report tree) e.action.pieces h)

    of_event : (es : List Altered) (e : Altered) → All P (spec.report_on (spec.uses_checks settings) tree es e)
    of_event es e = of_column (spec.is_excused (spec.uses_checks settings) tree es) e (spec.altered_column e.action)

report_coded : (tree : Tree) (p : Piece) → HasCode rule.AddingNotNullableField (spec.report tree p)
unfolding spec.report
report_coded tree p = refl

report_placed : (tree : Tree) → IsRead tree → (p : Piece) → IsPlacedIn tree (spec.report tree p)
unfolding spec.report
report_placed tree read p = record { range = span_place tree read p.first p.last; edits = tt }

pub not_null_coded : (tree : Tree) (settings : LinterSettings) (i : ℕ) → All (HasCode rule.AddingNotNullableField) (spec.not_null_of tree settings i)
not_null_coded tree settings i = not_null_all (HasCode rule.AddingNotNullableField) tree settings i (report_coded tree)

pub not_null_placed : (tree : Tree) (settings : LinterSettings) (i : ℕ) → IsRead tree → All (IsPlacedIn tree) (spec.not_null_of tree settings i)
not_null_placed tree settings i read = not_null_all (IsPlacedIn tree) tree settings i (report_placed tree read)
