-- Each report of a BEGIN, COMMIT or ROLLBACK at a wrong place is of its rule, and is in the text.
use Rattle.std.specs.Prelude.{ℕ, Bool, true, false, All, [], ◌∷◌, refl, if◌then◌else◌}
use Rattle.std.proofs.lemmas.List.Elements.{All-nil}
use Rattle.lint_pass.specs.sql_tree.declared.nodes.Stmt.{Stmt}
use Rattle.lint_pass.specs.sql_tree.Statement.{Tree}
use Rattle.lint_pass.specs.lint_base.declared.rule.Rule.TheVariants as rule
use Rattle.lint_pass.specs.lint_base.declared.settings.LinterSettings.{LinterSettings}
use Rattle.lint_pass.specs.lint_base.declared.violation.Violation.{Violation}
use Rattle.lint_pass.specs.lint_transaction.Transaction.{is_begin_kind}
use Rattle.lint_pass.specs.Blocks.{is_end_kind}
use Rattle.lint_pass.specs.Laws.{HasCode, IsRead, IsPlacedIn}
use Rattle.lint_pass.specs.PlaceLaws.{span_place}
use Rattle.lint_pass.specs.RuleLaws.{one_all, unless_all, where_all}
use Rattle.pass_session.specs.TransactionNesting.{is_in_transaction, managed_begin, nested_begin, managed_end, stray_end, begin_reports, end_reports, reports_on}

-- what holds of each of the four reports holds of all
bounds_all : (P : Violation → Type 0) (settings : LinterSettings) (tree : Tree) (i : ℕ) (s : Stmt) → P (managed_begin tree s) → P (nested_begin tree s) → P (managed_end tree s) → P (stray_end tree s)
    → All P (reports_on settings tree i s)
bounds_all P settings tree i s managed_beginning nested managed_ending stray = either (is_begin_kind s.kind) (is_end_kind s.kind) settings.assume_in_transaction (is_in_transaction tree i)
  where
    of_begin : (assumed in_transaction : Bool) → All P (begin_reports assumed in_transaction tree s)
    of_begin true in_transaction = one_all P (managed_begin tree s) managed_beginning
    of_begin false in_transaction = where_all P in_transaction (nested_begin tree s ∷ []) (λ _. one_all P (nested_begin tree s) nested)

    of_end : (assumed in_transaction : Bool) → All P (end_reports assumed in_transaction tree s)
    of_end true in_transaction = one_all P (managed_end tree s) managed_ending
    of_end false in_transaction = unless_all P in_transaction (stray_end tree s ∷ []) (one_all P (stray_end tree s) stray)

    either : (begins ends assumed in_transaction : Bool) → All P (if begins then begin_reports assumed in_transaction tree s else (if ends then end_reports assumed in_transaction tree s else []))
    either true ends assumed in_transaction = of_begin assumed in_transaction
    either false true assumed in_transaction = of_end assumed in_transaction
    either false false assumed in_transaction = All-nil P

pub nesting_coded : (settings : LinterSettings) (tree : Tree) (i : ℕ) (s : Stmt) → All (HasCode rule.TransactionNesting) (reports_on settings tree i s)
unfolding managed_begin nested_begin managed_end stray_end
nesting_coded settings tree i s = bounds_all (HasCode rule.TransactionNesting) settings tree i s refl refl refl refl

pub nesting_placed : (settings : LinterSettings) (tree : Tree) (i : ℕ) (s : Stmt) → IsRead tree → All (IsPlacedIn tree) (reports_on settings tree i s)
unfolding managed_begin nested_begin managed_end stray_end
nesting_placed settings tree i s read =
    let place = span_place tree read s.first s.last in
    bounds_all (IsPlacedIn tree) settings tree i s
    (record { range = place; edits = tt }) (record { range = place; edits = tt }) (record { range = place; edits = tt }) (record { range = place; edits = tt })
