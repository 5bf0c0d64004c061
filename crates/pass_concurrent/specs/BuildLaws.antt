-- What holds of each report of an index build.
use Rattle.std.specs.Prelude.{ℕ, All, [], ◌∷◌, None, refl}
use Rattle.std.proofs.lemmas.List.Elements.{All-nil}
use Rattle.lint_pass.specs.sql_tree.declared.nodes.Body.{Body}
use Rattle.lint_pass.specs.sql_tree.declared.nodes.Body.TheVariants as body
use Rattle.lint_pass.specs.sql_tree.declared.nodes.Stmt.{Stmt}
use Rattle.lint_pass.specs.sql_tree.Statement.{Tree}
use Rattle.lint_pass.specs.lint_base.declared.rule.Rule.TheVariants as rule
use Rattle.lint_pass.specs.lint_base.declared.settings.LinterSettings.{LinterSettings}
use Rattle.lint_pass.specs.lint_base.declared.violation.Violation.{Violation}
use Rattle.lint_pass.specs.Laws.{HasCode, IsRead, IsPlacedIn}
use Rattle.lint_pass.specs.PlaceLaws.{span_place}
use Rattle.lint_pass.specs.RuleLaws.{one_all, unless_all}
use Rattle.pass_concurrent.specs.ConcurrentlyLaws.{concurrently_placed}
use Rattle.pass_concurrent.specs.RequireConcurrentIndexCreation as build

builds_all : (P : Violation → Type 0) (tree : Tree) (settings : LinterSettings) (i : ℕ) (s : Stmt) → ((word : ℕ) → P (build.report tree s word)) → All P (build.reports_on settings tree i s)
builds_all P tree settings i s h = by_body s.body
  where
    by_body : (b : Body) → All P (build.reports_by settings tree i s b)
    by_body (body.Index word unique None guarded name path) = unless_all P _ (build.report tree s word ∷ []) (one_all P (build.report tree s word) (h word))
    by_body _ = All-nil P

report_coded : (tree : Tree) (s : Stmt) (word : ℕ) → HasCode rule.RequireConcurrentIndexCreation (build.report tree s word)
unfolding build.report
report_coded tree s word = refl

report_placed : (tree : Tree) (s : Stmt) (word : ℕ) → IsRead tree → IsPlacedIn tree (build.report tree s word)
unfolding build.report
report_placed tree s word read = record { range = span_place tree read s.first s.last; edits = concurrently_placed tree read word }

pub builds_coded : (tree : Tree) (settings : LinterSettings) (i : ℕ) (s : Stmt) → All (HasCode rule.RequireConcurrentIndexCreation) (build.reports_on settings tree i s)
builds_coded tree settings i s = builds_all (HasCode rule.RequireConcurrentIndexCreation) tree settings i s (report_coded tree s)

pub builds_placed : (tree : Tree) (settings : LinterSettings) (i : ℕ) (s : Stmt) → IsRead tree → All (IsPlacedIn tree) (build.reports_on settings tree i s)
builds_placed tree settings i s read = builds_all (IsPlacedIn tree) tree settings i s (λ word. report_placed tree s word read)
