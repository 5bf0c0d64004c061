-- Each report of an index build in a transaction is of its rule, and is in the text.
use Rattle.std.specs.Prelude.{ℕ, ◌&&◌, All, map, refl, Option, Some, None}
use Rattle.std.specs.Option.{option_to_list}
use Rattle.std.proofs.lemmas.List.Elements.{All-nil}
use Rattle.lint_pass.specs.sql_tree.declared.nodes.Stmt.{Stmt}
use Rattle.lint_pass.specs.sql_tree.Statement.{Tree}
use Rattle.lint_pass.specs.lint_base.declared.rule.Rule.TheVariants as rule
use Rattle.lint_pass.specs.lint_base.declared.settings.LinterSettings.{LinterSettings}
use Rattle.lint_pass.specs.lint_base.declared.violation.Violation.{Violation}
use Rattle.lint_pass.specs.lint_transaction.Transaction.{is_open}
use Rattle.lint_pass.specs.Laws.{HasCode, IsRead, IsPlacedIn}
use Rattle.lint_pass.specs.PlaceLaws.{span_place}
use Rattle.lint_pass.specs.RuleLaws.{one_all, where_all}
use Rattle.pass_session.specs.BanConcurrentIndexCreationInTransaction.{report, concurrent_word, build_report, has_more, reports_on}

build_all : (P : Violation → Type 0) (tree : Tree) (s : Stmt) → ((word : ℕ) → P (report tree word)) → All P (build_report tree s)
build_all P tree s h = of_word (concurrent_word s.body)
  where
    of_word : (o : Option ℕ) → All P (map (report tree) (option_to_list o))
    of_word None = All-nil P
    of_word (Some word) = one_all P (report tree word) (h word)

reports_all : (P : Violation → Type 0) (settings : LinterSettings) (tree : Tree) (i : ℕ) (s : Stmt) → ((word : ℕ) → P (report tree word)) → All P (reports_on settings tree i s)
reports_all P settings tree i s h =
    where_all P (is_open settings.assume_in_transaction tree i && has_more tree) (build_report tree s) (λ _. build_all P tree s h)

report_coded : (tree : Tree) (word : ℕ) → HasCode rule.BanConcurrentIndexCreationInTransaction (report tree word)
unfolding report
report_coded tree word = refl

report_placed : (tree : Tree) (word : ℕ) → IsRead tree → IsPlacedIn tree (report tree word)
unfolding report
report_placed tree word read = record { range = span_place tree read word word; edits = tt }

pub builds_coded : (settings : LinterSettings) (tree : Tree) (i : ℕ) (s : Stmt) → All (HasCode rule.BanConcurrentIndexCreationInTransaction) (reports_on settings tree i s)
builds_coded settings tree i s = reports_all (HasCode rule.BanConcurrentIndexCreationInTransaction) settings tree i s (report_coded tree)

pub builds_placed : (settings : LinterSettings) (tree : Tree) (i : ℕ) (s : Stmt) → IsRead tree → All (IsPlacedIn tree) (reports_on settings tree i s)
builds_placed settings tree i s read = reports_all (IsPlacedIn tree) settings tree i s (λ word. report_placed tree word read)
