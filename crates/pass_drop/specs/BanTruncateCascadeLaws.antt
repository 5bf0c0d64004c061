-- Each report of a TRUNCATE with CASCADE is of its rule, and is in the text.
use Rattle.std.specs.Prelude.{ℕ, All, Some, refl}
use Rattle.std.proofs.lemmas.List.Elements.{All-nil}
use Rattle.lint_pass.specs.sql_tree.declared.nodes.Body.{Body}
use Rattle.lint_pass.specs.sql_tree.declared.nodes.Body.TheVariants as body
use Rattle.lint_pass.specs.sql_tree.Statement.{Tree}
use Rattle.lint_pass.specs.lint_base.declared.rule.Rule.TheVariants as rule
use Rattle.lint_pass.specs.lint_base.declared.violation.Violation.{Violation}
use Rattle.lint_pass.specs.Laws.{HasCode, IsRead, IsPlacedIn}
use Rattle.lint_pass.specs.PlaceLaws.{span_place}
use Rattle.lint_pass.specs.RuleLaws.{one_all}
use Rattle.pass_drop.specs.BanTruncateCascade.{report, reports_of_ban_truncate_cascade}

cascade_all : (P : Violation → Type 0) (tree : Tree) (b : Body) → ((word : ℕ) → P (report tree word)) → All P (reports_of_ban_truncate_cascade tree b)
cascade_all P tree (body.Truncate (Some word)) h = one_all P (report tree word) (h word)
cascade_all P tree _ h = All-nil P

report_coded : (tree : Tree) (word : ℕ) → HasCode rule.BanTruncateCascade (report tree word)
unfolding report
report_coded tree word = refl

report_placed : (tree : Tree) (word : ℕ) → IsRead tree → IsPlacedIn tree (report tree word)
unfolding report
report_placed tree word read = record { range = span_place tree read word word; edits = tt }

pub cascade_coded : (tree : Tree) (b : Body) → All (HasCode rule.BanTruncateCascade) (reports_of_ban_truncate_cascade tree b)
cascade_coded tree b = cascade_all (HasCode rule.BanTruncateCascade) tree b (report_coded tree)

pub cascade_placed : (tree : Tree) (b : Body) → IsRead tree → All (IsPlacedIn tree) (reports_of_ban_truncate_cascade tree b)
cascade_placed tree b read = cascade_all (IsPlacedIn tree) tree b (λ word. report_placed tree word read)
