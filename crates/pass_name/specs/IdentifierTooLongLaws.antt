-- Each report of an identifier that is too long is of its rule, and is in the text.
use Rattle.std.specs.Prelude.{ℕ, Bool, true, false, All, Some, None, IfSome, refl}
use Rattle.std.proofs.Common.{cond}
use Rattle.lint_pass.specs.sql_tree.declared.nodes.Stmt.{Stmt}
use Rattle.lint_pass.specs.sql_tree.Statement.{Tree}
use Rattle.lint_pass.specs.lint_base.declared.rule.Rule.TheVariants as rule
use Rattle.lint_pass.specs.FixLaws.{over_tokens}
use Rattle.lint_pass.specs.Laws.{AreEdits, HasCode, IsRead, IsPlacedIn}
use Rattle.lint_pass.specs.PlaceLaws.{span_place}
use Rattle.lint_pass.specs.ThoseLaws.{those_all}
use Rattle.lint_pass.specs.lint_transaction.Names.{name_at}
use Rattle.pass_name.specs.IdentifierTooLong.{token_numbers, kind_at, is_too_long, kept_name, has_doubled, rename, fix_of, report, reports_of_identifier_too_long}

report_coded : (tree : Tree) (number : ℕ) → HasCode rule.IdentifierTooLong (report tree number)
unfolding report
report_coded tree number = refl

rename_placed : (tree : Tree) (number : ℕ) → IsRead tree → AreEdits tree.text (rename tree number).edits
unfolding rename
rename_placed tree number read = over_tokens tree read (kept_name (kind_at tree number) (name_at tree number)) number number

fix_placed : (tree : Tree) (number : ℕ) → IsRead tree → IfSome (fix_of tree number) (λ f. AreEdits tree.text f.edits)
unfolding fix_of
fix_placed tree number read =
    elim (has_doubled (kind_at tree number) (name_at tree number)) as (λ (b : Bool). IfSome (cond b None (Some (rename tree number))) (λ f. AreEdits tree.text f.edits)) [
      | true ↦ tt
      | false ↦ rename_placed tree number read
    ]

report_placed : (tree : Tree) (number : ℕ) → IsRead tree → IsPlacedIn tree (report tree number)
unfolding report
report_placed tree number read = record { range = span_place tree read number number; edits = fix_placed tree number read }

pub long_coded : (tree : Tree) (s : Stmt) → All (HasCode rule.IdentifierTooLong) (reports_of_identifier_too_long tree s)
unfolding reports_of_identifier_too_long
long_coded tree s = those_all (HasCode rule.IdentifierTooLong) (is_too_long tree) (report tree) (token_numbers s) (report_coded tree)

pub long_placed : (tree : Tree) (s : Stmt) → IsRead tree → All (IsPlacedIn tree) (reports_of_identifier_too_long tree s)
unfolding reports_of_identifier_too_long
long_placed tree s read = those_all (IsPlacedIn tree) (is_too_long tree) (report tree) (token_numbers s) (λ number. report_placed tree number read)
