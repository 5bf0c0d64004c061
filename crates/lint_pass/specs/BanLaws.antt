-- What holds of each report of a ban.
use Rattle.std.specs.Prelude.{ℕ, All, List, [], ◌∷◌, refl}
use Rattle.lint_base.specs.declared.rule.Rule.{Rule}
use Rattle.lint_base.specs.declared.violation.Violation.{Violation}
use Rattle.lint_ignore.specs.sql_tree.declared.nodes.Stmt.{Stmt}
use Rattle.lint_ignore.specs.sql_tree.Range.{span_range_of, stmt_range_of}
use Rattle.lint_ignore.specs.sql_tree.Statement.{Tree}
use Rattle.lint_pass.specs.declared.nodes.Node.{Node}
use Rattle.lint_pass.specs.Bans.{BanRow, ban_report, bans_on, by_row, by_rows, fits, fits_statement, on_row, on_rows}
use Rattle.lint_pass.specs.Laws.{HasCode, IsRead, IsPlacedIn}
use Rattle.lint_pass.specs.NodeWalkLaws.{walked_all}
use Rattle.lint_pass.specs.PlaceLaws.{span_place}
use Rattle.lint_pass.specs.RuleLaws.{flat_all, one_all, where_all}

bans_all : (P : Violation → Type 0) (code : Rule) (rows : List BanRow) (tree : Tree) (s : Stmt) → ((m n : List ℕ) (first last : ℕ) → P (ban_report code m n (span_range_of tree.toks first last)))
    → All P (bans_on code rows tree s)
bans_all P code rows tree s h = walked_all P (on_rows code rows) (by_rows code rows) tree s on_all by_all
  where
    on_all : All P (on_rows code rows tree s)
    on_all =
        flat_all P (on_row code tree s) rows
        (λ r. where_all P (fits_statement r.0 s) (ban_report code r.1 r.2 (stmt_range_of tree.toks s) ∷ []) (λ _. one_all P (ban_report code r.1 r.2 (stmt_range_of tree.toks s)) (h r.1 r.2 s.first s.last)))

    by_all : (at : Node) (first last : ℕ) → All P (by_rows code rows at (span_range_of tree.toks first last))
    by_all at first last =
        flat_all P (by_row code at (span_range_of tree.toks first last)) rows
        (λ r. where_all P (fits r.0 at) (ban_report code r.1 r.2 (span_range_of tree.toks first last) ∷ []) (λ _. one_all P (ban_report code r.1 r.2 (span_range_of tree.toks first last)) (h r.1 r.2 first last)))

pub bans_coded : (code : Rule) (rows : List BanRow) (tree : Tree) (s : Stmt) → All (HasCode code) (bans_on code rows tree s)
bans_coded code rows tree s = bans_all (HasCode code) code rows tree s (λ _ _ _ _. refl)

pub bans_placed : (code : Rule) (rows : List BanRow) (tree : Tree) (s : Stmt) → IsRead tree → All (IsPlacedIn tree) (bans_on code rows tree s)
bans_placed code rows tree s read = bans_all (IsPlacedIn tree) code rows tree s (λ m n first last. record { range = span_place tree read first last; edits = tt })
