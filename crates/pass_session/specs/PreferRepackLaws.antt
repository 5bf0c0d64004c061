-- Each report of a statement that rewrites a table is of its rule, and is in the text.
use Rattle.std.specs.Prelude.{ℕ, All, [], ◌∷◌, refl, Option, Some, None}
use Rattle.std.proofs.lemmas.List.Elements.{All-nil}
use Rattle.lint_pass.specs.sql_token.declared.token.Span.{Span}
use Rattle.lint_pass.specs.sql_tree.declared.nodes.Body.{Body}
use Rattle.lint_pass.specs.sql_tree.declared.nodes.Body.TheVariants as body
use Rattle.lint_pass.specs.sql_tree.declared.nodes.Stmt.{Stmt}
use Rattle.lint_pass.specs.sql_tree.Statement.{Tree}
use Rattle.lint_pass.specs.lint_base.declared.rule.Rule.TheVariants as rule
use Rattle.lint_pass.specs.lint_base.declared.settings.LinterSettings.{LinterSettings}
use Rattle.lint_pass.specs.lint_base.declared.violation.Violation.{Violation}
use Rattle.lint_pass.specs.FixLaws.{over_tokens}
use Rattle.lint_pass.specs.Laws.{HasCode, IsRead, IsPlacedIn}
use Rattle.lint_pass.specs.PlaceLaws.{span_place}
use Rattle.lint_pass.specs.RuleLaws.{one_all, where_all}
use Rattle.pass_session.specs.Tokens.{last_word}
use Rattle.pass_session.specs.PreferRepack.{repack, cluster_report, vacuum_report, rewrites_by, has_repack, reports_of_prefer_repack}

rewrites_all : (P : Violation → Type 0) (settings : LinterSettings) (tree : Tree) (s : Stmt) → ((table : Option Span) (index : Option ℕ) → P (cluster_report tree s table index)) → ((tables : Option Span) → P (vacuum_report tree s tables))
    → All P (reports_of_prefer_repack settings tree s)
rewrites_all P settings tree s h k = where_all P (has_repack settings) (rewrites_by tree s s.body) (λ _. by_body s.body)
  where
    by_body : (b : Body) → All P (rewrites_by tree s b)
    by_body (body.Cluster table index) = one_all P (cluster_report tree s table index) (h table index)
    by_body (body.Vacuum full tables) = where_all P full (vacuum_report tree s tables ∷ []) (λ _. one_all P (vacuum_report tree s tables) (k tables))
    by_body _ = All-nil P

cluster_coded : (tree : Tree) (s : Stmt) (table : Option Span) (index : Option ℕ) → HasCode rule.PreferRepack (cluster_report tree s table index)
unfolding cluster_report
cluster_coded tree s table index = refl

vacuum_coded : (tree : Tree) (s : Stmt) (tables : Option Span) → HasCode rule.PreferRepack (vacuum_report tree s tables)
unfolding vacuum_report
vacuum_coded tree s tables = refl

cluster_placed : (tree : Tree) (s : Stmt) (table : Option Span) (index : Option ℕ) → IsRead tree → IsPlacedIn tree (cluster_report tree s table index)
unfolding cluster_report
cluster_placed tree s table index read =
    record {
      range = span_place tree read s.first s.last;
      edits = over_tokens tree read (repack tree table index) s.first (last_word tree s.first s.last);
    }

vacuum_placed : (tree : Tree) (s : Stmt) (tables : Option Span) → IsRead tree → IsPlacedIn tree (vacuum_report tree s tables)
unfolding vacuum_report
vacuum_placed tree s None read = record { range = span_place tree read s.first s.last; edits = tt }
vacuum_placed tree s (Some tables) read =
    record {
      range = span_place tree read s.first s.last;
      edits = over_tokens tree read (repack tree (Some tables) None) s.first (last_word tree s.first s.last);
    }

pub rewrites_coded : (settings : LinterSettings) (tree : Tree) (s : Stmt) → All (HasCode rule.PreferRepack) (reports_of_prefer_repack settings tree s)
rewrites_coded settings tree s = rewrites_all (HasCode rule.PreferRepack) settings tree s (cluster_coded tree s) (vacuum_coded tree s)

pub rewrites_placed : (settings : LinterSettings) (tree : Tree) (s : Stmt) → IsRead tree → All (IsPlacedIn tree) (reports_of_prefer_repack settings tree s)
rewrites_placed settings tree s read =
    rewrites_all (IsPlacedIn tree) settings tree s (λ table index. cluster_placed tree s table index read) (λ tables. vacuum_placed tree s tables read)
