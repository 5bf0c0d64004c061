-- The reports of a text that has a tree.
use Rattle.std.proofs.Common.{◌≡◌, ◌∙◌, ℕ, List, ap, refl}
use Rattle.text_reports.specs.hazard_base.declared.hazard_set.HazardSet.{HazardSet}
use Rattle.text_reports.specs.lint_base.declared.settings.LinterSettings.{LinterSettings}
use Rattle.text_reports.specs.lint_base.RuleSets.{Rules}
use Rattle.text_reports.specs.lint_report.declared.report.Report as by
use Rattle.lsp_shown.specs.lsp_session.declared.report.Report.{Report}
use Rattle.lsp_linter.specs.Shown.{Lints}
use Rattle.lsp_shown.specs.declared.ignore.Lines.{Lines}
use Rattle.lsp_shown.specs.Notes.{notes_in}
use Rattle.lsp_shown.specs.Shown.{shown}
use Rattle.lsp_shown.specs.Tokens.{long_tokens}
use Rattle.text_reports.specs.sql_token.declared.token.Tok.{Tok}
use Rattle.text_reports.specs.sql_tree.Statement.{IsTree, Tree}
use Rattle.text_reports.specs.Reports.{all_reports}
use Rattle.lsp_shown.specs.text_utf16.declared.position.Pos.{Pos}

-- an index of the text, the lines of its long tokens, and its comments that take a name
pub shown_same : (index text : List ℕ) (tokens : List Tok) (lines : List Lines) (notes : List Pos) (rs : List by.Report) → index ≡ text → lines ≡ long_tokens index tokens
    → notes ≡ notes_in text tokens → shown index lines notes rs ≡ shown text (long_tokens text tokens) (notes_in text tokens) rs
shown_same index text tokens lines notes rs e f g =
    ap (λ (ls : List Lines). shown index ls notes rs) f ∙ ap (λ (ns : List Pos). shown index (long_tokens index tokens) ns rs) g
    ∙ ap (λ (t : List ℕ). shown t (long_tokens t tokens) (notes_in text tokens) rs) e

pub linted : (tree : Tree) (rules : Rules) (hazards : HazardSet) (settings : LinterSettings) (text : List ℕ) (tokens : List Tok) (rs : List by.Report) (found : List Report) → IsTree tree → text ≡ tree.text → tokens ≡ tree.toks
    → rs ≡ all_reports tree rules hazards settings → found ≡ shown text (long_tokens text tokens) (notes_in text tokens) rs → Lints rules hazards settings tree.text found
linted tree rules hazards settings text tokens rs found is e f g h = record {
  tree = tree;
  of_text = (refl, is);
  are = h ∙ ap (λ (t : List ℕ). shown t (long_tokens t tokens) (notes_in t tokens) rs) e ∙ ap (λ (ks : List Tok). shown tree.text (long_tokens tree.text ks) (notes_in tree.text ks) rs) f
      ∙ ap (λ (l : List by.Report). shown tree.text (long_tokens tree.text tree.toks) (notes_in tree.text tree.toks) l) g;
}
