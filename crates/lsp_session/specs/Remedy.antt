-- Remedies, as clauses see them.
use Rattle.std.specs.Prelude.{ℕ, List, Bool}
use Rattle.lsp_session.specs.declared.report.Change.{Change}

-- a title, whether it may be made unseen, and changes in order
pub record RemedyValue : Type 0 where
  pub title : List ℕ
  pub is_preferred : Bool
  pub changes : List Change
