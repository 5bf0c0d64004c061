-- What is published of a document that was set.
use Rattle.std.proofs.Common.{◌≡◌, List, ℕ, Bool, true, false, Some, None, MatchOption, is_some, cond, bytes_eq, string_bytes, String, sym, subst, ◌∙◌, ap}
use Rattle.std.specs.BTreeMap as tree
use Rattle.std.specs.Cmp.Lexicographic.{slice_cmp}
use Rattle.std.specs.Ordering.{nat_cmp}
use Rattle.std.specs.String.{string_cmp}
use Rattle.std.specs.declared.alloc.Global.{Global}
use Rattle.std.proofs.lemmas.Map.Text.{btree_map_updates_text}
use Rattle.std.specs.declared.option.Option.{Option}
use Rattle.lsp_session.specs.declared.message.Document.{Document}
use Rattle.lsp_session.specs.declared.report.Report.{Report}
use Rattle.lsp_session.specs.Session.{IsPublishedOf, PublishesNow, Published}

-- the documents of a map in which one was set
pub document_set : (key name : List ℕ) (m n : tree.BTreeMap (String Global) Document) (w : Option Document)
    → tree.UpdatesBy string_cmp (λ k. slice_cmp nat_cmp key (string_bytes k)) m n w → key ≡ name → (uri : List ℕ)
    → tree.get_by_text n uri ≡ cond (bytes_eq name uri) w (tree.get_by_text m uri)
document_set key name m n w updates same uri =
    btree_map_updates_text key m n w updates uri ∙ ap (λ bs. cond (bytes_eq bs uri) w (tree.get_by_text m uri)) same

-- Where b says that a document is meant, it becomes `now`, and this is published of it.
pub publishes_set : (Shows : List ℕ → List Report → Type 0) (b : Bool) (old new now : Option Document) (said : Published)
    → new ≡ cond b now old → IsPublishedOf Shows now said → PublishesNow Shows old new (cond b (Some said) None)
publishes_set Shows true old new now said e shown = subst (λ n. IsPublishedOf Shows n said) (sym e) shown
publishes_set Shows false old new now said e shown = e

-- what a known value asks for
pub where_some : {A : Type 0} (o : Option A) (P Q : Type 0) → is_some o ≡ true → Q → MatchOption o P (λ _. Q)
where_some None P Q e q = absurd cc
where_some (Some x) P Q e q = q
