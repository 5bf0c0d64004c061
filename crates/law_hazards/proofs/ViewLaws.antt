-- A view that is filled anew was made before.
use Rattle.std.proofs.Common.{◌≡◌, ◌∙◌, sym, ap, refl, ℕ, Bool, true, false, cond, [], ◌∷◌, Option, Some, None, is_some}
use Rattle.std.proofs.lemmas.Bool.{false≢true}
use Rattle.law_renumber.specs.sql_keyword.declared.words.TheConstants.Keyword as keyword
use Rattle.law_renumber.specs.sql_token.declared.token.Span.{Span}
use Rattle.law_renumber.specs.sql_tree.declared.kinds.StmtKind.TheVariants as stmt
use Rattle.law_renumber.specs.sql_tree.declared.nodes.Stmt.{Stmt}
use Rattle.law_renumber.specs.sql_tree.Path.{path_cuts}
use Rattle.law_renumber.specs.sql_tree.Statement.{Tree}
use Rattle.hazard_find.specs.lint_node.Same.{same_kind}
use Rattle.hazard_find.specs.lint_transaction.Transaction.{is_path, stmt_at}
use Rattle.hazard_find.specs.hazard_base.declared.hazard.Hazard.TheVariants as hazard
use Rattle.hazard_find.specs.Earlier.{is_made_view, made_view, refreshed_view}
use Rattle.hazard_find.specs.Findings.{refreshes, refreshes_by}
use Rattle.hazard_find.specs.Laws.{ViewsAreMadeFirst}
use Rattle.hazard_find.specs.Look.{path_after}
use Rattle.law_hazards.specs.Laws.{ViewsAreNew}
use Rattle.law_hazards.specs.Views.{IsMadeFirst}
use Rattle.law_hazards.proofs.Nodes.{kind_is}
use Rattle.law_hazards.proofs.Numbers.{found_below}
use Rattle.law_hazards.proofs.PathLaws.{Follows, path_follows}
use Rattle.law_hazards.proofs.Silent.{silent}
use Rattle.law_hazards.proofs.TableLaws.{named}

-- what is there where a test holds
there : {X : Type 0} (b : Bool) (o : Option X) (x : X) → cond b o None ≡ Some x → (b ≡ true) × (o ≡ Some x)
there true o x h = (refl, h)
there false o x h = absurd (false≢true (ap is_some h))

filled : (tree : Tree) (s : Stmt) (path : Span) → refreshed_view tree s ≡ Some path → Follows tree (keyword.REFRESH ∷ keyword.MATERIALIZED ∷ keyword.VIEW ∷ []) [] s path
unfolding refreshed_view
filled tree s path h =
    let both = there (same_kind s.kind stmt.Refresh) (path_after tree (keyword.REFRESH ∷ keyword.MATERIALIZED ∷ keyword.VIEW ∷ []) [] s) path h in
    path_follows tree (keyword.REFRESH ∷ keyword.MATERIALIZED ∷ keyword.VIEW ∷ []) [] s path both.1

made : (tree : Tree) (s : Stmt) (path : Span) → made_view tree s ≡ Some path
    → (s.kind ≡ stmt.CreateMaterializedView) × Follows tree (keyword.CREATE ∷ keyword.MATERIALIZED ∷ keyword.VIEW ∷ []) (keyword.IF ∷ keyword.NOT ∷ keyword.EXISTS ∷ []) s path
unfolding made_view
made tree s path h =
    let words = keyword.CREATE ∷ keyword.MATERIALIZED ∷ keyword.VIEW ∷ [] in
    let optional = keyword.IF ∷ keyword.NOT ∷ keyword.EXISTS ∷ [] in
    let both = there (same_kind s.kind stmt.CreateMaterializedView) (path_after tree words optional s) path h in
    (kind_is s.kind stmt.CreateMaterializedView both.0, path_follows tree words optional s path both.1)

made_first : (tree : Tree) (i : ℕ) (o : Option Span) → refreshed_view tree (stmt_at tree i) ≡ o → is_made_view tree i o ≡ true → IsMadeFirst tree i
unfolding is_made_view
made_first tree i None is h = absurd (false≢true h)
made_first tree i (Some path) is h =
    let cuts = path_cuts tree.text tree.toks path in
    let f = found_below (λ j. is_path tree (made_view tree (stmt_at tree j)) cuts) i h in
    let view = named tree (made_view tree (stmt_at tree f.number)) cuts f.passes in
    let makes = made tree (stmt_at tree f.number) view.0 view.1 in
    let fills = filled tree (stmt_at tree i) path is in
    record {
      number = f.number;
      is_earlier = f.is_below;
      makes = makes.0;
      made = makes.1.0;
      filled = fills.0;
      same_view = sym fills.1 ∙ (view.2 ∙ makes.1.1);
    }

pub views_are_new : ViewsAreMadeFirst → ViewsAreNew
unfolding refreshes
views_are_new first enabled settings tree quiet i l has =
    made_first tree i (refreshed_view tree (stmt_at tree i)) refl
    (first enabled settings tree (silent hazard.RefreshBlocksReads enabled settings tree quiet) i l (ap refreshes_by has))
