use Rattle.std.proofs.Common.{subst, ◌≡◌, ◌∙◌, ◌∷◌, [], ◌++◌, All, List, map, ap, arith, sym, suc}
use Rattle.std.proofs.lemmas.List.{map-append}
use Rattle.lsp_shown.specs.Shown.{change_of}
use Rattle.lsp_shown.specs.Places.{EditIn}
use Rattle.lsp_shown.proofs.report.changes_of.Goals as goal

-- what holds of all holds of those after the first
all_after : {A : Type 0} (P : A → Type 0) (x : A) (all rest : List A) → all ≡ x ∷ rest → All P all → All P rest
all_after P x all rest e h = let g : All P (x ∷ rest) = subst (λ xs. All P xs) e h in λ k d l. g (suc k) d (omega arith)

pub loop-edit-preserved : goal.loop-edit-preserved
loop-edit-preserved c = (
  c.in_ok-push.ensures.items ∙ ap (λ xs. xs ++ c.change_of.result ∷ []) c.loop-edit.invariant.0
      ∙ ap (λ x. map (change_of c.args.index.now) c.loop-edit.yielded ++ x ∷ []) c.change_of.ensures
      ∙ sym (map-append (change_of c.args.index.now) c.loop-edit.yielded (c.in-Some.edit ∷ [])),
  all_after (EditIn c.args.index.now) c.in-Some.edit c.loop-edit.edit-iterator.rest.items c.next.new.self.rest.items c.in-Some.ensures.steps.0 c.loop-edit.invariant.1,
)
