-- What is known of dropped constraints goes on from action to action.
use Rattle.std.proofs.Common.{◌≡◌, ◌∙◌, sym, ap, refl, ℕ, Bool, true, false, ◌&&◌, ◌||◌, not, cond, List, [], ◌∷◌, ◌++◌, Option, Some, None}
use Rattle.std.specs.List.{list_any}
use Rattle.std.specs.Option.{option_map, unwrap_or}
use Rattle.sql_tree.specs.declared.nodes.Action.{Action}
use Rattle.lint_pass.specs.sql_token.declared.token.Span.{Span}
use Rattle.sql_tree.specs.Statement.{Tree}
use Rattle.lint_pass.specs.lint_node.Altered.{Altered, altered}
use Rattle.lint_pass.specs.lint_transaction.Names.{is_name}
use Rattle.pass_history.specs.Constraints.{added_name, dropped_name}
use Rattle.pass_history.specs.Dropped.{IsDropping, known_drop, after_add, after_drop, drops, adds, was_dropped, is_gone}
use Rattle.lint_pass.specs.lint_transaction.Events.{since_event}
use Rattle.lint_pass.specs.lint_transaction.SpanMap.{Values}
use Rattle.lint_pass.proofs.of_lint_transaction.EventLaws.{since_event-next, list_any-next}

-- a constraint that is gone was dropped
pub gone_dropped : {E : Type 0} (mark reset : E → Bool) (es : List E) → list_any mark es ≡ false → since_event mark reset es ≡ false
gone_dropped mark reset [] h = refl
gone_dropped mark reset (e ∷ es) h = by (mark e) (list_any mark es) (not (list_any reset es)) (since_event mark reset es) h (gone_dropped mark reset es)
  where
    by : (m l r s : Bool) → (m || l) ≡ false → (l ≡ false → s ≡ false) → ((m && r) || s) ≡ false
    by true l r s h k = absurd (cc)
    by false l r s h k = k h

dropping_cases : (drop add was gone : Bool) → cond drop (Some true) (cond add (option_map (λ _. false) (cond was (Some gone) None)) (cond was (Some gone) None)) ≡ cond (was || drop) (Some (drop || (gone && not add))) None
dropping_cases true add true gone = refl
dropping_cases true add false gone = refl
dropping_cases false true true true = refl
dropping_cases false true true false = refl
dropping_cases false true false gone = refl
dropping_cases false false true true = refl
dropping_cases false false true false = refl
dropping_cases false false false gone = refl

module _ (tree : Tree) (table : Span) (a : Action) (add drop : Option ℕ) (add_is : add ≡ added_name a) (drop_is : drop ≡ dropped_name a) (old mid new : Values Bool) where
  pub dropping_next : ((name : List ℕ) → known_drop tree mid name ≡ after_add tree name add (known_drop tree old name)) → ((name : List ℕ) → known_drop tree new name ≡ after_drop tree name drop (known_drop tree mid name))
      → new.key ≡ mid.key → mid.key ≡ old.key → (es : List Altered) → IsDropping tree es old → IsDropping tree (es ++ altered table a ∷ []) new
  dropping_next added taken kept same es h = record {
    by_name = kept ∙ same ∙ h.by_name;
    known = λ name.
        taken name ∙ ap (after_drop tree name drop) (added name)
        ∙ (λ i. after_drop tree name (drop_is i) (after_add tree name (add_is i) (h.known name i)))
        ∙ dropping_cases (is_name tree name (dropped_name a)) (is_name tree name (added_name a)) (was_dropped tree es name) (is_gone tree es name)
        ∙ sym (λ i. cond (list_any-next (drops tree name) es (altered table a) i) (Some (since_event-next (drops tree name) (adds tree name) es (altered table a) i)) None);
  }

-- what is known says whether a constraint is gone
pub gone_by : (tree : Tree) (es : List Altered) (map : Values Bool) → IsDropping tree es map → (name : List ℕ) (b : Bool) → b ≡ unwrap_or (known_drop tree map name) false → b ≡ is_gone tree es name
gone_by tree es map h name b e = e ∙ ap (λ o. unwrap_or o false) (h.known name) ∙ by (was_dropped tree es name) refl
  where
    by : (w : Bool) → w ≡ was_dropped tree es name → unwrap_or (cond w (Some (is_gone tree es name)) None) false ≡ is_gone tree es name
    by true q = refl
    by false q = sym (gone_dropped (drops tree name) (adds tree name) es (sym q))
