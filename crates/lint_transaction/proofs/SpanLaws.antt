-- How sets of spans change.
use Rattle.std.proofs.Common.{◌≡◌, ◌∙◌, sym, ap, refl, ℕ, Bool, true, false, ◌&&◌, ◌||◌, cond, nat_eq, List, [], ◌∷◌, ◌++◌, Option, Some, None, is_none, Result, Ok, Err, OnOk, arith}
use Rattle.std.proofs.lemmas.Bool.{eqb-true, false≢true}
use Rattle.std.proofs.lemmas.Bool.Decides.{nat_tests}
use Rattle.std.proofs.lemmas.List.Folds.{list_any-append}
use Rattle.std.specs.List.{list_any}
use Rattle.std.specs.Map.{lookup}
use Rattle.sql_tree.specs.sql_token.declared.token.Span.{Span}
use Rattle.sql_tree.specs.Statement.{Tree}
use Rattle.lint_transaction.specs.SpanKey.{key_of, hash_of}
use Rattle.lint_transaction.specs.SpanSet.{Spans, PutsSpan, ListsSpan, has_names, is_some_named, is_hashed, is_other, has_span}
use Rattle.lint_transaction.specs.Transaction.{same_path}
use Rattle.lint_transaction.proofs.Paths.{same_so}

pub on_ok : {X E : Type 0} (r : Result X E) (P Q : Type 0) → (P → Q) → OnOk r P → OnOk r Q
on_ok (Ok x) P Q f p = f p
on_ok (Err e) P Q f p = tt

pub empty_span : (tree : Tree) (set : Spans) → set.hashed ≡ [] → set.others ≡ [] → (names : List (List ℕ)) → has_span tree set names ≡ false
unfolding has_span
empty_span tree set h o names =
    λ i. is_some_named set.key tree names (lookup (nat_eq (hash_of names)) (h i)) || list_any (has_names set.key tree names) (o i)

-- where nothing is hashed
pub none_hashed : (tree : Tree) (set : Spans) → set.hashed ≡ [] → (names : List (List ℕ)) → is_hashed tree set names ≡ false
none_hashed tree set h names = λ i. is_some_named set.key tree names (lookup (nat_eq (hash_of names)) (h i))

-- ---- one more span

rotated : (a b s : Bool) → (a || (b || (s || false))) ≡ (s || (a || b))
rotated true b true = refl
rotated true b false = refl
rotated false true true = refl
rotated false true false = refl
rotated false false true = refl
rotated false false false = refl

pub nat_eq-same : (a b : ℕ) → a ≡ b → nat_eq a b ≡ true
nat_eq-same a b e = grind (arith, nat_tests)

and_false : (a : Bool) → (a && false) ≡ false
and_false true = refl
and_false false = refl

-- a name that is the span's own is in the set already
pub held_span : (tree : Tree) (set : Spans) (own names : List (List ℕ)) → has_span tree set own ≡ true → has_span tree set names ≡ (same_path names own || has_span tree set names)
held_span tree set own names h = by (same_path names own) refl
  where
    by : (s : Bool) → s ≡ same_path names own → has_span tree set names ≡ (s || has_span tree set names)
    by true e = ap (has_span tree set) (same_so names own (sym e)) ∙ h
    by false e = refl

or_of : (a b : Bool) → a ≡ true → (a || b) ≡ true
or_of a b h = ap (λ x. x || b) h

-- what is hashed is in the set
pub hashed_span : (tree : Tree) (set : Spans) (names : List (List ℕ)) → is_hashed tree set names ≡ true → has_span tree set names ≡ true
unfolding has_span
hashed_span tree set names h = or_of (is_hashed tree set names) (is_other tree set names) h

-- what the set has after one more span, whose names are not in it
pub put_span : (tree : Tree) (old new : Spans) (hash : ℕ) (span : Span) (own : List (List ℕ)) → PutsSpan old new hash span → hash ≡ hash_of own → own ≡ key_of old.key tree span → (names : List (List ℕ)) → has_span tree new names ≡ (same_path names own || has_span tree old names)
unfolding has_span
put_span tree old new hash span own h hash_is own_is names =
    (λ i. is_some_named (h.key i) tree names (lookup (nat_eq (hash_of names)) new.hashed) || list_any (has_names (h.key i) tree names) (h.others i))
    ∙ ap (λ o. is_some_named old.key tree names o || list_any (has_names old.key tree names) (cond (is_none (lookup (nat_eq hash) old.hashed)) old.others (old.others ++ span ∷ []))) (h.hashed at)
    ∙ by (lookup (nat_eq hash) old.hashed) refl
  where
    at : ℕ
    at = hash_of names

    kept : Bool
    kept = is_other tree old names

    was : Option Span → Bool
    was = is_some_named old.key tree names

    here : Bool
    here = is_some_named old.key tree names (lookup (nat_eq at) old.hashed)

    same : has_names old.key tree names span ≡ same_path names own
    same = ap (same_path names) (sym own_is)

    -- other hashes, other names
    other : (b : Bool) → b ≡ same_path names own → nat_eq hash at ≡ false → same_path names own ≡ false
    other true e apart =
        let equal : hash ≡ at = hash_is ∙ ap hash_of (sym (same_so names own (sym e))) in
        absurd (false≢true (sym apart ∙ nat_eq-same hash at equal))
    other false e apart = sym e

    new_hash : (b : Bool) → b ≡ nat_eq hash at → None ≡ lookup (nat_eq hash) old.hashed →
        (was (cond (b && true) (Some span) (lookup (nat_eq at) old.hashed)) || kept) ≡ (same_path names own || (here || kept))
    new_hash true b none =
        let there : None ≡ lookup (nat_eq at) old.hashed = none ∙ ap (λ k. lookup (nat_eq k) old.hashed) (eqb-true hash at (sym b)) in
        ap (λ s. s || kept) same ∙ ap (λ o. same_path names own || (was o || kept)) there
    new_hash false b none = ap (λ s. s || (here || kept)) (sym (other (same_path names own) refl (sym b)))

    by : (o : Option Span) → o ≡ lookup (nat_eq hash) old.hashed →
        (was (cond (nat_eq hash at && is_none o) (Some span) (lookup (nat_eq at) old.hashed)) || list_any (has_names old.key tree names) (cond (is_none o) old.others (old.others ++ span ∷ [])))
        ≡ (same_path names own || (here || kept))
    by None e = new_hash (nat_eq hash at) refl e
    by (Some x) e =
        ap (λ b. was (cond b (Some span) (lookup (nat_eq at) old.hashed)) || list_any (has_names old.key tree names) (old.others ++ span ∷ [])) (and_false (nat_eq hash at))
        ∙ ap (λ b. here || b) (list_any-append (has_names old.key tree names) old.others (span ∷ []))
        ∙ rotated here kept (has_names old.key tree names span)
        ∙ ap (λ s. s || (here || kept)) same

-- what the set has after one more span that is compared by itself
pub list_span : (tree : Tree) (old new : Spans) (span : Span) → ListsSpan old new span → (names : List (List ℕ)) → has_span tree new names ≡ (same_path names (key_of old.key tree span) || has_span tree old names)
unfolding has_span
list_span tree old new span h names =
    let own = has_names old.key tree names in
    (λ i. is_some_named (h.key i) tree names (lookup (nat_eq (hash_of names)) (h.hashed i)) || list_any (has_names (h.key i) tree names) (h.others i))
    ∙ ap (λ b. is_hashed tree old names || b) (list_any-append own old.others (span ∷ []))
    ∙ rotated (is_hashed tree old names) (is_other tree old names) (own span)
