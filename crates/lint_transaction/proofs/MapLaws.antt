-- How maps of spans change.
use Rattle.std.proofs.Common.{◌≡◌, ◌∙◌, sym, ap, refl, ℕ, Bool, true, false, cond, nat_eq, ◌+◌, ◌<◌, List, [], ◌∷◌, ◌++◌, length, take, get_or, Option, Some, None}
use Rattle.std.proofs.lemmas.Bool.{eqb-true}
use Rattle.std.proofs.lemmas.List.{take_more}
use Rattle.std.specs.Map.{lookup}
use Rattle.std.specs.Option.{option_map, option_or}
use Rattle.sql_tree.specs.sql_token.declared.token.Span.{Span}
use Rattle.sql_tree.specs.Statement.{Tree}
use Rattle.lint_transaction.specs.Transaction.{same_path}
use Rattle.lint_transaction.proofs.Paths.{same_so}
use Rattle.lint_transaction.specs.Events.{last_event}
use Rattle.lint_transaction.specs.SpanMap.{Values, Lists, Writes, is_for, value_if, hashed_value, other_value, get_span, is_free}
use Rattle.lint_transaction.specs.SpanKey.{key_of, hash_of}
use Rattle.lint_transaction.specs.declared.span_key.SpanKey.{SpanKey}
use Rattle.lint_transaction.specs.declared.span_map.Kept.{Kept}
use Rattle.lint_transaction.proofs.EventLaws.{last_event-next}
use Rattle.lint_transaction.proofs.SpanLaws.{nat_eq-same}

-- where nothing is kept
pub empty_map : {V : Type 0} (tree : Tree) (map : Values V) → map.hashed ≡ [] → map.others ≡ [] → (names : List (List ℕ)) → get_span tree map names ≡ None
unfolding get_span
empty_map tree map h o names =
    λ i. option_or (value_if map.key tree names (lookup (nat_eq (hash_of names)) (h i))) (option_map (λ kept. kept.value) (last_event (is_for map.key tree names) (o i)))

-- where nothing is hashed
pub none_hashed : {V : Type 0} (tree : Tree) (map : Values V) → map.hashed ≡ [] → (names : List (List ℕ)) → hashed_value tree map names ≡ None
none_hashed tree map h names = λ i. value_if map.key tree names (lookup (nat_eq (hash_of names)) (h i))

-- where the place of a hash is not free, it is of other names
pub not_free : {V : Type 0} (tree : Tree) (map : Values V) (names : List (List ℕ)) (hash : ℕ) → hash ≡ hash_of names → is_free tree map.key names (lookup (nat_eq hash) map.hashed) ≡ false → hashed_value tree map names ≡ None
not_free {V = V} tree map names hash e h = ap (λ n. value_if map.key tree names (lookup (nat_eq n) map.hashed)) (sym e) ∙ by (lookup (nat_eq hash) map.hashed) h
  where
    by : (o : Option (Kept V)) → is_free tree map.key names o ≡ false → value_if map.key tree names o ≡ None
    by None h = absurd (cc)
    by (Some x) h = ap (λ b. cond b (Some x.value) None) h

module _ {V : Type 0} (tree : Tree) (old new : Values V) (span : Span) (value : V) (own : List (List ℕ)) (own_is : own ≡ key_of old.key tree span) where
  abbrev here : Kept V
  here = record { span = span; value = value }

  abbrev others_of : List (List ℕ) → Option V
  others_of names = other_value tree old names

  -- one more value that is compared by itself
  others_next : (names : List (List ℕ)) → option_map (λ (k : Kept V). k.value) (last_event (is_for old.key tree names) (old.others ++ here ∷ [])) ≡ cond (same_path names own) (Some value) (others_of names)
  others_next names =
      ap (option_map (λ (k : Kept V). k.value)) (last_event-next (is_for old.key tree names) old.others here)
      ∙ ap (λ o. option_map (λ (k : Kept V). k.value) (cond (same_path names o) (Some here) (last_event (is_for old.key tree names) old.others))) (sym own_is)
      ∙ by (same_path names own)
    where
      by : (b : Bool) → option_map (λ (k : Kept V). k.value) (cond b (Some here) (last_event (is_for old.key tree names) old.others)) ≡ cond b (Some value) (others_of names)
      by true = refl
      by false = refl

  -- where the names were not hashed
  pub list_value : Lists old new span value → hashed_value tree old own ≡ None → (names : List (List ℕ)) → get_span tree new names ≡ cond (same_path names own) (Some value) (get_span tree old names)
  unfolding get_span
  list_value h none names =
      (λ i. option_or (value_if (h.key i) tree names (lookup (nat_eq (hash_of names)) (h.hashed i))) (option_map (λ kept. kept.value) (last_event (is_for (h.key i) tree names) (h.others i))))
      ∙ ap (λ o. option_or (hashed_value tree old names) o) (others_next names)
      ∙ by (same_path names own) refl
    where
      by : (b : Bool) → b ≡ same_path names own → option_or (hashed_value tree old names) (cond b (Some value) (others_of names)) ≡ cond b (Some value) (option_or (hashed_value tree old names) (others_of names))
      by true e = ap (λ o. option_or o (Some value)) (ap (hashed_value tree old) (same_so names own (sym e)) ∙ none)
      by false e = refl

  -- where the place of the hash is free
  pub write_value : (hash : ℕ) → hash ≡ hash_of own → Writes old new hash span value → is_free tree old.key own (lookup (nat_eq hash) old.hashed) ≡ true
      → (names : List (List ℕ)) → get_span tree new names ≡ cond (same_path names own) (Some value) (get_span tree old names)
  unfolding get_span
  write_value hash hash_is h free names =
      (λ i. option_or (value_if (h.key i) tree names (h.hashed at i)) (option_map (λ kept. kept.value) (last_event (is_for (h.key i) tree names) (h.others i))))
      ∙ by (same_path names own) refl
    where
      at : ℕ
      at = hash_of names

      was : Option (Kept V) → Option V
      was o = option_or (value_if old.key tree names o) (others_of names)

      named : is_for old.key tree names here ≡ same_path names own
      named = ap (same_path names) (sym own_is)

      -- another value at this place would have these names
      place : (o : Option (Kept V)) → same_path names own ≡ false → is_free tree old.key own o ≡ true → value_if old.key tree names o ≡ None
      place None apart f = refl
      place (Some x) apart f = ap (λ b. cond b (Some x.value) None) (ap (same_path names) (sym (same_so own (key_of old.key tree x.span) f)) ∙ apart)

      hashes : (b : Bool) → b ≡ nat_eq hash at → same_path names own ≡ false → was (cond b (Some here) (lookup (nat_eq at) old.hashed)) ≡ was (lookup (nat_eq at) old.hashed)
      hashes true e apart =
          ap (λ b. option_or (cond b (Some value) None) (others_of names)) (named ∙ apart)
          ∙ ap (λ o. option_or o (others_of names)) (sym (place (lookup (nat_eq at) old.hashed) apart (ap (λ n. is_free tree old.key own (lookup (nat_eq n) old.hashed)) (sym (eqb-true hash at (sym e))) ∙ free)))
      hashes false e apart = refl

      by : (b : Bool) → b ≡ same_path names own → was (cond (nat_eq hash at) (Some here) (lookup (nat_eq at) old.hashed)) ≡ cond b (Some value) (was (lookup (nat_eq at) old.hashed))
      by true e =
          ap (λ c. was (cond c (Some here) (lookup (nat_eq at) old.hashed))) (nat_eq-same hash at (hash_is ∙ ap hash_of (sym (same_so names own (sym e)))))
          ∙ ap (λ c. option_or (cond c (Some value) None) (others_of names)) (named ∙ sym e)
      by false e = hashes (nat_eq hash at) refl (sym e)

-- one more value that is compared by itself was looked at
pub other_next : {V : Type 0} (key : SpanKey) (tree : Tree) (names : List (List ℕ)) (xs : List (Kept V)) (i : ℕ) (x : Kept V) (was now : Option V) (b : Bool) → i < length xs → x ≡ get_or xs i x
    → was ≡ option_map (λ kept. kept.value) (last_event (is_for key tree names) (take i xs)) → b ≡ is_for key tree names x → now ≡ cond b (Some x.value) was
    → now ≡ option_map (λ kept. kept.value) (last_event (is_for key tree names) (take (i + 1) xs))
other_next {V = V} key tree names xs i x was now b l e w b_is n =
    n ∙ (λ j. cond (b_is j) (Some x.value) (w j)) ∙ by (is_for key tree names x)
    ∙ ap (option_map (λ (kept : Kept V). kept.value)) (sym (last_event-next (is_for key tree names) (take i xs) x))
    ∙ ap (λ ys. option_map (λ (kept : Kept V). kept.value) (last_event (is_for key tree names) ys)) (sym (take_more xs i x l ∙ ap (λ y. take i xs ++ y ∷ []) (sym e)))
  where
    by : (c : Bool) → cond c (Some x.value) (option_map (λ kept. kept.value) (last_event (is_for key tree names) (take i xs))) ≡ option_map (λ kept. kept.value) (cond c (Some x) (last_event (is_for key tree names) (take i xs)))
    by true = refl
    by false = refl
