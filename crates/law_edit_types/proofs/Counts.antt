-- How many brackets lists of terminals open and close.
use Rattle.std.proofs.Common.{◌≡◌, ◌≤◌, ◌⊎◌, inl, inr, ℕ, suc, ◌+◌, Bool, true, false, cond, List, [], ◌∷◌, ◌++◌, length, take, drop, refl, ◌∙◌, arith, Option, Some}
use Rattle.std.proofs.lemmas.Bool.{false≢true, and_parts, and_from}
use Rattle.std.proofs.lemmas.Bool.Decides.{nat_tests}
use Rattle.std.specs.Prelude.{◌==◌, ◌&&◌}
use Rattle.std.specs.List.{list_all}
use Rattle.law_edit_inserts.specs.sql_token.declared.terminal.Symbol.{Symbol}
use Rattle.law_edit_inserts.specs.sql_token.declared.terminal.Symbol.TheVariants as s
use Rattle.law_edit_inserts.specs.sql_token.declared.terminal.Terminal.{Terminal}
use Rattle.law_edit_inserts.specs.sql_token.Terminal.{is_opener, is_closer, is_name, is_opener_symbol, is_closer_symbol, is_name_symbol}
use Rattle.law_edit_inserts.specs.sql_token.Depth.{one_if, opened, closed}
use Rattle.law_edit_inserts.specs.sql_tree.Split.{Test, before_from}
use Rattle.law_edit_inserts.specs.law_edit_tokens.Beside.{ends_with_name}
use Rattle.law_edit_inserts.proofs.of_law_edit_cuts.Nested.{opened_is, closed_is}

pub opened_append : (xs ys : List Terminal) → opened (xs ++ ys) ≡ opened xs + opened ys
opened_append [] ys = omega arith
opened_append (x ∷ xs) ys = by (is_opener x) (opened_append xs ys)
  where
    by : (b : Bool) → opened (xs ++ ys) ≡ opened xs + opened ys → cond b (suc (opened (xs ++ ys))) (opened (xs ++ ys)) ≡ cond b (suc (opened xs)) (opened xs) + opened ys
    by true e = omega (arith, e)
    by false e = e

pub closed_append : (xs ys : List Terminal) → closed (xs ++ ys) ≡ closed xs + closed ys
closed_append [] ys = omega arith
closed_append (x ∷ xs) ys = by (is_closer x) (closed_append xs ys)
  where
    by : (b : Bool) → closed (xs ++ ys) ≡ closed xs + closed ys → cond b (suc (closed (xs ++ ys))) (closed (xs ++ ys)) ≡ cond b (suc (closed xs)) (closed xs) + closed ys
    by true e = omega (arith, e)
    by false e = e

-- no brackets, as names have none
pub record Flat (ts : List Terminal) : Type 0 where
  pub opens : opened ts ≡ 0
  pub closes : closed ts ≡ 0

pub none_flat : Flat []
none_flat = record { opens = refl; closes = refl }

pub name_flat : (t : Terminal) → is_name t ≡ true → (is_opener t ≡ false) × (is_closer t ≡ false)
unfolding is_name is_opener is_closer
name_flat t h = by t.symbol h
  where
    by : (x : Symbol) → is_name_symbol x ≡ true → (is_opener_symbol x ≡ false) × (is_closer_symbol x ≡ false)
    by (s.Keyword w) h = (refl, refl)
    by s.Word h = (refl, refl)
    by s.Quoted h = (refl, refl)
    by x h = absurd (false≢true h)

pub names_flat : (ts : List Terminal) → list_all is_name ts ≡ true → Flat ts
names_flat [] h = none_flat
names_flat (t ∷ ts) h =
    let both = and_parts (is_name t) (list_all is_name ts) h in
    let f = name_flat t both.0 in
    let r = names_flat ts both.1 in
    record { opens = opened_is t ts false f.0 ∙ r.opens; closes = closed_is t ts false f.1 ∙ r.closes }

-- names after names
pub names_append : (xs ys : List Terminal) → list_all is_name xs ≡ true → list_all is_name ys ≡ true → list_all is_name (xs ++ ys) ≡ true
names_append [] ys h g = g
names_append (x ∷ xs) ys h g = let both = and_parts (is_name x) (list_all is_name xs) h in and_from (is_name x) (list_all is_name (xs ++ ys)) both.0 (names_append xs ys both.1 g)

pub names_end : (x : Terminal) (xs : List Terminal) → list_all is_name (x ∷ xs) ≡ true → ends_with_name (x ∷ xs) ≡ true
names_end x [] h = (and_parts (is_name x) true h).0
names_end x (y ∷ xs) h = names_end y xs (and_parts (is_name x) (list_all is_name (y ∷ xs)) h).1

-- ---- up to a mark

-- What is before the first mark has all its brackets closed, or is all; and the mark is next, or nothing. (The mark is the same
-- whatever comes before it.)
pub record Stops (begins : List Terminal → Bool) (o c : ℕ) (xs ys : List Terminal) : Type 0 where
  pub begins_there : begins ys ≡ true
  pub level : (o + opened xs ≡ c + closed xs) ⊎ (ys ≡ [])

pub stops : (mark : Test) (begins : List Terminal → Bool) → begins [] ≡ true → ((e : Option Terminal) (t : Terminal) (ts : List Terminal) → mark e t ts ≡ true → begins (t ∷ ts) ≡ true) → (e : Option Terminal) (o c : ℕ) (ts : List Terminal) →
    Stops begins o c (take (before_from mark e o c ts) ts) (drop (before_from mark e o c ts) ts)
stops mark begins none some e o c [] = record { begins_there = none; level = inr refl }
stops mark begins none some e o c (t ∷ ts) = by (o == c) (mark e t ts) refl refl (stops mark begins none some (Some t) (o + one_if (is_opener t)) (c + one_if (is_closer t)) ts)
  where
    n : ℕ
    n = before_from mark (Some t) (o + one_if (is_opener t)) (c + one_if (is_closer t)) ts

    equal : (o == c) ≡ true → o ≡ c
    equal h = grind (arith, nat_tests)

    count : (b : Bool) (n m : ℕ) → n + one_if b + m ≡ n + cond b (suc m) m
    count true n m = omega arith
    count false n m = omega arith

    further : Stops begins (o + one_if (is_opener t)) (c + one_if (is_closer t)) (take n ts) (drop n ts) → Stops begins o c (t ∷ take n ts) (drop n ts)
    further b = record {
      begins_there = b.begins_there;
      level = elim b.level [
        | inl l ↦ (let x = count (is_opener t) o (opened (take n ts)) in let y = count (is_closer t) c (closed (take n ts)) in inl (omega arith))
        | inr l ↦ inr l
      ];
    }

    by : (a b : Bool) → (o == c) ≡ a → mark e t ts ≡ b → Stops begins (o + one_if (is_opener t)) (c + one_if (is_closer t)) (take n ts) (drop n ts) →
        Stops begins o c (take (cond (a && b) 0 (suc n)) (t ∷ ts)) (drop (cond (a && b) 0 (suc n)) (t ∷ ts))
    by true true p q b = record { begins_there = some e t ts q; level = (let same = equal p in inl (omega arith)) }
    by true false p q b = further b
    by false true p q b = further b
    by false false p q b = further b

pub before_within : (mark : Test) (e : Option Terminal) (o c : ℕ) (ts : List Terminal) → before_from mark e o c ts ≤ length ts
before_within mark e o c [] = omega arith
before_within mark e o c (t ∷ ts) = by (o == c && mark e t ts) (before_within mark (Some t) (o + one_if (is_opener t)) (c + one_if (is_closer t)) ts)
  where
    by : (b : Bool) → before_from mark (Some t) (o + one_if (is_opener t)) (c + one_if (is_closer t)) ts ≤ length ts →
        cond b 0 (suc (before_from mark (Some t) (o + one_if (is_opener t)) (c + one_if (is_closer t)) ts)) ≤ suc (length ts)
    by true h = omega arith
    by false h = omega arith
