-- Terminals that end in a semicolon outside of brackets, and then others, are cut into the statements of both.
use Rattle.std.proofs.Common.{◌≡◌, ◌∙◌, ℕ, suc, ◌+◌, Bool, true, false, List, [], ◌∷◌, ◌++◌, refl, ap, sym, arith}
use Rattle.std.proofs.lemmas.Bool.{false≢true}
use Rattle.std.proofs.lemmas.Bool.Decides.{nat_tests}
use Rattle.std.specs.Prelude.{◌==◌, ◌&&◌, if◌then◌else◌}
use Rattle.law_edit_cuts.specs.sql_token.declared.terminal.Symbol.{Symbol}
use Rattle.law_edit_cuts.specs.sql_token.declared.terminal.Symbol.TheVariants as s
use Rattle.law_edit_cuts.specs.sql_token.declared.terminal.Terminal.{Terminal}
use Rattle.law_edit_cuts.specs.sql_token.Depth.{closed, one_if, onto, opened, statements_from}
use Rattle.law_edit_cuts.specs.sql_token.Terminal.{is_closer, is_closer_symbol, is_opener, is_opener_symbol, is_semicolon, is_semicolon_symbol}
use Rattle.law_joined_texts.specs.Joined.{ends_in_semicolon}

-- the last terminal is a semicolon that ends a statement, where o openers and c closers came before
abbrev pub ends_whole : ℕ → ℕ → List Terminal → Bool
ends_whole o c [] = false
ends_whole o c (t ∷ []) = o == c && is_semicolon t
ends_whole o c (t ∷ u ∷ ts) =
    if o == c && is_semicolon t then ends_whole 0 0 (u ∷ ts)
    else ends_whole (o + one_if (is_opener t)) (c + one_if (is_closer t)) (u ∷ ts)

-- ---- how the terminals are cut

-- at least one list
record Some (all : List (List Terminal)) : Type 0 where
  first : List Terminal
  others : List (List Terminal)
  is : all ≡ first ∷ others

onto_some : (t : Terminal) (all : List (List Terminal)) → Some (onto t all)
onto_some t [] = record { first = t ∷ []; others = []; is = refl }
onto_some t (p ∷ ps) = record { first = t ∷ p; others = ps; is = refl }

cut_some : (o c : ℕ) (t : Terminal) (ts : List Terminal) → Some (statements_from o c (t ∷ ts))
cut_some o c t ts = by (o == c && is_semicolon t) (statements_from (o + one_if (is_opener t)) (c + one_if (is_closer t)) ts)
  where
    by : (b : Bool) (all : List (List Terminal)) → Some (if b then (t ∷ []) ∷ statements_from 0 0 ts else onto t all)
    by true all = record { first = t ∷ []; others = statements_from 0 0 ts; is = refl }
    by false all = onto_some t all

onto_joined : (t : Terminal) (all more : List (List Terminal)) → Some all → onto t (all ++ more) ≡ onto t all ++ more
onto_joined t [] more h = absurd (cc (h.is))
onto_joined t (p ∷ ps) more h = refl

pub cut_joined : (o c : ℕ) (ts us : List Terminal) → ends_whole o c ts ≡ true → statements_from o c (ts ++ us) ≡ statements_from o c ts ++ statements_from 0 0 us
cut_joined o c [] us h = absurd (false≢true h)
cut_joined o c (t ∷ []) us h =
    let o' : ℕ = o + one_if (is_opener t) in
    let c' : ℕ = c + one_if (is_closer t) in
    (λ i. if h i then (t ∷ []) ∷ statements_from 0 0 us else onto t (statements_from o' c' us))
    ∙ sym (λ i. (if h i then (t ∷ []) ∷ [] else onto t []) ++ statements_from 0 0 us)
cut_joined o c (t ∷ u ∷ ts) us h =
    by (o == c && is_semicolon t) h (cut_joined 0 0 (u ∷ ts) us) (cut_joined (o + one_if (is_opener t)) (c + one_if (is_closer t)) (u ∷ ts) us)
  where
    o' : ℕ
    o' = o + one_if (is_opener t)

    c' : ℕ
    c' = c + one_if (is_closer t)

    by : (b : Bool) → (if b then ends_whole 0 0 (u ∷ ts) else ends_whole o' c' (u ∷ ts)) ≡ true
        → (ends_whole 0 0 (u ∷ ts) ≡ true → statements_from 0 0 (u ∷ ts ++ us) ≡ statements_from 0 0 (u ∷ ts) ++ statements_from 0 0 us)
        → (ends_whole o' c' (u ∷ ts) ≡ true → statements_from o' c' (u ∷ ts ++ us) ≡ statements_from o' c' (u ∷ ts) ++ statements_from 0 0 us)
        → (if b then (t ∷ []) ∷ statements_from 0 0 (u ∷ ts ++ us) else onto t (statements_from o' c' (u ∷ ts ++ us)))
        ≡ (if b then (t ∷ []) ∷ statements_from 0 0 (u ∷ ts) else onto t (statements_from o' c' (u ∷ ts))) ++ statements_from 0 0 us
    by true h ended goes_on = ap (λ all. (t ∷ []) ∷ all) (ended h)
    by false h ended goes_on = ap (onto t) (goes_on h) ∙ onto_joined t (statements_from o' c' (u ∷ ts)) (statements_from 0 0 us) (cut_some o' c' u ts)

-- ---- a semicolon at the end of sound statements ends one

-- Where o openers and c closers came before the first of these statements, each has as many openers as closers.
abbrev pub AreLevel : ℕ → ℕ → List (List Terminal) → Type 0
AreLevel o c [] = Unit {0}
AreLevel o c (p ∷ ps) = (o + opened p ≡ c + closed p) × AreLevel 0 0 ps

semicolon_alone : (t : Terminal) → is_semicolon t ≡ true → (is_opener t ≡ false) × (is_closer t ≡ false)
unfolding is_semicolon is_opener is_closer
semicolon_alone t h = by t.symbol h
  where
    by : (x : Symbol) → is_semicolon_symbol x ≡ true → (is_opener_symbol x ≡ false) × (is_closer_symbol x ≡ false)
    by s.Semicolon h = (refl, refl)
    by _ h = absurd (false≢true h)

count_one : (n m : ℕ) (b : Bool) → n + (if b then suc m else m) ≡ (n + one_if b) + m
count_one n m true = omega arith
count_one n m false = omega arith

onto_level : (o c : ℕ) (t : Terminal) (all : List (List Terminal)) → Some all → AreLevel o c (onto t all) → AreLevel (o + one_if (is_opener t)) (c + one_if (is_closer t)) all
onto_level o c t [] some h = absurd (cc (some.is))
onto_level o c t (p ∷ ps) some h = (sym (count_one o (opened p) (is_opener t)) ∙ h.0 ∙ count_one c (closed p) (is_closer t), h.1)

level_last : (o c : ℕ) (t : Terminal) → is_semicolon t ≡ true → o + opened (t ∷ []) ≡ c + closed (t ∷ []) → (o == c) ≡ true
level_last o c t semi h =
    let alone = semicolon_alone t semi in
    let same : o + 0 ≡ c + 0 = sym (λ i. o + (if alone.0 i then 1 else 0)) ∙ h ∙ (λ i. c + (if alone.1 i then 1 else 0)) in
    equal o c (omega arith)
  where
    equal : (o c : ℕ) → o ≡ c → (o == c) ≡ true
    equal o c e = grind (arith, nat_tests)

pub level_ends : (o c : ℕ) (ts : List Terminal) → ends_in_semicolon ts ≡ true → AreLevel o c (statements_from o c ts) → ends_whole o c ts ≡ true
level_ends o c [] semi h = absurd (false≢true semi)
level_ends o c (t ∷ []) semi h = by (o == c) refl h
  where
    by : (b : Bool) → (o == c) ≡ b → AreLevel o c (if b && is_semicolon t then (t ∷ []) ∷ [] else onto t []) → (b && is_semicolon t) ≡ true
    by true e h = semi
    by false e h = absurd (false≢true (sym e ∙ level_last o c t semi h.0))
level_ends o c (t ∷ u ∷ ts) semi h =
    by (o == c && is_semicolon t) h (level_ends 0 0 (u ∷ ts) semi) (level_ends (o + one_if (is_opener t)) (c + one_if (is_closer t)) (u ∷ ts) semi)
  where
    o' : ℕ
    o' = o + one_if (is_opener t)

    c' : ℕ
    c' = c + one_if (is_closer t)

    by : (b : Bool) → AreLevel o c (if b then (t ∷ []) ∷ statements_from 0 0 (u ∷ ts) else onto t (statements_from o' c' (u ∷ ts)))
        → (AreLevel 0 0 (statements_from 0 0 (u ∷ ts)) → ends_whole 0 0 (u ∷ ts) ≡ true)
        → (AreLevel o' c' (statements_from o' c' (u ∷ ts)) → ends_whole o' c' (u ∷ ts) ≡ true)
        → (if b then ends_whole 0 0 (u ∷ ts) else ends_whole o' c' (u ∷ ts)) ≡ true
    by true h ended goes_on = ended h.1
    by false h ended goes_on = goes_on (onto_level o c t (statements_from o' c' (u ∷ ts)) (cut_some o' c' u ts) h)
