-- The statements of a text, terminal by terminal.
use Rattle.std.proofs.Common.{◌≡◌, ◌∙◌, ◌≤◌, ◌+◌, ◌-◌, ◌==◌, ◌&&◌, if◌then◌else◌, ℕ, zero, suc, Bool, true, false, List, [], ◌∷◌, length, take, drop, refl, sym, ap, add-zero, zero-add, arith, length-drop}
use Rattle.std.specs.Prelude.{slice_index_or}
use Rattle.sql_token.specs.declared.terminal.Terminal.{Terminal}
use Rattle.sql_token.specs.Chunks.{chunks_after, chunks}
use Rattle.sql_token.specs.Depth.{opened, closed, nothing, first_place, first_len, statements, one_if, onto, statements_from}
use Rattle.sql_token.specs.Terminal.{is_opener, is_closer, is_semicolon}
use Rattle.sql_token.proofs.Chunks.{chunks_skipped}

-- whether a statement may end at the place i, where o openers and c closers came before
ends_from : ℕ → ℕ → List Terminal → ℕ → Bool
ends_from o c ts i = o + opened (take i ts) == c + closed (take i ts) && is_semicolon (slice_index_or ts i nothing)

-- how many terminals come before the end of the statement
place : ℕ → ℕ → List Terminal → ℕ
place o c [] = 0
place o c (t ∷ ts) = if o == c && is_semicolon t then 0 else suc (place (o + one_if (is_opener t)) (c + one_if (is_closer t)) ts)

count_more : (n m : ℕ) (b : Bool) → n + (if b then suc m else m) ≡ n + one_if b + m
count_more n m true = omega arith
count_more n m false = omega arith

ends_here : (o c : ℕ) (t : Terminal) (ts : List Terminal) → ends_from o c (t ∷ ts) 0 ≡ (o == c && is_semicolon t)
unfolding ends_from
ends_here o c t ts = λ k. add-zero o k == add-zero c k && is_semicolon t

ends_later : (o c : ℕ) (t : Terminal) (ts : List Terminal) (i : ℕ) → ends_from o c (t ∷ ts) (suc i) ≡ ends_from (o + one_if (is_opener t)) (c + one_if (is_closer t)) ts i
unfolding ends_from
ends_later o c t ts i =
    λ k. count_more o (opened (take i ts)) (is_opener t) k == count_more c (closed (take i ts)) (is_closer t) k && is_semicolon (slice_index_or ts i nothing)

place_first : (o c : ℕ) (ts : List Terminal) → first_place (ends_from o c ts) (length ts) ≡ place o c ts
unfolding place
place_first o c [] = refl
place_first o c (t ∷ ts) =
    (λ k. if ends_here o c t ts k then 0 else suc (first_place (λ i. ends_later o c t ts i k) (length ts)))
    ∙ ap (λ n. if o == c && is_semicolon t then 0 else suc n) (place_first (o + one_if (is_opener t)) (c + one_if (is_closer t)) ts)

len_place : (ts : List Terminal) → first_len ts ≡ suc (place 0 0 ts)
unfolding ends_from
len_place ts =
    ap suc (sym (λ k. first_place (λ i. zero-add (opened (take i ts)) k == zero-add (closed (take i ts)) k && is_semicolon (slice_index_or ts i nothing)) (length ts)) ∙ place_first 0 0 ts)

onto_cut : (t : Terminal) (n : ℕ) (ts : List Terminal) (others : List (List Terminal)) → onto t (take n ts ∷ others) ≡ (t ∷ take n ts) ∷ others
onto_cut t n ts others = refl

-- the first statement, and those after it
first_cut : (o c : ℕ) (t : Terminal) (ts : List Terminal) →
    statements_from o c (t ∷ ts) ≡ take (suc (place o c (t ∷ ts))) (t ∷ ts) ∷ statements_from 0 0 (drop (place o c (t ∷ ts)) ts)
unfolding place
first_cut o c t [] = by (o == c && is_semicolon t)
  where
    by : (b : Bool) → (if b then (t ∷ []) ∷ [] else onto t []) ≡ take (suc (if b then 0 else 1)) (t ∷ []) ∷ statements_from 0 0 (drop (if b then 0 else 1) [])
    by true = refl
    by false = refl
first_cut o c t (u ∷ us) = by (o == c && is_semicolon t) _ _ (first_cut (o + one_if (is_opener t)) (c + one_if (is_closer t)) u us)
  where
    by : (b : Bool) (n : ℕ) (all : List (List Terminal)) → all ≡ take (suc n) (u ∷ us) ∷ statements_from 0 0 (drop n us) →
        (if b then (t ∷ []) ∷ statements_from 0 0 (u ∷ us) else onto t all)
        ≡ take (suc (if b then 0 else suc n)) (t ∷ u ∷ us) ∷ statements_from 0 0 (drop (if b then 0 else suc n) (u ∷ us))
    by true n all e = refl
    by false n all e = ap (onto t) e

chunked : (n : ℕ) (ts : List Terminal) → length ts ≤ n → chunks_after first_len 0 ts ≡ statements_from 0 0 ts
chunked n [] h = refl
chunked zero (t ∷ ts) h = absurd (omega arith)
chunked (suc n) (t ∷ ts) h =
    let p : ℕ = place 0 0 (t ∷ ts) in
    let less : suc p - 1 ≡ p = omega arith in
    let shorter : length (drop p ts) ≤ n = omega (arith, length-drop p ts) in
    (λ k. take (len_place (t ∷ ts) k) (t ∷ ts) ∷ chunks_after first_len (len_place (t ∷ ts) k - 1) ts)
    ∙ ap (λ others. take (suc p) (t ∷ ts) ∷ others) (ap (λ m. chunks_after first_len m ts) less ∙ chunks_skipped first_len p ts ∙ chunked n (drop p ts) shorter)
    ∙ sym (first_cut 0 0 t ts)

-- the statements are those that a count of openers and closers finds
pub by_counts : (ts : List Terminal) → statements ts ≡ statements_from 0 0 ts
unfolding statements chunks
by_counts ts = chunked (length ts) ts (omega arith)
