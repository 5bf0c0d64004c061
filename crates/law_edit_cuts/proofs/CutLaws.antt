-- Statements, and the parts between commas, where a run is exchanged.
use Rattle.std.proofs.Common.{◌≡◌, ◌≤◌, ℕ, ◌+◌, Bool, true, false, cond, List, [], ◌∷◌, ◌++◌, append_assoc, sym, refl, ap, ◌∙◌, arith, Option, Some, None}
use Rattle.std.specs.Prelude.{◌==◌, ◌&&◌}
use Rattle.law_renumber.specs.sql_token.declared.terminal.Terminal.{Terminal}
use Rattle.law_renumber.specs.sql_token.Terminal.{is_opener, is_closer, is_semicolon}
use Rattle.law_renumber.specs.sql_token.Depth.{onto, one_if, opened, closed, statements, statements_from}
use Rattle.law_renumber.proofs.of_sql_token.Statements.{by_counts}
use Rattle.law_renumber.specs.sql_tree.Split.{split, split_from, comma}
use Rattle.law_edit_cuts.specs.Runs.{is_comma}
use Rattle.law_edit_cuts.specs.Exchanges.{joined, StatementsStay, StatementExchanges, PartsStay, PartExchanges}
use Rattle.law_edit_cuts.proofs.Cuts.{head_of, tail_of, onto_all, onto_list, IsMark, cut_from, Goes, goes_run, reached, run_at}

append_none : (xs : List Terminal) → xs ++ [] ≡ xs
append_none [] = refl
append_none (x ∷ xs) = ap (λ (l : List Terminal). x ∷ l) (append_none xs)

no_more : (y : Terminal) (p : List Terminal) (u : Terminal) (z : List Terminal) → [] ≡ p ++ u ∷ z → ⊥
no_more y [] u z e = cc
no_more y (x ∷ p) u z e = cc

from_none : (earlier : List Terminal) → closed earlier ≤ opened earlier → 0 + closed earlier ≤ 0 + opened earlier
from_none earlier low = omega arith

-- ---- statements

abbrev own : Terminal → List Terminal
own t = t ∷ []

abbrev cut : ℕ → ℕ → List Terminal → List (List Terminal)
cut o c ts = cut_from is_semicolon own [] o c ts

cut_is : (o c : ℕ) (ts : List Terminal) → statements_from o c ts ≡ cut o c ts
cut_is o c [] = refl
cut_is o c (t ∷ ts) =
    let ended = cut_is 0 0 ts in
    let later = cut_is (o + one_if (is_opener t)) (c + one_if (is_closer t)) ts in
    λ i. cond (o == c && is_semicolon t) ((t ∷ []) ∷ ended i) (onto t (later i))

statements_are : (ts : List Terminal) → statements ts ≡ cut 0 0 ts
statements_are ts = by_counts ts ∙ cut_is 0 0 ts

no_opener : (t : Terminal) → is_semicolon t ≡ true → is_opener t ≡ false
unfolding is_semicolon is_opener
no_opener t h = grind arith

own_is : IsMark own []
own_is = record { itself = λ t r z e. itself t r z e; short = λ t y p u z e. no_more y p u z (rest e); empty = refl; alone = refl }
  where
    itself : (t r : Terminal) (z : List Terminal) → t ∷ [] ≡ r ∷ z → t ≡ r
    itself t r z e = cc

    rest : {x y : Terminal} {us vs : List Terminal} → x ∷ us ≡ y ∷ vs → us ≡ vs
    rest e = cc

-- ---- the text of statements

pub joined_onto : (t : Terminal) (ss : List (List Terminal)) → joined (onto t ss) ≡ t ∷ joined ss
joined_onto t [] = refl
joined_onto t (s ∷ ss) = refl

joined_all : (front : List Terminal) (ss : List (List Terminal)) → joined (onto_all front ss) ≡ front ++ joined ss
joined_all [] ss = refl
joined_all (t ∷ front) ss = joined_onto t (onto_all front ss) ∙ ap (λ (l : List Terminal). t ∷ l) (joined_all front ss)

joined_append : (ss us : List (List Terminal)) → joined (ss ++ us) ≡ joined ss ++ joined us
joined_append [] us = refl
joined_append (s ∷ ss) us = ap (λ (l : List Terminal). s ++ l) (joined_append ss us) ∙ sym (append_assoc s (joined ss) (joined us))

joined_parts : (ss : List (List Terminal)) → joined ss ≡ head_of ss ++ joined (tail_of ss)
joined_parts [] = refl
joined_parts (s ∷ ss) = refl

joined_cut : (o c : ℕ) (ts : List Terminal) → joined (cut o c ts) ≡ ts
joined_cut o c [] = refl
joined_cut o c (t ∷ ts) = by (o == c && is_semicolon t) (joined_cut 0 0 ts) (joined_cut (o + one_if (is_opener t)) (c + one_if (is_closer t)) ts)
  where
    by : (b : Bool) → joined (cut 0 0 ts) ≡ ts → joined (cut (o + one_if (is_opener t)) (c + one_if (is_closer t)) ts) ≡ ts →
        joined (cond b ((t ∷ []) ∷ cut 0 0 ts) (onto t (cut (o + one_if (is_opener t)) (c + one_if (is_closer t)) ts))) ≡ t ∷ ts
    by true p q = ap (λ (l : List Terminal). t ∷ l) p
    by false p q = joined_onto t (cut (o + one_if (is_opener t)) (c + one_if (is_closer t)) ts) ∙ ap (λ (l : List Terminal). t ∷ l) q

starts_at : (earlier : List Terminal) (before : List (List Terminal)) (front : List Terminal) (m n : ℕ) → Goes is_semicolon own [] 0 0 earlier before front m n → earlier ≡ joined before ++ front
starts_at earlier before front m n goes =
    sym (append_none earlier) ∙ sym (joined_cut 0 0 (earlier ++ [])) ∙ ap joined (goes []) ∙ joined_append before (onto_all front [])
    ∙ ap (λ (l : List Terminal). joined before ++ l) (joined_all front [] ∙ append_none front)

pub statements_stay : StatementsStay
statements_stay earlier later low =
    let r = reached is_semicolon own [] no_opener 0 0 earlier in
    let rest = cut r.openers r.closers later in
    let level = r.low (from_none earlier low) in
    record {
      before = r.before;
      front = r.front;
      tail = head_of rest;
      after = tail_of rest;
      starts = starts_at earlier r.before r.front r.openers r.closers r.goes;
      ends = sym (joined_cut r.openers r.closers later) ∙ joined_parts rest;
      cut = λ t run h.
          statements_are (earlier ++ ((t ∷ run) ++ later))
          ∙ goes_run is_semicolon own [] 0 0 earlier r.before r.front r.openers r.closers r.goes level later t run h;
    }

pub statement_exchanges : StatementExchanges
statement_exchanges ts before front t run tail after h low e u new g =
    let r = run_at is_semicolon own [] own_is ts before front t run tail after h low (sym (statements_are ts) ∙ e) in
    let now : cut 0 0 (r.earlier ++ ((u ∷ new) ++ r.later)) ≡ before ++ (front ++ ((u ∷ new) ++ tail)) ∷ after = r.cut u new g in
    let text : joined (before ++ (front ++ ((u ∷ new) ++ tail)) ∷ after) ≡ r.earlier ++ ((u ∷ new) ++ r.later) =
    ap joined (sym now) ∙ joined_cut 0 0 (r.earlier ++ ((u ∷ new) ++ r.later)) in
    ap statements text ∙ statements_are (r.earlier ++ ((u ∷ new) ++ r.later)) ∙ now

-- ---- parts between commas

abbrev gone : Terminal → List Terminal
gone t = []

abbrev apart : ℕ → ℕ → List Terminal → List (List Terminal)
apart o c ts = cut_from is_comma gone ([] ∷ []) o c ts

apart_is : (e : Option Terminal) (o c : ℕ) (ts : List Terminal) → split_from comma e o c ts ≡ apart o c ts
unfolding comma
apart_is e o c [] = refl
apart_is e o c (t ∷ ts) =
    let ended = apart_is (Some t) 0 0 ts in
    let later = apart_is (Some t) (o + one_if (is_opener t)) (c + one_if (is_closer t)) ts in
    λ i. cond (o == c && is_comma t) ([] ∷ ended i) (onto t (later i))

parts_are : (ts : List Terminal) → split comma ts ≡ apart 0 0 ts
unfolding split
parts_are ts = apart_is None 0 0 ts

no_bracket : (t : Terminal) → is_comma t ≡ true → is_opener t ≡ false
unfolding is_opener
no_bracket t h = grind arith

gone_is : IsMark gone ([] ∷ [])
gone_is = record { itself = λ t r z e. absurd (none r z e); short = λ t y p u z e. absurd (none y (p ++ u ∷ z) e); empty = refl; alone = refl }
  where
    none : (r : Terminal) (z : List Terminal) → [] ≡ r ∷ z → ⊥
    none r z e = cc

starts_in : (earlier : List Terminal) (before : List (List Terminal)) (front : List Terminal) (m n : ℕ) → Goes is_comma gone ([] ∷ []) 0 0 earlier before front m n → split comma earlier ≡ before ++ front ∷ []
starts_in earlier before front m n goes =
    parts_are earlier ∙ ap (λ (l : List Terminal). apart 0 0 l) (sym (append_none earlier)) ∙ goes []
    ∙ ap (λ (l : List (List Terminal)). before ++ l) (onto_list front [] [] ∙ ap (λ (l : List Terminal). l ∷ []) (append_none front))

pub parts_stay : PartsStay
parts_stay earlier later low =
    let r = reached is_comma gone ([] ∷ []) no_bracket 0 0 earlier in
    let rest = apart r.openers r.closers later in
    let level = r.low (from_none earlier low) in
    record {
      before = r.before;
      front = r.front;
      tail = head_of rest;
      after = tail_of rest;
      there = record {
        starts = starts_in earlier r.before r.front r.openers r.closers r.goes;
        cut = λ t run h.
            parts_are (earlier ++ ((t ∷ run) ++ later))
            ∙ goes_run is_comma gone ([] ∷ []) 0 0 earlier r.before r.front r.openers r.closers r.goes level later t run h;
      };
    }

pub part_exchanges : PartExchanges
part_exchanges ts before front t run tail after h low e =
    let r = run_at is_comma gone ([] ∷ []) gone_is ts before front t run tail after h low (sym (parts_are ts) ∙ e) in
    record {
      earlier = r.earlier;
      later = r.later;
      list = r.list;
      there = record {
        starts = starts_in r.earlier before front r.openers r.closers r.goes;
        cut = λ u new g. parts_are (r.earlier ++ ((u ∷ new) ++ r.later)) ∙ r.cut u new g;
      };
    }
