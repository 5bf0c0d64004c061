-- Edits one after another.
use Rattle.std.proofs.Common.{◌≡◌, ℕ, ◌+◌, ◌<◌, ◌≤◌, Bool, true, false, nat_le, ◌&&◌, List, [], ◌∷◌, drop, get_or, length, refl, ap, sym, ◌∙◌, arith}
use Rattle.std.proofs.lemmas.Bool.Decides.{nat_tests}
use Rattle.std.proofs.lemmas.List.{drop_more}
use Rattle.lint_base.specs.declared.edit.Edit.{Edit}
use Rattle.report_text.specs.Fixed.{first_start, is_in_order, last_end}

le_true : (a b : ℕ) → a ≤ b → nat_le a b ≡ true
le_true a b h = grind (arith, nat_tests)

true_le : (a b : ℕ) → nat_le a b ≡ true → a ≤ b
true_le a b h = grind (arith, nat_tests)

each : (a b c d : Bool) → (a && b && c && d) ≡ true → (a ≡ true) × (b ≡ true) × (c ≡ true) × (d ≡ true)
each true true true d h = (refl, refl, refl, h)
each true true false d h = absurd (cc)
each true false c d h = absurd (cc)
each false b c d h = absurd (cc)

-- what an order says of its first edit
pub record FirstInOrder (at end : ℕ) (e : Edit) (es : List Edit) : Type 0 where
  pub starts : at ≤ e.text_range.start
  pub forward : e.text_range.start ≤ e.text_range.end
  pub ends : e.text_range.end ≤ end
  pub rest : is_in_order e.text_range.end end es ≡ true

first_in_order : (at end : ℕ) (e : Edit) (es : List Edit) → is_in_order at end (e ∷ es) ≡ true → FirstInOrder at end e es
first_in_order at end e es order =
    let first = each (nat_le at e.text_range.start) (nat_le e.text_range.start e.text_range.end) (nat_le e.text_range.end end) (is_in_order e.text_range.end end es) order in
    record {
      starts = true_le at e.text_range.start first.0;
      forward = true_le e.text_range.start e.text_range.end first.1;
      ends = true_le e.text_range.end end first.2;
      rest = first.3;
    }

pub next_in_order : (xs : List Edit) (i at end : ℕ) (e : Edit) → i < length xs → e ≡ get_or xs i e → is_in_order at end (drop i xs) ≡ true
    → FirstInOrder at end e (drop (i + 1) xs)
next_in_order xs i at end e h same order =
    let front : drop i xs ≡ e ∷ drop (i + 1) xs = drop_more xs i e h ∙ ap (λ y. y ∷ drop (i + 1) xs) (sym same) in
    first_in_order at end e (drop (i + 1) xs) (rw front at order)

-- the first begins and the last ends in the part that they are in
pub ends_within : (at end : ℕ) (es : List Edit) → is_in_order at end es ≡ true → (at ≤ last_end at es) × (last_end at es ≤ end)
ends_within at end [] order = (omega arith, true_le at end order)
ends_within at end (e ∷ es) order =
    let first = first_in_order at end e es order in
    let later = ends_within e.text_range.end end es first.rest in
    (omega (arith, first.starts, first.forward, later.0), later.1)

pub starts_within : (at end : ℕ) (es : List Edit) → is_in_order at end es ≡ true → (at ≤ first_start at es) × (first_start at es ≤ last_end at es)
starts_within at end [] order = (omega arith, omega arith)
starts_within at end (e ∷ es) order =
    let first = first_in_order at end e es order in
    let later = ends_within e.text_range.end end es first.rest in
    (first.starts, omega (arith, first.forward, later.0))

-- they are in order in every part that has them
pub order_in : (at end low high : ℕ) (es : List Edit) → is_in_order at end es ≡ true → low ≤ first_start at es → last_end at es ≤ high → is_in_order low high es ≡ true
order_in at end low high [] order first last = le_true low high (omega arith)
order_in at end low high (e ∷ es) order first last =
    let here = first_in_order at end e es order in
    let later = ends_within e.text_range.end end es here.rest in
    let next = starts_within e.text_range.end end es here.rest in
    rw (le_true low e.text_range.start first, le_true e.text_range.start e.text_range.end here.forward, le_true e.text_range.end high (omega (arith, later.0)))
    (order_in e.text_range.end end e.text_range.end high es here.rest next.0 last)

-- edits of a text
pub record InText (text : List ℕ) (es : List Edit) : Type 0 where
  pub first : first_start 0 es ≤ last_end 0 es
  pub last : last_end 0 es ≤ length text

pub in_text : (text : List ℕ) (es : List Edit) → is_in_order 0 (length text) es ≡ true → InText text es
in_text text es order =
    let starts = starts_within 0 (length text) es order in
    let ends = ends_within 0 (length text) es order in
    record { first = starts.1; last = ends.1 }
