-- Findings that are printed one after another.
use Rattle.std.proofs.Common.{◌≡◌, ◌∙◌, ℕ, Bool, true, List, [], ◌∷◌, ◌++◌, All, Option, Some, None, ap, append_assoc, map, refl, sym}
use Rattle.std.proofs.lemmas.List.{append_cancel_right}
use Rattle.std.proofs.lemmas.List.Elements.{All-head, All-tail}
use Rattle.law_printed_lines.specs.Kept.{kept}
use Rattle.law_printed_text.proofs.Items.{IsShortItem, Item, found_of, item_back, item_color, item_end, text_of}
use Rattle.law_printed_text.proofs.Rows.{IsRows, after_empty, no_end}

-- what is printed of them
abbrev pub texts : Bool → List Item → List ℕ
texts color [] = []
texts color (i ∷ more) = text_of color i ++ texts color more

abbrev in_some : Option (List ℕ) → List ℕ
in_some None = []
in_some (Some t) = t

-- what is after the first of them
first_end : (color : Bool) (i : Item) (more : List Item) (s : List ℕ) → after_empty true ((text_of color i ++ texts color more) ++ s) ≡ Some (texts color more ++ s)
first_end color i more s = ap (after_empty true) (append_assoc (text_of color i) (texts color more) s) ∙ item_end color i (texts color more ++ s)

none_or_some : (t : List ℕ) → None ≡ Some t → ⊥
none_or_some t e = cc

-- findings and rows that are both painted, or both not, and of which the same is printed
same_back : (color : Bool) (xs ys : List Item) (s t : List ℕ) → IsRows s → IsRows t → All IsShortItem xs → All IsShortItem ys
    → texts color xs ++ s ≡ texts color ys ++ t → map (λ i. kept (found_of i)) xs ≡ map (λ i. kept (found_of i)) ys
same_back color [] [] s t p q h k e = refl
same_back color [] (j ∷ ys) s t p q h k e =
    absurd (none_or_some (texts color ys ++ t) (sym (no_end p) ∙ ap (after_empty true) e ∙ first_end color j ys t))
same_back color (i ∷ xs) [] s t p q h k e =
    absurd (none_or_some (texts color xs ++ s) (sym (no_end q) ∙ ap (after_empty true) (sym e) ∙ first_end color i xs s))
same_back color (i ∷ xs) (j ∷ ys) s t p q h k e =
    let later : texts color xs ++ s ≡ texts color ys ++ t = ap in_some (sym (first_end color i xs s) ∙ ap (after_empty true) e ∙ first_end color j ys t) in
    let here : text_of color i ++ (texts color ys ++ t) ≡ text_of color j ++ (texts color ys ++ t) =
    ap (λ l. text_of color i ++ l) (sym later) ∙ sym (append_assoc (text_of color i) (texts color xs) s) ∙ e ∙ append_assoc (text_of color j) (texts color ys) t in
    let first = item_back color i j (All-head IsShortItem i xs h) (All-head IsShortItem j ys k) (append_cancel_right (text_of color i) (text_of color j) (texts color ys ++ t) here) in
    ap (λ v. v ∷ map (λ n. kept (found_of n)) xs) first
    ∙ ap (λ l. kept (found_of j) ∷ l) (same_back color xs ys s t p q (All-tail IsShortItem i xs h) (All-tail IsShortItem j ys k) later)

-- findings and rows, of which the same is printed
pub lists_back : (color paint : Bool) (xs ys : List Item) (s t : List ℕ) → IsRows s → IsRows t → All IsShortItem xs → All IsShortItem ys
    → texts color xs ++ s ≡ texts paint ys ++ t → map (λ i. kept (found_of i)) xs ≡ map (λ i. kept (found_of i)) ys
lists_back color paint [] ys s t p q h k e = same_back paint [] ys s t p q h k e
lists_back color paint (i ∷ xs) [] s t p q h k e = same_back color (i ∷ xs) [] s t p q h k e
lists_back color paint (i ∷ xs) (j ∷ ys) s t p q h k e =
    let apart : text_of color i ++ (texts color xs ++ s) ≡ text_of paint j ++ (texts paint ys ++ t) =
    sym (append_assoc (text_of color i) (texts color xs) s) ∙ e ∙ append_assoc (text_of paint j) (texts paint ys) t in
    let like : color ≡ paint = item_color color paint i j (texts color xs ++ s) (texts paint ys ++ t) apart in
    same_back color (i ∷ xs) (j ∷ ys) s t p q h k (e ∙ ap (λ c. texts c (j ∷ ys) ++ t) (sym like))
