-- Escaped texts: those without special bytes stay, and no two texts are escaped alike.
use Rattle.std.proofs.Common.{◌≡◌, ◌∙◌, ℕ, Bool, true, false, ◌&&◌, List, [], ◌∷◌, ◌++◌, refl, ap, sym, append_assoc, arith, if◌then◌else◌}
use Rattle.std.specs.List.{list_all}
use Rattle.lint_base.specs.PlainBytes.{is_plain}
use Rattle.squawk_print.specs.Escaped.{letter_of, escaped_byte, escaped}

both_of_and : (a b : Bool) → (a && b) ≡ true → (a ≡ true) × (b ≡ true)
both_of_and true b h = (refl, h)
both_of_and false b h = absurd (cc)

pub escaped_plain : (text : List ℕ) → list_all is_plain text ≡ true → escaped text ≡ text
escaped_plain [] h = refl
escaped_plain (b ∷ bs) h =
    let k = both_of_and (is_plain b) (list_all is_plain bs) h in
    ap (λ c. (if c then b ∷ [] else 92 ∷ letter_of b ∷ []) ++ escaped bs) k.0 ∙ ap (λ xs. b ∷ xs) (escaped_plain bs k.1)

letters_differ : (x y : ℕ) → is_plain x ≡ false → is_plain y ≡ false → letter_of x ≡ letter_of y → x ≡ y
letters_differ x y hx hy e = grind arith

-- a byte that stands for itself is no backslash
not_slash : (x : ℕ) → is_plain x ≡ true → x ≡ 92 → ⊥
not_slash x h e = grind arith

by_plain : (x y : ℕ) (p q : Bool) (r s : List ℕ) → is_plain x ≡ p → is_plain y ≡ q
    → (if p then x ∷ [] else 92 ∷ letter_of x ∷ []) ++ r ≡ (if q then y ∷ [] else 92 ∷ letter_of y ∷ []) ++ s → (x ≡ y) × (r ≡ s)
by_plain x y true true r s hx hy e = (cc, cc)
by_plain x y true false r s hx hy e = absurd (not_slash x hx (cc))
by_plain x y false true r s hx hy e = let k : y ≡ 92 = cc in absurd (not_slash y hy k)
by_plain x y false false r s hx hy e = let k : letter_of x ≡ letter_of y = cc in (letters_differ x y hx hy k, cc)

byte_cut : (x y : ℕ) (r s : List ℕ) → escaped_byte x ++ r ≡ escaped_byte y ++ s → (x ≡ y) × (r ≡ s)
byte_cut x y r s e = by_plain x y (is_plain x) (is_plain y) r s refl refl e

-- a byte that no escaped text holds but after a backslash
abbrev pub IsEnd : ℕ → Type 0
IsEnd c = (is_plain c ≡ false) × (c ≡ 92 → ⊥)

no_end : (c y : ℕ) (q : Bool) (r s : List ℕ) → IsEnd c → is_plain y ≡ q → c ∷ r ≡ (if q then y ∷ [] else 92 ∷ letter_of y ∷ []) ++ s → ⊥
no_end c y true r s h hy e = let k : c ≡ y = cc in let m : is_plain c ≡ true = ap is_plain k ∙ hy in let n = h.0 in cc
no_end c y false r s h hy e = h.1 (cc)

pub escaped_cut : (t u : List ℕ) (c : ℕ) (r s : List ℕ) → IsEnd c → escaped t ++ c ∷ r ≡ escaped u ++ c ∷ s → (t ≡ u) × (r ≡ s)
escaped_cut [] [] c r s h e = (refl, cc)
escaped_cut [] (y ∷ us) c r s h e =
    absurd (no_end c y (is_plain y) r (escaped us ++ c ∷ s) h refl (e ∙ append_assoc (escaped_byte y) (escaped us) (c ∷ s)))
escaped_cut (x ∷ ts) [] c r s h e =
    absurd (no_end c x (is_plain x) s (escaped ts ++ c ∷ r) h refl (sym e ∙ append_assoc (escaped_byte x) (escaped ts) (c ∷ r)))
escaped_cut (x ∷ ts) (y ∷ us) c r s h e =
    let k = byte_cut x y (escaped ts ++ c ∷ r) (escaped us ++ c ∷ s) (sym (append_assoc (escaped_byte x) (escaped ts) (c ∷ r)) ∙ e ∙ append_assoc (escaped_byte y) (escaped us) (c ∷ s)) in
    let m = escaped_cut ts us c r s h k.1 in
    let k0 : x ≡ y = k.0 in
    let m0 : ts ≡ us = m.0 in
    (cc, m.1)

pub feed_ends : IsEnd 10
feed_ends = (refl, λ e. absurd (omega (arith, e)))

pub quote_ends : IsEnd 34
quote_ends = (refl, λ e. absurd (omega (arith, e)))
