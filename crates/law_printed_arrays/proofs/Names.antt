-- The bytes of a name that is UTF-8.
use Rattle.std.proofs.Common.{◌≡◌, ◌⊎◌, inl, inr, ℕ, ◌<◌, ◌≤◌, Bool, true, false, ◌&&◌, List, [], ◌∷◌, All, arith, refl, subst}
use Rattle.std.proofs.Math.Utf8.{encode, encodes, scalar, scalar_cases, scalars}
use Rattle.std.proofs.lemmas.Bool.{cond_both, ltb-true}
use Rattle.std.proofs.lemmas.List.Elements.{All-append, All-cons, All-nil}
use Rattle.std.proofs.Math.Dec.{ltb}
use Rattle.std.specs.Str.{IsUtf8}

abbrev IsByte : ℕ → Type 0
IsByte b = b < 256

one_byte : (a : ℕ) → a < 256 → All IsByte (a ∷ [])
one_byte a h = All-cons IsByte a [] h (All-nil IsByte)

two_bytes : (a b : ℕ) → a < 256 → b < 256 → All IsByte (a ∷ b ∷ [])
two_bytes a b h k = All-cons IsByte a (b ∷ []) h (one_byte b k)

three_bytes : (a b c : ℕ) → a < 256 → b < 256 → c < 256 → All IsByte (a ∷ b ∷ c ∷ [])
three_bytes a b c h k l = All-cons IsByte a (b ∷ c ∷ []) h (two_bytes b c k l)

four_bytes : (a b c d : ℕ) → a < 256 → b < 256 → c < 256 → d < 256 → All IsByte (a ∷ b ∷ c ∷ d ∷ [])
four_bytes a b c d h k l m = All-cons IsByte a (b ∷ c ∷ d ∷ []) h (three_bytes b c d k l m)

-- the bytes of a character
char_bytes : (c : ℕ) → c < 1114112 → All IsByte (encode c)
unfolding encode
char_bytes c top =
    cond_both (ltb c 128) _ _ (All IsByte) (λ e. one_byte c (omega (arith, ltb-true c 128 e)))
    (λ _. cond_both (ltb c 2048) _ _ (All IsByte) (λ e. two_bytes _ _ (omega (arith, ltb-true c 2048 e)) (omega arith))
    (λ _. cond_both (ltb c 65536) _ _ (All IsByte) (λ e. three_bytes _ _ _ (omega (arith, ltb-true c 65536 e)) (omega arith) (omega arith))
    (λ _. four_bytes _ _ _ _ (omega (arith, top)) (omega arith) (omega arith) (omega arith))))

below : (c : ℕ) → (c < 55296) ⊎ ((57344 ≤ c) × (c < 1114112)) → c < 1114112
below c (inl h) = omega arith
below c (inr h) = h.1

both : (x y : Bool) → (x && y) ≡ true → (x ≡ true) × (y ≡ true)
both true y e = (refl, e)
both false y e = cc

-- those of some characters
chars_bytes : (cs : List ℕ) → scalars cs ≡ true → All IsByte (encodes cs)
chars_bytes [] h = All-nil IsByte
chars_bytes (c ∷ cs) h =
    let are = both (scalar c) (scalars cs) h in
    All-append IsByte (encode c) (encodes cs) (char_bytes c (below c (scalar_cases c are.0))) (chars_bytes cs are.1)

pub name_bytes : (name : List ℕ) → IsUtf8 name → All (λ b. b < 256) name
name_bytes name u = subst (All IsByte) u.1.1 (chars_bytes u.0 u.1.0)
