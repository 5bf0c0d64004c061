-- What the table says of each slot, by computation.
use Rattle.std.proofs.Common.{◌≡◌, refl, arith, ◌+◌, ◌<◌, ◌≤◌, ℕ, zero, suc, List, [], ◌∷◌, length, Bool, true, ◌&&◌, leb, ltb}
use Rattle.std.proofs.lemmas.Bool.{and_parts, leb-true, ltb-true}
use Rattle.sql_keyword.specs.declared.slots.TheConstants.{SLOT_COUNT, TEXTS}
use Rattle.sql_keyword.specs.Letters.{IsCapital, AreCapitals}
use Rattle.sql_keyword.specs.Slots.{start_of, length_of, text_at, text_in}
use Rattle.sql_keyword.proofs.Below.{all_below, below_so}

-- the texts lie one after another, and so many bytes they take
texts_length : length TEXTS.now ≡ 1774
texts_length = refl

ends_within : ℕ → Bool
ends_within n = leb (start_of n + length_of n) 1774

all_within : all_below ends_within SLOT_COUNT ≡ true
unfolding ends_within start_of length_of
all_within = refl

pub within : (n : ℕ) → n < SLOT_COUNT → start_of n + length_of n ≤ length TEXTS.now
unfolding ends_within
within n l =
    let e = leb-true (start_of n + length_of n) 1774 (below_so ends_within SLOT_COUNT n all_within l) in
    omega (arith, texts_length)

abbrev is_capital : ℕ → Bool
is_capital b = leb 65 b && ltb b 91

abbrev are_capitals : List ℕ → Bool
are_capitals [] = true
are_capitals (b ∷ bs) = is_capital b && are_capitals bs

capital_so : (b : ℕ) → is_capital b ≡ true → IsCapital b
capital_so b h = let p = and_parts (leb 65 b) (ltb b 91) h in (leb-true 65 b p.0, ltb-true b 91 p.1)

capitals_so : (bs : List ℕ) → are_capitals bs ≡ true → AreCapitals bs
capitals_so [] h i l = absurd (omega arith)
capitals_so (b ∷ bs) h zero l = capital_so b (and_parts (is_capital b) (are_capitals bs) h).0
capitals_so (b ∷ bs) h (suc i) l = capitals_so bs (and_parts (is_capital b) (are_capitals bs) h).1 i (omega arith)

all_capitals : all_below (λ n. are_capitals (text_in n)) SLOT_COUNT ≡ true
unfolding text_at start_of length_of
all_capitals = refl

pub capitals : (n : ℕ) → n < SLOT_COUNT → AreCapitals (text_in n)
capitals n l = capitals_so (text_in n) (below_so (λ k. are_capitals (text_in k)) SLOT_COUNT n all_capitals l)
