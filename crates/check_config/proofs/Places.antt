-- The first place of a name, byte by byte.
use Rattle.std.proofs.Common.{◌≡◌, ◌==◌, ◌+◌, ◌-◌, ◌<◌, ◌≤◌, ◌&&◌, ◌||◌, arith, refl, ℕ, Bool, true, false, ◌∷◌, Some, None, drop, get_or, length, take}
use Rattle.std.proofs.lemmas.List.{drop_all, drop_more, length-drop, take_all}
use Rattle.squawk_run.specs.squawk_words.Words.{Text}
use Rattle.check_config.specs.Faults.{begins_with_name, place_from}

-- the rest of a text, as a slice to its end
pub whole_rest : (text : Text) (i : ℕ) → take (length text - i) (drop i text) ≡ drop i text
whole_rest text i = take_all (length text - i) (drop i text) (omega (arith, length-drop {A = ℕ}))

-- what the test says at a place
abbrev pub is_here : Bool → Text → Text → ℕ → Bool → Bool
is_here anywhere name text i begins_line = (anywhere || begins_line) && begins_with_name name (drop i text)

pub place_next : (anywhere : Bool) (name text : Text) (i : ℕ) (begins_line : Bool) → i < length text → is_here anywhere name text i begins_line ≡ false
    → place_from anywhere name (drop i text) begins_line i ≡ place_from anywhere name (drop (i + 1) text) (get_or text i 0 == 10) (i + 1)
unfolding place_from
place_next anywhere name text i begins_line inside fails =
    let cut = drop_more text i 0 inside in
    let here : ((anywhere || begins_line) && begins_with_name name (get_or text i 0 ∷ drop (i + 1) text)) ≡ false = rw cut at fails in
    rw (cut, here) refl

pub place_here : (anywhere : Bool) (name text : Text) (i : ℕ) (begins_line : Bool) → i < length text → is_here anywhere name text i begins_line ≡ true
    → place_from anywhere name (drop i text) begins_line i ≡ Some i
unfolding place_from
place_here anywhere name text i begins_line inside holds =
    let cut = drop_more text i 0 inside in
    let here : ((anywhere || begins_line) && begins_with_name name (get_or text i 0 ∷ drop (i + 1) text)) ≡ true = rw cut at holds in
    rw (cut, here) refl

pub place_last : (anywhere : Bool) (name text : Text) (i : ℕ) (begins_line : Bool) → length text ≤ i → place_from anywhere name (drop i text) begins_line i ≡ None
unfolding place_from
place_last anywhere name text i begins_line ended = rw (drop_all i text ended) refl
