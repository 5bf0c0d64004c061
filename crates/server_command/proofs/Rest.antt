-- The words that are left, one by one.
use Rattle.std.proofs.Common.{◌≡◌, ◌∙◌, ◌+◌, ◌<◌, ap, append_assoc, append-nil, arith, refl, sym, ℕ, Bool, true, false, zero, suc, if◌then◌else◌, List, [], ◌∷◌, ◌++◌, Some, drop, filter, length}
use Rattle.std.specs.Prelude.{slice_get}
use Rattle.refused_word.proofs.of_squawk_words.Places.{drop_at}
use Rattle.refused_word.specs.squawk_words.Words.{Text}
use Rattle.server_command.specs.Asked.{is_taken}

one_by : (b : Bool) (word : Text) (words : List Text) → (if b then word ∷ [] else []) ++ words ≡ (if b then word ∷ words else words)
one_by true word words = refl
one_by false word words = refl

-- the words so far with the next one, if it is taken, before those that are left
pub rest_next : (rest words all : List Text) (i : ℕ) (word : Text) → slice_get words i ≡ Some word → rest ++ filter is_taken (drop i words) ≡ all
    → (rest ++ filter is_taken (word ∷ [])) ++ filter is_taken (drop (i + 1) words) ≡ all
rest_next rest words all i word at e =
    append_assoc rest (filter is_taken (word ∷ [])) (filter is_taken (drop (i + 1) words))
    ∙ (ap (λ (ws : List Text). rest ++ ws) (one_by (is_taken word) word (filter is_taken (drop (i + 1) words)) ∙ ap (filter is_taken) (sym (drop_at words i word at))) ∙ e)

drop_past : (words : List Text) (i : ℕ) → length words < i + 1 → drop i words ≡ []
drop_past [] zero h = refl
drop_past [] (suc i) h = refl
drop_past (word ∷ words) zero h = absurd (omega arith)
drop_past (word ∷ words) (suc i) h = drop_past words i (omega arith)

-- none are left
pub rest_end : (rest words all : List Text) (i : ℕ) → length words < i + 1 → rest ++ filter is_taken (drop i words) ≡ all → rest ≡ all
rest_end rest words all i h e = sym (append-nil rest) ∙ (ap (λ (ws : List Text). rest ++ filter is_taken ws) (sym (drop_past words i h)) ∙ e)
