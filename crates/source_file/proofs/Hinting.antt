-- A word in a text, byte after byte.
use Rattle.std.proofs.Common.{◌≡◌, ℕ, ◌-◌, ◌<◌, true, false, ◌&&◌, ◌==◌, List, [], ◌∷◌, get_or, drop, take, length, refl, arith}
use Rattle.std.specs.Char.{to_ascii_lowercase}
use Rattle.source_file.proofs.Feeds.{rest_whole}
use Rattle.source_file.specs.Hints.{begins_with, has_word}

pub begins_more : (text word : List ℕ) → 0 < length text → 0 < length word
    → begins_with text word ≡ (to_ascii_lowercase (get_or text 0 0) == get_or word 0 0 && begins_with (take (length text - 1) (drop 1 text)) (take (length word - 1) (drop 1 word)))
unfolding begins_with
begins_more [] word h k = absurd (omega arith)
begins_more (b ∷ text) [] h k = absurd (omega arith)
begins_more (b ∷ text) (w ∷ word) h k = rw (rest_whole 1 (b ∷ text), rest_whole 1 (w ∷ word)) refl

pub begins_all : (text word : List ℕ) → length word ≡ 0 → begins_with text word ≡ true
unfolding begins_with
begins_all text [] h = refl
begins_all text (w ∷ word) h = absurd (omega arith)

pub begins_none : (text word : List ℕ) → length text ≡ 0 → 0 < length word → begins_with text word ≡ false
unfolding begins_with
begins_none [] [] h k = absurd (omega arith)
begins_none [] (w ∷ word) h k = refl
begins_none (b ∷ text) word h k = absurd (omega arith)

pub has_here : (text word : List ℕ) → begins_with text word ≡ true → has_word text word ≡ true
unfolding has_word
has_here [] word h = h
has_here (b ∷ text) word h = rw h refl

pub has_later : (text word : List ℕ) → 0 < length text → begins_with text word ≡ false → has_word (take (length text - 1) (drop 1 text)) word ≡ has_word text word
unfolding has_word
has_later [] word k h = absurd (omega arith)
has_later (b ∷ text) word k h = rw (rest_whole 1 (b ∷ text), h) refl

pub has_at_end : (text word : List ℕ) → length text ≡ 0 → begins_with text word ≡ has_word text word
unfolding has_word
has_at_end [] word h = refl
has_at_end (b ∷ text) word h = absurd (omega arith)
