-- How great the numbers of places are in a text that is short.
use Rattle.std.proofs.Common.{ℕ, zero, suc, ◌+◌, ◌-◌, ◌*◌, ◌<◌, ◌≤◌, ◌^◌, List, [], ◌∷◌, arith, length, length-drop, take}
use Rattle.std.proofs.lemmas.List.Sums.{count_by-le-length}
use Rattle.std.specs.Prelude.{not}
use Rattle.std.specs.List.{suffix_len}
use Rattle.std.specs.Str.{chars, chars_after, continuation_len, lead_bits}
use Rattle.check_print.specs.source_file.File.{line_number, location}
use Rattle.check_print.specs.source_file.Line.{front_of}
use Rattle.check_print.specs.text_pos.Line.{is_line_feed}

-- ---- parts of a text are no longer than it

take_few : (n : ℕ) (xs : List ℕ) → length (take n xs) ≤ length xs
take_few zero xs = omega arith
take_few (suc n) [] = omega arith
take_few (suc n) (x ∷ xs) = omega (arith, take_few n xs)

front_few : (text : List ℕ) (at : ℕ) → length (front_of text at) ≤ length text
front_few text at =
    let front = take at text in
    omega (arith, take_few at text, length-drop (length front - suffix_len (λ b. not (is_line_feed b)) front) front)

after_few : (n c : ℕ) (bs : List ℕ) → length (chars_after n c bs) ≤ length bs + 1
after_few zero c [] = omega arith
after_few zero c (b ∷ bs) = omega (arith, after_few (continuation_len b) (lead_bits b) bs)
after_few (suc n) c [] = omega arith
after_few (suc n) c (b ∷ bs) = omega (arith, after_few n (c * 64 + (b - 128)) bs)

-- bytes spell no more characters than they are
chars_few : (bs : List ℕ) → length (chars bs) ≤ length bs
unfolding chars
chars_few [] = omega arith
chars_few (b ∷ bs) = omega (arith, after_few (continuation_len b) (lead_bits b) bs)

-- ---- numbers of a place

pub line_short : (text : List ℕ) (at : ℕ) → length text < 2 ^ 32 → line_number text at < 2 ^ 64
line_short text at short = omega (arith, short, take_few at text, count_by-le-length is_line_feed (take at text))

pub column_short : (text : List ℕ) (at : ℕ) → length text < 2 ^ 32 → (location text at).column < 2 ^ 64
column_short text at short = omega (arith, short, chars_few (front_of text at), front_few text at)
