-- A line begins after the last line feed before a place, and ends before the next one.
use Rattle.std.proofs.Common.{◌≡◌, ℕ, ◌+◌, ◌-◌, ◌<◌, ◌≤◌, Bool, true, false, List, [], ◌∷◌, Some, None, length, get_or, take, drop, refl, sym, ap, ◌∙◌, arith, length-take, length-drop}
use Rattle.std.specs.List.{after_last, before_first, position_or_len}
use Rattle.std.proofs.lemmas.List.{get_or_default, take_all}
use Rattle.std.proofs.lemmas.Str.{IsCharBoundary-after_ascii}
use Rattle.std.proofs.lemmas.Bool.Decides.{nat_tests}
use Rattle.std.specs.Str.{IsCharBoundary, IsUtf8}
use Rattle.std.proofs.lemmas.List.Sums.{position_or_len_is}
use Rattle.std.proofs.lemmas.List.Splits.{slice_split_first, slice_split_none}
use Rattle.memchr.specs.Find.{IsFirstByte, IsLastByte, is_byte}
use Rattle.text_pos.specs.Line.{is_line_feed}
use Rattle.text_pos.proofs.LineFeeds.{after_last_is}
use Rattle.source_file.specs.Line.{front_of, line_end_of, line_start_of, lines_of, rest_of}

is_ten : (b : ℕ) → is_line_feed b ≡ true → b ≡ 10
is_ten b h = grind (arith, nat_tests)

pub rest_whole : (n : ℕ) (xs : List ℕ) → take (length xs - n) (drop n xs) ≡ drop n xs
rest_whole n xs = take_all (length xs - n) (drop n xs) (omega (arith, length-drop n xs))

not_true : (b : Bool) → ¬ (b ≡ true) → b ≡ false
not_true true h = absurd (h refl)
not_true false h = refl

pub front_none : (text before bytes : List ℕ) (at : ℕ) → before ≡ take at text → bytes ≡ before → IsLastByte (is_byte 10) bytes None → before ≡ front_of text at
front_none text before bytes at e same none =
    rw (← e) (after_last_is before 0 (omega arith) (λ k low high. rw same at none k low high) (λ some. absurd (omega arith)))

pub front_some : (text before bytes front : List ℕ) (at feed : ℕ) → before ≡ take at text → bytes ≡ before → IsLastByte (is_byte 10) bytes (Some feed)
    → front ≡ drop (feed + 1) before → front ≡ front_of text at
front_some text before bytes front at feed e same some is =
    let last : IsLastByte (is_byte 10) before (Some feed) = rw same at some in
    let in_text : feed < length before = last.0.high in
    is ∙ rw (← e) (after_last_is before (feed + 1) (omega arith) (λ k low high. last.0.after k low high)
    (λ any. let here : feed + 1 - 1 ≡ feed = omega arith in rw here last.1))

-- and the first one
before_first_is : (bs : List ℕ) (n : ℕ) → n ≤ length bs → ((k : ℕ) → k < n → ¬ (is_line_feed (get_or bs k 0) ≡ true))
    → (n < length bs → is_line_feed (get_or bs n 0) ≡ true) → take n bs ≡ before_first is_line_feed bs
before_first_is bs n le none there =
    let len : position_or_len is_line_feed bs ≡ n =
    position_or_len_is is_line_feed bs n 0 le (λ k high. not_true (is_line_feed (get_or bs k 0)) (none k high)) there in
    rw len refl

pub rest_none : (text after bytes : List ℕ) (at : ℕ) → after ≡ drop at text → bytes ≡ after → IsFirstByte (is_byte 10) bytes None → after ≡ rest_of text at
rest_none text after bytes at e same none =
    let first : IsFirstByte (is_byte 10) after None = rw same at none in
    rw (← e) (sym (take_all (length after) after (omega arith)) ∙ before_first_is after (length after) (omega arith) (λ k high. first k (omega arith) high) (λ more. absurd (omega arith)))

pub rest_some : (text after bytes rest : List ℕ) (at feed : ℕ) → after ≡ drop at text → bytes ≡ after → IsFirstByte (is_byte 10) bytes (Some feed)
    → rest ≡ take feed after → rest ≡ rest_of text at
rest_some text after bytes rest at feed e same some is =
    let first : IsFirstByte (is_byte 10) after (Some feed) = rw same at some in
    let in_text : feed < length after = first.0.high in
    is ∙ rw (← e) (before_first_is after feed (omega arith) (λ k high. first.0.before k (omega arith) high) (λ any. first.1))

-- a character begins after a line feed
pub after_feed : (before bytes : List ℕ) (feed : ℕ) → IsUtf8 bytes → bytes ≡ before → IsLastByte (is_byte 10) bytes (Some feed) → IsCharBoundary before (feed + 1)
after_feed before bytes feed utf8 same some =
    let byte : get_or bytes feed 0 ≡ 10 = is_ten (get_or bytes feed 0) some.1 in
    rw (← same) (IsCharBoundary-after_ascii bytes feed utf8 some.0.high (omega arith))

-- where the first line of a part begins
first_at : (text before : List ℕ) (start n : ℕ) → start ≤ length text → before ≡ take start text → n ≤ start → drop n before ≡ after_last is_line_feed before
    → n ≡ start - length (front_of text start)
first_at text before start n le e small is =
    let front : drop n (take start text) ≡ front_of text start = rw (← e) is in
    omega (arith, ap length front, length-drop n (take start text), length-take start text)

pub first_none : (text : List ℕ) (start : ℕ) → start ≤ length text → IsLastByte (is_byte 10) (take start text) None → 0 ≡ line_start_of text start
first_none text start le none =
    let before = take start text in
    first_at text before start 0 le refl (omega arith) (after_last_is before 0 (omega arith) (λ k low high. none k low high) (λ some. absurd (omega arith)))

pub first_some : (text : List ℕ) (start feed : ℕ) → start ≤ length text → IsLastByte (is_byte 10) (take start text) (Some feed) → feed + 1 ≡ line_start_of text start
first_some text start feed le last =
    let before = take start text in
    let in_text : feed < length before = last.0.high in
    first_at text before start (feed + 1) le refl (omega (arith, length-take start text))
    (after_last_is before (feed + 1) (omega arith) (λ k low high. last.0.after k low high)
    (λ any. let here : feed + 1 - 1 ≡ feed = omega arith in rw here last.1))

-- and where the last one ends
pub last_none : (text : List ℕ) (end : ℕ) → end ≤ length text → IsFirstByte (is_byte 10) (take (length text - end) (drop end text)) None
    → length text ≡ line_end_of text end
last_none text end le none =
    let e = rest_whole end text in
    let after = drop end text in
    let rest : after ≡ rest_of text end = rest_none text after (take (length text - end) after) end refl e none in
    omega (arith, ap length rest, length-drop end text)

pub last_some : (text : List ℕ) (end feed : ℕ) → end ≤ length text → IsFirstByte (is_byte 10) (take (length text - end) (drop end text)) (Some feed)
    → end + feed ≡ line_end_of text end
last_some text end feed le some =
    let e = rest_whole end text in
    let after = drop end text in
    let in_text : feed < length (take (length text - end) after) = some.0.high in
    let rest : take feed after ≡ rest_of text end = rest_some text after (take (length text - end) after) (take feed after) end feed refl e some refl in
    omega (arith, ap length rest, length-take feed after, ap length e)

-- no line feed, and one line
pub one_line : (text : List ℕ) → IsFirstByte (is_byte 10) text None → lines_of text ≡ text ∷ []
one_line text none =
    slice_split_none is_line_feed text (λ k d high. rw (get_or_default text k d 0 high) (not_true (is_line_feed (get_or text k 0)) (none k (omega arith) high)))

-- the first line, and those after it
pub first_line : (text : List ℕ) (feed : ℕ) → IsFirstByte (is_byte 10) text (Some feed)
    → lines_of text ≡ take feed text ∷ lines_of (take (length text - (feed + 1)) (drop (feed + 1) text))
first_line text feed some =
    let in_text : feed < length text = some.0.high in
    let here : position_or_len is_line_feed text ≡ feed =
    position_or_len_is is_line_feed text feed 0 (omega arith) (λ k high. not_true (is_line_feed (get_or text k 0)) (some.0.before k (omega arith) high)) (λ any. some.1) in
    slice_split_first is_line_feed text 0 (omega (arith, here)) ∙ rw (here, rest_whole (feed + 1) text) refl
