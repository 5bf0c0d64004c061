-- What is written for a message reads back.
use Rattle.std.proofs.Common.{◌≡◌, ◌≢◌, ◌∙◌, ℕ, zero, suc, ◌+◌, ◌-◌, ◌*◌, ◌/◌, ◌%◌, ◌<◌, ◌≤◌, Bool, true, false, ◌==◌, List, [], ◌∷◌, ◌++◌, Some, Ok, refl, sym, ap, arith, length, get_or, take, drop, slice_range, append_assoc, append-nil, decimal, if◌then◌else◌}
use Rattle.std.proofs.lemmas.Grind.{common_steps}
use Rattle.std.proofs.lemmas.Fmt.{decimal_by_steps, decimal_is_IsNumeral, length-decimal-le}
use Rattle.std.proofs.lemmas.List.{get_or_append_left, get_or-append-add, length-append, take_at, drop_at}
use Rattle.std.proofs.lemmas.Str.Parse.{digit_at}
use Rattle.std.proofs.Math.Seq.{take-append-add}
use Rattle.std.specs.Str.Parse.{AllDigits}
use Rattle.memchr.proofs.lemmas.ValueLemmas.{FindsNeedle-value}
use Rattle.memchr.specs.Find.{FindsNeedle, matches, first_of}
use Rattle.lsp_serve.specs.declared.front.Front.TheVariants.{Whole}
use Rattle.lsp_serve.specs.Frame.{blank_line, content_limit, frame, front_at, front_by, front_of, header_end, length_in, name, number_at, number_from}
use Rattle.lsp_serve.specs.ReadsBack.{ReadsBack}

-- one more digit
one_more : (m d : ℕ) (tail : List ℕ) → d < 10 → m * 10 + d ≤ content_limit → number_from m ((48 + d) ∷ tail) ≡ number_from (m * 10 + d) tail
one_more m d tail small fits = grind (arith, common_steps)

-- digits write a number, whatever comes after them
abbrev Writes : ℕ → List ℕ → Type 0
Writes n ds = (tail : List ℕ) → n ≤ content_limit → number_from 0 (ds ++ tail) ≡ number_from n tail

one_digit : (n : ℕ) → n < 10 → Writes n ((48 + n) ∷ [])
one_digit n small tail fits =
    let same : 0 * 10 + n ≡ n = omega arith in
    one_more 0 n tail small (omega arith) ∙ ap (λ k. number_from k tail) same

more_digits : (n : ℕ) (ds : List ℕ) → 10 ≤ n → Writes (n / 10) ds → Writes n (ds ++ ((48 + n % 10) ∷ []))
more_digits n ds big before tail fits =
    let split : n / 10 * 10 + n % 10 ≡ n = omega arith in
    ap (number_from 0) (append_assoc ds ((48 + n % 10) ∷ []) tail) ∙ before ((48 + n % 10) ∷ tail) (omega arith)
    ∙ one_more (n / 10) (n % 10) tail (omega arith) (omega (arith, split)) ∙ ap (λ k. number_from k tail) split

number_written : (n : ℕ) → n ≤ content_limit → number_from 0 (decimal n) ≡ Ok n
number_written n fits = ap (number_from 0) (sym (append-nil (decimal n))) ∙ decimal_by_steps Writes one_digit more_digits n (omega arith) [] fits

-- a line that begins with a digit begins with a number
begins : (ds : List ℕ) → 0 < length ds → AllDigits 10 ds → number_at ds ≡ number_from 0 ds
begins [] some digits = absurd (omega (arith, some))
begins (d ∷ ds) some digits =
    let range = digit_at (d ∷ ds) 0 digits (omega arith) in
    grind (arith, range)

-- the header has the length
length_told : (n : ℕ) → n ≤ content_limit → length_in (name ++ decimal n) ≡ Ok n
length_told n fits =
    let numeral = decimal_is_IsNumeral n (omega arith) in
    begins (decimal n) numeral.0.0 numeral.0.1 ∙ number_written n fits

-- no line ends within these bytes
abbrev OneLine : List ℕ → Type 0
OneLine bytes = (k : ℕ) → k < length bytes → get_or bytes k 0 ≢ 13

abbrev has_no_end : List ℕ → Bool
has_no_end [] = true
has_no_end (b ∷ bs) = if b == 13 then false else has_no_end bs

one_line : (bytes : List ℕ) → has_no_end bytes ≡ true → OneLine bytes
one_line [] h k below e = absurd (omega (arith, below))
one_line (b ∷ bs) h zero below e = grind (arith, h, e)
one_line (b ∷ bs) h (suc k) below e = one_line bs (grind (arith, h)) k (omega (arith, below)) e

digits_on_line : (ds : List ℕ) → AllDigits 10 ds → OneLine ds
digits_on_line ds digits k below e = omega (arith, digit_at ds k digits below, e)

both_on_line : (xs ys : List ℕ) → OneLine xs → OneLine ys → OneLine (xs ++ ys)
both_on_line xs ys p q k below e = grind (arith, common_steps, length-append xs ys, get_or_append_left xs ys 0 k, get_or-append-add xs ys (k - length xs) 0, p k, q (k - length xs), e)

-- where a line ends first
ends_behind : (front tail : List ℕ) → OneLine front → FindsNeedle (front ++ (blank_line ++ tail)) blank_line 0 (Some (length front))
ends_behind front tail line =
    let all = length-append front (blank_line ++ tail) in (
      record {
        low = omega arith;
        high = omega (arith, all);
        before = λ k low high occurs.
            let here : k ≡ k + 0 = omega arith in
            line k high (sym (get_or_append_left front (blank_line ++ tail) 0 k high) ∙ ap (λ i. get_or (front ++ (blank_line ++ tail)) i 0) here ∙ occurs.reads 0 (omega arith));
      },
      record {
        fits = omega (arith, all);
        reads = λ j below. get_or-append-add front (blank_line ++ tail) j 0 ∙ get_or_append_left blank_line tail 0 j below;
      },
    )

-- the first bytes, which are looked at
looked_at : (front tail : List ℕ) → length front ≤ 4092 → take 4096 (front ++ (blank_line ++ tail)) ≡ front ++ (blank_line ++ take (4092 - length front) tail)
looked_at front tail fits =
    let count : 4096 ≡ length front + (4 + (4092 - length front)) = omega arith in
    ap (λ n. take n (front ++ (blank_line ++ tail))) count ∙ take-append-add front (blank_line ++ tail) (4 + (4092 - length front))
    ∙ ap (λ l. front ++ l) (take-append-add blank_line tail (4092 - length front))

header_ends : (front tail : List ℕ) → OneLine front → length front ≤ 4092 → header_end (front ++ (blank_line ++ tail)) ≡ Some (length front)
header_ends front tail line fits =
    ap (λ hay. first_of (matches hay blank_line 0)) (looked_at front tail fits)
    ∙ sym (FindsNeedle-value _ _ (Some (length front)) (ends_behind front (take (4092 - length front) tail) line))

-- the header, the blank line, and what comes after it
parts : (content rest : List ℕ) → frame content ++ rest ≡ (name ++ decimal (length content)) ++ (blank_line ++ (content ++ rest))
parts content rest =
    let front = name ++ decimal (length content) in
    append_assoc (front ++ blank_line) content rest ∙ append_assoc front blank_line (content ++ rest)

enough : (bytes : List ℕ) (start n : ℕ) → start + n ≤ length bytes → front_by bytes start (Ok n) ≡ Ok (Whole start (start + n))
enough bytes start n fits = grind (arith, fits)

front_written : (front content rest : List ℕ) → OneLine front → length front ≤ 4092 → length_in front ≡ Ok (length content)
    → front_of (front ++ (blank_line ++ (content ++ rest))) ≡ Ok (Whole (length front + 4) (length front + 4 + length content))
front_written front content rest line fits told =
    let bytes = front ++ (blank_line ++ (content ++ rest)) in
    ap (front_at bytes) (header_ends front (content ++ rest) line fits)
    ∙ ap (λ header. front_by bytes (length front + 4) (length_in header)) (take_at front (blank_line ++ (content ++ rest)) (length front) refl)
    ∙ ap (front_by bytes (length front + 4)) told
    ∙ enough bytes (length front + 4) (length content) (omega (arith, length-append front (blank_line ++ (content ++ rest)), length-append content rest))

content_written : (front content rest : List ℕ) → slice_range (front ++ (blank_line ++ (content ++ rest))) (length front + 4) (length front + 4 + length content) ≡ content
content_written front content rest =
    let start = length front + 4 in
    ap (λ bytes. take (start + length content - start) (drop start bytes)) (sym (append_assoc front blank_line (content ++ rest)))
    ∙ ap (take (start + length content - start)) (drop_at (front ++ blank_line) (content ++ rest) start (omega (arith, length-append front blank_line)))
    ∙ take_at content rest (start + length content - start) (omega arith)

pub reads_back : (content rest : List ℕ) → length content ≤ content_limit → ReadsBack content rest
reads_back content rest fits =
    let n = length content in
    let front = name ++ decimal n in
    let numeral = decimal_is_IsNumeral n (omega arith) in
    let line = both_on_line name (decimal n) (one_line name refl) (digits_on_line (decimal n) numeral.0.1) in
    let short : length front ≤ 4092 = omega (arith, length-append name (decimal n), length-decimal-le 8 n (omega arith) (omega arith) (omega arith)) in
    record {
      start = length front + 4;
      front = ap front_of (parts content rest) ∙ front_written front content rest line short (length_told n fits);
      content_is = ap (λ bytes. slice_range bytes (length front + 4) (length front + 4 + n)) (parts content rest) ∙ content_written front content rest;
    }
