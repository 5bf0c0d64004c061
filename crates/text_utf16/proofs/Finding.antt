-- Units before a place, and the one place before which so many units begin.
use Rattle.std.proofs.Common.{◌≡◌, ℕ, ◌+◌, ◌-◌, ◌*◌, ◌/◌, ◌^◌, ◌<◌, ◌≤◌, List, length, get_or, take, drop, sym, ap, ◌∙◌, arith, inl, inr}
use Rattle.std.proofs.lemmas.Bool.Decides.{leb_tells}
use Rattle.std.proofs.lemmas.List.{get_or-take, get_or-drop, length-drop, length-take, take-take, get_or_default}
use Rattle.std.proofs.lemmas.List.Sums.{sum_by-append}
use Rattle.std.proofs.Math.Seq.{take-add}
use Rattle.std.specs.List.Sorted.{IsNonDecreasing}
use Rattle.std.specs.Str.{IsCharBoundary, IsUtf8}
use Rattle.text_utf16.proofs.Counting.{units_front, units_more, units_short}
use Rattle.text_utf16.specs.Marks.{AreMarks, stride}
use Rattle.text_utf16.specs.Units.{units, units_at}

-- the units up to a later place
pub units_add : (text : List ℕ) (i n : ℕ) → units (take (i + n) text) ≡ units (take i text) + units (take n (drop i text))
units_add text i n = ap units (take-add i n text) ∙ sum_by-append units_at (take i text) (take n (drop i text))

-- the units before a place do not fall as the place rises
pub units_rise : (text : List ℕ) (i j : ℕ) → i ≤ j → units (take i text) ≤ units (take j text)
units_rise text i j le =
    let sum : i + (j - i) ≡ j = omega arith in
    omega (arith, ap (λ n. units (take n text)) sum, units_add text i (j - i))

-- and they rise after a byte that begins a character
pub units_climb : (text : List ℕ) (i j : ℕ) → i < j → i < length text → 0 < units_at (get_or text i 0) → units (take i text) < units (take j text)
units_climb text i j l inside begins = omega (arith, units_more text i inside, units_rise text (i + 1) j (omega arith))

-- a character begins at a place between two of them, but at the end
pub boundary_begins : (text : List ℕ) (i : ℕ) → IsCharBoundary text i → i < length text → 0 < units_at (get_or text i 0)
boundary_begins text i b l = by (get_or text i 0) (b.1 l)
  where
    by : (x : ℕ) → (128 ≤ x → 192 ≤ x) → 0 < units_at x
    by x h = elim (leb_tells 128 x) [ inl l ↦ grind (arith, h l.1) | inr l ↦ grind (arith, l.1) ]

-- a byte that begins a character is such a place
pub begins_boundary : (text : List ℕ) (i : ℕ) → i < length text → 0 < units_at (get_or text i 0) → IsCharBoundary text i
begins_boundary text i l begins = (omega (arith, l), λ inside high. by (get_or text i 0) begins high)
  where
    by : (x : ℕ) → 0 < units_at x → 128 ≤ x → 192 ≤ x
    by x h high = elim (leb_tells 192 x) [ inl l ↦ l.1 | inr l ↦ absurd (grind (arith, h, high, l.1)) ]

-- no two places between characters have as many units before them
pub one_place : (text : List ℕ) (i j : ℕ) → IsCharBoundary text i → IsCharBoundary text j → units (take i text) ≡ units (take j text) → i ≡ j
one_place text i j a b same =
    elim (leb_tells i j) [
      | inr l ↦ absurd (omega (arith, same, units_climb text j i l.1 (omega (arith, l.1, a.0)) (boundary_begins text j b (omega (arith, l.1, a.0)))))
      | inl l ↦ elim (leb_tells j i) [
        | inl m ↦ omega (arith, l.1, m.1)
        | inr m ↦ absurd (omega (arith, same, units_climb text i j m.1 (omega (arith, m.1, b.0)) (boundary_begins text i a (omega (arith, m.1, b.0)))))
      ]
    ]

-- marks do not fall
pub marks_rise : (text marks : List ℕ) → AreMarks text marks → IsNonDecreasing marks
marks_rise text marks are i j d le l =
    let low : get_or marks i d ≡ units (take (i * stride) text) = get_or_default marks i d 0 (omega arith) ∙ are.counts i (omega arith) in
    let high : get_or marks j d ≡ units (take (j * stride) text) = get_or_default marks j d 0 l ∙ are.counts j l in
    omega (arith, low, high, units_rise text (i * stride) (j * stride) (omega arith))

-- the first mark is 0
pub first_mark : (text marks : List ℕ) → AreMarks text marks → get_or marks 0 0 ≡ 0
first_mark text marks are = are.counts 0 (omega (arith, are.many))

-- there is a mark for each place
pub mark_there : (text marks : List ℕ) (at : ℕ) → AreMarks text marks → at ≤ length text → at / 128 < length marks
mark_there text marks at are le = omega (arith, are.many)

-- the units before a place are those before the mark and those of the bytes behind it
pub units_to : (text marks : List ℕ) (at : ℕ) → AreMarks text marks → at ≤ length text → get_or marks (at / 128) 0 + units (take (at - at / 128 * 128) (drop (at / 128 * 128) text)) ≡ units (take at text)
units_to text marks at are le =
    let sum : at / 128 * 128 + (at - at / 128 * 128) ≡ at = omega arith in
    omega (arith, are.counts (at / 128) (mark_there text marks at are le), units_add text (at / 128 * 128) (at - at / 128 * 128), ap (λ n. units (take n text)) sum)

-- the same, of the bytes that are counted
pub before_is : (text bytes marks : List ℕ) (at m n : ℕ) → AreMarks text marks → at ≤ length text → bytes ≡ text → m ≡ get_or marks (at / 128) 0 → n ≡ units (take (at - at / 128 * 128) (drop (at / 128 * 128) bytes)) → m + n ≡ units (take at text)
before_is text bytes marks at m n are le same mark rest =
    omega (arith, mark, rest, ap (λ t. units (take (at - at / 128 * 128) (drop (at / 128 * 128) t))) same, units_to text marks at are le)

-- and it is no large number
pub before_fits : (text : List ℕ) (at n : ℕ) → IsUtf8 text → length text < 2 ^ 32 → n ≡ units (take at text) → n < 2 ^ 32
before_fits text at n u short is = omega (arith, units_front text at, units_short text u)

-- a byte of the bytes behind a mark is one of the text
byte_behind : (text : List ℕ) (k byte : ℕ) → byte < length (take stride (drop (k * stride) text)) → (byte < stride) × (k * stride + byte < length text) × (get_or (take stride (drop (k * stride) text)) byte 0 ≡ get_or text (k * stride + byte) 0)
byte_behind text k byte l =
    let few : byte < stride = omega (arith, l, length-take stride (drop (k * stride) text)) in (
      few,
      omega (arith, l, length-take stride (drop (k * stride) text), length-drop (k * stride) text),
      get_or-take stride (drop (k * stride) text) byte 0 few ∙ get_or-drop (k * stride) text byte 0,
    )

-- the units before a byte behind a mark
pub units_behind : (text bytes : List ℕ) (k byte m wanted : ℕ) → bytes ≡ take stride (drop (k * stride) text) → byte < length bytes → m ≡ units (take (k * stride) text) → m ≤ wanted → units (take byte bytes) ≡ wanted - m → units (take (k * stride + byte) text) ≡ wanted
units_behind text bytes k byte m wanted is l mark le after =
    let inside = byte_behind text k byte (rw (← is) l) in
    let front : take byte bytes ≡ take byte (drop (k * stride) text) = ap (take byte) is ∙ take-take byte stride (drop (k * stride) text) (omega (arith, inside.0)) in
    omega (arith, mark, after, le, ap units front, units_add text (k * stride) byte)

-- a byte behind a mark that begins a character is a place between two
pub place_behind : (text bytes : List ℕ) (k byte : ℕ) → bytes ≡ take stride (drop (k * stride) text) → byte < length bytes → 0 < units_at (get_or bytes byte 0) → IsCharBoundary text (k * stride + byte)
place_behind text bytes k byte is l begins =
    let inside = byte_behind text k byte (rw (← is) l) in
    begins_boundary text (k * stride + byte) inside.1 (omega (arith, begins, ap units_at (ap (λ bs. get_or bs byte 0) is ∙ inside.2)))

-- a place with so many units before it lies behind the last mark that is not above their number
pub place_found : (text marks bytes : List ℕ) (k wanted at : ℕ) → AreMarks text marks → k < length marks → get_or marks k 0 ≤ wanted → ((j : ℕ) → k < j → j < length marks → wanted < get_or marks j 0)
    → bytes ≡ take stride (drop (k * stride) text) → IsCharBoundary text at → at < length text → units (take at text) ≡ wanted
    → (i : ℕ) × (i < length bytes) × (0 < units_at (get_or bytes i 0)) × (units (take i bytes) ≡ wanted - get_or marks k 0)
place_found text marks bytes k wanted at are there le last is b inside same =
    (at - k * stride, few, rw byte (boundary_begins text at b inside), omega (arith, front, sum, mark, same, units_add text (k * stride) (at - k * stride)))
  where
    mark : get_or marks k 0 ≡ units (take (k * stride) text)
    mark = are.counts k there

    low : k * stride ≤ at
    low = elim (leb_tells (k * stride) at) [ inl l ↦ l.1 | inr l ↦ absurd (omega (arith, mark, le, same, units_climb text at (k * stride) l.1 inside (boundary_begins text at b inside))) ]

    high : at < (k + 1) * stride
    high = elim (leb_tells ((k + 1) * stride) at) [
      | inr l ↦ l.1
      | inl l ↦ elim (leb_tells (length marks) (k + 1)) [
        | inl m ↦ absurd (omega (arith, m.1, there, are.many, l.1, inside))
        | inr m ↦ absurd (omega (arith, last (k + 1) (omega arith) m.1, are.counts (k + 1) m.1, units_rise text ((k + 1) * stride) at l.1, same))
      ]
    ]

    sum : units (take (k * stride + (at - k * stride)) text) ≡ units (take at text)
    sum = let whole : k * stride + (at - k * stride) ≡ at = omega (arith, low) in ap (λ n. units (take n text)) whole

    few : at - k * stride < length bytes
    few = omega (arith, low, high, inside, ap length is, length-take stride (drop (k * stride) text), length-drop (k * stride) text)

    byte : get_or bytes (at - k * stride) 0 ≡ get_or text at 0
    byte =
        let whole : k * stride + (at - k * stride) ≡ at = omega (arith, low) in
        ap (λ bs. get_or bs (at - k * stride) 0) is ∙ (byte_behind text k (at - k * stride) (rw (← is) few)).2 ∙ ap (λ n. get_or text n 0) whole

    front : units (take (at - k * stride) bytes) ≡ units (take (at - k * stride) (drop (k * stride) text))
    front = ap units (ap (take (at - k * stride)) is ∙ take-take (at - k * stride) stride (drop (k * stride) text) (omega (arith, low, high)))

-- a place is before the end where it has not as many units before it
pub before_end : (text : List ℕ) (n wanted at : ℕ) → n ≡ units (take (length text) text) → (wanted ≡ n → ⊥) → IsCharBoundary text at → units (take at text) ≡ wanted → at < length text
before_end text n wanted at is differs b same =
    elim (leb_tells (length text) at) [
      | inr l ↦ l.1
      | inl l ↦ let end : at ≡ length text = omega (arith, l.1, b.0) in absurd (differs (sym same ∙ ap (λ i. units (take i text)) end ∙ sym is))
    ]
