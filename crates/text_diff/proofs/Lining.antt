-- The first line of a text.
use Rattle.std.proofs.Common.{◌≡◌, ℕ, zero, suc, ◌+◌, ◌-◌, ◌<◌, ◌==◌, Bool, true, false, List, [], ◌∷◌, ◌++◌, Some, None, length, get_or, take, drop, refl, sym, ap, ◌∙◌, arith, add-one, length-drop}
use Rattle.std.proofs.lemmas.List.{take_all}
use Rattle.memchr.specs.Find.{IsFirstByte, is_byte}
use Rattle.text_diff.specs.Lines.{lines_of, with_byte}

not_true : (b : Bool) → ¬ (b ≡ true) → b ≡ false
not_true true h = absurd (h refl)
not_true false h = refl

fed : (b : ℕ) (lines : List (List ℕ)) → (b == 10) ≡ true → with_byte b lines ≡ (b ∷ []) ∷ lines
fed b [] h = refl
fed b (line ∷ lines) h = rw h refl

-- a byte that is no line feed, before a line
plain : (b : ℕ) (line : List ℕ) (lines : List (List ℕ)) → (b == 10) ≡ false → with_byte b (line ∷ lines) ≡ (b ∷ line) ∷ lines
plain b line lines h = rw h refl

until_feed : (text : List ℕ) (feed : ℕ) → feed < length text → ((k : ℕ) → k < feed → (get_or text k 0 == 10) ≡ false) → (get_or text feed 0 == 10) ≡ true
    → lines_of text ≡ take (suc feed) text ∷ lines_of (drop (suc feed) text)
until_feed [] feed h none here = absurd (omega arith)
until_feed (b ∷ bs) zero h none here = fed b (lines_of bs) here
until_feed (b ∷ bs) (suc feed) h none here =
    let rest = until_feed bs feed (omega arith) (λ k low. none (suc k) (omega arith)) here in
    ap (with_byte b) rest ∙ plain b (take (suc feed) bs) (lines_of (drop (suc feed) bs)) (none 0 (omega arith))

without_feed : (b : ℕ) (bs : List ℕ) → ((k : ℕ) → k < length (b ∷ bs) → (get_or (b ∷ bs) k 0 == 10) ≡ false) → lines_of (b ∷ bs) ≡ (b ∷ bs) ∷ []
without_feed b [] none = refl
without_feed b (c ∷ cs) none =
    let rest = without_feed c cs (λ k high. none (suc k) (omega arith)) in
    ap (with_byte b) rest ∙ plain b (c ∷ cs) [] (none 0 (omega arith))

-- a text with no line feed is one line, and nothing is after it
pub last_cut : (text : List ℕ) → (length text == 0) ≡ false → IsFirstByte (is_byte 10) text None
    → lines_of text ≡ text ∷ lines_of (take (length text - length text) (drop (length text) text))
last_cut [] some none = cc
last_cut (b ∷ bs) some none =
    let gone : length (b ∷ bs) - length (b ∷ bs) ≡ 0 = omega arith in
    rw gone (without_feed b bs (λ k high. not_true (get_or (b ∷ bs) k 0 == 10) (none k (omega arith) high)))

pub first_line : (text : List ℕ) (feed : ℕ) → IsFirstByte (is_byte 10) text (Some feed)
    → lines_of text ≡ take (feed + 1) text ∷ lines_of (take (length text - (feed + 1)) (drop (feed + 1) text))
first_line text feed some =
    let in_text : feed < length text = some.0.high in
    let whole : take (length text - (feed + 1)) (drop (feed + 1) text) ≡ drop (feed + 1) text =
    take_all (length text - (feed + 1)) (drop (feed + 1) text) (omega (arith, length-drop (feed + 1) text)) in
    rw (whole, add-one) (until_feed text feed in_text (λ k low. not_true (get_or text k 0 == 10) (some.0.before k (omega arith) low)) some.1)
