-- The line feeds of a text rise, and those below a place are those of the text before it.
use Rattle.std.proofs.Common.{◌≡◌, ℕ, ◌+◌, ◌-◌, ◌<◌, ◌≤◌, ◌^◌, Bool, true, false, cond, List, [], ◌∷◌, ◌++◌, zero, suc, length, get_or, take, drop, refl, sym, ap, ◌∙◌, arith, ltb, inl, inr, length-take-le, subst}
use Rattle.std.specs.Prelude.{not}
use Rattle.std.specs.List.{after_last, count_by, suffix_len}
use Rattle.std.specs.List.Sorted.{IsNonDecreasing, IsPartitionPoint}
use Rattle.std.proofs.lemmas.Grind.{common_steps}
use Rattle.std.proofs.lemmas.Bool.{cases_lt, false≢true}
use Rattle.std.proofs.lemmas.List.Sums.{suffix_len_is, sum_by-cons}
use Rattle.std.proofs.lemmas.List.{append-nil, append_assoc, drop_all, drop_more, get_or-take, length-append, length-drop}
use Rattle.std.proofs.Math.Seq.{get_or-append_seam}
use Rattle.memchr.specs.Find.{is_byte, places, places_from}
use Rattle.std.proofs.lemmas.Bool.Decides.{leb_tells, nat_tests}
use Rattle.text_pos.specs.Line.{IsLineIndex, is_line_feed, line_feeds_from, line_feeds, line_of, line_start}

-- there are no more line feeds than bytes
pub length-line_feeds_from : (start : ℕ) (bytes : List ℕ) → length (line_feeds_from start bytes) ≤ length bytes
length-line_feeds_from start [] = omega arith
length-line_feeds_from start (b ∷ bytes) = grind (arith, length-line_feeds_from (start + 1) bytes)

-- no line feed comes before the text
pub line_feeds_from-above : (start : ℕ) (bytes : List ℕ) (j d : ℕ) → j < length (line_feeds_from start bytes) → start ≤ get_or (line_feeds_from start bytes) j d
line_feeds_from-above start [] j d l = omega arith
line_feeds_from-above start (b ∷ bytes) zero d l = grind (arith, line_feeds_from-above (start + 1) bytes zero d)
line_feeds_from-above start (b ∷ bytes) (suc j) d l = grind (arith, line_feeds_from-above (start + 1) bytes j d, line_feeds_from-above (start + 1) bytes (suc j) d)

-- a number that is above none of those after it
non_decreasing-cons : (x : ℕ) (xs : List ℕ) → ((j d : ℕ) → j < length xs → x ≤ get_or xs j d) → IsNonDecreasing xs → IsNonDecreasing (x ∷ xs)
non_decreasing-cons x xs above rises zero zero d le l = omega arith
non_decreasing-cons x xs above rises zero (suc j) d le l = above j d (omega arith)
non_decreasing-cons x xs above rises (suc i) zero d le l = omega arith
non_decreasing-cons x xs above rises (suc i) (suc j) d le l = rises i j d (omega arith) (omega arith)

-- the places of line feeds rise
pub non_decreasing-line_feeds_from : (start : ℕ) (bytes : List ℕ) → IsNonDecreasing (line_feeds_from start bytes)
non_decreasing-line_feeds_from start [] = λ i j d le l. omega arith
non_decreasing-line_feeds_from start (b ∷ bytes) =
    elim (is_line_feed b) as (λ v. IsNonDecreasing (cond v (start ∷ line_feeds_from (start + 1) bytes) (line_feeds_from (start + 1) bytes))) [ true ↦ non_decreasing-cons start (line_feeds_from (start + 1) bytes) (λ j d l. omega (arith, line_feeds_from-above (start + 1) bytes j d l)) (non_decreasing-line_feeds_from (start + 1) bytes) | false ↦ non_decreasing-line_feeds_from (start + 1) bytes ]

-- where a test holds below a place and fails from there on, it holds of as many elements
pub count_by-partition : (test : ℕ → Bool) (xs : List ℕ) (i : ℕ) → i ≤ length xs → IsPartitionPoint (λ x. test x ≡ true) (λ x. test x ≡ false) xs i → i ≡ count_by test xs
count_by-partition test [] i le h = omega arith
count_by-partition test (x ∷ xs) zero le h =
    let rest : 0 ≡ count_by test xs = count_by-partition test xs zero (omega arith) ((λ k d low high. absurd (omega arith)), (λ k d low high. h.1 (suc k) d (omega arith) (omega arith))) in
    let first : test x ≡ false = h.1 0 0 (omega arith) (omega arith) in
    grind (arith, common_steps)
count_by-partition test (x ∷ xs) (suc i) le h =
    let rest : i ≡ count_by test xs = count_by-partition test xs i (omega arith) ((λ k d low high. h.0 (suc k) d (omega arith) (omega arith)), (λ k d low high. h.1 (suc k) d (omega arith) (omega arith))) in
    let first : test x ≡ true = h.0 0 0 (omega arith) (omega arith) in
    grind (arith, common_steps)

-- one more byte before the place
count_by-line_feed : (at start b : ℕ) (feeds bytes : List ℕ) → start < at → count_by (λ feed. ltb feed at) feeds ≡ count_by is_line_feed bytes → count_by (λ feed. ltb feed at) (cond (is_line_feed b) (start ∷ feeds) feeds) ≡ count_by is_line_feed (b ∷ bytes)
count_by-line_feed at start b feeds bytes l rest = grind (arith, common_steps, sum_by-cons)

-- one more byte at the place or after it
count_by-no_line_feed : (at start b : ℕ) (feeds : List ℕ) → at ≤ start → count_by (λ feed. ltb feed at) feeds ≡ 0 → count_by (λ feed. ltb feed at) (cond (is_line_feed b) (start ∷ feeds) feeds) ≡ 0
count_by-no_line_feed at start b feeds l rest = grind (arith, common_steps, sum_by-cons)

-- the line feeds below a place
pub count_by-line_feeds : (at start : ℕ) (bytes : List ℕ) → count_by (λ feed. ltb feed at) (line_feeds_from start bytes) ≡ count_by is_line_feed (take (at - start) bytes)
count_by-line_feeds at start [] = grind (arith, common_steps)
count_by-line_feeds at start (b ∷ bytes) =
    let rest : count_by (λ feed. ltb feed at) (line_feeds_from (start + 1) bytes) ≡ count_by is_line_feed (take (at - (start + 1)) bytes) = count_by-line_feeds at (start + 1) bytes in
    elim (leb_tells at start) [
      | inr l ↦
          let one : at - start ≡ suc (at - (start + 1)) = omega arith in
          rw one (count_by-line_feed at start b (line_feeds_from (start + 1) bytes) (take (at - (start + 1)) bytes) l.1 rest)
      | inl l ↦
          let none : at - start ≡ 0 = omega arith in
          let after : at - (start + 1) ≡ 0 = omega arith in
          let nothing : count_by (λ feed. ltb feed at) (line_feeds_from (start + 1) bytes) ≡ 0 = rest ∙ rw after refl in
          rw none (count_by-no_line_feed at start b (line_feeds_from (start + 1) bytes) l.1 nothing)
    ]

-- the index of a text may be searched
pub line_index-line_feeds : (text : List ℕ) → length text < 2 ^ 32 → IsLineIndex (line_feeds text)
line_index-line_feeds text l = (omega (arith, length-line_feeds_from 0 text), non_decreasing-line_feeds_from 0 text)

-- where a search for a place ends, in the index of a text
pub line_from_search : (text feeds : List ℕ) (at n : ℕ) → n ≡ count_by (λ feed. ltb feed at) feeds → feeds ≡ line_feeds text → n ≡ line_of text at
line_from_search text feeds at n h e =
    let whole : at - 0 ≡ at = omega arith in
    h ∙ (rw e (rw whole at (count_by-line_feeds at 0 text)))

-- the places at which a search finds line feeds
places_from-line_feeds : (text : List ℕ) (i n : ℕ) → i + n ≡ length text → places_from (is_byte 10) text i n ≡ line_feeds_from i (drop i text)
unfolding places_from
places_from-line_feeds text i zero e = rw (drop_all i text (omega arith)) refl
places_from-line_feeds text i (suc n) e =
    let rest : places_from (is_byte 10) text (i + 1) n ≡ line_feeds_from (i + 1) (drop (i + 1) text) = places_from-line_feeds text (i + 1) n (omega arith) in
    rw (rest, drop_more text i 0 (omega arith)) refl

-- a search begins
pub search_begins : (text bytes feeds found rest : List ℕ) → feeds ≡ [] → rest ≡ found → found ≡ places (is_byte 10) bytes → bytes ≡ text → feeds ++ rest ≡ line_feeds text
search_begins text bytes feeds found rest none is value same =
    rw (none, is, value, same) (places_from-line_feeds text 0 (length text - 0) (omega arith))

-- a line feed is found
pub search_goes_on : (whole feeds more rest left : List ℕ) (at : ℕ) → feeds ++ rest ≡ whole → rest ≡ at ∷ left → more ≡ feeds ++ at ∷ [] → more ++ left ≡ whole
search_goes_on whole feeds more rest left at h step pushed =
    rw pushed (append_assoc feeds (at ∷ []) left ∙ ap (λ xs. feeds ++ xs) (sym step) ∙ h)

-- none is left
pub search_ends : (whole feeds rest : List ℕ) → feeds ++ rest ≡ whole → rest ≡ [] → feeds ≡ whole
search_ends whole feeds rest h none = sym (append-nil feeds) ∙ ap (λ xs. feeds ++ xs) (sym none) ∙ h

-- each line feed is in the text
line_feeds_from-below : (start : ℕ) (bytes : List ℕ) (j d : ℕ) → j < length (line_feeds_from start bytes) → get_or (line_feeds_from start bytes) j d < start + length bytes
line_feeds_from-below start [] j d l = omega arith
line_feeds_from-below start (b ∷ bytes) zero d l = grind (arith, line_feeds_from-below (start + 1) bytes zero d)
line_feeds_from-below start (b ∷ bytes) (suc j) d l = grind (arith, line_feeds_from-below (start + 1) bytes j d, line_feeds_from-below (start + 1) bytes (suc j) d)

pub found_below : (text feeds rest left : List ℕ) (at : ℕ) → feeds ++ rest ≡ line_feeds text → rest ≡ at ∷ left → at < length text
found_below text feeds rest left at h step =
    let whole : feeds ++ at ∷ left ≡ line_feeds text = ap (λ xs. feeds ++ xs) (sym step) ∙ h in
    let place : get_or (line_feeds text) (length feeds) 0 ≡ at = rw (← whole) (get_or-append_seam feeds at left 0) in
    let many : length (line_feeds text) ≡ length feeds + suc (length left) = rw (← whole) (length-append feeds (at ∷ left)) in
    omega (arith, place, line_feeds_from-below 0 text (length feeds) 0 (omega arith))

-- ---- where a line begins

abbrev Has : List ℕ → ℕ → Type 0
Has xs x = (j : ℕ) × (j < length xs) × (get_or xs j 0 ≡ x)

has_more : (v : Bool) (s : ℕ) (xs : List ℕ) (x : ℕ) → Has xs x → Has (cond v (s ∷ xs) xs) x
has_more true s xs x h = (suc h.0, omega (arith, h.1), h.2)
has_more false s xs x h = h

has_first : (v : Bool) (s : ℕ) (xs : List ℕ) (x : ℕ) → v ≡ true → s ≡ x → Has (cond v (s ∷ xs) xs) x
has_first true s xs x is same = (0, omega arith, same)
has_first false s xs x is same = absurd (false≢true is)

-- a line feed of the text is listed
feed_at : (start : ℕ) (bytes : List ℕ) (k : ℕ) → k < length bytes → is_line_feed (get_or bytes k 0) ≡ true → Has (line_feeds_from start bytes) (start + k)
feed_at start [] k l is = absurd (omega arith)
feed_at start (b ∷ bytes) zero l is = has_first (is_line_feed b) start (line_feeds_from (start + 1) bytes) (start + 0) is (omega arith)
feed_at start (b ∷ bytes) (suc k) l is =
    let same : start + 1 + k ≡ start + suc k = omega arith in
    has_more (is_line_feed b) start (line_feeds_from (start + 1) bytes) (start + suc k)
    (subst (λ (x : ℕ). Has (line_feeds_from (start + 1) bytes) x) same (feed_at (start + 1) bytes k (omega arith) is))

one_on : (start b f : ℕ) (bytes : List ℕ) → start + 1 ≤ f → is_line_feed (get_or bytes (f - (start + 1)) 0) ≡ true → is_line_feed (get_or (b ∷ bytes) (f - start) 0) ≡ true
one_on start b f bytes l h = let one : f - start ≡ suc (f - (start + 1)) = omega arith in rw one h

listed_first : (v : Bool) (start b j : ℕ) (bytes xs : List ℕ) → v ≡ is_line_feed b
    → ((i : ℕ) → i < length xs → (start + 1 ≤ get_or xs i 0) × (is_line_feed (get_or bytes (get_or xs i 0 - (start + 1)) 0) ≡ true))
    → j < length (cond v (start ∷ xs) xs) → is_line_feed (get_or (b ∷ bytes) (get_or (cond v (start ∷ xs) xs) j 0 - start) 0) ≡ true
listed_first true start b zero bytes xs is rest l = let none : start - start ≡ 0 = omega arith in rw none (sym is)
listed_first true start b (suc j) bytes xs is rest l = let h = rest j (omega arith) in one_on start b (get_or xs j 0) bytes h.0 h.1
listed_first false start b j bytes xs is rest l = let h = rest j l in one_on start b (get_or xs j 0) bytes h.0 h.1

-- what is listed is a line feed of the text
feed_is : (start : ℕ) (bytes : List ℕ) (j : ℕ) → j < length (line_feeds_from start bytes) → is_line_feed (get_or bytes (get_or (line_feeds_from start bytes) j 0 - start) 0) ≡ true
feed_is start [] j l = absurd (omega arith)
feed_is start (b ∷ bytes) j l =
    listed_first (is_line_feed b) start b j bytes (line_feeds_from (start + 1) bytes) refl
    (λ i less. (line_feeds_from-above (start + 1) bytes i 0 less, feed_is (start + 1) bytes i less)) l

not_true : (b : Bool) → ¬ (b ≡ true) → b ≡ false
not_true true h = absurd (h refl)
not_true false h = refl

-- the last line feed is known
pub after_last_is : (bs : List ℕ) (n : ℕ) → n ≤ length bs → ((k : ℕ) → n ≤ k → k < length bs → ¬ (is_line_feed (get_or bs k 0) ≡ true))
    → (0 < n → is_line_feed (get_or bs (n - 1) 0) ≡ true) → drop n bs ≡ after_last is_line_feed bs
after_last_is bs n le none there =
    let len : suffix_len (λ x. not (is_line_feed x)) bs ≡ length bs - n =
    suffix_len_is (λ x. not (is_line_feed x)) bs n 0 le (λ k low high. ap not (not_true (is_line_feed (get_or bs k 0)) (none k low high))) (λ some. ap not (there some)) in
    let back : length bs - (length bs - n) ≡ n = omega arith in
    rw len (rw back refl)

starts_at : (text : List ℕ) (at s : ℕ) → at ≤ length text → s ≤ at → ((k : ℕ) → s ≤ k → k < at → ¬ (is_line_feed (get_or text k 0) ≡ true))
    → (0 < s → is_line_feed (get_or text (s - 1) 0) ≡ true) → s ≡ line_start text at
starts_at text at s within le none there =
    let long : length (take at text) ≡ at = length-take-le at text within in
    let rest : drop s (take at text) ≡ after_last is_line_feed (take at text) =
    after_last_is (take at text) s (omega arith)
    (λ k low high is. none k low (omega arith) (subst (λ (x : ℕ). is_line_feed x ≡ true) (get_or-take at text k 0 (omega arith)) is))
    (λ some. subst (λ (x : ℕ). is_line_feed x ≡ true) (sym (get_or-take at text (s - 1) 0 (omega arith))) (there some)) in
    let count : length (after_last is_line_feed (take at text)) ≡ at - s = ap length (sym rest) ∙ (length-drop s (take at text) ∙ ap (λ (x : ℕ). x - s) long) in
    omega (arith, count)

abbrev pub Splits : List ℕ → ℕ → ℕ → Type 0
Splits feeds at n = IsPartitionPoint (λ x. ltb x at ≡ true) (λ x. ltb x at ≡ false) feeds n

less_not : {P : Type 0} (a b : ℕ) → a < b → ltb a b ≡ false → P
less_not a b l h = grind (arith, nat_tests)

is_less : (a b : ℕ) → ltb a b ≡ true → a < b
is_less a b h = grind (arith, nat_tests)

-- no line feed comes before the place
pub starts_first : (text feeds : List ℕ) (at n : ℕ) → n ≡ 0 → Splits feeds at n → feeds ≡ line_feeds text → at ≤ length text → 0 ≡ line_start text at
starts_first text feeds at n none h e within =
    starts_at text at 0 within (omega arith)
    (λ k low high is.
    let listed : Has feeds (0 + k) = subst (λ (xs : List ℕ). Has xs (0 + k)) (sym e) (feed_at 0 text k (omega arith) is) in
    less_not (get_or feeds listed.0 0) at (omega (arith, listed.2)) (h.1 listed.0 0 (omega arith) listed.1))
    (λ some. absurd (omega arith))

-- the last one that does is in the list
pub feed_below : (feeds : List ℕ) (at n : ℕ) → 0 < n → Splits feeds at n → get_or feeds (n - 1) 0 < at
feed_below feeds at n some h = is_less (get_or feeds (n - 1) 0) at (h.0 (n - 1) 0 (omega arith) (omega arith))

pub starts_after : (text feeds : List ℕ) (at n : ℕ) → 0 < n → n ≤ length feeds → Splits feeds at n → feeds ≡ line_feeds text → at ≤ length text
    → get_or feeds (n - 1) 0 + 1 ≡ line_start text at
starts_after text feeds at n some few h e within =
    let rises : IsNonDecreasing feeds = subst IsNonDecreasing (sym e) (non_decreasing-line_feeds_from 0 text) in
    let f = get_or feeds (n - 1) 0 in
    starts_at text at (f + 1) within (omega (arith, feed_below feeds at n some h))
    (λ k low high is.
    let listed : Has feeds (0 + k) = subst (λ (xs : List ℕ). Has xs (0 + k)) (sym e) (feed_at 0 text k (omega arith) is) in
    elim (cases_lt listed.0 n) [
      | inl less ↦ absurd (omega (arith, low, listed.2, rises listed.0 (n - 1) 0 (omega arith) (omega arith)))
      | inr past ↦ less_not (get_or feeds listed.0 0) at (omega (arith, listed.2)) (h.1 listed.0 0 past listed.1)
    ])
    (λ _.
    let whole : f + 1 - 1 ≡ f - 0 = omega arith in
    let listed = feed_is 0 text (n - 1) (subst (λ (xs : List ℕ). n - 1 < length xs) e (omega arith)) in
    rw whole (subst (λ (xs : List ℕ). is_line_feed (get_or text (get_or xs (n - 1) 0 - 0) 0) ≡ true) (sym e) listed))
