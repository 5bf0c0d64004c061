-- Where lines begin, and the line of a place.
use Rattle.std.proofs.Common.{◌≡◌, ℕ, zero, suc, ◌+◌, ◌-◌, ◌<◌, ◌≤◌, Bool, true, false, cond, List, [], ◌∷◌, map, length, get_or, take, drop, refl, sym, ap, ◌∙◌, arith, ltb, inl, inr}
use Rattle.std.proofs.lemmas.Bool.{lt-ltb, le-ltb}
use Rattle.std.proofs.lemmas.Bool.Decides.{leb_tells, eqb_tells}
use Rattle.std.proofs.lemmas.List.{drop-take, get_or_default, get_or-map, get_or_past, length-map}
use Rattle.std.proofs.lemmas.Str.{IsCharBoundary-start, IsCharBoundary-after_ascii, IsUtf8-between}
use Rattle.std.specs.List.Sorted.{IsNonDecreasing}
use Rattle.std.specs.Str.{IsCharBoundary, IsUtf8}
use Rattle.text_pos.proofs.LineFeeds.{count_by-partition, length-line_feeds_from, line_feeds_from-above, line_from_search, non_decreasing-line_feeds_from}
use Rattle.text_pos.specs.Line.{is_line_feed, line_feeds, line_feeds_from, line_of}
use Rattle.text_utf16.proofs.Counting.{utf16_length-units}
use Rattle.text_utf16.proofs.Finding.{units_add}
use Rattle.text_utf16.specs.declared.position.Pos.{Pos}
use Rattle.text_utf16.specs.Position.{line_starts, line_start, position_of, utf16_length}
use Rattle.text_utf16.specs.Units.{units}

-- the byte at a place of the rest of a text
one_on : (b : ℕ) (bytes : List ℕ) (start v : ℕ) → start + 1 ≤ v → get_or bytes (v - (start + 1)) 0 ≡ 10 → get_or (b ∷ bytes) (v - start) 0 ≡ 10
one_on b bytes start v le e = let same : v - start ≡ suc (v - (start + 1)) = omega arith in rw same e

-- a line feed is at each place of one
line_feed_at : (start : ℕ) (bytes : List ℕ) (j : ℕ) → j < length (line_feeds_from start bytes) → get_or bytes (get_or (line_feeds_from start bytes) j 0 - start) 0 ≡ 10
line_feed_at start [] j l = absurd (omega arith)
line_feed_at start (b ∷ bytes) j l =
    by (is_line_feed b) refl j l (λ k m. one_on b bytes start (get_or (line_feeds_from (start + 1) bytes) k 0) (line_feeds_from-above (start + 1) bytes k 0 m) (line_feed_at (start + 1) bytes k m))
  where
    by : (t : Bool) → is_line_feed b ≡ t → (j : ℕ) → j < length (cond t (start ∷ line_feeds_from (start + 1) bytes) (line_feeds_from (start + 1) bytes))
        → ((k : ℕ) → k < length (line_feeds_from (start + 1) bytes) → get_or (b ∷ bytes) (get_or (line_feeds_from (start + 1) bytes) k 0 - start) 0 ≡ 10)
        → get_or (b ∷ bytes) (get_or (cond t (start ∷ line_feeds_from (start + 1) bytes) (line_feeds_from (start + 1) bytes)) j 0 - start) 0 ≡ 10
    by true e zero l later = let none : start - start ≡ 0 = omega arith in rw none (grind (arith, e, eqb_tells b 10))
    by true e (suc j) l later = later j (omega (arith, l))
    by false e j l later = later j l

-- a line feed is in the text
feed_inside : (text : List ℕ) (k : ℕ) → k < length (line_feeds text) → (get_or (line_feeds text) k 0 < length text) × (get_or text (get_or (line_feeds text) k 0) 0 ≡ 10)
feed_inside text k l = by (get_or (line_feeds text) k 0) (line_feed_at 0 text k l)
  where
    by : (f : ℕ) → get_or text (f - 0) 0 ≡ 10 → (f < length text) × (get_or text f 0 ≡ 10)
    by f e =
        let whole : f - 0 ≡ f = omega arith in
        let at : get_or text f 0 ≡ 10 = rw (← whole) e in
        (elim (leb_tells (length text) f) [ inr l ↦ l.1 | inl l ↦ absurd (omega (arith, at, get_or_past text f 0 l.1)) ], at)

-- a later start is one after a line feed
start_after : (text : List ℕ) (k d : ℕ) → suc k < length (line_starts text) → get_or (line_starts text) (suc k) d ≡ get_or (line_feeds text) k 0 + 1
start_after text k d l = get_or-map (λ feed. feed + 1) (line_feeds text) k 0 d (omega (arith, l, length-map (line_feeds text) (λ feed. feed + 1)))

-- each start is between two characters of the text
pub start_boundary : (text : List ℕ) (k : ℕ) → IsUtf8 text → k < length (line_starts text) → IsCharBoundary text (get_or (line_starts text) k 0)
start_boundary text zero u l = IsCharBoundary-start text u
start_boundary text (suc k) u l =
    let feed = feed_inside text k (omega (arith, l, length-map (line_feeds text) (λ feed. feed + 1))) in
    rw (start_after text k 0 l) (IsCharBoundary-after_ascii text (get_or (line_feeds text) k 0) u feed.0 (omega (arith, feed.1)))

-- starts do not fall
pub starts_rise : (text : List ℕ) → IsNonDecreasing (line_starts text)
starts_rise text zero zero d le l = omega arith
starts_rise text zero (suc j) d le l = omega arith
starts_rise text (suc i) zero d le l = absurd (omega arith)
starts_rise text (suc i) (suc j) d le l =
    omega (arith, start_after text i d (omega (arith, le, l)), start_after text j d l, non_decreasing-line_feeds_from 0 text i j 0 (omega arith) (omega (arith, l, length-map (line_feeds text) (λ feed. feed + 1))))

-- no more starts than bytes and one
pub starts_few : (text : List ℕ) → length (line_starts text) ≤ length text + 1
starts_few text = omega (arith, length-map (line_feeds text) (λ feed. feed + 1), length-line_feeds_from 0 text)

-- the last start that is not after a place is that of its line
pub line_is : (text : List ℕ) (at r : ℕ) → r < length (line_starts text) → get_or (line_starts text) r 0 ≤ at → ((j : ℕ) → r < j → j < length (line_starts text) → at < get_or (line_starts text) j 0) → r ≡ line_of text at
line_is text at r l before after =
    line_from_search text (line_feeds text) at r (count_by-partition (λ feed. ltb feed at) (line_feeds text) r (omega (arith, l, many)) (low, high)) refl
  where
    many : length (map (λ feed. feed + 1) (line_feeds text)) ≡ length (line_feeds text)
    many = length-map (line_feeds text) (λ feed. feed + 1)

    low : (k d : ℕ) → 0 ≤ k → k < r → ltb (get_or (line_feeds text) k d) at ≡ true
    low k d _ below =
        let inside : k < length (line_feeds text) = omega (arith, below, l, many) in
        lt-ltb (get_or (line_feeds text) k d) at
        (omega (arith, get_or_default (line_feeds text) k d 0 inside, start_after text k 0 (omega (arith, below, l)), starts_rise text (suc k) r 0 (omega arith) l, before))

    high : (k d : ℕ) → r ≤ k → k < length (line_feeds text) → ltb (get_or (line_feeds text) k d) at ≡ false
    high k d from inside =
        le-ltb (get_or (line_feeds text) k d) at
        (omega (arith, get_or_default (line_feeds text) k d 0 inside, start_after text k 0 (omega (arith, inside, many)), after (suc k) (omega arith) (omega (arith, inside, many))))

-- the last number that is not above a bound
last_within : (xs : List ℕ) (x bound : ℕ) → IsNonDecreasing (x ∷ xs) → x ≤ bound
    → (r : ℕ) × (r < suc (length xs)) × (get_or (x ∷ xs) r 0 ≤ bound) × ((j : ℕ) → r < j → j < suc (length xs) → bound < get_or (x ∷ xs) j 0)
last_within [] x bound rise le = (0, omega arith, le, λ j a b. absurd (omega arith))
last_within (y ∷ xs) x bound rise le =
    elim (leb_tells y bound) [
      | inl l ↦
          let rest = last_within xs y bound (λ i j d a b. rise (suc i) (suc j) d (omega arith) (omega arith)) l.1 in
          (suc rest.0, omega (arith, rest.1), rest.2, λ j a b. from rest.0 j a b rest.3)
      | inr l ↦ (0, omega arith, le, λ j a b. omega (arith, rise 1 j 0 (omega arith) b, l.1))
    ]
  where
    from : (r j : ℕ) → suc r < j → j < suc (suc (length xs)) → ((j : ℕ) → r < j → j < suc (length xs) → bound < get_or (y ∷ xs) j 0) → bound < get_or (x ∷ y ∷ xs) j 0
    from r zero a b h = absurd (omega arith)
    from r (suc j) a b h = h j (omega arith) (omega arith)

-- the line of a place has a start, which is not after it
pub line_starts_before : (text : List ℕ) (at : ℕ) → (line_of text at < length (line_starts text)) × (line_start text at ≤ at)
line_starts_before text at =
    let last = last_within (map (λ feed. feed + 1) (line_feeds text)) 0 at (starts_rise text) (omega arith) in
    let is : last.0 ≡ line_of text at = line_is text at last.0 last.1 last.2 last.3 in
    (rw (← is) last.1, rw (← is) last.2)

-- the units between two places
pub column : (text : List ℕ) (s at : ℕ) → IsUtf8 text → IsCharBoundary text s → IsCharBoundary text at → s ≤ at → units (take at text) ≡ units (take s text) + utf16_length (drop s (take at text))
column text s at u a b le =
    let sum : s + (at - s) ≡ at = omega arith in
    let between : drop s (take at text) ≡ take (at - s) (drop s text) = ap (λ n. drop s (take n text)) (sym sum) ∙ drop-take s (at - s) text in
    omega (arith, ap (λ n. units (take n text)) sum, units_add text s (at - s), ap utf16_length between, utf16_length-units (take (at - s) (drop s text)) (IsUtf8-between text s at u le a b))

-- what a place's position says of the units before it
pub placed : (text : List ℕ) (p : Pos) (at : ℕ) → IsUtf8 text → IsCharBoundary text at → position_of text at ≡ p → (p.line < length (line_starts text)) × (units (take at text) ≡ units (take (get_or (line_starts text) p.line 0) text) + p.col)
unfolding position_of
placed text p at u b e =
    let before = line_starts_before text at in
    rw (← e) (before.0, column text (line_start text at) at u (start_boundary text (line_of text at) u before.0) b before.1)

-- the position of a place by the last start that is not after it
pub position_is : (text : List ℕ) (at r start m n : ℕ) → IsUtf8 text → IsCharBoundary text at → r < length (line_starts text) → start ≡ get_or (line_starts text) r 0 → start ≤ at
    → ((j : ℕ) → r < j → j < length (line_starts text) → at < get_or (line_starts text) j 0) → m ≡ units (take at text) → n ≡ units (take start text)
    → ◌≡◌ {A = Pos} (record { line = r; col = m - n }) (position_of text at)
unfolding position_of
position_is text at r start m n u b there is before after whole front =
    let line : r ≡ line_of text at = line_is text at r there (omega (arith, is, before)) after in
    let begins : start ≡ line_start text at = is ∙ ap (λ k. get_or (line_starts text) k 0) line in
    let boundary : IsCharBoundary text start = rw is (start_boundary text r u there) in
    let col : m - n ≡ utf16_length (drop (line_start text at) (take at text)) =
    omega (arith, whole, front, column text start at u boundary b before, ap (λ s. utf16_length (drop s (take at text))) begins) in
    λ i. record { line = line i; col = col i }

-- each start is in the text, or at its end
pub start_inside : (text : List ℕ) (k : ℕ) → IsUtf8 text → k < length (line_starts text) → get_or (line_starts text) k 0 ≤ length text
start_inside text k u l = (start_boundary text k u l).0
