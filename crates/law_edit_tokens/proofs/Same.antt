-- Bytes that two texts share, and what is read of them.
use Rattle.std.proofs.Common.{◌≡◌, ℕ, ◌+◌, ◌-◌, ◌<◌, ◌≤◌, Bool, true, false, length, get_or, take, drop, length-drop, sym, ap, ◌∙◌, subst, arith}
use Rattle.std.proofs.lemmas.Bool.Decides.{nat_tests}
use Rattle.std.proofs.lemmas.List.{get_or-take, get_or-drop, length-take-le, ext_get_or}
use Rattle.std.proofs.lemmas.List.Sums.{prefix_len_is, prefix_len_passes, prefix_len_stops}
use Rattle.std.specs.Prelude.{◌==◌, ◌&&◌, ◌||◌, not, nat_eq, nat_le, nat_lt, if◌then◌else◌}
use Rattle.std.specs.List.{starts_with, prefix_len}
use lib.Pointwise.{pointwise}
use Rattle.std.specs.Char.{is_ascii_digit}
use Rattle.law_renumber.specs.sql_token.Comment.{opens, closes, Comment, comment, Inside, none, byte, nested}
use Rattle.law_renumber.specs.sql_token.Quote.{Items, quoted_item, IsQuoted, is_tag, delimiter_len, begins_dollar, dollar_item, IsDollar}
use Rattle.law_renumber.specs.sql_token.Quote.Items.{none as no_items, more}
use Rattle.law_renumber.specs.sql_token.Token.{Text}
use Rattle.law_renumber.proofs.of_sql_token.Ahead.{Agree}

-- ---- the same bytes

pub agree_drop : (t u : Text) (m i : ℕ) → i ≤ m → Agree t u m → Agree (drop i t) (drop i u) (m - i)
agree_drop t u m i h a = record {
  here = let here = a.here in omega (arith, length-drop i t);
  there = let there = a.there in omega (arith, length-drop i u);
  same = λ k low. get_or-drop i t k 0 ∙ a.same (i + k) (omega arith) ∙ sym (get_or-drop i u k 0);
}

pub agree_sym : (t u : Text) (m : ℕ) → Agree t u m → Agree u t m
agree_sym t u m a = record { here = a.there; there = a.here; same = λ k low. sym (a.same k low) }

pub agree_less : (t u : Text) (m n : ℕ) → n ≤ m → Agree t u m → Agree t u n
agree_less t u m n h a = record {
  here = let here = a.here in omega arith;
  there = let there = a.there in omega arith;
  same = λ k low. a.same k (omega arith);
}

pub take_same : (t u : Text) (m n : ℕ) → n ≤ m → Agree t u m → take n t ≡ take n u
take_same t u m n h a =
    let here = a.here in let there = a.there in
    let p : length (take n t) ≡ n = length-take-le n t (omega arith) in
    let q : length (take n u) ≡ n = length-take-le n u (omega arith) in
    ext_get_or 0 (take n t) (take n u) (p ∙ sym q) (λ k low.
    let within : k < n = omega arith in
    get_or-take n t k 0 within ∙ a.same k (omega arith) ∙ sym (get_or-take n u k 0 within))

-- texts that begin alike
pub agree_take : (t u : Text) (m : ℕ) → m ≤ length t → m ≤ length u → take m t ≡ take m u → Agree t u m
agree_take t u m h l e = record {
  here = h;
  there = l;
  same = λ k low. sym (get_or-take m t k 0 low) ∙ ap (λ (z : Text). get_or z k 0) e ∙ get_or-take m u k 0 low;
}

-- ---- block comments

mutual
  pub comment_grows : (z : Text) {i j : ℕ} → Comment z i j → i + 4 ≤ j
  comment_grows z (comment o p c e) = let grows = inside_grows z p in omega arith

  pub inside_grows : (z : Text) {i j : ℕ} → Inside z i j → i ≤ j
  inside_grows z none = omega arith
  inside_grows z (byte w o c p) = let grows = inside_grows z p in omega arith
  inside_grows z (nested p q) = let one = comment_grows z p in let two = inside_grows z q in omega arith

opens_same : (z y : Text) (m i : ℕ) → Agree z y m → i + 1 < m → opens z i ≡ opens y i
opens_same z y m i a h =
    let now = a.same i (omega arith) in let next = a.same (i + 1) h in
    λ x. now x == 47 && next x == 42

closes_same : (z y : Text) (m i : ℕ) → Agree z y m → i + 1 < m → closes z i ≡ closes y i
closes_same z y m i a h =
    let now = a.same i (omega arith) in let next = a.same (i + 1) h in
    λ x. now x == 42 && next x == 47

mutual
  pub comment_same : (z y : Text) (m : ℕ) → Agree z y m → {i j : ℕ} → Comment z i j → j ≤ m → Comment y i j
  comment_same z y m a {i} {j} (comment {m = k} o p c e) h =
      let grows = inside_grows z p in
      comment (sym (opens_same z y m i a (omega arith)) ∙ o) (inside_same z y m a p (omega arith)) (sym (closes_same z y m k a (omega arith)) ∙ c) e

  pub inside_same : (z y : Text) (m : ℕ) → Agree z y m → {i j : ℕ} → Inside z i j → j < m → Inside y i j
  inside_same z y m a none h = none
  inside_same z y m a {i} {j} (byte w o c p) h =
      let grows = inside_grows z p in let there = a.there in
      byte (omega arith) (sym (opens_same z y m i a (omega arith)) ∙ o) (sym (closes_same z y m i a (omega arith)) ∙ c) (inside_same z y m a p h)
  inside_same z y m a (nested p q) h =
      let grows = inside_grows z q in
      nested (comment_same z y m a p (omega arith)) (inside_same z y m a q h)

-- ---- bodies of items

module _ (item other : ℕ → ℕ) where
  pub items_grow : {i j : ℕ} → Items item i j → i ≤ j
  items_grow no_items = omega arith
  items_grow (more some rest) = let grows = items_grow rest in omega arith

  pub items_same : {i j : ℕ} → Items item i j → ((k : ℕ) → k < j → item k ≡ other k) → Items other i j
  items_same no_items same = no_items
  items_same {i} {j} (more some rest) same =
      let grows = items_grow rest in
      let here = same i (omega arith) in
      more (subst (λ (x : ℕ). 0 < x) here some) (subst (λ (x : ℕ). Items other (i + x) j) here (items_same rest same))

unfoldable pub quoted_by : ℕ → Bool → ℕ → ℕ → Bool → Bool → ℕ
quoted_by quote escapes b c past last =
    if past then 0
    else (if b == quote then (if c == quote then 2 else 0)
    else (if escapes && b == 92 && last then 2
    else 1))

pub within_le : (n i : ℕ) → i < n → nat_le n i ≡ false
within_le n i h = grind (arith, nat_tests)

pub within_lt : (n i : ℕ) → i < n → nat_lt i n ≡ true
within_lt n i h = grind (arith, nat_tests)

pub quoted_item_same : (quote : ℕ) (escapes : Bool) (z y : Text) (m i : ℕ) → Agree z y m → i + 1 < m → quoted_item quote escapes z i ≡ quoted_item quote escapes y i
unfolding quoted_by
quoted_item_same quote escapes z y m i a h =
    let now = a.same i (omega arith) in let next = a.same (i + 1) h in
    let here = a.here in let there = a.there in
    let past = within_le (length z) i (omega arith) ∙ sym (within_le (length y) i (omega arith)) in
    let last = within_lt (length z) (i + 1) (omega arith) ∙ sym (within_lt (length y) (i + 1) (omega arith)) in
    λ x. quoted_by quote escapes (now x) (next x) (past x) (last x)

pub quoted_same : (quote : ℕ) (escapes : Bool) (z y : Text) (from m n : ℕ) → Agree z y m → n < m → IsQuoted quote escapes z from n → IsQuoted quote escapes y from n
quoted_same quote escapes z y from m n a h p =
    let size = p.length in
    let same : (k : ℕ) → k < p.body + 1 → quoted_item quote escapes z k ≡ quoted_item quote escapes y k =
    λ k low. quoted_item_same quote escapes z y m k a (omega arith) in
    record {
      body = p.body;
      ends = record {
        items = items_same _ _ p.ends.items (λ k low. same k (omega arith));
        stops = sym (same p.body (omega arith)) ∙ p.ends.stops;
      };
      closes = sym (a.same p.body (omega arith)) ∙ p.closes;
      length = size;
    }

-- ---- dollar quotes

stands_same : (z y mark : Text) (m i : ℕ) → Agree z y m → i + length mark ≤ m → starts_with nat_eq (drop i z) mark ≡ starts_with nat_eq (drop i y) mark
stands_same z y mark m i a h =
    let rest = agree_drop z y m i (omega arith) a in
    let same = take_same (drop i z) (drop i y) (m - i) (length mark) (omega arith) rest in
    ap (λ (x : Text). pointwise nat_eq mark x) same

-- a mark that lies in the shared bytes
pub tag_same : (z y : Text) (m : ℕ) → Agree z y m → delimiter_len z ≤ m → delimiter_len y ≡ delimiter_len z
tag_same z y m a h =
    let here = a.here in let there = a.there in
    let size = length-drop 1 y in
    let size' = length-drop 1 z in
    let byte : (k : ℕ) → k + 1 < m → get_or (drop 1 y) k 0 ≡ get_or (drop 1 z) k 0 =
    λ k low. get_or-drop 1 y k 0 ∙ sym (a.same (1 + k) (omega arith)) ∙ sym (get_or-drop 1 z k 0) in
    ap (λ (x : ℕ). 2 + x) (prefix_len_is is_tag (drop 1 y) (prefix_len is_tag (drop 1 z)) 0 (omega arith)
    (λ k low. ap is_tag (byte k (omega arith)) ∙ prefix_len_passes is_tag (drop 1 z) k 0 low)
    (λ low. ap is_tag (byte (prefix_len is_tag (drop 1 z)) (omega arith)) ∙ prefix_len_stops is_tag (drop 1 z) 0 (omega arith)))

pub dollar_begins_same : (z y : Text) (m : ℕ) → Agree z y m → delimiter_len z ≤ m → begins_dollar z ≡ begins_dollar y
dollar_begins_same z y m a h =
    let first = a.same 0 (omega arith) in
    let second = a.same 1 (omega arith) in
    let last : get_or z (delimiter_len z - 1) 0 ≡ get_or y (delimiter_len y - 1) 0 =
    a.same (delimiter_len z - 1) (omega arith) ∙ ap (λ (x : ℕ). get_or y (x - 1) 0) (sym (tag_same z y m a h)) in
    λ x. first x == 36 && not (is_ascii_digit (second x)) && last x == 36

dollar_item_by : Bool → Bool → ℕ
dollar_item_by past stands = if past || stands then 0 else 1

dollar_item_same : (mark z y : Text) (m i : ℕ) → Agree z y m → i < m → i + length mark ≤ m → dollar_item mark z i ≡ dollar_item mark y i
unfolding dollar_item_by
dollar_item_same mark z y m i a low h =
    let here = a.here in let there = a.there in
    let past = within_le (length z) i (omega arith) ∙ sym (within_le (length y) i (omega arith)) in
    let stands = stands_same z y mark m i a h in
    λ x. dollar_item_by (past x) (stands x)

pub dollar_same : (z y : Text) (m n : ℕ) → Agree z y m → n ≤ m → IsDollar z n → IsDollar y n
dollar_same z y m n a h p =
    let size = p.length in
    let here = a.here in let there = a.there in
    let grows = items_grow _ (dollar_item (take (delimiter_len z) z) z) p.ends.items in
    let tag = tag_same z y m a (omega arith) in
    let mark : take (delimiter_len z) z ≡ take (delimiter_len y) y = take_same z y m (delimiter_len z) (omega arith) a ∙ ap (λ (x : ℕ). take x y) (sym tag) in
    let len : length (take (delimiter_len z) z) ≡ delimiter_len z = length-take-le (delimiter_len z) z (omega arith) in
    let same : (k : ℕ) → k < p.body + 1 → dollar_item (take (delimiter_len z) z) z k ≡ dollar_item (take (delimiter_len y) y) y k =
    λ k low. dollar_item_same (take (delimiter_len z) z) z y m k a (omega arith) (omega arith) ∙ ap (λ (x : Text). dollar_item x y k) mark in
    record {
      body = p.body;
      ends = record {
        items = subst (λ (x : ℕ). Items (dollar_item (take (delimiter_len y) y) y) x p.body) (sym tag) (items_same _ _ p.ends.items (λ k low. same k (omega arith)));
        stops = sym (same p.body (omega arith)) ∙ p.ends.stops;
      };
      within = omega arith;
      length = size ∙ ap (λ (x : ℕ). p.body + x) (sym tag);
    }
