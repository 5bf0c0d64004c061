-- The look-up finds a keyword exactly where its text is there.
use Rattle.std.proofs.Common.{if◌then◌else◌, nat_lt, nat_le, ◌-◌, ◌%◌, ◌||◌, subst, ◌≡◌, refl, arith, ◌<◌, sym, ◌∙◌, ap, ℕ, zero, suc, cond, List, [], ◌∷◌, slice_index_or, map, length, Bool, true, false, Option, Some, None, ◌↔◌, IsTrue, slice_index}
use Rattle.std.proofs.lemmas.Slice.Eq.{bytes_eq-Decides}
use Rattle.std.specs.Char.{to_ascii_lowercase}
use Rattle.std.specs.List.{find}
use Rattle.std.proofs.lemmas.Bool.{true≢false}
use Rattle.std.specs.Str.{str_eq_ignore_ascii_case, bytes_eq}
use Rattle.sql_keyword.specs.declared.words.Keyword.{Keyword}
use Rattle.sql_keyword.specs.declared.slots.TheConstants.{SLOT_COUNT}
use Rattle.sql_keyword.specs.Find.{keyword_of}
use Rattle.sql_keyword.specs.Texts.{text, all_keywords}
use Rattle.sql_keyword.specs.Slots.{slot, start_of, length_of, keyword_in, text_at, text_in, letter_at, look_up}
use Rattle.sql_keyword.proofs.Below.{all_below, below_so}
use Rattle.sql_keyword.proofs.Found.{found}
use Rattle.sql_keyword.proofs.Listed.{listed}
use Rattle.sql_keyword.proofs.Letters.{place, same_length, same_at}

-- the slot depends on the lowercase bytes alone
same_slot : (a b : List ℕ) → map to_ascii_lowercase a ≡ map to_ascii_lowercase b → slot a ≡ slot b
unfolding slot
same_slot a b e =
    let n : length a ≡ length b = same_length a b e in
    let at : (i : ℕ) → letter_at a i ≡ letter_at b i = λ i. sym (place (slice_index a i)) ∙ ap (λ l. l % 32) (same_at a b e i) ∙ place (slice_index b i) in
    rw (n, at 0, at 1, at (length b - 2), at (length b - 1)) refl

same_keyword : (a b : List ℕ) → map to_ascii_lowercase a ≡ map to_ascii_lowercase b → look_up a ≡ look_up b
unfolding look_up
same_keyword a b e = rw (same_length a b e, same_slot a b e, e) refl

backward : (bs : List ℕ) (k : Keyword) → IsTrue (str_eq_ignore_ascii_case bs (text k)) → look_up bs ≡ Some k
backward bs k h =
    same_keyword bs (text k) ((bytes_eq-Decides (map to_ascii_lowercase bs) (map to_ascii_lowercase (text k))).0 h) ∙ found k

abbrev spelled_as : Option Keyword → List ℕ → Bool
spelled_as None t = true
spelled_as (Some k) t = bytes_eq t (text k)

abbrev is_spelled : ℕ → Bool
is_spelled n = spelled_as (keyword_in n) (text_in n)

all_spelled : all_below is_spelled SLOT_COUNT ≡ true
unfolding text text_at start_of length_of keyword_in
all_spelled = refl

slot_below : (bs : List ℕ) → slot bs < SLOT_COUNT
unfolding slot
slot_below bs = omega arith

entry_spelled : (bs : List ℕ) → is_spelled (slot bs) ≡ true
entry_spelled bs = below_so is_spelled SLOT_COUNT (slot bs) all_spelled (slot_below bs)

pick : (b c : Bool) (o : Option Keyword) (k : Keyword) → (if b then None else if c then o else None) ≡ Some k → (c ≡ true) × (o ≡ Some k)
pick true c o k h = absurd (cc)
pick false true o k h = (refl, h)
pick false false o k h = absurd (cc)

spelled_so : (o : Option Keyword) (t : List ℕ) (k : Keyword) → spelled_as o t ≡ true → o ≡ Some k → t ≡ text k
spelled_so None t k h e = absurd (cc)
spelled_so (Some j) t k h e =
    let same : j ≡ k = cc in
    (bytes_eq-Decides t (text j)).0 h ∙ ap text same

forward : (bs : List ℕ) (k : Keyword) → look_up bs ≡ Some k → IsTrue (str_eq_ignore_ascii_case bs (text k))
unfolding look_up
forward bs k h =
    let p = pick (nat_lt (length bs) 2 || nat_le 16 (length bs)) (str_eq_ignore_ascii_case bs (text_in (slot bs))) (keyword_in (slot bs)) k h in
    let e = spelled_so (keyword_in (slot bs)) (text_in (slot bs)) k (entry_spelled bs) p.1 in
    let P : List ℕ → Type 0 = λ t. IsTrue (str_eq_ignore_ascii_case bs t) in
    subst P e p.0

pub looked_up : (bs : List ℕ) (k : Keyword) → (look_up bs ≡ Some k) ↔ IsTrue (str_eq_ignore_ascii_case bs (text k))
looked_up bs k = (forward bs k, backward bs k)

-- ---- the first of all keywords that has the text

passes : (p : Keyword → Bool) (ks : List Keyword) (k : Keyword) → find p ks ≡ Some k → p k ≡ true
passes p [] k h = absurd (cc)
passes p (x ∷ xs) k h = by (p x) refl (passes p xs k) h
  where
    by : (b : Bool) → b ≡ p x → (find p xs ≡ Some k → p k ≡ true) → (cond b (Some x) (find p xs)) ≡ Some k → p k ≡ true
    by true e more g = let same : x ≡ k = cc in ap p (sym same) ∙ sym e
    by false e more g = more g

fails : (p : Keyword → Bool) (ks : List Keyword) (k : Keyword) (i : ℕ) → find p ks ≡ None → i < length ks → p (slice_index_or ks i k) ≡ false
fails p [] k i h l = absurd (omega arith)
fails p (x ∷ xs) k i h l = by (p x) refl (fails p xs k) i h l
  where
    by : (b : Bool) → b ≡ p x → ((i : ℕ) → find p xs ≡ None → i < length xs → p (slice_index_or xs i k) ≡ false)
        → (i : ℕ) → (cond b (Some x) (find p xs)) ≡ None → i < length (x ∷ xs) → p (slice_index_or (x ∷ xs) i k) ≡ false
    by true e more i g l = absurd (cc)
    by false e more zero g l = sym e
    by false e more (suc i) g l = more i g (omega arith)

-- the table finds it
pub same_found : (bs : List ℕ) → keyword_of bs ≡ look_up bs
unfolding keyword_of
same_found bs = by (find is_text all_keywords) refl (look_up bs) refl
  where
    is_text : Keyword → Bool
    is_text k = str_eq_ignore_ascii_case bs (text k)

    by : (o : Option Keyword) → o ≡ find is_text all_keywords → (t : Option Keyword) → t ≡ look_up bs → o ≡ t
    by None e None d = refl
    by (Some k) e t d = sym (d ∙ (looked_up bs k).1 (passes is_text all_keywords k (sym e)))
    by None e (Some k) d =
        let is = listed k in
        absurd (true≢false (sym ((looked_up bs k).0 (sym d)) ∙ ap is_text is.1.1 ∙ fails is_text all_keywords k is.0 (sym e) is.1.0))
