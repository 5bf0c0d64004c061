-- Four letters compared at once.
use Rattle.std.proofs.Common.{◌≡◌, arith, sym, ◌∙◌, ap, subst, ℕ, ◌+◌, ◌*◌, ◌<◌, ◌≤◌, List, length, drop, nat_eq, slice_index, inl, inr, lit<}
use Rattle.std.specs.Bool.{Decides}
use Rattle.std.proofs.lemmas.Bool.{cases_eq}
use Rattle.std.proofs.lemmas.Bool.Decides.{nat_tests}
use Rattle.std.proofs.lemmas.List.{get_or-drop}
use Rattle.std.proofs.lemmas.Nat.{and_block, and_le_r}
use Rattle.std.specs.Int.RustNames.{bit_and}
use Rattle.std.specs.Char.{to_ascii_lowercase}
use Rattle.sql_keyword.specs.Letters.{IsCapital, AreCapitals, AreSame, AreFourBytes, four_of}
use Rattle.sql_keyword.proofs.Letters.{is_letter}

block : (x y r : ℕ) → r < 256 → bit_and (x * 256 + r) (y * 256 + 223) ≡ bit_and x y * 256 + bit_and r 223
block x y r l = and_block 8 x y r 223 l (lit< tt)

-- the test of four bytes is one of each
masked : (d c b a : ℕ) → a < 256 → b < 256 → c < 256
    → bit_and (((d * 256 + c) * 256 + b) * 256 + a) 3755991007 ≡ ((bit_and d 223 * 256 + bit_and c 223) * 256 + bit_and b 223) * 256 + bit_and a 223
masked d c b a la lb lc =
    block ((d * 256 + c) * 256 + b) 14671839 a la
    ∙ ap (λ n. n * 256 + bit_and a 223) (block (d * 256 + c) 57311 b lb ∙ ap (λ n. n * 256 + bit_and b 223) (block d 223 c lc))

same_letter : (b t : ℕ) → b < 256 → IsCapital t → bit_and b 223 ≡ t → to_ascii_lowercase b ≡ to_ascii_lowercase t
same_letter b t l h p = let e = is_letter b t l h in grind (arith, nat_tests)

other_way : (b t : ℕ) → b < 256 → IsCapital t → to_ascii_lowercase b ≡ to_ascii_lowercase t → bit_and b 223 ≡ t
other_way b t l h p = let e = is_letter b t l h in grind (arith, nat_tests)

-- what holds at four places in a row
at_each : (P : ℕ → Type 0) (n i : ℕ) → n ≤ i → i < n + 4 → P (n + 0) → P (n + 1) → P (n + 2) → P (n + 3) → P i
at_each P n i from to a b c d =
    elim (cases_eq i n) [
      | inl e ↦ let h : n + 0 ≡ i = omega arith in subst P h a
      | inr e ↦ elim (cases_eq i (n + 1)) [
        | inl f ↦ subst P (sym f) b
        | inr f ↦ elim (cases_eq i (n + 2)) [
          | inl g ↦ subst P (sym g) c
          | inr g ↦ let h : n + 3 ≡ i = omega arith in subst P h d
        ]
      ]
    ]

-- four letters are the same where those of the texts from there on are
pub fours : (w t : List ℕ) (n f g : ℕ) → f ≡ four_of (drop n w) → g ≡ four_of (drop n t) → AreFourBytes (drop n w) → AreFourBytes (drop n t) → AreCapitals t → n + 4 ≤ length t
    → Decides (nat_eq (bit_and f 3755991007) g) (AreSame w t n (n + 4))
fours w t n f g fw gt bw bt capitals within =
    let x : (k : ℕ) → slice_index (drop n w) k ≡ slice_index w (n + k) = λ k. get_or-drop n w k 0 in
    let y : (k : ℕ) → slice_index (drop n t) k ≡ slice_index t (n + k) = λ k. get_or-drop n t k 0 in
    let big : (k : ℕ) → k < 4 → IsCapital (slice_index (drop n t) k) = λ k l. subst IsCapital (sym (y k)) (capitals (n + k) (omega arith)) in
    let digits = ap (λ m. bit_and m 3755991007) fw ∙ masked (slice_index (drop n w) 3) (slice_index (drop n w) 2) (slice_index (drop n w) 1) (slice_index (drop n w) 0) bw.0 bw.1 bw.2 in
    let small : (k : ℕ) → bit_and (slice_index (drop n w) k) 223 ≤ 223 = λ k. and_le_r (slice_index (drop n w) k) 223 in
    let s0 = small 0 in
    let s1 = small 1 in
    let s2 = small 2 in
    let s3 = small 3 in (
      λ is.
          let e : bit_and f 3755991007 ≡ g = grind (arith, nat_tests) in
          let all = sym digits ∙ e ∙ gt in
          let e0 : bit_and (slice_index (drop n w) 0) 223 ≡ slice_index (drop n t) 0 = omega arith in
          let e1 : bit_and (slice_index (drop n w) 1) 223 ≡ slice_index (drop n t) 1 = omega arith in
          let e2 : bit_and (slice_index (drop n w) 2) 223 ≡ slice_index (drop n t) 2 = omega arith in
          let e3 : bit_and (slice_index (drop n w) 3) 223 ≡ slice_index (drop n t) 3 = omega arith in
          let at : (k : ℕ) → slice_index (drop n w) k < 256 → k < 4 → bit_and (slice_index (drop n w) k) 223 ≡ slice_index (drop n t) k → to_ascii_lowercase (slice_index w (n + k)) ≡ to_ascii_lowercase (slice_index t (n + k)) =
          λ k l m e. ap to_ascii_lowercase (sym (x k)) ∙ same_letter _ _ l (big k m) e ∙ ap to_ascii_lowercase (y k) in
          λ i from to. at_each (λ m. to_ascii_lowercase (slice_index w m) ≡ to_ascii_lowercase (slice_index t m)) n i from to (at 0 bw.0 (lit< tt) e0) (at 1 bw.1 (lit< tt) e1) (at 2 bw.2 (lit< tt) e2) (at 3 bw.3 (lit< tt) e3),
      λ same.
          let at : (k : ℕ) → slice_index (drop n w) k < 256 → k < 4 → bit_and (slice_index (drop n w) k) 223 ≡ slice_index (drop n t) k =
          λ k l m. other_way _ _ l (big k m) (ap to_ascii_lowercase (x k) ∙ same (n + k) (omega arith) (omega arith) ∙ ap to_ascii_lowercase (sym (y k))) in
          let e0 = at 0 bw.0 (lit< tt) in
          let e1 = at 1 bw.1 (lit< tt) in
          let e2 = at 2 bw.2 (lit< tt) in
          let e3 = at 3 bw.3 (lit< tt) in
          let e : bit_and f 3755991007 ≡ g = omega arith in
          grind (arith, nat_tests),
    )
