-- Bytes that became blank.
use Rattle.std.proofs.Common.{◌≡◌, ℕ, ◌+◌, ◌-◌, ◌<◌, ◌≤◌, ◌==◌, Bool, true, false, ◌&&◌, List, [], ◌∷◌, ◌++◌, length, length-append, length-take-le, map, take, drop, get_or, sym, ap, ◌∙◌, refl, subst, arith, inl, inr, if◌then◌else◌}
use Rattle.std.specs.Prelude.{nat_le, nat_lt}
use Rattle.std.specs.Str.{IsUtf8, IsCharBoundary, IsAscii}
use Rattle.std.proofs.lemmas.Str.{IsUtf8-append, IsUtf8-take, IsUtf8-drop, IsUtf8-from_ascii}
use Rattle.std.proofs.lemmas.List.{length-map}
use Rattle.std.proofs.lemmas.Bool.{cases_lt}
use Rattle.std.proofs.lemmas.Bool.Decides.{nat_tests}
use Rattle.std.proofs.lemmas.List.{get_or_past, get_or-drop, get_or-take, get_or-map, get_or_append_left, get_or-append_right, length-drop}
use Rattle.std.proofs.lemmas.List.FromFn.{get_or-map-range_with_len, length-map-range_with_len, fill_by_all}
use Rattle.sql_lex.specs.sql_token.Token.{Text, is_blank}
use Rattle.psql_text.specs.Psql.{as_blank, byte_blanked, blanked, blank_all, leaves_semicolon}
use Rattle.psql_text.specs.Laws.{IsSameOrBlank}
use Rattle.psql_text.specs.declared.part.PartKind.{PartKind}
use Rattle.psql_text.specs.declared.part.Part.{Part}

pub length-blanked : (p : Part) (t : Text) → length (blanked p t) ≡ length t
unfolding blanked
length-blanked p t = length-map-range_with_len (byte_blanked p t) 0 (length t)

pub byte-blanked : (p : Part) (t : Text) (k : ℕ) → k < length t → get_or (blanked p t) k 0 ≡ byte_blanked p t k
unfolding blanked
byte-blanked p t k less = get_or-map-range_with_len (byte_blanked p t) 0 (length t) k k 0 less (omega arith)

pub blanked_by : (p : Part) (t u : Text) → length u ≡ length t → ((k : ℕ) → k < length t → get_or u k 0 ≡ byte_blanked p t k) → u ≡ blanked p t
unfolding blanked
blanked_by p t u same each = fill_by_all (byte_blanked p t) u (length t) 0 same each

-- ---- what stays

same_number : (a b : ℕ) → (a == b) ≡ true → a ≡ b
same_number a b h = grind (arith, nat_tests)

blank_or_same : (x left is : Bool) (b u : ℕ) → is_blank b ≡ x → (b == 92) ≡ is → u ≡ (if x then b else (if left && is then 59 else 32)) → IsSameOrBlank b u
blank_or_same true left is b u blank q same = inl same
blank_or_same false true true b u blank q same = inr (inr (same_number b 92 q, same))
blank_or_same false true false b u blank q same = inr (inl (blank, same))
blank_or_same false false is b u blank q same = inr (inl (blank, same))

byte_stays : (inside : Bool) (kind : PartKind) (b u : ℕ) → u ≡ (if inside then as_blank kind b else b) → IsSameOrBlank b u
byte_stays true kind b u same = blank_or_same (is_blank b) (leaves_semicolon kind) (b == 92) b u refl refl same
byte_stays false kind b u same = inl same

blanked_stays : (p : Part) (t : Text) (k : ℕ) → IsSameOrBlank (get_or t k 0) (get_or (blanked p t) k 0)
blanked_stays p t k =
    elim (cases_lt k (length t)) [
      | inl less ↦ byte_stays (nat_le p.from k && nat_lt k p.to) p.kind (get_or t k 0) (get_or (blanked p t) k 0) (byte-blanked p t k less)
      | inr more ↦ inl (get_or_past (blanked p t) k 0 (rw (length-blanked p t) more) ∙ sym (get_or_past t k 0 more))
    ]

-- a byte that became a space or a semicolon stays it, or becomes a space
stays_on : (a b c : ℕ) → IsSameOrBlank a b → IsSameOrBlank b c → IsSameOrBlank a c
stays_on a b c (inl p) (inl q) = inl (q ∙ p)
stays_on a b c (inl p) (inr (inl q)) = inr (inl (ap is_blank (sym p) ∙ q.0, q.1))
stays_on a b c (inl p) (inr (inr q)) = inr (inr (sym p ∙ q.0, q.1))
stays_on a b c (inr (inl p)) (inl q) = inr (inl (p.0, q ∙ p.1))
stays_on a b c (inr (inl p)) (inr (inl q)) = inr (inl (p.0, q.1))
stays_on a b c (inr (inl p)) (inr (inr q)) = absurd (omega (arith, p.1, q.0))
stays_on a b c (inr (inr p)) (inl q) = inr (inr (p.0, q ∙ p.1))
stays_on a b c (inr (inr p)) (inr (inl q)) = inr (inl (ap is_blank p.0, q.1))
stays_on a b c (inr (inr p)) (inr (inr q)) = absurd (omega (arith, p.1, q.0))

pub all_stays : (ps : List Part) (t : Text) → (length (blank_all ps t) ≡ length t) × ((k : ℕ) → IsSameOrBlank (get_or t k 0) (get_or (blank_all ps t) k 0))
all_stays [] t = (refl, λ k. inl refl)
all_stays (p ∷ ps) t =
    let u = blanked p t in
    let rest = all_stays ps u in
    (rest.0 ∙ length-blanked p t, λ k. stays_on (get_or t k 0) (get_or u k 0) (get_or (blank_all ps u) k 0) (blanked_stays p t k) (rest.1 k))

-- ---- UTF-8

small : (left : Bool) (b : ℕ) → (if is_blank b then b else (if left && b == 92 then 59 else 32)) < 128
small true b = grind (arith, nat_tests)
small false b = grind (arith, nat_tests)

blanks_are_ascii : (kind : PartKind) (z : Text) → IsAscii (map (as_blank kind) z)
blanks_are_ascii kind z i =
    elim (cases_lt i (length z)) [
      | inl less ↦ rw (get_or-map (as_blank kind) z i 0 0 less) (small (leaves_semicolon kind) (get_or z i 0))
      | inr more ↦ rw (get_or_past (map (as_blank kind) z) i 0 (rw (length-map z (as_blank kind)) more)) (omega arith)
    ]

abbrev middle : Part → Text → Text
middle p t = map (as_blank p.kind) (take (p.to - p.from) (drop p.from t))

length-middle : (p : Part) (t : Text) → p.from ≤ p.to → p.to ≤ length t → length (middle p t) ≡ p.to - p.from
length-middle p t begun within =
    length-map (take (p.to - p.from) (drop p.from t)) (as_blank p.kind) ∙ length-take-le (p.to - p.from) (drop p.from t) (omega (arith, length-drop p.from t))

abbrev three : Part → Text → Text
three p t = take p.from t ++ (middle p t ++ drop p.to t)

length-three : (p : Part) (t : Text) → p.from ≤ p.to → p.to ≤ length t → length (three p t) ≡ length t
length-three p t begun within =
    let a = length-append (take p.from t) (middle p t ++ drop p.to t) in
    let b = length-append (middle p t) (drop p.to t) in
    let c = length-middle p t begun within in
    let d = length-take-le p.from t (omega arith) in
    omega (arith, length-drop p.to t)

byte-three : (p : Part) (t : Text) → p.from ≤ p.to → p.to ≤ length t → (k : ℕ) → k < length t → get_or (three p t) k 0 ≡ byte_blanked p t k
byte-three p t begun within k less =
    let from : ℕ = p.from in
    let to : ℕ = p.to in
    let first = length-take-le from t (omega arith) in
    let second = length-middle p t begun within in
    elim (cases_lt k from) [
      | inl before ↦
          let outside : (nat_le from k && nat_lt k to) ≡ false = grind (arith, nat_tests) in
          rw outside (get_or_append_left (take from t) (middle p t ++ drop to t) 0 k (omega arith) ∙ get_or-take from t k 0 before)
      | inr after ↦
          get_or-append_right (take from t) (middle p t ++ drop to t) from k 0 first after ∙ elim (cases_lt k to) [
            | inl inside ↦
                let is : (nat_le from k && nat_lt k to) ≡ true = grind (arith, nat_tests) in
                let place : from + (k - from) ≡ k = omega arith in
                let some : k - from < to - from = omega arith in
                rw is (
                get_or_append_left (middle p t) (drop to t) 0 (k - from) (omega arith)
                ∙ get_or-map (as_blank p.kind) (take (to - from) (drop from t)) (k - from) 0 0 (omega (arith, length-take-le (to - from) (drop from t) (omega (arith, length-drop from t))))
                ∙ ap (as_blank p.kind) (get_or-take (to - from) (drop from t) (k - from) 0 some ∙ get_or-drop from t (k - from) 0 ∙ ap (λ (x : ℕ). get_or t x 0) place)
                )
            | inr past ↦
                let outside : (nat_le from k && nat_lt k to) ≡ false = grind (arith, nat_tests) in
                let place : to + (k - from - (to - from)) ≡ k = omega arith in
                rw outside (
                get_or-append_right (middle p t) (drop to t) (to - from) (k - from) 0 second (omega arith)
                ∙ get_or-drop to t (k - from - (to - from)) 0
                ∙ ap (λ (x : ℕ). get_or t x 0) place
                )
          ]
    ]

pub utf8-blanked : (p : Part) (t : Text) → p.from ≤ p.to → p.to ≤ length t → IsUtf8 t → IsCharBoundary t p.from → IsCharBoundary t p.to → IsUtf8 (blanked p t)
utf8-blanked p t begun within utf8 a b =
    let same = blanked_by p t (three p t) (length-three p t begun within) (byte-three p t begun within) in
    let whole = IsUtf8-append (take p.from t) (middle p t ++ drop p.to t) (IsUtf8-take t p.from utf8 a) (IsUtf8-append (middle p t) (drop p.to t) (IsUtf8-from_ascii (middle p t) (blanks_are_ascii p.kind (take (p.to - p.from) (drop p.from t)))) (IsUtf8-drop t p.to utf8 b)) in
    subst (λ (x : Text). IsUtf8 x) same whole
