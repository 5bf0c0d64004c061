-- How long a full text is, and that it is text.
use Rattle.std.proofs.Common.{◌≡◌, ℕ, suc, ◌<◌, ◌≤◌, Bool, true, false, ◌&&◌, List, [], ◌∷◌, ◌++◌, length, map, get_or, drop, refl, sym, ap, append-nil, subst, arith, inl, inr, ◌⊎◌, ◌≢◌, eq-eqb, ne_eqb, ◌==◌, if◌then◌else◌}
use Rattle.std.proofs.lemmas.List.{length-map, length-drop, map-append}
use Rattle.std.proofs.lemmas.Bool.Decides.{nat_tests}
use Rattle.std.proofs.lemmas.Bool.{cases_lt, cases_eq}
use Rattle.std.proofs.lemmas.Grind.{common_steps}
use Rattle.std.proofs.lemmas.Str.{IsUtf8-nil, IsUtf8-append, IsUtf8-drop, IsCharBoundary-after_ascii, encode_ascii, inside_one, length-encode, len_utf8_bounds}
use Rattle.std.proofs.lemmas.Str.Ascii.{lowercase_ascii}
use Rattle.std.proofs.Math.Utf8.{encode, encodes, scalar, scalars, low_scalar}
use Rattle.std.specs.Str.{IsUtf8, IsCharBoundary}
use Rattle.std.specs.Char.{to_ascii_lowercase}
use Rattle.sql_name.specs.Name.{unquoted, after_quote, full_name, quote}

mutual
  unfolding unquoted

  length-unquoted : (bs : List ℕ) → length (unquoted bs) ≤ length bs
  length-unquoted [] = omega arith
  length-unquoted (c ∷ bs) = grind (arith, length-unquoted bs, length-after_quote bs)

  length-after_quote : (bs : List ℕ) → length (after_quote bs) ≤ length bs
  length-after_quote [] = omega arith
  length-after_quote (c ∷ bs) = grind (arith, length-unquoted bs)

-- a full text is no longer than its source
pub length-full_name : (t : List ℕ) → length (full_name t) ≤ length t
unfolding full_name
length-full_name t = grind (arith, common_steps, length-unquoted (drop 1 t), length-map t to_ascii_lowercase, length-drop 1 t)

-- bytes of no ASCII character
abbrev AreHigh : List ℕ → Type 0
AreHigh [] = Unit {0}
AreHigh (b ∷ bs) = (128 ≤ b) × AreHigh bs

high_from_reads : (bs : List ℕ) → ((k : ℕ) → k < length bs → 128 ≤ get_or bs k 0) → AreHigh bs
high_from_reads [] h = tt
high_from_reads (b ∷ bs) h = (h 0 (omega arith), high_from_reads bs (λ k l. h (suc k) (omega arith)))

encode_high : (c : ℕ) → 128 ≤ c → AreHigh (encode c)
encode_high c h = high_from_reads (encode c) (λ k l. by_size k l (cases_lt (get_or (encode c) k 0) 128))
  where
    by_size : (k : ℕ) → k < length (encode c) → (get_or (encode c) k 0 < 128) ⊎ (128 ≤ get_or (encode c) k 0) → 128 ≤ get_or (encode c) k 0
    by_size k l (inl low) = absurd (omega (arith, inside_one c [] (encode c) k (sym (append-nil (encode c))) l low))
    by_size k l (inr high) = high

unquoted-high : (xs bs : List ℕ) → AreHigh xs → unquoted (xs ++ bs) ≡ xs ++ unquoted bs
unfolding unquoted
unquoted-high [] bs h = refl
unquoted-high (x ∷ xs) bs h = let high : 128 ≤ x = h.0 in let on = unquoted-high xs bs h.1 in grind (arith, nat_tests)

after_quote-high : (xs bs : List ℕ) → 0 < length xs → AreHigh xs → after_quote (xs ++ bs) ≡ []
unfolding unquoted
after_quote-high [] bs l h = absurd (omega arith)
after_quote-high (x ∷ xs) bs l h = let high : 128 ≤ x = h.0 in grind (arith, nat_tests)

lowered-high : (xs : List ℕ) → AreHigh xs → map to_ascii_lowercase xs ≡ xs
lowered-high [] h = refl
lowered-high (x ∷ xs) h = let high : 128 ≤ x = h.0 in let on = lowered-high xs h.1 in grind (arith, nat_tests)

both : (x y : Bool) → (x && y) ≡ true → (x ≡ true) × (y ≡ true)
both true y h = (refl, h)
both false y h = absurd (cc)

unquoted_other : (c : ℕ) (bs : List ℕ) → c ≢ quote → unquoted (c ∷ bs) ≡ c ∷ unquoted bs
unfolding unquoted
unquoted_other c bs h = grind (arith, nat_tests)

unquoted_quote : (c : ℕ) (bs : List ℕ) → c ≡ quote → unquoted (c ∷ bs) ≡ after_quote bs
unfolding unquoted
unquoted_quote c bs h = grind (arith, nat_tests)

after_quote_other : (c : ℕ) (bs : List ℕ) → c ≢ quote → after_quote (c ∷ bs) ≡ []
unfolding unquoted
after_quote_other c bs h = grind (arith, nat_tests)

after_quote_quote : (c : ℕ) (bs : List ℕ) → c ≡ quote → after_quote (c ∷ bs) ≡ c ∷ unquoted bs
unfolding unquoted
after_quote_quote c bs h = grind (arith, nat_tests)

one_char : (c : ℕ) → scalar c ≡ true → IsUtf8 (encode c)
one_char c s = (c ∷ [], (ap (λ x. x && true) s, append-nil (encode c)))

one_byte : (c : ℕ) → scalar c ≡ true → c < 128 → IsUtf8 (c ∷ [])
one_byte c s low = subst IsUtf8 (encode_ascii c low) (one_char c s)

unquoted_char : (c : ℕ) (bs : List ℕ) → scalar c ≡ true → IsUtf8 (unquoted bs) → IsUtf8 (after_quote bs) → IsUtf8 (unquoted (encode c ++ bs))
unquoted_char c bs s u a = by_size (cases_lt c 128)
  where
    by_quote : c < 128 → (c ≡ quote) ⊎ (c ≢ quote) → IsUtf8 (unquoted (c ∷ bs))
    by_quote low (inl same) = subst IsUtf8 (sym (unquoted_quote c bs same)) a
    by_quote low (inr other) = subst IsUtf8 (sym (unquoted_other c bs other)) (IsUtf8-append (c ∷ []) (unquoted bs) (one_byte c s low) u)

    by_size : (c < 128) ⊎ (128 ≤ c) → IsUtf8 (unquoted (encode c ++ bs))
    by_size (inl low) = subst (λ l. IsUtf8 (unquoted (l ++ bs))) (sym (encode_ascii c low)) (by_quote low (cases_eq c quote))
    by_size (inr high) = subst IsUtf8 (sym (unquoted-high (encode c) bs (encode_high c high))) (IsUtf8-append (encode c) (unquoted bs) (one_char c s) u)

after_quote_char : (c : ℕ) (bs : List ℕ) → scalar c ≡ true → IsUtf8 (unquoted bs) → IsUtf8 (after_quote (encode c ++ bs))
after_quote_char c bs s u = by_size (cases_lt c 128)
  where
    by_quote : c < 128 → (c ≡ quote) ⊎ (c ≢ quote) → IsUtf8 (after_quote (c ∷ bs))
    by_quote low (inl same) = subst IsUtf8 (sym (after_quote_quote c bs same)) (IsUtf8-append (c ∷ []) (unquoted bs) (one_byte c s low) u)
    by_quote low (inr other) = subst IsUtf8 (sym (after_quote_other c bs other)) IsUtf8-nil

    by_size : (c < 128) ⊎ (128 ≤ c) → IsUtf8 (after_quote (encode c ++ bs))
    by_size (inl low) = subst (λ l. IsUtf8 (after_quote (l ++ bs))) (sym (encode_ascii c low)) (by_quote low (cases_eq c quote))
    by_size (inr high) =
        let some : 0 < length (encode c) = omega (arith, length-encode c, len_utf8_bounds c) in
        subst IsUtf8 (sym (after_quote-high (encode c) bs some (encode_high c high))) IsUtf8-nil

mutual
  unfolding unquoted

  chars-unquoted : (cs : List ℕ) → scalars cs ≡ true → IsUtf8 (unquoted (encodes cs))
  chars-unquoted [] s = IsUtf8-nil
  chars-unquoted (c ∷ cs) s =
      let are = both (scalar c) (scalars cs) s in
      unquoted_char c (encodes cs) are.0 (chars-unquoted cs are.1) (chars-after_quote cs are.1)

  chars-after_quote : (cs : List ℕ) → scalars cs ≡ true → IsUtf8 (after_quote (encodes cs))
  chars-after_quote [] s = IsUtf8-nil
  chars-after_quote (c ∷ cs) s =
      let are = both (scalar c) (scalars cs) s in
      after_quote_char c (encodes cs) are.0 (chars-unquoted cs are.1)

IsUtf8-unquoted : (bs : List ℕ) → IsUtf8 bs → IsUtf8 (unquoted bs)
IsUtf8-unquoted bs u = subst (λ l. IsUtf8 (unquoted l)) u.1.1 (chars-unquoted u.0 u.1.0)

lowered_char : (c : ℕ) → scalar c ≡ true → IsUtf8 (map to_ascii_lowercase (encode c))
lowered_char c s = by_size (cases_lt c 128)
  where
    by_size : (c < 128) ⊎ (128 ≤ c) → IsUtf8 (map to_ascii_lowercase (encode c))
    by_size (inl low) =
        let small = lowercase_ascii c low in
        subst (λ l. IsUtf8 (map to_ascii_lowercase l)) (sym (encode_ascii c low)) (one_byte (to_ascii_lowercase c) (low_scalar (to_ascii_lowercase c) (omega arith)) small)
    by_size (inr high) = subst IsUtf8 (sym (lowered-high (encode c) (encode_high c high))) (one_char c s)

chars-lowered : (cs : List ℕ) → scalars cs ≡ true → IsUtf8 (map to_ascii_lowercase (encodes cs))
chars-lowered [] s = IsUtf8-nil
chars-lowered (c ∷ cs) s =
    let are = both (scalar c) (scalars cs) s in
    subst IsUtf8 (sym (map-append to_ascii_lowercase (encode c) (encodes cs)))
    (IsUtf8-append (map to_ascii_lowercase (encode c)) (map to_ascii_lowercase (encodes cs)) (lowered_char c are.0) (chars-lowered cs are.1))

IsUtf8-lowered : (bs : List ℕ) → IsUtf8 bs → IsUtf8 (map to_ascii_lowercase bs)
IsUtf8-lowered bs u = subst (λ l. IsUtf8 (map to_ascii_lowercase l)) u.1.1 (chars-lowered u.0 u.1.0)

after : (t : List ℕ) → IsUtf8 t → get_or t 0 0 ≡ quote → IsCharBoundary t 1
after [] u e = absurd (omega arith)
after (c ∷ bs) u e = IsCharBoundary-after_ascii (c ∷ bs) 0 u (omega arith) (omega arith)

-- the full text of a text is text
pub IsUtf8-full_name : (t : List ℕ) → IsUtf8 t → IsUtf8 (full_name t)
unfolding full_name
IsUtf8-full_name t u = by_quote (cases_eq (get_or t 0 0) quote)
  where
    by_quote : (get_or t 0 0 ≡ quote) ⊎ (get_or t 0 0 ≢ quote) → IsUtf8 (if get_or t 0 0 == quote then unquoted (drop 1 t) else map to_ascii_lowercase t)
    by_quote (inl same) = rw (eq-eqb (get_or t 0 0) quote same) (IsUtf8-unquoted (drop 1 t) (IsUtf8-drop t 1 u (after t u same)))
    by_quote (inr other) = rw (ne_eqb (get_or t 0 0) quote other) (IsUtf8-lowered t u)
