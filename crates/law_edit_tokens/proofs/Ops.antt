-- An operator stays where the operator after it does.
use Rattle.std.proofs.Common.{◌≡◌, inl, inr, ℕ, zero, suc, ◌+◌, ◌-◌, ◌<◌, ◌≤◌, max, Bool, true, false, [], ◌∷◌, length, get_or, take, drop, length-drop, sym, refl, ap, ◌∙◌, subst, arith}
use Rattle.std.proofs.lemmas.Bool.{cases_lt, cases_eq, cases_Bool, or_parts, or_from, false≢true}
use Rattle.std.proofs.lemmas.Bool.Decides.{nat_tests}
use Rattle.std.proofs.lemmas.Grind.{common_steps}
use Rattle.std.proofs.lemmas.List.{get_or-drop, get_or-take, length-take-le, get_or-reverse, length-reverse}
use Rattle.std.proofs.lemmas.List.Sums.{prefix_len_passes, prefix_len_stops, suffix_len_is, suffix_len-le-length}
use Rattle.std.specs.Prelude.{◌&&◌, not, if◌then◌else◌, reverse}
use Rattle.std.specs.List.{suffix_len, list_any}
use Rattle.law_renumber.specs.sql_token.declared.token.TokKind.TheVariants.{Op}
use Rattle.law_renumber.specs.sql_token.Token.{Text, runs_over, is_op, is_sign, is_special, begins_op, begins_comment, IsOp, op_len}
use Rattle.law_renumber.proofs.of_sql_token.Ahead.{Agree}
use Rattle.law_edit_tokens.proofs.Same.{take_same}

-- ---- lists of bytes

any_each : (p : ℕ → Bool) (w : Text) → list_any p w ≡ false → (k : ℕ) → k < length w → p (get_or w k 0) ≡ false
any_each p [] h k low = absurd (omega arith)
any_each p (x ∷ w) h zero low = (or_parts (p x) (list_any p w) h).0
any_each p (x ∷ w) h (suc k) low = any_each p w (or_parts (p x) (list_any p w) h).1 k (omega arith)

any_none : (p : ℕ → Bool) (w : Text) → ((k : ℕ) → k < length w → p (get_or w k 0) ≡ false) → list_any p w ≡ false
any_none p [] h = refl
any_none p (x ∷ w) h = or_from (p x) (list_any p w) (h 0 (omega arith)) (any_none p w (λ k low. h (suc k) (omega arith)))

-- where the last elements that pass begin
record Ends (p : ℕ → Bool) (w : Text) (b : ℕ) : Type 0 where
  pub place : b + suffix_len p w ≡ length w
  pub pass : (k : ℕ) → b ≤ k → k < length w → p (get_or w k 0) ≡ true
  pub stops : 0 < b → p (get_or w (b - 1) 0) ≡ false

ends_at : (p : ℕ → Bool) (w : Text) → Ends p w (length w - suffix_len p w)
ends_at p w =
    let le = suffix_len-le-length p w in
    let size : length (reverse w) ≡ length w = length-reverse w in
    record {
      place = omega arith;
      pass = λ k low high.
          let back : length w - 1 - k < suffix_len p w = omega arith in
          let mirror = get_or-reverse w (length w - 1 - k) 0 (omega arith) in
          let place : length w - 1 - (length w - 1 - k) ≡ k = omega arith in
          sym (ap p (mirror ∙ ap (λ (x : ℕ). get_or w x 0) place)) ∙ prefix_len_passes p (reverse w) (length w - 1 - k) 0 back;
      stops = λ some.
          let mirror = get_or-reverse w (suffix_len p w) 0 (omega arith) in
          let place : length w - 1 - suffix_len p w ≡ length w - suffix_len p w - 1 = omega arith in
          sym (ap p (mirror ∙ ap (λ (x : ℕ). get_or w x 0) place)) ∙ prefix_len_stops p (reverse w) 0 (omega arith);
    }

-- ---- how long an operator is

op_len_by : (special : Bool) (n s : ℕ) → ℕ
op_len_by special n s = if special then n else max 1 (n - s)

op_plain : (w : Text) → list_any is_special w ≡ false → op_len w ≡ max 1 (length w - suffix_len is_sign w)
unfolding op_len_by
op_plain w h = λ x. op_len_by (h x) (length w) (suffix_len is_sign w)

op_special : (w : Text) → list_any is_special w ≡ true → op_len w ≡ length w
unfolding op_len_by
op_special w h = λ x. op_len_by (h x) (length w) (suffix_len is_sign w)

sign_plain : (b : ℕ) → is_sign b ≡ true → is_special b ≡ false
sign_plain b h = grind (arith, nat_tests)

-- of a run without a special byte
plain_len : (w : Text) (b : ℕ) → ((k : ℕ) → k < length w → is_special (get_or w k 0) ≡ false) → b ≤ length w →
    ((k : ℕ) → b ≤ k → k < length w → is_sign (get_or w k 0) ≡ true) → (0 < b → is_sign (get_or w (b - 1) 0) ≡ false) → op_len w ≡ max 1 b
plain_len w b plain h pass stops =
    let size = suffix_len_is is_sign w b 0 h pass stops in
    op_plain w (any_none is_special w plain) ∙ ap (λ (x : ℕ). max 1 x) (omega arith)

signs_len : (w : Text) → ((k : ℕ) → k < length w → is_sign (get_or w k 0) ≡ true) → op_len w ≡ 1
signs_len w h =
    let len = plain_len w 0 (λ k low. sign_plain (get_or w k 0) (h k low)) (omega arith) (λ k _ low. h k low) (λ none. absurd (omega arith)) in
    len

-- an operator of one byte that is a sign: its run is signs
one_sign : (w : Text) → op_len w ≡ 1 → is_sign (get_or w 0 0) ≡ true → (k : ℕ) → k < length w → is_sign (get_or w k 0) ≡ true
one_sign w one first zero low = first
one_sign w one first (suc k) low =
    elim (cases_Bool (list_any is_special w)) [
      | inl special ↦ let len = op_special w special in absurd (omega arith)
      | inr plain ↦
          let len = op_plain w plain in
          let e = ends_at is_sign w in
          e.pass (suc k) (omega arith) low
    ]

-- ---- runs

op_runs_at : (z : Text) (n i : ℕ) → runs_over Op (drop n z) i ≡ runs_over Op z (n + i)
op_runs_at z n i =
    let now = get_or-drop n z i 0 in
    let place : n + (i + 1) ≡ n + i + 1 = omega arith in
    let after : get_or (drop n z) (i + 1) 0 ≡ get_or z (n + i + 1) 0 = get_or-drop n z (i + 1) 0 ∙ ap (λ (x : ℕ). get_or z x 0) place in
    λ x. is_op (now x) && not (begins_comment (now x) (after x))

op_runs_here : (z : Text) (n : ℕ) → begins_op (drop n z) ≡ runs_over Op z n
op_runs_here z n = let place : n + 0 ≡ n = omega arith in op_runs_at z n 0 ∙ ap (λ (x : ℕ). runs_over Op z x) place

op_same : (z y : Text) (m i : ℕ) → Agree z y m → i + 1 < m → runs_over Op z i ≡ runs_over Op y i
op_same z y m i a h =
    let now = a.same i (omega arith) in
    let after = a.same (i + 1) h in
    λ x. is_op (now x) && not (begins_comment (now x) (after x))

op_len_le : (w : Text) → 0 < length w → op_len w ≤ length w
op_len_le w some = grind (arith, common_steps)

op_short : (z : Text) (n : ℕ) (op : IsOp z n) → n ≤ op.run
op_short z n op =
    let begun = op.is_run.begun in
    let within = op.is_run.within in
    let size : length (take op.run z) ≡ op.run = length-take-le op.run z within in
    let le = op_len_le (take op.run z) (omega arith) in
    omega (arith, op.length)

-- ---- the next token is no operator

op_alone : (z y : Text) (n m : ℕ) → Agree z y m → n + 1 ≤ m → 0 < n → begins_op (drop n z) ≡ false → begins_op (drop n y) ≡ false → IsOp z n → IsOp y n
op_alone z y n m a h some other here op =
    let short = op_short z n op in
    let ends : op.run ≡ n = elim (cases_lt n op.run) [
      | inl far ↦ absurd (false≢true (sym (sym (op_runs_here z n) ∙ other) ∙ op.is_run.each n (omega arith) far))
      | inr near ↦ omega arith
    ] in
    let there = a.there in
    record {
      run = n;
      is_run = record {
        begun = omega arith;
        within = omega arith;
        each = λ i low high. sym (op_same z y m i a (omega arith)) ∙ op.is_run.each i low (omega arith);
        stops = λ _. sym (op_runs_here y n) ∙ here;
      };
      length = op.length ∙ ap (λ (x : ℕ). op_len (take x z)) ends ∙ ap op_len (take_same z y m n (omega arith) a);
    }

-- ---- the next token is an operator: then it is one sign, and signs alone follow it in its run

-- what of z's run
record Tail (z : Text) (n b : ℕ) : Type 0 where
  pub low : b ≤ n
  pub size : n ≡ max 1 b
  pub plain : (k : ℕ) → k < n → is_special (get_or z k 0) ≡ false
  pub pass : (k : ℕ) → b ≤ k → k < n + 1 → is_sign (get_or z k 0) ≡ true
  pub stops : 0 < b → is_sign (get_or z (b - 1) 0) ≡ false
  pub one : (q : ℕ) → IsOp (drop n z) q → q ≡ 1

chain_tail : (z : Text) (n : ℕ) → 0 < n → n < length z → begins_op (drop n z) ≡ true → IsOp z n → (b : ℕ) × Tail z n b
chain_tail z n some inside goes op =
    let r : ℕ = op.run in
    let begun = op.is_run.begun in
    let within = op.is_run.within in
    let short = op_short z n op in
    let going : runs_over Op z n ≡ true = sym (op_runs_here z n) ∙ goes in
    let far : n < r = elim (cases_lt n r) [
      | inl h ↦ h
      | inr h ↦ let same : r ≡ n = omega arith in
          absurd (false≢true (sym (subst (λ (x : ℕ). x < length z → runs_over Op z x ≡ false) same op.is_run.stops inside) ∙ going))
    ] in
    let size : length (take r z) ≡ r = length-take-le r z within in
    let byte : (k : ℕ) → k < r → get_or (take r z) k 0 ≡ get_or z k 0 = λ k low. get_or-take r z k 0 low in
    let plain : list_any is_special (take r z) ≡ false = elim (cases_Bool (list_any is_special (take r z))) [
      | inl special ↦ let len = op_special (take r z) special in absurd (omega (arith, op.length))
      | inr none ↦ none
    ] in
    let e = ends_at is_sign (take r z) in
    let b : ℕ = length (take r z) - suffix_len is_sign (take r z) in
    let len : n ≡ max 1 b = op.length ∙ op_plain (take r z) plain in (
      b,
      record {
        low = omega arith;
        size = len;
        plain = λ k low. sym (ap is_special (byte k (omega arith))) ∙ any_each is_special (take r z) plain k (omega arith);
        pass = λ k low high. sym (ap is_sign (byte k (omega arith))) ∙ e.pass k low (omega arith);
        stops = λ first. sym (ap is_sign (byte (b - 1) (omega arith))) ∙ e.stops first;
        one = λ q p. one_byte q p e.pass far (omega arith) size;
      },
    )
  where
    one_byte : (q : ℕ) (p : IsOp (drop n z) q) →
        ((k : ℕ) → length (take op.run z) - suffix_len is_sign (take op.run z) ≤ k → k < length (take op.run z) → is_sign (get_or (take op.run z) k 0) ≡ true) →
        n < op.run → length (take op.run z) - suffix_len is_sign (take op.run z) ≤ n → length (take op.run z) ≡ op.run → q ≡ 1
    one_byte q p pass far low size =
        let begun = p.is_run.begun in
        let within = p.is_run.within in
        let rest = length-drop n z in
        let end : n + p.run ≤ op.run = elim (cases_lt op.run (n + p.run)) [
          | inl h ↦
              let place : n + (op.run - n) ≡ op.run = omega arith in
              let goes : runs_over Op z op.run ≡ true = sym (op_runs_at z n (op.run - n) ∙ ap (λ (x : ℕ). runs_over Op z x) place) ∙ p.is_run.each (op.run - n) (omega arith) (omega arith) in
              absurd (false≢true (sym (op.is_run.stops (omega arith)) ∙ goes))
          | inr h ↦ h
        ] in
        let few : length (take p.run (drop n z)) ≡ p.run = length-take-le p.run (drop n z) within in
        p.length ∙ signs_len (take p.run (drop n z)) (λ k h.
        let here : get_or (take p.run (drop n z)) k 0 ≡ get_or (take op.run z) (n + k) 0 =
        get_or-take p.run (drop n z) k 0 (omega arith) ∙ get_or-drop n z k 0 ∙ sym (get_or-take op.run z (n + k) 0 (omega arith)) in
        ap is_sign here ∙ pass (n + k) (omega arith) (omega arith))

op_chain : (z y : Text) (n m q : ℕ) → Agree z y m → n + q ≤ m → 0 < n → 0 < q → begins_op (drop n z) ≡ true → begins_op (drop n y) ≡ true → IsOp z n → IsOp (drop n z) q → IsOp (drop n y) q → IsOp y n
op_chain z y n m q a h some bytes goes here op next moved =
    let inside = a.here in
    let there = a.there in
    let tail = chain_tail z n some (omega arith) goes op in
    let b : ℕ = tail.0 in
    let t = tail.1 in
    let one : q ≡ 1 = t.one q next in
    let low = t.low in
    let begun = moved.is_run.begun in
    let within = moved.is_run.within in
    let rest = length-drop n y in
    let v : Text = take moved.run (drop n y) in
    let few : length v ≡ moved.run = length-take-le moved.run (drop n y) within in
    let zero : n + 0 ≡ n = omega arith in
    let first : get_or v 0 0 ≡ get_or z n 0 =
    get_or-take moved.run (drop n y) 0 0 (omega arith) ∙ get_or-drop n y 0 0 ∙ ap (λ (x : ℕ). get_or y x 0) zero ∙ sym (a.same n (omega arith)) in
    let signs : (k : ℕ) → k < length v → is_sign (get_or v k 0) ≡ true =
    one_sign v (sym moved.length ∙ one) (ap is_sign first ∙ t.pass n low (omega arith)) in
    let far : ℕ = n + moved.run in
    let size : length (take far y) ≡ far = length-take-le far y (omega arith) in
    let front : (k : ℕ) → k < n → get_or (take far y) k 0 ≡ get_or z k 0 =
    λ k before. get_or-take far y k 0 (omega arith) ∙ sym (a.same k (omega arith)) in
    let back : (k : ℕ) → n ≤ k → k < far → is_sign (get_or (take far y) k 0) ≡ true =
    λ k past before.
    let place : n + (k - n) ≡ k = omega arith in
    let byte : get_or (take far y) k 0 ≡ get_or v (k - n) 0 =
    get_or-take far y k 0 before ∙ sym (get_or-take moved.run (drop n y) (k - n) 0 (omega arith) ∙ get_or-drop n y (k - n) 0 ∙ ap (λ (x : ℕ). get_or y x 0) place) in
    ap is_sign byte ∙ signs (k - n) (omega arith) in
    record {
      run = far;
      is_run = record {
        begun = omega arith;
        within = omega arith;
        each = λ i one_on before. elim (cases_lt i n) [
          | inl l ↦ sym (op_same z y m i a (omega arith)) ∙ op.is_run.each i one_on (let short = op_short z n op in omega arith)
          | inr l ↦ elim (cases_eq i n) [
            | inl e ↦ ap (λ (x : ℕ). runs_over Op y x) e ∙ sym (op_runs_here y n) ∙ here
            | inr e ↦
                let place : n + (i - n) ≡ i = omega arith in
                sym (op_runs_at y n (i - n) ∙ ap (λ (x : ℕ). runs_over Op y x) place) ∙ moved.is_run.each (i - n) (omega arith) (omega arith)
          ]
        ];
        stops = λ before. sym (op_runs_at y n moved.run) ∙ moved.is_run.stops (omega arith);
      };
      length = t.size ∙ sym (plain_len (take far y) b
          (λ k before. elim (cases_lt k n) [
            | inl l ↦ ap is_special (front k l) ∙ t.plain k l
            | inr l ↦ sign_plain (get_or (take far y) k 0) (back k l (omega arith))
          ])
          (omega arith)
          (λ k past before. elim (cases_lt k n) [
            | inl l ↦ ap is_sign (front k l) ∙ t.pass k past (omega arith)
            | inr l ↦ back k l (omega arith)
          ])
          (λ given. let size' = t.size in ap is_sign (front (b - 1) (omega arith)) ∙ t.stops given));
    }

-- an operator, where the next token is one in both texts or in neither, and as long
pub op_near : (z y : Text) (n m q : ℕ) → Agree z y m → n + q ≤ m → 0 < n → 0 < q → begins_op (drop n z) ≡ begins_op (drop n y) →
    (begins_op (drop n z) ≡ true → IsOp (drop n z) q × IsOp (drop n y) q) → IsOp z n → IsOp y n
op_near z y n m q a h some bytes same next op =
    elim (cases_Bool (begins_op (drop n z))) [
      | inl goes ↦ let both = next goes in op_chain z y n m q a h some bytes goes (sym same ∙ goes) op both.0 both.1
      | inr other ↦ op_alone z y n m a (omega arith) some other (sym same ∙ other) op
    ]
