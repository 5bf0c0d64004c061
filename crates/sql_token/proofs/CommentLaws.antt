-- A block comment against a count of how deep it nests.
use Rattle.std.proofs.Common.{◌≡◌, ℕ, Bool, zero, suc, ◌+◌, ◌-◌, ◌<◌, ◌≤◌, true, false, List, length, sym, refl, ap, ◌∙◌, subst, arith}
use Rattle.std.proofs.lemmas.Grind.{common_steps}
use Rattle.std.proofs.lemmas.Bool.{false≢true}
use Rattle.sql_token.specs.Comment.{opens, closes, Comment, comment, Inside, none, byte, nested}

apart : (z : List ℕ) (i : ℕ) → opens z i ≡ true → closes z i ≡ true → ⊥
apart z i o c = grind (arith, common_steps)

past_opens : (z : List ℕ) (i : ℕ) → length z ≤ i → opens z i ≡ true → ⊥
past_opens z i h o = grind (arith, common_steps)

past_closes : (z : List ℕ) (i : ℕ) → length z ≤ i → closes z i ≡ true → ⊥
past_closes z i h o = grind (arith, common_steps)

pub opens_within : (z : List ℕ) (i : ℕ) → opens z i ≡ true → i + 2 ≤ length z
opens_within z i o = grind (arith, common_steps)

clash : {b : Bool} → b ≡ false → b ≡ true → ⊥
clash f t = false≢true (sym f ∙ t)

-- From i the text closes d comments that are open, and the last mark ends at j.
abbrev pub Nest : List ℕ → ℕ → ℕ → ℕ → Type 0
Nest z zero i j = i ≡ j
Nest z (suc d) i j = (m : ℕ) × Inside z i m × (closes z m ≡ true) × Nest z d (m + 2) j

module _ (z : List ℕ) where
  -- no item begins at a closing mark
  inside_closed : {i m : ℕ} → Inside z i m → closes z i ≡ true → i ≡ m
  inside_closed none c = refl
  inside_closed (byte within o n rest) c = absurd (clash n c)
  inside_closed (nested (comment o body n e) rest) c = absurd (apart z _ o c)

  pub close_down : (d i j : ℕ) → closes z i ≡ true → Nest z (suc d) i j → Nest z d (i + 2) j
  close_down d i j c (m, inside, closed, rest) = subst (λ (x : ℕ). Nest z d (x + 2) j) (sym (inside_closed inside c)) rest

  pub close_up : (d i j : ℕ) → closes z i ≡ true → Nest z d (i + 2) j → Nest z (suc d) i j
  close_up d i j c rest = (i, none, c, rest)

  open_inside : {i m : ℕ} → Inside z i m → opens z i ≡ true → closes z m ≡ true → (n : ℕ) × Inside z (i + 2) n × (closes z n ≡ true) × Inside z (n + 2) m
  open_inside none o c = absurd (apart z _ o c)
  open_inside (byte within n m rest) o c = absurd (clash n o)
  open_inside {i} {m} (nested (comment p body n e) rest) o c = (_, body, n, subst (λ (x : ℕ). Inside z x m) e rest)

  pub open_down : (d i j : ℕ) → opens z i ≡ true → Nest z (suc d) i j → Nest z (suc (suc d)) (i + 2) j
  open_down d i j o (m, inside, closed, rest) = let p = open_inside inside o closed in (p.0, p.1, p.2, (m, p.3, closed, rest))

  pub open_up : (d i j : ℕ) → opens z i ≡ true → Nest z (suc (suc d)) (i + 2) j → Nest z (suc d) i j
  open_up d i j o (n, body, closed, (m, inside, done, rest)) = (m, nested (comment o body closed refl) inside, done, rest)

  byte_inside : {i m : ℕ} → Inside z i m → opens z i ≡ false → closes z i ≡ false → closes z m ≡ true → Inside z (i + 1) m
  byte_inside none o n c = absurd (clash n c)
  byte_inside (byte within p q rest) o n c = rest
  byte_inside (nested (comment p body q e) rest) o n c = absurd (clash o p)

  pub byte_down : (d i j : ℕ) → opens z i ≡ false → closes z i ≡ false → Nest z (suc d) i j → Nest z (suc d) (i + 1) j
  byte_down d i j o n (m, inside, closed, rest) = (m, byte_inside inside o n closed, closed, rest)

  pub byte_up : (d i j : ℕ) → i < length z → opens z i ≡ false → closes z i ≡ false → Nest z (suc d) (i + 1) j → Nest z (suc d) i j
  byte_up d i j within o n (m, inside, closed, rest) = (m, byte within o n inside, closed, rest)

  inside_past : {i m : ℕ} → Inside z i m → length z ≤ i → closes z m ≡ true → ⊥
  inside_past none h c = past_closes z _ h c
  inside_past (byte within o n rest) h c = absurd (omega arith)
  inside_past (nested (comment o body n e) rest) h c = past_opens z _ h o

  -- at the end of the text an open comment has not closed
  pub nest_past : (d i j : ℕ) → length z ≤ i → Nest z (suc d) i j → ⊥
  nest_past d i j h (m, inside, closed, rest) = inside_past inside h closed

  pub comment_begins : (i j : ℕ) → opens z i ≡ true → Nest z 1 (i + 2) j → Comment z i j
  comment_begins i j o (m, inside, closed, e) = comment o inside closed (sym e)

  pub comment_nests : {i j : ℕ} → Comment z i j → Nest z 1 (i + 2) j
  comment_nests (comment o inside closed e) = (_, inside, closed, sym e)

mutual
  -- a comment ends at one place alone
  pub comment_one : (z : List ℕ) {i a b : ℕ} → Comment z i a → Comment z i b → a ≡ b
  comment_one z (comment o p c d) (comment q r e f) = d ∙ ap (λ x. x + 2) (inside_one z p c r e) ∙ sym f

  inside_one : (z : List ℕ) {i a b : ℕ} → Inside z i a → closes z a ≡ true → Inside z i b → closes z b ≡ true → a ≡ b
  inside_one z none c q d = inside_closed z q c
  inside_one z (byte within o n p) c q d = inside_one z p c (byte_inside z q o n d) d
  inside_one z {b = b} (nested p rest) c none d = absurd (closed_comment z p d)
  inside_one z (nested p rest) c (byte within o n q) d = absurd (plain_comment z p o)
  inside_one z {a = a} {b = b} (nested p rest) c (nested q more) d = inside_one z rest c (subst (λ (x : ℕ). Inside z x b) (sym (comment_one z p q)) more) d

  closed_comment : (z : List ℕ) {i m : ℕ} → Comment z i m → closes z i ≡ true → ⊥
  closed_comment z (comment o p c d) n = apart z _ o n

  plain_comment : (z : List ℕ) {i m : ℕ} → Comment z i m → opens z i ≡ false → ⊥
  plain_comment z (comment o p c d) n = clash n o

-- d open comments at i close where e open comments at k close.
pub record Keeps (z : List ℕ) (d i e k : ℕ) : Type 0 where
  pub down : (j : ℕ) → Nest z d i j → Nest z e k j
  pub up : (j : ℕ) → Nest z e k j → Nest z d i j

pub keeps_self : (z : List ℕ) (d i : ℕ) → Keeps z d i d i
keeps_self z d i = record { down = λ j h. h; up = λ j h. h }

pub keeps_on : {z : List ℕ} {d i e k f l : ℕ} → Keeps z d i e k → Keeps z e k f l → Keeps z d i f l
keeps_on p q = record { down = λ j h. q.down j (p.down j h); up = λ j h. p.up j (q.up j h) }

pub at_close : (z : List ℕ) (d i : ℕ) → 0 < d → closes z i ≡ true → Keeps z d i (d - 1) (i + 2)
at_close z zero i some c = absurd (omega arith)
at_close z (suc d) i some c =
    let e : d ≡ suc d - 1 = omega arith in
    subst (λ (x : ℕ). Keeps z (suc d) i x (i + 2)) e (record { down = λ j h. close_down z d i j c h; up = λ j h. close_up z d i j c h })

pub at_open : (z : List ℕ) (d i : ℕ) → 0 < d → opens z i ≡ true → Keeps z d i (d + 1) (i + 2)
at_open z zero i some o = absurd (omega arith)
at_open z (suc d) i some o =
    let e : suc (suc d) ≡ suc d + 1 = omega arith in
    subst (λ (x : ℕ). Keeps z (suc d) i x (i + 2)) e (record { down = λ j h. open_down z d i j o h; up = λ j h. open_up z d i j o h })

pub at_byte : (z : List ℕ) (d i : ℕ) → 0 < d → i < length z → opens z i ≡ false → closes z i ≡ false → Keeps z d i d (i + 1)
at_byte z zero i some within o c = absurd (omega arith)
at_byte z (suc d) i some within o c = record { down = λ j h. byte_down z d i j o c h; up = λ j h. byte_up z d i j within o c h }

-- all comments have closed
pub comment_done : (z : List ℕ) (d j : ℕ) → opens z 0 ≡ true → Keeps z 1 2 d j → d ≡ 0 → Comment z 0 j
comment_done z d j o kept e = comment_begins z 0 j o (kept.up j (subst (λ (x : ℕ). Nest z x j j) (sym e) refl))

-- the text ends with a comment open
pub comment_open : (z : List ℕ) (d i : ℕ) → Keeps z 1 2 d i → 0 < d → length z ≤ i → (n : ℕ) → Comment z 0 n → ⊥
comment_open z zero i kept some past n c = absurd (omega arith)
comment_open z (suc d) i kept some past n c = nest_past z d i n past (kept.down n (comment_nests z c))
