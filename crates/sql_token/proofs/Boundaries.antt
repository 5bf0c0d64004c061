-- A token of a UTF-8 text begins and ends between two characters.
use Rattle.std.proofs.Common.{◌≡◌, ◌⊎◌, inl, inr, ℕ, zero, suc, ◌+◌, ◌-◌, ◌<◌, ◌≤◌, Bool, true, false, List, [], ◌∷◌, length, get_or, take, drop, length-drop, sym, refl, ap, ◌∙◌, subst, arith}
use Rattle.std.proofs.lemmas.Bool.{cases_lt, cases_eq, cases_Bool}
use Rattle.std.proofs.lemmas.Bool.Decides.{nat_tests}
use Rattle.std.proofs.lemmas.Grind.{common_steps}
use Rattle.std.proofs.lemmas.List.{get_or-take, get_or-drop, length-take-le}
use Rattle.std.proofs.lemmas.Str.{IsCharBoundary-start, IsCharBoundary-end, IsCharBoundary-before_ascii, IsCharBoundary-after_ascii, IsCharBoundary-past_char}
use lib.Utf8.{encode}
use Rattle.std.specs.Cmp.Lexicographic.{same_text}
use Rattle.std.specs.List.{starts_with}
use Rattle.std.specs.Char.{is_ascii_digit}
use Rattle.std.specs.Prelude.{◌==◌, ◌&&◌, ◌||◌, not, nat_eq, if◌then◌else◌, slice_index_or}
use Rattle.std.specs.Str.{IsUtf8, IsCharBoundary}
use Rattle.sql_token.specs.declared.token.Tok.{Tok}
use Rattle.sql_token.specs.declared.token.TokKind.{TokKind}
use Rattle.sql_token.specs.declared.token.TokKind.TheVariants.{Blank, LineComment, BlockComment, Word, Quoted, Str, UName, Dollar, Param, Number, Op, Punct, Other}
use Rattle.sql_token.specs.Boundary.{BetweenCharacters}
use Rattle.sql_token.specs.Comment.{closes, Comment, comment}
use Rattle.sql_token.specs.Quote.{IsQuoted, IsDollar, delimiter_len, begins_dollar, dollar_item}
use Rattle.sql_token.specs.Token.{Text, runs_over, is_blank, is_word, is_op, begins_byte_order_mark, begins_word, begins_str, begins_unicode, begins_comment, goes_on, kind_of, blank_from, IsRun, IsOp, op_len, Takes, At, Leads, Lexed}

-- ---- the order of tokens

leads_bounds : (t : Text) (a b : ℕ) (ks : List Tok) (i : ℕ) (d : Tok) → Leads t a ks b → i < length ks → (a ≤ (get_or ks i d).start) × ((get_or ks i d).start < (get_or ks i d).end) × ((get_or ks i d).end ≤ length t)
leads_bounds t a b [] i d lead h = absurd (omega arith)
leads_bounds t a b (k ∷ ks) zero d lead h =
    let before = lead.1.before in
    let within = lead.1.within in
    (omega (arith, lead.0), omega (arith, lead.0), within)
leads_bounds t a b (k ∷ ks) (suc i) d lead h =
    let before = lead.1.before in
    let rest = leads_bounds t k.end b ks i d lead.2 (omega arith) in
    (omega (arith, rest.0), rest.1, rest.2)

-- a token has bytes, and all of them are the text's
pub token_bounds : (t : Text) (ks : List Tok) (i : ℕ) (d : Tok) → Lexed t ks → i < length ks → ((slice_index_or ks i d).start < (slice_index_or ks i d).end) × ((slice_index_or ks i d).end ≤ length t)
token_bounds t ks i d lexed h = let all = leads_bounds t 0 (length t) ks i d lexed h in (all.1, all.2)

leads_ascend : (t : Text) (a b : ℕ) (ks : List Tok) (i j : ℕ) (d : Tok) → Leads t a ks b → i ≤ j → j < length ks → (get_or ks i d).start ≤ (get_or ks j d).end
leads_ascend t a b [] i j d lead le h = absurd (omega arith)
leads_ascend t a b (k ∷ ks) zero j d lead le h =
    let all = leads_bounds t a b (k ∷ ks) j d lead h in
    omega (arith, lead.0, all.0, all.1)
leads_ascend t a b (k ∷ ks) (suc i) zero d lead le h = absurd (omega arith)
leads_ascend t a b (k ∷ ks) (suc i) (suc j) d lead le h = leads_ascend t k.end b ks i j d lead.2 (omega arith) (omega arith)

-- a slice of tokens goes from its first token's start up to its last one's end
pub tokens_ascend : (t : Text) (ks : List Tok) (i j : ℕ) (d : Tok) → Lexed t ks → i ≤ j → j < length ks → (slice_index_or ks i d).start ≤ (slice_index_or ks j d).end
tokens_ascend t ks i j d lexed le h = leads_ascend t 0 (length t) ks i j d lexed le h

leads_few : (t : Text) (a b : ℕ) (ks : List Tok) → Leads t a ks b → length ks + a ≤ b
leads_few t a b [] lead = omega (arith, lead)
leads_few t a b (k ∷ ks) lead =
    let before = lead.1.before in
    let rest = leads_few t k.end b ks lead.2 in
    omega arith

-- a text has no more tokens than bytes
pub tokens_few : (t : Text) (ks : List Tok) → Lexed t ks → length ks ≤ length t
tokens_few t ks lexed = let few = leads_few t 0 (length t) ks lexed in omega arith

-- ---- the first byte

-- What a list of tests in order gives.
abbrev pub kind_by : (a b c d e f g h i j l m : Bool) → TokKind
kind_by a b c d e f g h i j l m =
    if a then Blank
    else (if b then LineComment
    else (if c then BlockComment
    else (if d then Str
    else (if e then UName
    else (if f then Quoted
    else (if g then Dollar
    else (if h then Param
    else (if i then Number
    else (if j then Word
    else (if l then Op
    else (if m then Punct
    else Other)))))))))))

by_word : (a b c d e f g h i j l m : Bool) → a ≡ false → b ≡ false → c ≡ false → d ≡ false → e ≡ false → f ≡ false → g ≡ false → h ≡ false → i ≡ false → j ≡ true → kind_by a b c d e f g h i j l m ≡ Word
by_word a b c d e f g h i j l m pa pb pc pd pe pf pg ph pi pj = λ x. kind_by (pa x) (pb x) (pc x) (pd x) (pe x) (pf x) (pg x) (ph x) (pi x) (pj x) l m

by_dollar : (a b c d e f g h i j l m : Bool) → Dollar ≡ kind_by a b c d e f g h i j l m → g ≡ true
by_dollar true b c d e f g h i j l m k = cc
by_dollar false true c d e f g h i j l m k = cc
by_dollar false false true d e f g h i j l m k = cc
by_dollar false false false true e f g h i j l m k = cc
by_dollar false false false false true f g h i j l m k = cc
by_dollar false false false false false true g h i j l m k = cc
by_dollar false false false false false false true h i j l m k = refl
by_dollar false false false false false false false true i j l m k = cc
by_dollar false false false false false false false false true j l m k = cc
by_dollar false false false false false false false false false true l m k = cc
by_dollar false false false false false false false false false false true m k = cc
by_dollar false false false false false false false false false false false true k = cc
by_dollar false false false false false false false false false false false false k = cc

not_byte : (b c : ℕ) → 128 ≤ b → c < 128 → (b == c) ≡ false
not_byte b c h l = grind (arith, nat_tests)

high_not_blank : (b : ℕ) → 128 ≤ b → is_blank b ≡ false
high_not_blank b h = grind (arith, nat_tests)

high_not_digit : (b : ℕ) → 128 ≤ b → is_ascii_digit b ≡ false
high_not_digit b h = grind (arith, nat_tests)

high_begins_word : (b : ℕ) → 128 ≤ b → begins_word b ≡ true
high_begins_word b h = grind (arith, nat_tests)

high_not_unicode : (quote : ℕ) (z : Text) → 128 ≤ get_or z 0 0 → begins_unicode quote z ≡ false
high_not_unicode quote z h = λ x. (not_byte (get_or z 0 0) 117 h (omega arith) x || not_byte (get_or z 0 0) 85 h (omega arith) x) && get_or z 1 0 == 38 && get_or z 2 0 == quote

high_not_str : (z : Text) → 128 ≤ get_or z 0 0 → begins_str z ≡ false
high_not_str z h = grind (arith, nat_tests)

-- a byte of 128 and above begins a word
pub high_is_word : (s : Bool) (z : Text) → 128 ≤ get_or z 0 0 → (s && begins_byte_order_mark z) ≡ false → kind_of s z ≡ Word
high_is_word s z h mark =
    let is_not : (c : ℕ) → c < 128 → (get_or z 0 0 == c) ≡ false = λ c l. not_byte (get_or z 0 0) c h l in
    by_word _ _ _ _ _ _ _ _ _ _ _ _
    (λ x. high_not_blank (get_or z 0 0) h x || mark x)
    (λ x. is_not 45 (omega arith) x && get_or z 1 0 == 45)
    (λ x. is_not 47 (omega arith) x && get_or z 1 0 == 42)
    (high_not_str z h)
    (high_not_unicode 34 z h)
    (is_not 34 (omega arith))
    (grind (arith, nat_tests))
    (λ x. is_not 36 (omega arith) x && is_ascii_digit (get_or z 1 0))
    (λ x. high_not_digit (get_or z 0 0) h x || (is_not 46 (omega arith) x && is_ascii_digit (get_or z 1 0)))
    (high_begins_word (get_or z 0 0) h)

-- a byte order mark at the start is blank
mark_is_blank : (s : Bool) (z : Text) → (s && begins_byte_order_mark z) ≡ true → kind_of s z ≡ Blank
mark_is_blank s z mark = mark_blank (is_blank (get_or z 0 0)) (s && begins_byte_order_mark z) mark _ _ _ _ _ _ _ _ _ _ _
  where
    mark_blank : (p a : Bool) → a ≡ true → (b c d e f g h i j l m : Bool) → kind_by (p || a) b c d e f g h i j l m ≡ Blank
    mark_blank true a e b c d e' f g h i j l m = refl
    mark_blank false a e b c d e' f g h i j l m = λ x. kind_by (e x) b c d e' f g h i j l m

-- only a word or a byte order mark begins with a byte of 128 and above
first_ascii : (s : Bool) (z : Text) (k : TokKind) → k ≡ kind_of s z → (k ≡ Word → ⊥) → (s && begins_byte_order_mark z) ≡ false → get_or z 0 0 < 128
first_ascii s z k kind other mark =
    elim (cases_lt (get_or z 0 0) 128) [ inl l ↦ l | inr h ↦ absurd (other (kind ∙ high_is_word s z h mark)) ]

first_ascii_of : (s : Bool) (z : Text) (k : TokKind) → k ≡ kind_of s z → (k ≡ Word → ⊥) → (k ≡ Blank → ⊥) → get_or z 0 0 < 128
first_ascii_of s z k kind other no_blank =
    elim (cases_Bool (s && begins_byte_order_mark z)) [ inl mark ↦ absurd (no_blank (kind ∙ mark_is_blank s z mark)) | inr mark ↦ first_ascii s z k kind other mark ]

-- ---- the last byte

-- The token's last byte is ASCII, or the byte after it, or the token is a byte order mark.
abbrev EndsWhole : Bool → Text → ℕ → Type 0
EndsWhole s z n = (get_or z (n - 1) 0 < 128) ⊎ ((n < length z → get_or z n 0 < 128) ⊎ ((n ≡ 3) × ((s && begins_byte_order_mark z) ≡ true)))

blank_ascii : (b : ℕ) → is_blank b ≡ true → b < 128
blank_ascii b h = grind (arith, nat_tests)

digit_ascii : (b : ℕ) → is_ascii_digit b ≡ true → b < 128
digit_ascii b h = grind (arith, nat_tests)

number_ascii : (before b after : ℕ) → goes_on before b after ≡ true → b < 128
number_ascii before b after h = grind (arith, nat_tests)

op_ascii : (b after : ℕ) → (is_op b && not (begins_comment b after)) ≡ true → b < 128
op_ascii b after h = grind (arith, nat_tests)

not_word_ascii : (b : ℕ) → is_word b ≡ false → b < 128
not_word_ascii b h = grind (arith, nat_tests)

newline_ascii : (b : ℕ) → not (b == 10) ≡ false → b < 128
newline_ascii b h = grind (arith, nat_tests)

-- the last of the first n bytes, where the first is ASCII and the later ones are
last_ascii : (z : Text) (n : ℕ) → 0 < n → get_or z 0 0 < 128 → ((i : ℕ) → 1 ≤ i → i < n → get_or z i 0 < 128) → get_or z (n - 1) 0 < 128
last_ascii z n some first rest = grind arith

run_ascii : (k : TokKind) (z : Text) (n : ℕ) → get_or z 0 0 < 128 → IsRun k z 1 n → ((i : ℕ) → runs_over k z i ≡ true → get_or z i 0 < 128) → get_or z (n - 1) 0 < 128
run_ascii k z n first run each = last_ascii z n run.begun first (λ i low high. each i (run.each i low high))

op_len_le : (run : Text) → 0 < length run → op_len run ≤ length run
op_len_le run some = grind (arith, common_steps)

op_ends : (z : Text) (n : ℕ) → get_or z 0 0 < 128 → IsOp z n → 0 < n → get_or z (n - 1) 0 < 128
op_ends z n first op some =
    let begun = op.is_run.begun in
    let within = op.is_run.within in
    let size : length (take op.run z) ≡ op.run = length-take-le op.run z within in
    let le = op_len_le (take op.run z) (omega arith) in
    let len = op.length in
    let short : n ≤ op.run = omega arith in
    last_ascii z n some first (λ i low high. op_ascii (get_or z i 0) (get_or z (i + 1) 0) (op.is_run.each i low (omega arith)))

quoted_ends : (quote : ℕ) (escapes : Bool) (z : Text) (from n : ℕ) → quote < 128 → IsQuoted quote escapes z from n → get_or z (n - 1) 0 < 128
quoted_ends quote escapes z from n low p =
    let same : n - 1 ≡ p.body = omega (arith, p.length) in
    let byte : get_or z (n - 1) 0 ≡ quote = ap (λ (x : ℕ). get_or z x 0) same ∙ p.closes in
    omega arith

comment_ends : (z : Text) {i j : ℕ} → Comment z i j → get_or z (j - 1) 0 < 128
comment_ends z {j = j} (comment {m = m} o inside closed e) =
    let same : j - 1 ≡ m + 1 = omega arith in
    subst (λ (x : ℕ). get_or z x 0 < 128) (sym same) (closed_ascii m closed)
  where
    closed_ascii : (m : ℕ) → closes z m ≡ true → get_or z (m + 1) 0 < 128
    closed_ascii m c = grind (arith, nat_tests)

dollar_mark_ends : (z : Text) → begins_dollar z ≡ true → (get_or z (delimiter_len z - 1) 0 ≡ 36) × (delimiter_len z ≤ length z)
dollar_mark_ends z h = grind (arith, common_steps)

dollar_stands : (mark z : Text) (i : ℕ) → i < length z → dollar_item mark z i ≡ 0 → starts_with nat_eq (drop i z) mark ≡ true
dollar_stands mark z i within stops = grind (arith, common_steps)

dollar_ends : (z : Text) (n : ℕ) → begins_dollar z ≡ true → IsDollar z n → get_or z (n - 1) 0 < 128
dollar_ends z n begins p =
    let ends = dollar_mark_ends z begins in
    let mark : Text = take (delimiter_len z) z in
    let size : length mark ≡ delimiter_len z = length-take-le (delimiter_len z) z ends.1 in
    let stands = dollar_stands mark z p.body p.within p.ends.stops in
    let same : mark ≡ take (length mark) (drop p.body z) = same_text mark (take (length mark) (drop p.body z)) (sym stands) in
    let at : p.body + (delimiter_len z - 1) ≡ n - 1 = omega (arith, p.length) in
    let byte : get_or z (n - 1) 0 ≡ 36 =
    ap (λ (x : ℕ). get_or z x 0) (sym at)
    ∙ sym (get_or-drop p.body z (delimiter_len z - 1) 0)
    ∙ sym (get_or-take (length mark) (drop p.body z) (delimiter_len z - 1) 0 (omega arith))
    ∙ ap (λ (x : Text). get_or x (delimiter_len z - 1) 0) (sym same)
    ∙ get_or-take (delimiter_len z) z (delimiter_len z - 1) 0 (omega arith)
    ∙ ends.0 in
    omega arith

blank_ends : (s : Bool) (z : Text) (n : ℕ) → Blank ≡ kind_of s z → IsRun Blank z (blank_from s z) n → EndsWhole s z n
blank_ends s z n kind run =
    elim (cases_Bool (s && begins_byte_order_mark z)) [
      | inl mark ↦ marked mark (subst (λ (x : Bool). IsRun Blank z (if x then 3 else 1) n) mark run)
      | inr mark ↦ inl (run_ascii Blank z n (first_ascii s z Blank kind (λ e. cc) mark) (subst (λ (x : Bool). IsRun Blank z (if x then 3 else 1) n) mark run) (λ i h. blank_ascii (get_or z i 0) h))
    ]
  where
    marked : (s && begins_byte_order_mark z) ≡ true → IsRun Blank z 3 n → EndsWhole s z n
    marked mark long =
        elim (cases_eq n 3) [
          | inl e ↦ inr (inr (e, mark))
          | inr other ↦ let begun = long.begun in inl (blank_ascii (get_or z (n - 1) 0) (long.each (n - 1) (omega arith) (omega arith)))
        ]

ends_whole : (s : Bool) (k : TokKind) (z : Text) (n : ℕ) → k ≡ kind_of s z → Takes s k z n → 0 < n → EndsWhole s z n
ends_whole s Blank z n kind run some = blank_ends s z n kind run
ends_whole s LineComment z n kind run some = inr (inl (λ h. newline_ascii (get_or z n 0) (run.stops h)))
ends_whole s BlockComment z n kind c some = inl (comment_ends z c)
ends_whole s Word z n kind run some = inr (inl (λ h. not_word_ascii (get_or z n 0) (run.stops h)))
ends_whole s Quoted z n kind p some = inl (quoted_ends _ _ z _ n (omega arith) p)
ends_whole s Str z n kind p some = inl (quoted_ends _ _ z _ n (omega arith) p)
ends_whole s UName z n kind p some = inl (quoted_ends _ _ z _ n (omega arith) p)
ends_whole s Dollar z n kind p some = inl (dollar_ends z n (by_dollar _ _ _ _ _ _ _ _ _ _ _ _ kind) p)
ends_whole s Param z n kind run some = inl (run_ascii Param z n (first_ascii_of s z Param kind (λ e. cc) (λ e. cc)) run (λ i h. digit_ascii (get_or z i 0) h))
ends_whole s Number z n kind run some = inl (run_ascii Number z n (first_ascii_of s z Number kind (λ e. cc) (λ e. cc)) run (λ i h. number_ascii (get_or z (i - 1) 0) (get_or z i 0) (get_or z (i + 1) 0) h))
ends_whole s Op z n kind op some = inl (op_ends z n (first_ascii_of s z Op kind (λ e. cc) (λ e. cc)) op some)
ends_whole s Punct z n kind one some = inl (last_ascii z n some (first_ascii_of s z Punct kind (λ e. cc) (λ e. cc)) (λ i low high. absurd (omega arith)))
ends_whole s Other z n kind one some = inl (last_ascii z n some (first_ascii_of s z Other kind (λ e. cc) (λ e. cc)) (λ i low high. absurd (omega arith)))

-- ---- places in the text

order_mark_first : (z : Text) → begins_byte_order_mark z ≡ true → z ≡ 239 ∷ 187 ∷ 191 ∷ drop 3 z
order_mark_first [] h = cc
order_mark_first (x ∷ []) h = absurd (grind (arith, nat_tests))
order_mark_first (x ∷ y ∷ []) h = absurd (grind (arith, nat_tests))
order_mark_first (x ∷ y ∷ w ∷ z) h = let e = mark_bytes x y w h in λ i. e.0 i ∷ e.1 i ∷ e.2 i ∷ z
  where
    mark_bytes : (x y w : ℕ) → (x == 239 && y == 187 && w == 191) ≡ true → (x ≡ 239) × (y ≡ 187) × (w ≡ 191)
    mark_bytes x y w h = grind (arith, nat_tests)

-- a byte order mark at the start is one character
order_mark_whole : (t : Text) → IsUtf8 t → begins_byte_order_mark t ≡ true → IsCharBoundary t 3
unfolding encode
order_mark_whole t u mark = IsCharBoundary-past_char t (drop 3 t) 0 65279 (omega arith) u (order_mark_first t mark)

start_flag : (i : ℕ) (b : Bool) → ((i == 0) && b) ≡ true → (i ≡ 0) × (b ≡ true)
start_flag i b h = grind (arith, nat_tests)

token_end : (t : Text) (i j : ℕ) (k : TokKind) → IsUtf8 t → At t i k j → IsCharBoundary t j
token_end t i j k u here =
    let before = here.before in
    let within = here.within in
    elim (ends_whole (i == 0) k (drop i t) (j - i) here.kind here.takes (omega arith)) [
      | inl last ↦ past last
      | inr (inl next) ↦ ahead next
      | inr (inr (three, mark)) ↦ marked three (start_flag i (begins_byte_order_mark (drop i t)) mark)
    ]
  where
    past : get_or (drop i t) (j - i - 1) 0 < 128 → IsCharBoundary t j
    past last =
        let before = here.before in
        let within = here.within in
        let place : i + (j - i - 1) ≡ j - 1 = omega arith in
        let size : j - 1 + 1 ≡ j = omega arith in
        let byte : get_or t (j - 1) 0 < 128 = subst (λ (x : ℕ). get_or t x 0 < 128) place (subst (λ (b : ℕ). b < 128) (get_or-drop i t (j - i - 1) 0) last) in
        subst (λ (x : ℕ). IsCharBoundary t x) size (IsCharBoundary-after_ascii t (j - 1) u (omega arith) byte)

    ahead : (j - i < length (drop i t) → get_or (drop i t) (j - i) 0 < 128) → IsCharBoundary t j
    ahead next =
        let before = here.before in
        let within = here.within in
        let place : i + (j - i) ≡ j = omega arith in
        elim (cases_lt j (length t)) [
          | inl l ↦
              let byte = next (omega (arith, length-drop i t)) in
              IsCharBoundary-before_ascii t j l (subst (λ (x : ℕ). get_or t x 0 < 128) place (subst (λ (b : ℕ). b < 128) (get_or-drop i t (j - i) 0) byte))
          | inr past ↦ let end : length t ≡ j = omega arith in subst (λ (x : ℕ). IsCharBoundary t x) end (IsCharBoundary-end t)
        ]

    marked : j - i ≡ 3 → (i ≡ 0) × (begins_byte_order_mark (drop i t) ≡ true) → IsCharBoundary t j
    marked three (first, mark) =
        let end : 3 ≡ j = omega (arith, here.before) in
        subst (λ (x : ℕ). IsCharBoundary t x) end (order_mark_whole t u (subst (λ (x : ℕ). begins_byte_order_mark (drop x t) ≡ true) first mark))

leads_between : (t : Text) (a b : ℕ) (ks : List Tok) → IsUtf8 t → IsCharBoundary t a → Leads t a ks b → BetweenCharacters t ks
leads_between t a b [] u start lead = tt
leads_between t a b (k ∷ ks) u start lead =
    let end = token_end t a k.end k.kind u lead.1 in
    (subst (λ (x : ℕ). IsCharBoundary t x) (sym lead.0) start, end, leads_between t k.end b ks u end lead.2)

pub keeps_characters : (t : Text) (ks : List Tok) → IsUtf8 t → Lexed t ks → BetweenCharacters t ks
keeps_characters t ks u lexed = leads_between t 0 (length t) ks u (IsCharBoundary-start t u) lexed

between_at : (t : Text) (ks : List Tok) (i : ℕ) (d : Tok) → BetweenCharacters t ks → i < length ks → IsCharBoundary t (get_or ks i d).start × IsCharBoundary t (get_or ks i d).end
between_at t [] i d between h = absurd (omega arith)
between_at t (k ∷ ks) zero d between h = (between.0, between.1)
between_at t (k ∷ ks) (suc i) d between h = between_at t ks i d between.2 (omega arith)

-- a token of a UTF-8 text begins and ends between two characters
pub token_between : (t : Text) (ks : List Tok) (i : ℕ) (d : Tok) → IsUtf8 t → Lexed t ks → i < length ks → IsCharBoundary t (slice_index_or ks i d).start × IsCharBoundary t (slice_index_or ks i d).end
token_between t ks i d u lexed h = between_at t ks i d (keeps_characters t ks u lexed) h
