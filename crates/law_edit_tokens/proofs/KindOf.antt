-- The kind of a token, by its first bytes.
use Rattle.std.proofs.Common.{◌≡◌, ◌⊎◌, inl, inr, ℕ, ◌-◌, Bool, true, false, get_or, refl, arith}
use Rattle.std.proofs.lemmas.Bool.{cases_Bool, and_parts}
use Rattle.std.proofs.lemmas.Bool.Decides.{nat_tests}
use Rattle.std.specs.Prelude.{◌==◌, ◌&&◌, ◌||◌, not, if◌then◌else◌}
use Rattle.std.specs.Char.{is_ascii_digit}
use Rattle.law_renumber.specs.sql_token.declared.token.TokKind.{TokKind}
use Rattle.law_renumber.specs.sql_token.declared.token.TokKind.TheVariants.{Blank, LineComment, BlockComment, Word, Quoted, Str, UName, Dollar, Param, Number, Op, Punct, Other}
use Rattle.law_renumber.specs.sql_token.Comment.{opens}
use Rattle.law_renumber.specs.sql_token.Quote.{begins_dollar, delimiter_len}
use Rattle.law_renumber.specs.sql_token.Token.{Text, is_blank, is_op, is_prefix, is_punct, begins_byte_order_mark, begins_blank, begins_line, begins_word, begins_str, begins_unicode, begins_param, begins_number, begins_op, begins_comment, kind_of}

-- What a list of tests in order gives.
abbrev pub kind_by : (a b c d e f g h i j l m : Bool) → TokKind
kind_by a b c d e f g h i j l m =
    if a then Blank
    else (if b then LineComment
    else (if c then BlockComment
    else (if d then Str
    else (if e then UName
    else (if f then Quoted
    else (if g then Dollar
    else (if h then Param
    else (if i then Number
    else (if j then Word
    else (if l then Op
    else (if m then Punct
    else Other)))))))))))

by_op : (a b c d e f g h i j l m : Bool) → kind_by a b c d e f g h i j l m ≡ Op → l ≡ true
by_op true b c d e f g h i j l m k = cc
by_op false true c d e f g h i j l m k = cc
by_op false false true d e f g h i j l m k = cc
by_op false false false true e f g h i j l m k = cc
by_op false false false false true f g h i j l m k = cc
by_op false false false false false true g h i j l m k = cc
by_op false false false false false false true h i j l m k = cc
by_op false false false false false false false true i j l m k = cc
by_op false false false false false false false false true j l m k = cc
by_op false false false false false false false false false true l m k = cc
by_op false false false false false false false false false false true m k = refl
by_op false false false false false false false false false false false true k = cc
by_op false false false false false false false false false false false false k = cc

pub op_begun : (s : Bool) (z : Text) → kind_of s z ≡ Op → begins_op z ≡ true
op_begun s z k = by_op (begins_blank s z) (begins_line z) (opens z 0) (begins_str z) (begins_unicode 34 z) (get_or z 0 0 == 34) (begins_dollar z) (begins_param z) (begins_number z) (begins_word (get_or z 0 0)) (begins_op z) (is_punct (get_or z 0 0)) k

is_op_kind : (b c d : ℕ) (dollar : Bool) → (is_op b && not (begins_comment b c)) ≡ true →
    (is_blank b ≡ false) × ((b == 45 && c == 45) ≡ false) × ((b == 47 && c == 42) ≡ false) × ((b == 39) ≡ false) × (is_prefix b ≡ false) × ((b == 117 || b == 85) ≡ false) × ((b == 34) ≡ false) × ((b == 36) ≡ false) × (is_ascii_digit b ≡ false) × ((b == 46) ≡ false) × (begins_word b ≡ false)
is_op_kind b c d dollar h = (grind (arith, nat_tests), grind (arith, nat_tests), grind (arith, nat_tests), grind (arith, nat_tests), grind (arith, nat_tests), grind (arith, nat_tests), grind (arith, nat_tests), grind (arith, nat_tests), grind (arith, nat_tests), grind (arith, nat_tests), grind (arith, nat_tests))

op_not_blank : (s : Bool) (b c d : ℕ) → is_op b ≡ true → (is_blank b || (s && (b == 239 && c == 187 && d == 191))) ≡ false
op_not_blank s b c d h = grind (arith, nat_tests)

-- a byte that an operator goes on over begins an operator
pub op_kind_is : (s : Bool) (z : Text) → begins_op z ≡ true → kind_of s z ≡ Op
op_kind_is s z h =
    let b = get_or z 0 0 in
    let c = get_or z 1 0 in
    let p = is_op_kind b c 0 false h in
    let blank : begins_blank s z ≡ false = op_not_blank s b c (get_or z 2 0) (and_parts _ _ h).0 in
    λ x. kind_by
    (blank x)
    (p.1 x)
    (p.2 x)
    (p.3 x || (p.4 x && c == 39) || (p.5 x && c == 38 && get_or z 2 0 == 39))
    (p.5 x && c == 38 && get_or z 2 0 == 34)
    (p.6 x)
    (p.7 x && not (is_ascii_digit c) && get_or z (delimiter_len z - 1) 0 == 36)
    (p.7 x && is_ascii_digit c)
    (p.8 x || (p.9 x && is_ascii_digit c))
    (p.10 x)
    (h x)
    (is_punct b)

comment_bytes : (b c : ℕ) → is_op b ≡ true → (is_op b && not (begins_comment b c)) ≡ false → (b == 45 && c == 45) ≡ false → (b == 47 && c == 42) ≡ true
comment_bytes b c h n l = grind (arith, nat_tests)

line_bytes : (b c : ℕ) → (b == 45 && c == 45) ≡ true → c ≡ 45
line_bytes b c h = grind (arith, nat_tests)

-- an operator's byte that begins none begins a comment
pub comment_kind_is : (s : Bool) (z : Text) → is_op (get_or z 0 0) ≡ true → begins_op z ≡ false → ((kind_of s z ≡ LineComment) × (get_or z 1 0 ≡ 45)) ⊎ (kind_of s z ≡ BlockComment)
comment_kind_is s z op other =
    let b = get_or z 0 0 in
    let c = get_or z 1 0 in
    let blank : begins_blank s z ≡ false = op_not_blank s b c (get_or z 2 0) op in
    elim (cases_Bool (begins_line z)) [
      | inl line ↦ inl ((λ x. kind_by (blank x) (line x) (opens z 0) (begins_str z) (begins_unicode 34 z) (b == 34) (begins_dollar z) (begins_param z) (begins_number z) (begins_word b) (begins_op z) (is_punct b)), line_bytes b c line)
      | inr none ↦
          let block = comment_bytes b c op other none in
          inr (λ x. kind_by (blank x) (none x) (block x) (begins_str z) (begins_unicode 34 z) (b == 34) (begins_dollar z) (begins_param z) (begins_number z) (begins_word b) (begins_op z) (is_punct b))
    ]

word_kind : (b c : ℕ) → begins_word b ≡ true →
    (is_blank b ≡ false) × ((b == 45) ≡ false) × ((b == 47) ≡ false) × ((b == 39) ≡ false) × ((b == 34) ≡ false) × ((b == 36) ≡ false) × (is_ascii_digit b ≡ false) × ((b == 46) ≡ false)
word_kind b c h = (grind (arith, nat_tests), grind (arith, nat_tests), grind (arith, nat_tests), grind (arith, nat_tests), grind (arith, nat_tests), grind (arith, nat_tests), grind (arith, nat_tests), grind (arith, nat_tests))

-- what a byte that begins a word begins, where it begins no byte order mark
pub word_kind_is : (s : Bool) (z : Text) → begins_word (get_or z 0 0) ≡ true → (s && begins_byte_order_mark z) ≡ false →
    kind_of s z ≡ (if begins_str z then Str else (if begins_unicode 34 z then UName else Word))
word_kind_is s z h mark =
    let b = get_or z 0 0 in
    let c = get_or z 1 0 in
    let p = word_kind b c h in
    λ x. kind_by
    (p.0 x || mark x)
    (p.1 x && c == 45)
    (p.2 x && c == 42)
    (begins_str z)
    (begins_unicode 34 z)
    (p.4 x)
    (p.5 x && not (is_ascii_digit c) && get_or z (delimiter_len z - 1) 0 == 36)
    (p.5 x && is_ascii_digit c)
    (p.6 x || (p.7 x && is_ascii_digit c))
    (h x)
    (begins_op z)
    (is_punct b)

-- ---- the same kind

kind_from : (b c : ℕ) (mark u39 u34 dollar : Bool) → TokKind
kind_from b c mark u39 u34 dollar =
    kind_by
    (is_blank b || mark)
    (b == 45 && c == 45)
    (b == 47 && c == 42)
    (b == 39 || (is_prefix b && c == 39) || u39)
    u34
    (b == 34)
    dollar
    (b == 36 && is_ascii_digit c)
    (is_ascii_digit b || (b == 46 && is_ascii_digit c))
    (begins_word b)
    (is_op b && not (begins_comment b c))
    (is_punct b)

pub kind_same : (s : Bool) (z y : Text) → get_or z 0 0 ≡ get_or y 0 0 → get_or z 1 0 ≡ get_or y 1 0 →
    (s && begins_byte_order_mark z) ≡ (s && begins_byte_order_mark y) → begins_unicode 39 z ≡ begins_unicode 39 y → begins_unicode 34 z ≡ begins_unicode 34 y → begins_dollar z ≡ begins_dollar y →
    kind_of s z ≡ kind_of s y
unfolding kind_from
kind_same s z y b c mark u39 u34 dollar = λ x. kind_from (b x) (c x) (mark x) (u39 x) (u34 x) (dollar x)

pub mark_same : (s : Bool) (z y : Text) → get_or z 0 0 ≡ get_or y 0 0 → get_or z 1 0 ≡ get_or y 1 0 → get_or z 2 0 ≡ get_or y 2 0 → begins_byte_order_mark z ≡ begins_byte_order_mark y
mark_same s z y b c d = λ x. b x == 239 && c x == 187 && d x == 191

pub unicode_same : (quote : ℕ) (z y : Text) → get_or z 0 0 ≡ get_or y 0 0 → get_or z 1 0 ≡ get_or y 1 0 → get_or z 2 0 ≡ get_or y 2 0 → begins_unicode quote z ≡ begins_unicode quote y
unicode_same quote z y b c d = λ x. (b x == 117 || b x == 85) && c x == 38 && d x == quote

-- ---- what a byte that is no operator's says

pub no_amp : (quote : ℕ) (z : Text) → is_op (get_or z 1 0) ≡ false → begins_unicode quote z ≡ false
no_amp quote z h = no (get_or z 0 0 == 117 || get_or z 0 0 == 85) (get_or z 1 0) (get_or z 2 0) h
  where
    no : (p : Bool) (c d : ℕ) → is_op c ≡ false → (p && c == 38 && d == quote) ≡ false
    no p c d h = grind (arith, nat_tests)

-- ---- what begins with a dollar sign

dollar_no_mark : (s : Bool) (b c d : ℕ) → b ≡ 36 → (s && (b == 239 && c == 187 && d == 191)) ≡ false
dollar_no_mark s b c d h = grind (arith, nat_tests)

pub dollar_kind : (s : Bool) (z : Text) → get_or z 0 0 ≡ 36 →
    kind_of s z ≡ (if begins_dollar z then Dollar else (if is_ascii_digit (get_or z 1 0) then Param else Other))
unfolding kind_from
dollar_kind s z e =
    let mark : (s && begins_byte_order_mark z) ≡ false = dollar_no_mark s (get_or z 0 0) (get_or z 1 0) (get_or z 2 0) e in
    let u39 : begins_unicode 39 z ≡ false = λ x. (e x == 117 || e x == 85) && get_or z 1 0 == 38 && get_or z 2 0 == 39 in
    let u34 : begins_unicode 34 z ≡ false = λ x. (e x == 117 || e x == 85) && get_or z 1 0 == 38 && get_or z 2 0 == 34 in
    λ x. kind_from (e x) (get_or z 1 0) (mark x) (u39 x) (u34 x) (begins_dollar z)

-- ---- at the start of a text

pub kind_unstarted : (z : Text) → begins_byte_order_mark z ≡ false → kind_of true z ≡ kind_of false z
unfolding kind_from
kind_unstarted z h = λ x. kind_from (get_or z 0 0) (get_or z 1 0) (h x) (begins_unicode 39 z) (begins_unicode 34 z) (begins_dollar z)

-- ---- what a kind says of the first byte

pub by_word : (a b c d e f g h i j l m : Bool) → kind_by a b c d e f g h i j l m ≡ Word → j ≡ true
by_word true b c d e f g h i j l m k = cc
by_word false true c d e f g h i j l m k = cc
by_word false false true d e f g h i j l m k = cc
by_word false false false true e f g h i j l m k = cc
by_word false false false false true f g h i j l m k = cc
by_word false false false false false true g h i j l m k = cc
by_word false false false false false false true h i j l m k = cc
by_word false false false false false false false true i j l m k = cc
by_word false false false false false false false false true j l m k = cc
by_word false false false false false false false false false true l m k = refl
by_word false false false false false false false false false false true m k = cc
by_word false false false false false false false false false false false true k = cc
by_word false false false false false false false false false false false false k = cc

by_quoted : (a b c d e f g h i j l m : Bool) → kind_by a b c d e f g h i j l m ≡ Quoted → f ≡ true
by_quoted true b c d e f g h i j l m k = cc
by_quoted false true c d e f g h i j l m k = cc
by_quoted false false true d e f g h i j l m k = cc
by_quoted false false false true e f g h i j l m k = cc
by_quoted false false false false true f g h i j l m k = cc
by_quoted false false false false false true g h i j l m k = refl
by_quoted false false false false false false true h i j l m k = cc
by_quoted false false false false false false false true i j l m k = cc
by_quoted false false false false false false false false true j l m k = cc
by_quoted false false false false false false false false false true l m k = cc
by_quoted false false false false false false false false false false true m k = cc
by_quoted false false false false false false false false false false false true k = cc
by_quoted false false false false false false false false false false false false k = cc

pub by_punct : (a b c d e f g h i j l m : Bool) → kind_by a b c d e f g h i j l m ≡ Punct → m ≡ true
by_punct true b c d e f g h i j l m k = cc
by_punct false true c d e f g h i j l m k = cc
by_punct false false true d e f g h i j l m k = cc
by_punct false false false true e f g h i j l m k = cc
by_punct false false false false true f g h i j l m k = cc
by_punct false false false false false true g h i j l m k = cc
by_punct false false false false false false true h i j l m k = cc
by_punct false false false false false false false true i j l m k = cc
by_punct false false false false false false false false true j l m k = cc
by_punct false false false false false false false false false true l m k = cc
by_punct false false false false false false false false false false true m k = cc
by_punct false false false false false false false false false false false true k = refl
by_punct false false false false false false false false false false false false k = cc

pub by_blank : (a b c d e f g h i j l m : Bool) → kind_by a b c d e f g h i j l m ≡ Blank → a ≡ true
by_blank true b c d e f g h i j l m k = refl
by_blank false true c d e f g h i j l m k = cc
by_blank false false true d e f g h i j l m k = cc
by_blank false false false true e f g h i j l m k = cc
by_blank false false false false true f g h i j l m k = cc
by_blank false false false false false true g h i j l m k = cc
by_blank false false false false false false true h i j l m k = cc
by_blank false false false false false false false true i j l m k = cc
by_blank false false false false false false false false true j l m k = cc
by_blank false false false false false false false false false true l m k = cc
by_blank false false false false false false false false false false true m k = cc
by_blank false false false false false false false false false false false true k = cc
by_blank false false false false false false false false false false false false k = cc

pub word_begun : (s : Bool) (z : Text) → kind_of s z ≡ Word → begins_word (get_or z 0 0) ≡ true
word_begun s z k = by_word (begins_blank s z) (begins_line z) (opens z 0) (begins_str z) (begins_unicode 34 z) (get_or z 0 0 == 34) (begins_dollar z) (begins_param z) (begins_number z) (begins_word (get_or z 0 0)) (begins_op z) (is_punct (get_or z 0 0)) k

pub quoted_begun : (s : Bool) (z : Text) → kind_of s z ≡ Quoted → (get_or z 0 0 == 34) ≡ true
quoted_begun s z k = by_quoted (begins_blank s z) (begins_line z) (opens z 0) (begins_str z) (begins_unicode 34 z) (get_or z 0 0 == 34) (begins_dollar z) (begins_param z) (begins_number z) (begins_word (get_or z 0 0)) (begins_op z) (is_punct (get_or z 0 0)) k

pub punct_begun : (s : Bool) (z : Text) → kind_of s z ≡ Punct → is_punct (get_or z 0 0) ≡ true
punct_begun s z k = by_punct (begins_blank s z) (begins_line z) (opens z 0) (begins_str z) (begins_unicode 34 z) (get_or z 0 0 == 34) (begins_dollar z) (begins_param z) (begins_number z) (begins_word (get_or z 0 0)) (begins_op z) (is_punct (get_or z 0 0)) k

pub blank_begun : (s : Bool) (z : Text) → kind_of s z ≡ Blank → begins_blank s z ≡ true
blank_begun s z k = by_blank (begins_blank s z) (begins_line z) (opens z 0) (begins_str z) (begins_unicode 34 z) (get_or z 0 0 == 34) (begins_dollar z) (begins_param z) (begins_number z) (begins_word (get_or z 0 0)) (begins_op z) (is_punct (get_or z 0 0)) k

quoted_no_mark : (s : Bool) (b c d : ℕ) → b ≡ 34 → (s && (b == 239 && c == 187 && d == 191)) ≡ false
quoted_no_mark s b c d h = grind (arith, nat_tests)

pub quoted_kind : (s : Bool) (z : Text) → get_or z 0 0 ≡ 34 → kind_of s z ≡ Quoted
unfolding kind_from
quoted_kind s z e =
    let mark : (s && begins_byte_order_mark z) ≡ false = quoted_no_mark s (get_or z 0 0) (get_or z 1 0) (get_or z 2 0) e in
    let u39 : begins_unicode 39 z ≡ false = λ x. (e x == 117 || e x == 85) && get_or z 1 0 == 38 && get_or z 2 0 == 39 in
    let u34 : begins_unicode 34 z ≡ false = λ x. (e x == 117 || e x == 85) && get_or z 1 0 == 38 && get_or z 2 0 == 34 in
    let dollar : begins_dollar z ≡ false = λ x. e x == 36 && not (is_ascii_digit (get_or z 1 0)) && get_or z (delimiter_len z - 1) 0 == 36 in
    λ x. kind_from (e x) (get_or z 1 0) (mark x) (u39 x) (u34 x) (dollar x)

punct_bytes : (b : ℕ) → is_punct b ≡ true →
    (is_blank b ≡ false) × ((b == 45) ≡ false) × ((b == 47) ≡ false) × ((b == 39) ≡ false) × (is_prefix b ≡ false) × ((b == 117 || b == 85) ≡ false) × ((b == 34) ≡ false) × ((b == 36) ≡ false) × (is_ascii_digit b ≡ false) × (begins_word b ≡ false) × (is_op b ≡ false)
punct_bytes b h = (grind (arith, nat_tests), grind (arith, nat_tests), grind (arith, nat_tests), grind (arith, nat_tests), grind (arith, nat_tests), grind (arith, nat_tests), grind (arith, nat_tests), grind (arith, nat_tests), grind (arith, nat_tests), grind (arith, nat_tests), grind (arith, nat_tests))

punct_no_mark : (s : Bool) (b c d : ℕ) → is_punct b ≡ true → (s && (b == 239 && c == 187 && d == 191)) ≡ false
punct_no_mark s b c d h = grind (arith, nat_tests)

no_number : (p : Bool) (c : Bool) → c ≡ false → (p && c) ≡ false
no_number true c h = h
no_number false c h = refl

pub punct_kind : (s : Bool) (z : Text) → is_punct (get_or z 0 0) ≡ true → is_ascii_digit (get_or z 1 0) ≡ false → kind_of s z ≡ Punct
punct_kind s z h digit =
    let b = get_or z 0 0 in
    let c = get_or z 1 0 in
    let p = punct_bytes b h in
    let mark : (s && begins_byte_order_mark z) ≡ false = punct_no_mark s b c (get_or z 2 0) h in
    let number = no_number (b == 46) (is_ascii_digit c) digit in
    λ x. kind_by
    (p.0 x || mark x)
    (p.1 x && c == 45)
    (p.2 x && c == 42)
    (p.3 x || (p.4 x && c == 39) || (p.5 x && c == 38 && get_or z 2 0 == 39))
    (p.5 x && c == 38 && get_or z 2 0 == 34)
    (p.6 x)
    (p.7 x && not (is_ascii_digit c) && get_or z (delimiter_len z - 1) 0 == 36)
    (p.7 x && is_ascii_digit c)
    (p.8 x || number x)
    (p.9 x)
    (p.10 x && not (begins_comment b c))
    (h x)
