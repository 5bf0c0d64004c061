-- Tokens of a SQL text. A text is a list of bytes, and reads as 0 past its end.
use Rattle.std.specs.Prelude.{◌≡◌, ◌≤◌, ◌<◌, ℕ, ◌+◌, ◌-◌, max, Bool, true, false, not, ◌&&◌, ◌||◌, if◌then◌else◌, ◌==◌, nat_le, List, [], ◌∷◌, take, drop, length, slice_index}
use Rattle.std.specs.Char.{is_ascii_digit, is_ascii_alphabetic, is_ascii_alphanumeric}
use Rattle.std.specs.List.{suffix_len, list_any, flat_map}
use Rattle.sql_token.specs.Comment.{opens, Comment}
use Rattle.sql_token.specs.Quote.{IsQuoted, IsDollar, begins_dollar}
use Rattle.sql_token.specs.declared.token.Tok.{Tok}
use Rattle.sql_token.specs.declared.token.TokKind.{TokKind}
use Rattle.sql_token.specs.declared.token.TokKind.TheVariants.{Blank, LineComment, BlockComment, Word, Quoted, Str, UName, Dollar, Param, Number, Op, Punct, Other}

abbrev pub Text : Type 0
Text = List ℕ

abbrev pub is_blank : ℕ → Bool
is_blank b = b == 32 || (nat_le 9 b && nat_le b 13)

-- a letter, `_` or a byte of 128 and above
abbrev pub begins_word : ℕ → Bool
begins_word b = is_ascii_alphabetic b || b == 95 || nat_le 128 b

-- what a word goes on over: digits and `$` too
abbrev pub is_word : ℕ → Bool
is_word b = is_ascii_alphanumeric b || b == 95 || b == 36 || nat_le 128 b

-- one of ( ) [ ] , ; . :
abbrev pub is_punct : ℕ → Bool
is_punct b = b == 40 || b == 41 || b == 91 || b == 93 || b == 44 || b == 59 || b == 46 || b == 58

-- a byte order mark
abbrev pub begins_byte_order_mark : Text → Bool
begins_byte_order_mark z = slice_index z 0 == 239 && slice_index z 1 == 187 && slice_index z 2 == 191

-- a digit, or a point before a digit
abbrev pub begins_number : Text → Bool
begins_number z = is_ascii_digit (slice_index z 0) || (slice_index z 0 == 46 && is_ascii_digit (slice_index z 1))

-- a byte that a number goes on over whatever is beside it
abbrev pub is_in_number : ℕ → Bool
is_in_number b = is_ascii_alphanumeric b || b == 95 || b == 46

-- Whether a number goes on over b: also over a sign between `e` and a digit.
abbrev pub goes_on : ℕ → ℕ → ℕ → Bool
goes_on before b after = is_in_number b || ((b == 43 || b == 45) && (before == 101 || before == 69) && is_ascii_digit after)

-- ---- operators

-- one of ~ ! @ # % ^ & | ? and the backquote
abbrev pub is_special : ℕ → Bool
is_special b = b == 126 || b == 33 || b == 64 || b == 35 || b == 37 || b == 94 || b == 38 || b == 124 || b == 63 || b == 96

abbrev pub is_sign : ℕ → Bool
is_sign b = b == 43 || b == 45

-- one of + - * / < > = too
abbrev pub is_op : ℕ → Bool
is_op b = is_special b || is_sign b || b == 42 || b == 47 || b == 60 || b == 62 || b == 61

-- `--` or `/*`
abbrev pub begins_comment : ℕ → ℕ → Bool
begins_comment b after = (b == 45 && after == 45) || (b == 47 && after == 42)

-- ---- runs

-- Whether a token of this kind goes on over the byte at i.
abbrev pub runs_over : TokKind → Text → ℕ → Bool
runs_over Blank z i = is_blank (slice_index z i)
runs_over LineComment z i = not (slice_index z i == 10)
runs_over Word z i = is_word (slice_index z i)
runs_over Param z i = is_ascii_digit (slice_index z i)
runs_over Number z i = goes_on (slice_index z (i - 1)) (slice_index z i) (slice_index z (i + 1))
runs_over Op z i = is_op (slice_index z i) && not (begins_comment (slice_index z i) (slice_index z (i + 1)))
runs_over _ z i = false

-- The run that goes on from i ends at j, and cannot be made longer.
pub record IsRun (k : TokKind) (z : Text) (i j : ℕ) : Type 0 where
  pub begun : i ≤ j
  pub within : j ≤ length z
  pub each : (n : ℕ) → i ≤ n → n < j → runs_over k z n ≡ true
  pub stops : j < length z → runs_over k z j ≡ false

-- A run without a special byte loses its trailing signs, but not its first byte.
abbrev pub op_len : Text → ℕ
op_len run = if list_any is_special run then length run else max 1 (length run - suffix_len is_sign run)

pub record IsOp (z : Text) (n : ℕ) : Type 0 where
  pub run : ℕ
  pub is_run : IsRun Op z 1 run
  pub length : n ≡ op_len (take run z)

-- ---- all kinds

abbrev pub begins_blank : Bool → Text → Bool
begins_blank is_start z = is_blank (slice_index z 0) || (is_start && begins_byte_order_mark z)

abbrev pub begins_line : Text → Bool
begins_line z = slice_index z 0 == 45 && slice_index z 1 == 45

abbrev pub is_e : ℕ → Bool
is_e b = b == 101 || b == 69

-- one of b x n e in either case
abbrev pub is_prefix : ℕ → Bool
is_prefix b = b == 98 || b == 66 || b == 120 || b == 88 || b == 110 || b == 78 || is_e b

-- `u&` in either case, and this quote
abbrev pub begins_unicode : ℕ → Text → Bool
begins_unicode quote z = (slice_index z 0 == 117 || slice_index z 0 == 85) && slice_index z 1 == 38 && slice_index z 2 == quote

abbrev pub begins_str : Text → Bool
begins_str z = slice_index z 0 == 39 || (is_prefix (slice_index z 0) && slice_index z 1 == 39) || begins_unicode 39 z

-- where the body of a Str begins
abbrev pub str_body : Text → ℕ
str_body z = if slice_index z 0 == 39 then 1 else (if slice_index z 1 == 39 then 2 else 3)

abbrev pub begins_param : Text → Bool
begins_param z = slice_index z 0 == 36 && is_ascii_digit (slice_index z 1)

abbrev pub begins_op : Text → Bool
begins_op z = is_op (slice_index z 0) && not (begins_comment (slice_index z 0) (slice_index z 1))

-- The kind of the token at the front, at the start of the text or not.
abbrev pub kind_of : Bool → Text → TokKind
kind_of is_start z =
    if begins_blank is_start z then Blank
    else (if begins_line z then LineComment
    else (if opens z 0 then BlockComment
    else (if begins_str z then Str
    else (if begins_unicode 34 z then UName
    else (if slice_index z 0 == 34 then Quoted
    else (if begins_dollar z then Dollar
    else (if begins_param z then Param
    else (if begins_number z then Number
    else (if begins_word (slice_index z 0) then Word
    else (if begins_op z then Op
    else (if is_punct (slice_index z 0) then Punct
    else Other)))))))))))

-- where the run of a Blank goes on: after a byte order mark, which is at the start of the text alone, or its first byte
abbrev pub blank_from : Bool → Text → ℕ
blank_from is_start z = if is_start && begins_byte_order_mark z then 3 else 1

-- The first n bytes of z are one token of this kind.
abbrev pub Takes : Bool → TokKind → Text → ℕ → Type 0
Takes is_start Blank z n = IsRun Blank z (blank_from is_start z) n
Takes is_start LineComment z n = IsRun LineComment z 1 n
Takes is_start BlockComment z n = Comment z 0 n
Takes is_start Str z n = IsQuoted 39 (is_e (slice_index z 0)) z (str_body z) n
Takes is_start UName z n = IsQuoted 34 false z 3 n
Takes is_start Quoted z n = IsQuoted 34 false z 1 n
Takes is_start Dollar z n = IsDollar z n
Takes is_start Param z n = IsRun Param z 1 n
Takes is_start Number z n = IsRun Number z 1 n
Takes is_start Word z n = IsRun Word z 1 n
Takes is_start Op z n = IsOp z n
Takes is_start Punct z n = n ≡ 1
Takes is_start Other z n = n ≡ 1

-- a kind whose token begins where its opening mark is there, whether or not it closes
abbrev pub is_closing : TokKind → Bool
is_closing BlockComment = true
is_closing Str = true
is_closing UName = true
is_closing Quoted = true
is_closing Dollar = true
is_closing _ = false

-- The bytes from i to before j are one token of kind k.
pub record At (t : Text) (i : ℕ) (k : TokKind) (j : ℕ) : Type 0 where
  pub before : i < j
  pub within : j ≤ length t
  pub kind : k ≡ kind_of (i == 0) (drop i t)
  pub takes : Takes (i == 0) k (drop i t) (j - i)

-- the bytes of a token
abbrev pub text_of : Text → Tok → Text
text_of t k = take (k.end - k.start) (drop k.start t)

-- These tokens lead from i to j.
abbrev pub Leads : Text → ℕ → List Tok → ℕ → Type 0
Leads t i [] j = i ≡ j
Leads t i (k ∷ ks) j = (k.start ≡ i) × At t i k.kind k.end × Leads t k.end ks j

-- These tokens are the text, all of it.
abbrev pub Lexed : Text → List Tok → Type 0
Lexed t ks = Leads t 0 ks (length t)

-- A token that closes begins at i, and none ends.
pub record NeverCloses (t : Text) (i : ℕ) : Type 0 where
  pub within : i < length t
  pub closing : is_closing (kind_of (i == 0) (drop i t)) ≡ true
  pub never : (k : TokKind) (j : ℕ) → At t i k j → ⊥

-- Tokens lead to `at`, where one begins that never closes.
abbrev pub OpenAt : Text → ℕ → Type 0
OpenAt t at = (ks : List Tok) × Leads t 0 ks at × NeverCloses t at

-- The texts of the tokens join to the text.
abbrev pub Joins : Type 0
Joins = (t : Text) (ks : List Tok) → Lexed t ks → flat_map (text_of t) ks ≡ t

-- A text has at most one list of tokens, at most one place where a token never closes, and not both.
abbrev pub OneLexed : Type 0
OneLexed = (t : Text) (ks ls : List Tok) → Lexed t ks → Lexed t ls → ks ≡ ls

abbrev pub OneOpen : Type 0
OneOpen = (t : Text) (a b : ℕ) → OpenAt t a → OpenAt t b → a ≡ b

abbrev pub NeverLexedAndOpen : Type 0
NeverLexedAndOpen = (t : Text) (ks : List Tok) (at : ℕ) → Lexed t ks → OpenAt t at → ⊥
