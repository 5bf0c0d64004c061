-- What is beside a token.
use Rattle.std.specs.Prelude.{◌≡◌, ℕ, ◌+◌, ◌-◌, ◌==◌, ◌||◌, Bool, true, false, List, [], ◌∷◌, ◌++◌, drop, length, slice_index}
use Rattle.law_renumber.specs.sql_token.declared.token.Tok.{Tok}
use Rattle.law_renumber.specs.sql_token.declared.terminal.Symbol.{Symbol}
use Rattle.law_renumber.specs.sql_token.declared.terminal.Symbol.TheVariants as s
use Rattle.law_renumber.specs.sql_token.declared.terminal.Terminal.{Terminal}
use Rattle.law_renumber.specs.sql_token.Token.{Text, Lexed, is_word, is_blank}
use Rattle.law_renumber.specs.sql_token.Terminal.{terminals_from, is_significant, is_name, is_dot}
use Rattle.std.specs.Char.{is_ascii_digit}
use Rattle.law_edit_tokens.specs.Exchange.{LastKeeps}

-- one of ( ) [ ] , ; . :
abbrev pub is_punct_symbol : Symbol → Bool
is_punct_symbol s.OpenRound = true
is_punct_symbol s.CloseRound = true
is_punct_symbol s.OpenSquare = true
is_punct_symbol s.CloseSquare = true
is_punct_symbol s.Comma = true
is_punct_symbol s.Semicolon = true
is_punct_symbol s.Dot = true
is_punct_symbol s.Colon = true
is_punct_symbol _ = false

-- a mark or nothing
abbrev pub begins_punct_or_ends : List Terminal → Bool
begins_punct_or_ends [] = true
begins_punct_or_ends (t ∷ ts) = is_punct_symbol t.symbol

-- Where a mark or nothing is the next terminal after a token, no word goes on at its end, whatever token it is.
abbrev pub NoWordAfter : Type 0
NoWordAfter =
    (t : Text) (front : List Tok) (k : Tok) (after : List Tok) → Lexed t (front ++ k ∷ after) →
    begins_punct_or_ends (terminals_from t (length front + 1) after) ≡ true → is_word (slice_index (drop k.end t) 0) ≡ false

-- ---- what comes before a name's type, or before another name

abbrev pub ends_with_name : List Terminal → Bool
ends_with_name [] = true
ends_with_name (t ∷ []) = is_name t
ends_with_name (t ∷ u ∷ ts) = ends_with_name (u ∷ ts)

-- a byte that begins a word and is no blank, quote, digit or sign that another token goes on over
pub record IsLetter (b : ℕ) : Type 0 where
  pub blank : is_blank b ≡ false
  pub quote : (b == 34) ≡ false
  pub digit : is_ascii_digit b ≡ false

-- Before a significant token that comes after a name, the last token lets a letter follow, if no word byte is there.
abbrev pub LetterFollows : Type 0
LetterFollows =
    (t : Text) (front : List Tok) (k : Tok) (after : List Tok) (b : ℕ) → Lexed t (front ++ k ∷ after) → is_significant k.kind ≡ true →
    ends_with_name (terminals_from t 0 front) ≡ true → is_word (slice_index t (k.start - 1)) ≡ false → IsLetter b → LastKeeps front b

-- a name, or a dot, as what comes before each name of a path
abbrev pub ends_with_name_or_dot : List Terminal → Bool
ends_with_name_or_dot [] = true
ends_with_name_or_dot (t ∷ []) = is_name t || is_dot t
ends_with_name_or_dot (t ∷ u ∷ ts) = ends_with_name_or_dot (u ∷ ts)

-- So it does before one that comes after a name or a dot.
abbrev pub LetterFollowsDot : Type 0
LetterFollowsDot =
    (t : Text) (front : List Tok) (k : Tok) (after : List Tok) (b : ℕ) → Lexed t (front ++ k ∷ after) → is_significant k.kind ≡ true →
    ends_with_name_or_dot (terminals_from t 0 front) ≡ true → is_word (slice_index t (k.start - 1)) ≡ false → IsLetter b → LastKeeps front b
