-- Terminals: the significant tokens of a text, as the grammar of statements sees them.
use Rattle.std.specs.Prelude.{ℕ, ◌+◌, ◌==◌, Bool, true, false, ◌&&◌, if◌then◌else◌, List, [], ◌∷◌, length, slice_index, Option, Some, None}
use Rattle.sql_keyword.specs.declared.words.Keyword.{Keyword}
use Rattle.sql_keyword.specs.Same.{same_keyword}
use Rattle.sql_keyword.specs.Find.{keyword_of}
use Rattle.sql_token.specs.declared.token.Tok.{Tok}
use Rattle.sql_token.specs.declared.token.TokKind.{TokKind}
use Rattle.sql_token.specs.declared.token.TokKind.TheVariants as k
use Rattle.sql_token.specs.declared.terminal.Symbol.{Symbol}
use Rattle.sql_token.specs.declared.terminal.Symbol.TheVariants as s
use Rattle.sql_token.specs.declared.terminal.Terminal.{Terminal}
use Rattle.sql_token.specs.Token.{Text, text_of}

-- all tokens but blanks and comments
abbrev pub is_significant : TokKind → Bool
is_significant k.Blank = false
is_significant k.LineComment = false
is_significant k.BlockComment = false
is_significant _ = true

-- neither blanks nor a comment
abbrev pub is_significant_token : Tok → Bool
is_significant_token tok = is_significant tok.kind

-- a word, key words among them, or an identifier in double quotes
abbrev pub is_name_kind : TokKind → Bool
is_name_kind k.Word = true
is_name_kind k.Quoted = true
is_name_kind _ = false

-- A word is a key word without regard to ASCII case.
abbrev pub word_symbol : Option Keyword → Symbol
word_symbol None = s.Word
word_symbol (Some w) = s.Keyword w

abbrev pub punct_symbol : ℕ → Symbol
punct_symbol b =
    if b == 40 then s.OpenRound
    else (if b == 41 then s.CloseRound
    else (if b == 91 then s.OpenSquare
    else (if b == 93 then s.CloseSquare
    else (if b == 44 then s.Comma
    else (if b == 59 then s.Semicolon
    else (if b == 46 then s.Dot
    else s.Colon))))))

abbrev pub operator_symbol : Text → Symbol
operator_symbol bs =
    if slice_index bs 0 == 61 then (if length bs == 1 then s.Equals else s.EqualsOperator)
    else (if slice_index bs 0 == 42 && length bs == 1 then s.Star else s.Operator)

abbrev pub number_symbol : Text → Symbol
number_symbol bs = if slice_index bs 0 == 49 && length bs == 1 then s.One else s.Number

-- what a token of these bytes is to the grammar
unfoldable pub symbol_of : TokKind → Text → Symbol
symbol_of k.Word bs = word_symbol (keyword_of bs)
symbol_of k.Quoted bs = s.Quoted
symbol_of k.Str bs = s.Str
symbol_of k.UName bs = s.UName
symbol_of k.Dollar bs = s.Dollar
symbol_of k.Param bs = s.Param
symbol_of k.Number bs = number_symbol bs
symbol_of k.Op bs = operator_symbol bs
symbol_of k.Punct bs = punct_symbol (slice_index bs 0)
symbol_of _ bs = s.Other

-- The terminals of these tokens, the first of which has the number n.
abbrev pub terminals_from : Text → ℕ → List Tok → List Terminal
terminals_from t n [] = []
terminals_from t n (tok ∷ toks) =
    if is_significant tok.kind
    then record { symbol = symbol_of tok.kind (text_of t tok); number = n } ∷ terminals_from t (n + 1) toks
    else terminals_from t (n + 1) toks

-- the terminals of a text that these tokens are
unfoldable pub terminals : Text → List Tok → List Terminal
terminals t toks = terminals_from t 0 toks

-- ---- what a terminal is

abbrev pub is_keyword_symbol : Keyword → Symbol → Bool
is_keyword_symbol w (s.Keyword found) = same_keyword found w
is_keyword_symbol w _ = false

unfoldable pub is_keyword : Keyword → Terminal → Bool
is_keyword w t = is_keyword_symbol w t.symbol

abbrev pub is_name_symbol : Symbol → Bool
is_name_symbol (s.Keyword w) = true
is_name_symbol s.Word = true
is_name_symbol s.Quoted = true
is_name_symbol _ = false

unfoldable pub is_name : Terminal → Bool
is_name t = is_name_symbol t.symbol

abbrev pub is_opener_symbol : Symbol → Bool
is_opener_symbol s.OpenRound = true
is_opener_symbol s.OpenSquare = true
is_opener_symbol _ = false

-- ( or [
unfoldable pub is_opener : Terminal → Bool
is_opener t = is_opener_symbol t.symbol

abbrev pub is_closer_symbol : Symbol → Bool
is_closer_symbol s.CloseRound = true
is_closer_symbol s.CloseSquare = true
is_closer_symbol _ = false

-- ) or ]
unfoldable pub is_closer : Terminal → Bool
is_closer t = is_closer_symbol t.symbol

abbrev pub is_round_symbol : Symbol → Bool
is_round_symbol s.OpenRound = true
is_round_symbol s.CloseRound = true
is_round_symbol _ = false

-- ( or )
unfoldable pub is_round : Terminal → Bool
is_round t = is_round_symbol t.symbol

abbrev pub is_semicolon_symbol : Symbol → Bool
is_semicolon_symbol s.Semicolon = true
is_semicolon_symbol _ = false

unfoldable pub is_semicolon : Terminal → Bool
is_semicolon t = is_semicolon_symbol t.symbol

abbrev pub is_dot_symbol : Symbol → Bool
is_dot_symbol s.Dot = true
is_dot_symbol _ = false

unfoldable pub is_dot : Terminal → Bool
is_dot t = is_dot_symbol t.symbol

abbrev pub is_unicode_name_symbol : Symbol → Bool
is_unicode_name_symbol s.UName = true
is_unicode_name_symbol _ = false

unfoldable pub is_unicode_name : Terminal → Bool
is_unicode_name t = is_unicode_name_symbol t.symbol
