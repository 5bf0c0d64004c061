-- Maps that keep what reading sees: other numbers alone, and words in the place of names.
use Rattle.std.specs.Prelude.{◌≡◌, ℕ, Bool, true, false, ◌&&◌, if◌then◌else◌, List, ◌∷◌, map}
use Rattle.std.specs.List.{All}
use Rattle.sql_token.specs.declared.terminal.Symbol.{Symbol}
use Rattle.sql_token.specs.declared.terminal.Symbol.TheVariants as s
use Rattle.sql_token.specs.declared.terminal.Terminal.{Terminal}
use Rattle.sql_token.specs.declared.token.Tok.{Tok}
use Rattle.sql_token.specs.Depth.{statements}
use Rattle.sql_token.specs.Terminal.{terminals}
use Rattle.sql_token.specs.Token.{Text}
use Rattle.sql_tree.specs.Statement.{statement, read_tokens}
use Rattle.law_renumber.specs.Options.{StaysWord, OptionsKept, StatementKept}
use Rattle.law_renumber.specs.Renumber.{Keeps, renumber}

-- ---- other numbers alone

abbrev pub NumbersKeep : Type 0
NumbersKeep = (f : ℕ → ℕ) → Keeps (renumber f) f

abbrev pub NumbersKeepOptions : Type 0
NumbersKeepOptions = (f : ℕ → ℕ) (ts : List Terminal) → OptionsKept (renumber f) ts

-- ---- words in the place of names

abbrev pub is_quoted_symbol : Symbol → Bool
is_quoted_symbol s.Quoted = true
is_quoted_symbol _ = false

-- A quoted name becomes a word that is no key word, as `"int4"` becomes `int8`. Such a word stays one, whatever its text.
abbrev pub word_for : Symbol → Symbol
word_for s.Quoted = s.Word
word_for x = x

-- The quoted names whose numbers pass the test become such words. Numbers are changed by f.
abbrev pub as_words : (ℕ → Bool) → (ℕ → ℕ) → Terminal → Terminal
as_words chosen f t = record { symbol = if chosen t.number then word_for t.symbol else t.symbol; number = f t.number }

abbrev pub WordsKeep : Type 0
WordsKeep = (chosen : ℕ → Bool) (f : ℕ → ℕ) → Keeps (as_words chosen f) f

-- All other terminals stay words, or none.
abbrev pub OthersStay : Type 0
OthersStay =
    (chosen : ℕ → Bool) (f : ℕ → ℕ) (t : Terminal) → (chosen t.number && is_quoted_symbol t.symbol) ≡ false → StaysWord (as_words chosen f) t

-- ---- the same trees

abbrev pub same : ℕ → ℕ
same n = n

-- Reading tells no quoted name from a word that is no key word.
abbrev pub StatementsReadAlike : Type 0
StatementsReadAlike =
    (chosen : ℕ → Bool) (t : Terminal) (ts : List Terminal) → StatementKept (as_words chosen same) (t ∷ ts) →
    statement (map (as_words chosen same) (t ∷ ts)) ≡ statement (t ∷ ts)

-- So a text in which quoted names became such words has the same statements, or the same fault.
abbrev pub TextsReadAlike : Type 0
TextsReadAlike =
    (chosen : ℕ → Bool) (t u : Text) (ks ls : List Tok) → terminals u ls ≡ map (as_words chosen same) (terminals t ks) →
    All (StatementKept (as_words chosen same)) (statements (terminals t ks)) → read_tokens u ls ≡ read_tokens t ks
