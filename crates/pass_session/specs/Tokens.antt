-- Parts of a text by its tokens.
use Rattle.std.specs.Prelude.{ℕ, zero, suc, ◌-◌, Bool, ◌&&◌, not, nat_lt, List, take, drop, position, codes, if◌then◌else◌, Option, Some, None}
use Rattle.std.specs.Str.{bytes_eq}
use Rattle.lint_pass.specs.text_pos.Range.{Range}
use Rattle.lint_pass.specs.sql_token.declared.token.Span.{Span}
use Rattle.lint_pass.specs.sql_token.Terminal.{is_significant_token}
use Rattle.lint_pass.specs.sql_token.Token.{text_of}
use Rattle.lint_pass.specs.sql_tree.Range.{span_range_of, token_at}
use Rattle.lint_pass.specs.sql_tree.Statement.{Tree}

abbrev pub or_first : Option ℕ → ℕ
or_first None = 0
or_first (Some n) = n

-- the number of the first significant token of the text
abbrev pub first_significant : Tree → ℕ
first_significant tree = or_first (position is_significant_token tree.toks)

-- where the first significant token begins
abbrev pub first_place : Tree → ℕ
first_place tree = (span_range_of tree.toks (first_significant tree) (first_significant tree)).start

-- a significant token other than a semicolon
abbrev pub is_word_at : Tree → ℕ → Bool
is_word_at tree n = is_significant_token (token_at tree.toks n) && not (bytes_eq (text_of tree.text (token_at tree.toks n)) (codes ";"))

-- The last such token from number `first` to number n, or `first`: where a statement ends without its semicolon.
unfoldable pub last_word : Tree → ℕ → ℕ → ℕ
last_word tree first zero = zero
last_word tree first (suc n) = if nat_lt first (suc n) && not (is_word_at tree (suc n)) then last_word tree first n else suc n

-- the bytes of a text on a range
abbrev pub bytes_on : List ℕ → Range → List ℕ
bytes_on text range = take (range.end - range.start) (drop range.start text)

-- the bytes of a text from the first of some tokens to the last one
abbrev pub source_of : Tree → Span → List ℕ
source_of tree span = bytes_on tree.text (span_range_of tree.toks span.first span.last)
