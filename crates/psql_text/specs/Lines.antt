-- Lines of a text, and what psql takes for itself.
use Rattle.std.specs.Prelude.{◌≡◌, ◌≤◌, ◌<◌, ℕ, ◌+◌, ◌-◌, Bool, true, false, ◌&&◌, ◌||◌, ◌==◌, nat_le, drop, length, slice_index}
use Rattle.sql_lex.specs.text_pos.Line.{is_line_feed}
use Rattle.sql_lex.specs.sql_token.Token.{Text, begins_byte_order_mark}
use Rattle.psql_text.specs.Commands.{is_quiet, is_ending}

-- a line begins at i: where the text begins, also after its byte order mark, or after a line feed
abbrev pub starts_line : Text → ℕ → Bool
starts_line t i = i == 0 || is_line_feed (slice_index t (i - 1)) || (i == 3 && begins_byte_order_mark t)

-- A line begins at i with a backslash, and is one command that is passed over. Any other command stays in the text, where PostgreSQL has no token
-- that is a backslash.
abbrev pub begins_command : Text → ℕ → Bool
begins_command t i = slice_index t i == 92 && starts_line t i && is_quiet (drop (i + 1) t)

-- a backslash is at i, and with it a command that ends the statement before it
abbrev pub begins_ending : Text → ℕ → Bool
begins_ending t i = slice_index t i == 92 && is_ending (drop (i + 1) t)

-- The line on which i is ends at e: before its line feed, or with the text.
pub record IsLineEnd (t : Text) (i e : ℕ) : Type 0 where
  pub begun : i ≤ e
  pub within : e ≤ length t
  pub none : (n : ℕ) → i ≤ n → n < e → is_line_feed (slice_index t n) ≡ false
  pub stops : e < length t → is_line_feed (slice_index t e) ≡ true

-- a line ends before i
abbrev pub is_ended : Text → ℕ → Bool
is_ended t i = nat_le (length t) i || is_line_feed (slice_index t i)

-- a line that is `\.` begins at i; a carriage return may come before its line feed
abbrev pub is_end_mark : Text → ℕ → Bool
is_end_mark t i =
    slice_index t i == 92 && slice_index t (i + 1) == 46 && (is_ended t (i + 2) || (slice_index t (i + 2) == 13 && is_ended t (i + 3)))

-- a line feed is at i, and the line after it is `\.`
abbrev pub leads_to_end : Text → ℕ → Bool
leads_to_end t i = is_line_feed (slice_index t i) && is_end_mark t (i + 1)

-- The data after the line feed at d end at e: with the first line that is `\.`, or with the text.
pub record IsDataEnd (t : Text) (d e : ℕ) : Type 0 where
  pub last : ℕ
  pub begun : d ≤ last
  pub within : last ≤ length t
  pub none : (n : ℕ) → d ≤ n → n < last → leads_to_end t n ≡ false
  pub found : last < length t → (leads_to_end t last ≡ true) × IsLineEnd t (last + 1) e
  pub through : length t ≤ last → e ≡ length t
