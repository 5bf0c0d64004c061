-- Places at which every run of a word or of white space stops.
use Rattle.std.specs.Prelude.{◌≡◌, ◌<◌, ℕ, false, ◌||◌, length, slice_index}
use Rattle.sql_token.specs.Token.{Text, is_blank, is_word}

-- neither a word nor white space goes on over the byte at n
pub record IsStop (t : Text) (n : ℕ) : Type 0 where
  pub within : n < length t
  pub stops : (is_word (slice_index t n) || is_blank (slice_index t n)) ≡ false
