-- Laws of what psql passes over.
use Rattle.std.specs.Prelude.{◌≡◌, ◌⊎◌, ℕ, Bool, false, List, [], length, slice_index}
use Rattle.sql_lex.specs.sql_token.declared.token.TokKind.{TokKind}
use Rattle.sql_lex.specs.sql_token.Token.{Text, At, is_blank}
use Rattle.psql_text.specs.Lines.{begins_command, begins_ending}
use Rattle.psql_text.specs.Marks.{is_stdin, is_atomic, is_routine}
use Rattle.psql_text.specs.Psql.{Passes, blank_all, mark_at}
use Rattle.psql_text.specs.declared.mark.Mark.{Mark}
use Rattle.psql_text.specs.declared.part.Part.{Part}

abbrev pub OneReading : Type 0
OneReading = (t : Text) (ps qs : List Part) → Passes t ps → Passes t qs → ps ≡ qs

-- b became u: it is as it was, or it was no white space and is a space, or it was a backslash and is `;`
abbrev pub IsSameOrBlank : ℕ → ℕ → Type 0
IsSameOrBlank b u = (u ≡ b) ⊎ (((is_blank b ≡ false) × (u ≡ 32)) ⊎ ((b ≡ 92) × (u ≡ 59)))

abbrev pub PlacesStay : Type 0
PlacesStay = (t : Text) (ps : List Part) → (length (blank_all ps t) ≡ length t) × ((k : ℕ) → IsSameOrBlank (slice_index t k) (slice_index (blank_all ps t) k))

-- no token of the text has such a mark
abbrev pub HasNone : Text → (Mark → Bool) → Type 0
HasNone t is = (i j : ℕ) (k : TokKind) → At t i k j → is (mark_at t i k j) ≡ false

-- No line of the text begins with a command that is passed over, and none stands in it that ends a statement. No token of it is the word STDIN, and
-- either none is FUNCTION or PROCEDURE, or none is ATOMIC.
pub record IsPlain (t : Text) : Type 0 where
  pub commands : (i : ℕ) → begins_command t i ≡ false
  pub endings : (i : ℕ) → begins_ending t i ≡ false
  pub stdin : HasNone t is_stdin
  pub bodies : HasNone t is_routine ⊎ HasNone t is_atomic

abbrev pub PlainTextsStay : Type 0
PlainTextsStay = (t : Text) (ps : List Part) → IsPlain t → Passes t ps → ps ≡ []
