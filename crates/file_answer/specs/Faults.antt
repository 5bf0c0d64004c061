-- What can't be read of a text, statement by statement.
use Rattle.std.specs.Prelude.{◌≡◌, ◌⊎◌, ℕ, ◌+◌, ◌-◌, ◌==◌, ◌&&◌, Bool, None, List, [], ◌∷◌, if◌then◌else◌, nat_lt, slice_index, slice_range}
use Rattle.psql_text.specs.Psql.{blanked}
use Rattle.psql_text.specs.declared.part.Part.{Part}
use Rattle.psql_text.specs.declared.part.PartKind.TheVariants.{Command}
use Rattle.check_run.specs.source_file.declared.refusal.Refusal.{Refusal}
use Rattle.check_run.specs.source_file.declared.refusal.Refusal.TheVariants.{Missing, Unreadable, NotUtf8, TooLong, Unterminated, Syntax}
use Rattle.law_reports.specs.sql_read.Cause.{IsTreeOf}
use Rattle.law_reports.specs.sql_read.sql_token.declared.token.Span.{Span}
use Rattle.law_reports.specs.sql_read.sql_token.declared.token.Tok.{Tok}
use Rattle.law_reports.specs.sql_read.sql_token.Token.{Lexed, OpenAt, Text}
use Rattle.law_reports.specs.sql_read.sql_tree.Range.{span_range_of}
use Rattle.law_reports.specs.sql_read.sql_tree.Statement.{IsSyntaxAt, Tree}
use Rattle.law_reports.specs.sql_read.text_pos.Range.{Range}
use Rattle.file_answer.specs.Backslash.{IsBackslashAt, first_backslash}
use Rattle.file_answer.specs.Joined.{spans_of}

-- ---- a text

-- a text that has a tree, and no token that is a backslash
pub record IsReadable (t : Text) : Type 0 where
  pub tree : Tree
  pub of_text : IsTreeOf t tree
  pub none : first_backslash tree ≡ None

-- why a text can't be read, and where
abbrev pub IsFault : Text → Refusal → Type 0
IsFault t Missing = ⊥
IsFault t Unreadable = ⊥
IsFault t (NotUtf8 at) = ⊥
IsFault t TooLong = ⊥
IsFault t (Unterminated at) = OpenAt t at
IsFault t (Syntax at) = IsSyntaxAt t at ⊎ IsBackslashAt t at

-- ---- its statements

abbrev pub ends_in_semicolon : Text → Range → Bool
ends_in_semicolon t r = nat_lt r.start r.end && slice_index t (r.end - 1) == 59

-- a range without its last byte
abbrev pub cut_short : Range → Range
cut_short r = record { start = r.start; end = r.end - 1 }

-- the bytes of a statement from its first token to its last one, without its semicolon
abbrev pub range_of : Text → List Tok → Span → Range
range_of t toks s =
    let r = span_range_of toks s.first s.last in
    if ends_in_semicolon t r then cut_short r else r

-- ---- its faults

-- a fault of a part that begins at n, at its place in the text
abbrev pub moved : ℕ → Refusal → Refusal
moved n Missing = Missing
moved n Unreadable = Unreadable
moved n (NotUtf8 at) = NotUtf8 (n + at)
moved n TooLong = TooLong
moved n (Unterminated at) = Unterminated (n + at)
moved n (Syntax at) = Syntax (n + at)

-- a statement, read by itself, has this fault
abbrev pub IsFaultIn : Text → Range → Refusal → Type 0
IsFaultIn t r f = (own : Refusal) × IsFault (slice_range t r.start r.end) own × (f ≡ moved r.start own)

-- a range as a part of which nothing is left, not even a semicolon
abbrev pub whole_part : Range → Part
whole_part r = record { kind = Command; from = r.start; to = r.end }

-- These statements of a text have these faults, in their order. Where those that have one become blank in s, that is u.
pub data HaveFaults (t : Text) (toks : List Tok) : List Span → List Refusal → Text → Text → Type 0 where
  none : (s : Text) → HaveFaults t toks [] [] s s
  read : (x : Span) (xs : List Span) (fs : List Refusal) (s u : Text) → IsReadable (slice_range t (range_of t toks x).start (range_of t toks x).end)
      → HaveFaults t toks xs fs s u → HaveFaults t toks (x ∷ xs) fs s u
  fault : (x : Span) (xs : List Span) (f : Refusal) (fs : List Refusal) (s u : Text) → IsFaultIn t (range_of t toks x) f
      → HaveFaults t toks xs fs (blanked (whole_part (range_of t toks x)) s) u → HaveFaults t toks (x ∷ xs) (f ∷ fs) s u

-- The statements of a text have these faults, and with those blank that have one it is u.
pub record AreFaultsOf (t : Text) (faults : List Refusal) (u : Text) : Type 0 where
  pub toks : List Tok
  pub lexed : Lexed t toks
  pub have : HaveFaults t toks (spans_of t toks) faults t u
