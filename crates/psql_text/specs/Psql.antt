-- How psql reads a text: token by token, and what of it is no SQL.
use Rattle.std.specs.Prelude.{◌≡◌, ◌≤◌, ◌<◌, ◌==◌, ℕ, ◌+◌, ◌-◌, max, Bool, true, false, not, ◌&&◌, ◌||◌, nat_le, nat_lt, if◌then◌else◌, List, [], ◌∷◌, length, map, take, drop, slice_index, Option, Some, None}
use Rattle.std.specs.List.{range_with_len}
use Rattle.sql_lex.specs.sql_token.declared.token.TokKind.{TokKind}
use Rattle.sql_lex.specs.sql_token.Token.{Text, is_blank, At, NeverCloses}
use Rattle.psql_text.specs.Lines.{begins_command, begins_ending, IsLineEnd, IsDataEnd}
use Rattle.psql_text.specs.Marks.{mark_of, marks_after, ends_copy, is_copy_stdin, begins_body, ends_body, is_backslash}
use Rattle.psql_text.specs.declared.mark.Mark.{Mark}
use Rattle.psql_text.specs.declared.part.Part.{Part}
use Rattle.psql_text.specs.declared.part.PartKind.{PartKind}
use Rattle.psql_text.specs.declared.part.PartKind.TheVariants.{Command, Data, Ending, Body}

-- ---- what becomes of a part

-- of such a part a backslash becomes `;`
abbrev pub leaves_semicolon : PartKind → Bool
leaves_semicolon Command = false
leaves_semicolon Data = false
leaves_semicolon Ending = true
leaves_semicolon Body = false

-- white space stays, ends of lines among it, and any other byte becomes a space, but for such a backslash
abbrev pub as_blank : PartKind → ℕ → ℕ
as_blank kind b = if is_blank b then b else (if leaves_semicolon kind && b == 92 then 59 else 32)

-- the byte at k, where the bytes of the part become blank
abbrev pub byte_blanked : Part → Text → ℕ → ℕ
byte_blanked p t k = if nat_le p.from k && nat_lt k p.to then as_blank p.kind (slice_index t k) else slice_index t k

unfoldable pub blanked : Part → Text → Text
blanked p t = map (byte_blanked p t) (range_with_len 0 (length t))

-- the text in which these parts are blank
abbrev pub blank_all : List Part → Text → Text
blank_all [] t = t
blank_all (p ∷ ps) t = blank_all ps (blanked p t)

-- ---- bodies

-- the mark of the token of kind k from i to j
abbrev pub mark_at : Text → ℕ → TokKind → ℕ → Mark
mark_at t i k j = mark_of k (take (j - i) (drop i t))

-- With these marks of a body before i, it ends at a place after i, or it does not end.
pub data BodyFrom : Text → ℕ → List Mark → Option ℕ → Type 0 where
  -- its END
  end : (t : Text) (i : ℕ) (ms : List Mark) (k : TokKind) (j : ℕ) → At t i k j → ends_body ms (mark_at t i k j) ≡ true → BodyFrom t i ms (Some j)
  -- a token that is a backslash, of which a body has none
  backslash : (t : Text) (i : ℕ) (ms : List Mark) (k : TokKind) (j : ℕ) → At t i k j → ends_body ms (mark_at t i k j) ≡ false →
      is_backslash (mark_at t i k j) ≡ true → BodyFrom t i ms None
  -- any other token
  token : (t : Text) (i : ℕ) (ms : List Mark) (k : TokKind) (j : ℕ) (to : Option ℕ) → At t i k j → ends_body ms (mark_at t i k j) ≡ false →
      is_backslash (mark_at t i k j) ≡ false → BodyFrom t j (mark_at t i k j ∷ ms) to → BodyFrom t i ms to
  -- the text ends
  ends : (t : Text) (i : ℕ) (ms : List Mark) → length t ≤ i → BodyFrom t i ms None
  -- a token never closes
  unclosed : (t : Text) (i : ℕ) (ms : List Mark) → NeverCloses t i → BodyFrom t i ms None

-- the body whose ATOMIC is at i ends there, or does not end
abbrev pub IsBody : Text → ℕ → Option ℕ → Type 0
IsBody t i to = BodyFrom t i [] to

-- ---- how far psql has read

pub record State : Type 0 where
  -- the text, in which what was passed over is blank
  pub text : Text
  -- up to here it was read as SQL
  pub at : ℕ
  -- up to here its lines were taken as data
  pub taken : ℕ
  -- of the statement that is not yet ended, from the last to the first
  pub marks : List Mark

-- a command that ends the statement is next, which is no COPY .. FROM STDIN
abbrev pub is_at_ending : State → Bool
is_at_ending s = begins_ending s.text s.at && not (is_copy_stdin s.marks)

abbrev pub is_at_command : State → Bool
is_at_command s = begins_command s.text s.at || is_at_ending s

-- the mark of the token of kind k from here to j
abbrev pub mark_here : State → TokKind → ℕ → Mark
mark_here s k j = mark_at s.text s.at k j

abbrev pub after_command : State → ℕ → State
after_command s e = record s { text = blanked (record { kind = Command; from = s.at; to = e }) s.text; at = e }

-- the next statement begins, with nothing open
abbrev pub after_ending : State → ℕ → State
after_ending s e = record s { text = blanked (record { kind = Ending; from = s.at; to = e }) s.text; at = e; marks = [] }

abbrev pub after_token : State → TokKind → ℕ → State
after_token s k j = record s { at = j; marks = marks_after s.marks (mark_here s k j) }

abbrev pub after_data : State → TokKind → ℕ → ℕ → ℕ → State
after_data s k j d e = record (after_token s k j) { text = blanked (record { kind = Data; from = d + 1; to = e }) s.text; taken = e }

-- after a COPY .. FROM STDIN on the last line, which ends at d
abbrev pub after_last : State → TokKind → ℕ → ℕ → State
after_last s k j d = record (after_token s k j) { taken = d }

-- the statement goes on without its body
abbrev pub after_body : State → ℕ → State
after_body s e = record s { text = blanked (record { kind = Body; from = s.at; to = e }) s.text; at = e }

-- From here on, these parts are passed over.
pub data Reads : State → List Part → Type 0 where
  -- the text ends
  ends : (s : State) → length s.text ≤ s.at → Reads s []
  -- a token never closes: what follows stays
  unclosed : (s : State) → NeverCloses s.text s.at → Reads s []
  -- a line that begins with a backslash
  command : (s : State) (e : ℕ) (ps : List Part) → begins_command s.text s.at ≡ true → IsLineEnd s.text s.at e →
      Reads (after_command s e) ps → Reads s (record { kind = Command; from = s.at; to = e } ∷ ps)
  -- a command that ends the statement, to the end of its line
  ending : (s : State) (e : ℕ) (ps : List Part) → begins_command s.text s.at ≡ false → is_at_ending s ≡ true → IsLineEnd s.text s.at e →
      Reads (after_ending s e) ps → Reads s (record { kind = Ending; from = s.at; to = e } ∷ ps)
  -- a token that begins no body, and ends no COPY .. FROM STDIN
  token : (s : State) (k : TokKind) (j : ℕ) (ps : List Part) → is_at_command s ≡ false → At s.text s.at k j → begins_body s.marks (mark_here s k j) ≡ false →
      ends_copy s.marks (mark_here s k j) ≡ false → Reads (after_token s k j) ps → Reads s ps
  -- the semicolon of a COPY .. FROM STDIN: data come from the next line on that was not taken
  copy : (s : State) (k : TokKind) (j d e : ℕ) (ps : List Part) → is_at_command s ≡ false → At s.text s.at k j →
      ends_copy s.marks (mark_here s k j) ≡ true → IsLineEnd s.text (max j s.taken) d → d + 1 < length s.text → IsDataEnd s.text d e →
      Reads (after_data s k j d e) ps → Reads s (record { kind = Data; from = d + 1; to = e } ∷ ps)
  -- the same where no line comes next, or only an empty one that ends the text
  last : (s : State) (k : TokKind) (j d : ℕ) (ps : List Part) → is_at_command s ≡ false → At s.text s.at k j →
      ends_copy s.marks (mark_here s k j) ≡ true → IsLineEnd s.text (max j s.taken) d → length s.text ≤ d + 1 → Reads (after_last s k j d) ps → Reads s ps
  -- the ATOMIC of a body that ends
  body : (s : State) (k : TokKind) (j e : ℕ) (ps : List Part) → is_at_command s ≡ false → At s.text s.at k j → begins_body s.marks (mark_here s k j) ≡ true →
      IsBody s.text s.at (Some e) → Reads (after_body s e) ps → Reads s (record { kind = Body; from = s.at; to = e } ∷ ps)
  -- that of a body that does not end: what follows stays
  endless : (s : State) (k : TokKind) (j : ℕ) → is_at_command s ≡ false → At s.text s.at k j → begins_body s.marks (mark_here s k j) ≡ true →
      IsBody s.text s.at None → Reads s []

abbrev pub start : Text → State
start t = record { text = t; at = 0; taken = 0; marks = [] }

-- Of a text, these parts are no SQL to psql.
abbrev pub Passes : Text → List Part → Type 0
Passes t ps = Reads (start t) ps
