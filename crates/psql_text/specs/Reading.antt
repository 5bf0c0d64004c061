-- How far the code has read a text, against the definition.
use Rattle.std.specs.Prelude.{◌≡◌, ◌≤◌, ◌<◌, ◌==◌, ◌+◌, ◌-◌, ℕ, Bool, true, not, ◌&&◌, ◌||◌, List, [], ◌∷◌, length, Option, Some, None}
use Rattle.std.specs.Str.{IsUtf8, IsCharBoundary}
use Rattle.sql_lex.specs.Signs.{SignsFrom}
use Rattle.sql_lex.specs.sql_token.Token.{Text, At}
use Rattle.sql_lex.specs.sql_token.declared.token.TokKind.{TokKind}
use Rattle.psql_text.specs.Count.{data_of}
use Rattle.psql_text.specs.Lines.{begins_command, begins_ending}
use Rattle.psql_text.specs.Marks.{is_none, is_atomic, begins_copy, opened, closed, has_from, ends_in_from, has_from_stdin, ends_in_begin, lead_of, is_whole, begun, ended}
use Rattle.psql_text.specs.Psql.{State, Reads, blanked, mark_at}
use Rattle.psql_text.specs.declared.block.Block.{Block}
use Rattle.psql_text.specs.declared.mark.Mark.{Mark}
use Rattle.psql_text.specs.declared.statement.Statement.{Statement}
use Rattle.psql_text.specs.declared.part.Part.{Part}
use Rattle.psql_text.specs.declared.reading.Reading.{Reading}
use Rattle.psql_text.specs.declared.reading.Found.{Found}
use Rattle.psql_text.specs.declared.reading.Step.{Step}
use Rattle.psql_text.specs.declared.reading.Step.TheVariants as step

-- what is kept of these marks
abbrev pub summary : List Mark → Statement
summary ms = record {
  is_empty = is_none ms;
  begins_copy = begins_copy ms;
  opened = opened ms;
  closed = closed ms;
  has_from = has_from ms;
  ends_in_from = ends_in_from ms;
  has_from_stdin = has_from_stdin ms;
  ends_in_begin = ends_in_begin ms;
  lead = lead_of ms;
}

-- what is kept of these marks of a body
abbrev pub block_of : List Mark → Block
block_of ms = record { opened = opened ms; closed = closed ms; begun = begun ms; ended = ended ms }

abbrev pub state : Text → Reading → List Mark → State
state t r ms = record { text = t; at = r.at; taken = r.taken; marks = ms }

-- a command that ends the statement is next
abbrev pub is_ending_next : Text → Reading → Bool
is_ending_next t r = begins_ending t r.at && not (r.statement.begins_copy && r.statement.has_from_stdin)

abbrev pub is_command_next : Text → Reading → Bool
is_command_next t r = begins_command t r.at || is_ending_next t r

-- a mark is the ATOMIC of a body in the statement
abbrev pub begins_body_of : Statement → Mark → Bool
begins_body_of s m = is_atomic m && (s.ends_in_begin && is_whole s.lead)

-- A token is next that begins a body.
pub record IsAtBody (t : Text) (r : Reading) : Type 0 where
  pub kind : TokKind
  pub end : ℕ
  pub token : At t r.at kind end
  pub begins : begins_body_of r.statement (mark_at t r.at kind end) ≡ true

-- The reading is within the text, and its counts are small.
pub record IsPlace (t : Text) (r : Reading) : Type 0 where
  pub at : r.at ≤ length t
  pub taken : r.taken ≤ length t
  pub opened : r.statement.opened ≤ r.at
  pub closed : r.statement.closed ≤ r.at

-- It is after another one.
pub record IsOn (t : Text) (r next : Reading) : Type 0 where
  pub at : r.at < next.at
  pub taken : r.taken ≤ next.taken
  pub place : IsPlace t next

-- as many lines of data as bytes were taken, or fewer
abbrev pub at_most : Part → ℕ
at_most p = data_of p.kind (p.to - p.from + 1)

-- A part after the reading, and that it is whole characters.
pub record IsAhead (t : Text) (r : Reading) (f : Found) : Type 0 where
  pub at : r.at < f.next.at
  pub place : IsPlace t f.next
  pub begun : f.part.from ≤ f.part.to
  pub some : f.part.from < length t
  pub within : f.part.to ≤ length t
  pub lines : r.taken + at_most f.part ≤ f.next.taken
  pub whole : IsUtf8 t → IsCharBoundary t f.part.from × IsCharBoundary t f.part.to

-- Signs that an operator lost may come from here on, if one was before.
abbrev pub MayFollow : Text → ℕ → Bool → Type 0
MayFollow t i is_after_operator = is_after_operator ≡ true → (0 < i) × SignsFrom t i

-- where reading is after a step
abbrev pub MovesOn : Text → Reading → Step → Type 0
MovesOn t r (step.Token passed) = IsOn t r passed.next × MayFollow t passed.next.at passed.is_operator
MovesOn t r (step.Part f) = IsAhead t r f
MovesOn t r step.Open = Unit {0}

-- From the one state the same parts are passed over as from the other, with these before them.
abbrev pub Follows : State → State → Type 0
Follows s u = (ps : List Part) → Reads u ps → Reads s ps

abbrev pub FollowsAfter : State → Part → State → Type 0
FollowsAfter s p u = (ps : List Part) → Reads u ps → Reads s (p ∷ ps)

-- A reading with these marks, and that from it the parts follow.
abbrev pub GoesTo : Text → State → Reading → Type 0
GoesTo t s r = (ms : List Mark) × (r.statement ≡ summary ms) × Follows s (state t r ms)

abbrev pub GoesPast : Text → State → Found → Type 0
GoesPast t s f = (ms : List Mark) × (f.next.statement ≡ summary ms) × FollowsAfter s f.part (state (blanked f.part t) f.next ms)

abbrev pub StepIs : Text → State → Step → Type 0
StepIs t s (step.Token passed) = GoesTo t s passed.next
StepIs t s (step.Part f) = GoesPast t s f
StepIs t s step.Open = Reads s []

-- A step of the reading r, with these marks so far.
abbrev pub Steps : Text → Reading → Step → Type 0
Steps t r result = (ms : List Mark) → r.statement ≡ summary ms → StepIs t (state t r ms) result

abbrev pub FoundIs : Text → State → Option Found → Type 0
FoundIs t s None = Reads s []
FoundIs t s (Some f) = GoesPast t s f

-- The next part from the reading r on, with these marks so far.
abbrev pub Finds : Text → Reading → Option Found → Type 0
Finds t r result = (ms : List Mark) → r.statement ≡ summary ms → FoundIs t (state t r ms) result
