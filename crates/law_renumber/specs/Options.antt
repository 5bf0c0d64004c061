-- The one place where reading tells a word from a quoted name: INITIALLY and a word after it are one option of ALTER CONSTRAINT,
-- INITIALLY and a quoted name are two (PostgreSQL manual, ALTER TABLE, ALTER CONSTRAINT).
use Rattle.std.specs.Prelude.{◌≡◌, true, if◌then◌else◌, List, [], ◌∷◌, Some}
use Rattle.std.specs.List.{All}
use Rattle.sql_tree.specs.sql_keyword.declared.words.TheConstants.Keyword as keyword
use Rattle.sql_token.specs.declared.terminal.Terminal.{Terminal}
use Rattle.sql_token.specs.Depth.{statements}
use Rattle.sql_token.specs.Terminal.{is_keyword}
use Rattle.sql_tree.specs.declared.actions.PieceList.{PieceList}
use Rattle.sql_tree.specs.declared.actions.PieceList.TheVariants as lists
use Rattle.sql_tree.specs.declared.forms.BodyShape.{BodyShape}
use Rattle.sql_tree.specs.declared.forms.BodyShape.TheVariants as shape
use Rattle.sql_tree.specs.declared.kinds.StmtKind.{StmtKind}
use Rattle.sql_tree.specs.Forms.{State}
use Rattle.sql_tree.specs.Split.{begins_with, comma, split}
use Rattle.sql_tree.specs.ActionPieces.{is_word_symbol}
use Rattle.sql_tree.specs.Action.{has_several}
use Rattle.sql_tree.specs.Statement.{body_shape_of, front_by, from_verb, without_semicolon}

-- A word stays a word, and what is none stays none.
abbrev pub StaysWord : (Terminal → Terminal) → Terminal → Type 0
StaysWord g t = is_word_symbol (g t).symbol ≡ is_word_symbol t.symbol

-- so do all terminals that come right after INITIALLY
abbrev pub OptionsKept : (Terminal → Terminal) → List Terminal → Type 0
OptionsKept g (t ∷ u ∷ ts) = (is_keyword keyword.INITIALLY t ≡ true → StaysWord g u) × OptionsKept g (u ∷ ts)
OptionsKept g _ = Unit {0}

-- ---- where it matters

abbrev pub ListKept : (Terminal → Terminal) → PieceList → List Terminal → Type 0
ListKept g lists.ConstraintOptions ts = OptionsKept g ts
ListKept g _ ts = Unit {0}

-- in an action that begins with ALTER
abbrev pub ActionKept : (Terminal → Terminal) → List Terminal → Type 0
ActionKept g ts = begins_with keyword.ALTER ts ≡ true → OptionsKept g ts

-- in each action of a tail
abbrev pub ActionsKept : (Terminal → Terminal) → StmtKind → List Terminal → Type 0
ActionsKept g kind tail = All (ActionKept g) (if has_several kind then split comma tail else tail ∷ [])

-- in what a prefix of this kind leaves
abbrev pub LeftKept : (Terminal → Terminal) → BodyShape → StmtKind × State → Type 0
LeftKept g shape.Alter front = ActionsKept g front.0 front.1.left
LeftKept g _ front = Unit {0}

abbrev pub FrontKept : (Terminal → Terminal) → List Terminal → Type 0
FrontKept g [] = Unit {0}
FrontKept g (t ∷ ts) = (front : StmtKind × State) → front_by t.symbol ts ≡ Some front → LeftKept g (body_shape_of front.0) front

-- in a statement without its semicolon
abbrev pub FormKept : (Terminal → Terminal) → List Terminal → Type 0
FormKept g ts = FrontKept g (from_verb ts)

abbrev pub StatementKept : (Terminal → Terminal) → List Terminal → Type 0
StatementKept g ts = FormKept g (without_semicolon ts)

-- ---- laws

-- A map that keeps these options of all terminals of a statement keeps the statement.
abbrev pub StatementKeptByAll : (Terminal → Terminal) → Type 0
StatementKeptByAll g = (ts : List Terminal) → OptionsKept g ts → StatementKept g ts

-- One that keeps them of all terminals of a text keeps all its statements.
abbrev pub StatementsKeptByAll : (Terminal → Terminal) → Type 0
StatementsKeptByAll g = (ts : List Terminal) → OptionsKept g ts → All (StatementKept g) (statements ts)

-- A map under which words stay words keeps the options of ALTER CONSTRAINT.
abbrev pub OptionsKeptByWords : (Terminal → Terminal) → Type 0
OptionsKeptByWords g = ((t : Terminal) → StaysWord g t) → (ts : List Terminal) → OptionsKept g ts
