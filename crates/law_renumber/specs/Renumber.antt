-- Maps of terminals that keep what reading sees of them, what rows of forms read of them, and the laws of marks, parts and rows.
use Rattle.std.specs.Prelude.{◌≡◌, ℕ, List, map, Option}
use Rattle.std.specs.Option.{option_map}
use Rattle.sql_tree.specs.sql_keyword.declared.words.Keyword.{Keyword}
use Rattle.sql_token.specs.declared.terminal.Symbol.{Symbol}
use Rattle.sql_token.specs.declared.terminal.Symbol.TheVariants as s
use Rattle.sql_token.specs.declared.terminal.Terminal.{Terminal}
use Rattle.sql_tree.specs.declared.forms.Captures.{Captures}
use Rattle.sql_tree.specs.declared.forms.Part.{Part}
use Rattle.sql_tree.specs.Split.{Test, word, before, split, closing}
use Rattle.sql_tree.specs.Forms.{State, at, Row, take_part, in_turn, first_led, first_whole}
use Rattle.law_renumber.specs.Moved.{span_moved}

-- ---- maps of terminals

-- What reading sees of a symbol: no test tells a quoted name from a word that is no key word, a dollar-quoted string from a
-- number other than 1, or a parameter from any other byte. One test does: a word after INITIALLY, in `OptionsKept`.
abbrev pub seen : Symbol → Symbol
seen s.Quoted = s.Word
seen s.Dollar = s.Number
seen s.Param = s.Other
seen x = x

-- The map g keeps what reading sees, and numbers are changed by f.
pub record Keeps (g : Terminal → Terminal) (f : ℕ → ℕ) : Type 0 where
  pub symbol : (t : Terminal) → seen (g t).symbol ≡ seen t.symbol
  pub number : (t : Terminal) → (g t).number ≡ f t.number

-- for every such map
abbrev pub ForKept : ((Terminal → Terminal) → (ℕ → ℕ) → Type 0) → Type 0
ForKept Law = (g : Terminal → Terminal) (f : ℕ → ℕ) → Keeps g f → Law g f

-- other numbers alone
abbrev pub renumber : (ℕ → ℕ) → Terminal → Terminal
renumber f t = record t { number = f t.number }

-- ---- what reading gives, under other numbers

abbrev pub captures_moved : (ℕ → ℕ) → Captures → Captures
captures_moved f c = record c {
  word = option_map f c.word;
  path = option_map (span_moved f) c.path;
  name = option_map f c.name;
  concurrently = option_map f c.concurrently;
}

-- what is kept by f, what is left by g
abbrev pub state_moved : (Terminal → Terminal) → (ℕ → ℕ) → State → State
state_moved g f s = at (captures_moved f s.kept) (map g s.left)

abbrev pub front_moved : {K : Type 0} → (Terminal → Terminal) → (ℕ → ℕ) → K × State → K × State
front_moved g f r = (r.0, state_moved g f r.1)

-- ---- laws of marks

-- A mark is blind to such maps.
abbrev pub IsBlind : Test → Type 0
IsBlind mark =
    ForKept (λ g f.
    (earlier : Option Terminal) (t : Terminal) (after : List Terminal) → mark (option_map g earlier) (g t) (map g after) ≡ mark earlier t after)

abbrev pub WordIsBlind : Type 0
WordIsBlind = (w : Keyword) → IsBlind (word w)

abbrev pub BeforeRenumbers : (Terminal → Terminal) → (ℕ → ℕ) → Type 0
BeforeRenumbers g f = (mark : Test) → IsBlind mark → (ts : List Terminal) → before mark (map g ts) ≡ before mark ts

abbrev pub SplitRenumbers : (Terminal → Terminal) → (ℕ → ℕ) → Type 0
SplitRenumbers g f = (mark : Test) → IsBlind mark → (ts : List Terminal) → split mark (map g ts) ≡ map (map g) (split mark ts)

-- A bracket list is as long.
abbrev pub ClosingRenumbers : (Terminal → Terminal) → (ℕ → ℕ) → Type 0
ClosingRenumbers g f = (o c : ℕ) (ts : List Terminal) → closing o c (map g ts) ≡ closing o c ts

-- ---- laws of forms, for every part and every table of rows

abbrev pub PartRenumbers : (Terminal → Terminal) → (ℕ → ℕ) → Type 0
PartRenumbers g f =
    (x : Part) (c : Captures) (ts : List Terminal) →
    take_part x (captures_moved f c) (map g ts) ≡ option_map (state_moved g f) (take_part x c ts)

abbrev pub PartsRenumber : (Terminal → Terminal) → (ℕ → ℕ) → Type 0
PartsRenumber g f =
    (xs : List Part) (c : Captures) (ts : List Terminal) →
    in_turn xs (captures_moved f c) (map g ts) ≡ option_map (state_moved g f) (in_turn xs c ts)

-- The same row reads the statement.
abbrev pub FrontRenumbers : (Terminal → Terminal) → (ℕ → ℕ) → Type 0
FrontRenumbers g f =
    (rows : List Row) (ts : List Terminal) →
    first_led rows (map g ts) ≡ option_map (front_moved g f) (first_led rows ts)

-- The same row reads an action, or a piece of one.
abbrev pub WholeRenumbers : Type 0 → (Terminal → Terminal) → (ℕ → ℕ) → Type 0
WholeRenumbers K g f =
    (rows : List (K × List Part)) (ts : List Terminal) →
    first_whole rows (map g ts) ≡ option_map (front_moved g f) (first_whole rows ts)
