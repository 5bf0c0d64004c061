-- Where a run of terminals is in a list that is cut, and that another run in its place leaves how the list is cut.
use Rattle.std.specs.Prelude.{◌≡◌, ◌≤◌, ℕ, true, false, ◌&&◌, List, [], ◌∷◌, ◌++◌, take, slice_index_or}
use Rattle.std.specs.List.{list_all}
use Rattle.law_renumber.specs.sql_token.declared.terminal.Terminal.{Terminal}
use Rattle.law_renumber.specs.sql_token.Depth.{opened, closed, statements, ends_at, is_outside, nothing}
use Rattle.law_renumber.specs.sql_token.Sound.{is_sound}
use Rattle.law_renumber.specs.sql_tree.Split.{split, comma}
use Rattle.law_edit_cuts.specs.Runs.{is_closed, is_neutral, is_uncut, is_comma, deepest, begins_no_body}

-- ---- what runs are

-- as many closers as openers, and at no place more closers than openers before it
pub record IsLevel (run : List Terminal) : Type 0 where
  pub level : opened run ≡ closed run
  pub never : (n : ℕ) → closed (take n run) ≤ opened (take n run)

abbrev pub ClosedIsLevel : Type 0
ClosedIsLevel = (run : List Terminal) → is_closed run ≡ true → IsLevel run

abbrev pub LevelIsClosed : Type 0
LevelIsClosed = (run : List Terminal) → IsLevel run → is_closed run ≡ true

-- No statement ends in it.
abbrev pub NeutralEndsNone : Type 0
NeutralEndsNone = (run : List Terminal) → is_neutral run ≡ true → (n : ℕ) → ends_at run n ≡ false

-- Each comma of it is in its brackets.
abbrev pub UncutHasNone : Type 0
UncutHasNone = (run : List Terminal) → is_uncut run ≡ true → (n : ℕ) → (is_outside run n && is_comma (slice_index_or run n nothing)) ≡ false

-- ---- statements

-- these lists, one after the other
abbrev pub joined : List (List Terminal) → List Terminal
joined [] = []
joined (x ∷ xs) = x ++ joined xs

-- The place of a run between the terminals `earlier` and `later` of a text: the statements before its own, what comes before
-- and after it in its own, and the statements after that. All neutral runs have the same place.
pub record InStatements (earlier later : List Terminal) : Type 0 where
  pub before : List (List Terminal)
  pub front : List Terminal
  pub tail : List Terminal
  pub after : List (List Terminal)
  pub starts : earlier ≡ joined before ++ front
  pub ends : later ≡ tail ++ joined after
  pub cut : (t : Terminal) (run : List Terminal) → is_neutral (t ∷ run) ≡ true →
      statements (earlier ++ ((t ∷ run) ++ later)) ≡ before ++ (front ++ ((t ∷ run) ++ tail)) ∷ after

-- Each place of a text with at most as many closers as openers before it is such a place.
abbrev pub StatementsStay : Type 0
StatementsStay = (earlier later : List Terminal) → closed earlier ≤ opened earlier → InStatements earlier later

-- Where a run of one statement is exchanged, the text of the statements is cut into that one, with the other run, and all
-- others as they were.
abbrev pub StatementExchanges : Type 0
StatementExchanges =
    (ts : List Terminal) (before : List (List Terminal)) (front : List Terminal) (t : Terminal) (run tail : List Terminal) (after : List (List Terminal)) →
    is_neutral (t ∷ run) ≡ true → closed front ≤ opened front →
    statements ts ≡ before ++ (front ++ ((t ∷ run) ++ tail)) ∷ after →
    (u : Terminal) (new : List Terminal) → is_neutral (u ∷ new) ≡ true →
    statements (joined (before ++ (front ++ ((u ∷ new) ++ tail)) ∷ after)) ≡ before ++ (front ++ ((u ∷ new) ++ tail)) ∷ after

-- ---- lists that commas separate

-- The same in a list that is split at commas: the parts before the run's own, what comes before and after it in its own, and
-- the parts after that.
pub record InParts (earlier later : List Terminal) (before : List (List Terminal)) (front tail : List Terminal) (after : List (List Terminal)) : Type 0 where
  pub starts : split comma earlier ≡ before ++ front ∷ []
  pub cut : (t : Terminal) (run : List Terminal) → is_uncut (t ∷ run) ≡ true →
      split comma (earlier ++ ((t ∷ run) ++ later)) ≡ before ++ (front ++ ((t ∷ run) ++ tail)) ∷ after

pub record PartOf (earlier later : List Terminal) : Type 0 where
  pub before : List (List Terminal)
  pub front : List Terminal
  pub tail : List Terminal
  pub after : List (List Terminal)
  pub there : InParts earlier later before front tail after

abbrev pub PartsStay : Type 0
PartsStay = (earlier later : List Terminal) → closed earlier ≤ opened earlier → PartOf earlier later

-- A run of one part is a run of the list, at its place.
pub record PlaceOf (ts : List Terminal) (before : List (List Terminal)) (front run tail : List Terminal) (after : List (List Terminal)) : Type 0 where
  pub earlier : List Terminal
  pub later : List Terminal
  pub list : ts ≡ earlier ++ (run ++ later)
  pub there : InParts earlier later before front tail after

abbrev pub PartExchanges : Type 0
PartExchanges =
    (ts : List Terminal) (before : List (List Terminal)) (front : List Terminal) (t : Terminal) (run tail : List Terminal) (after : List (List Terminal)) →
    is_uncut (t ∷ run) ≡ true → closed front ≤ opened front →
    split comma ts ≡ before ++ (front ++ ((t ∷ run) ++ tail)) ∷ after →
    PlaceOf ts before front (t ∷ run) tail after

-- ---- soundness

-- A sound list is closed.
abbrev pub SoundIsClosed : Type 0
SoundIsClosed = (ts : List Terminal) → is_sound ts ≡ true → is_closed ts ≡ true

-- At each place of a sound list there are at most as many closers as openers before it.
abbrev pub PrefixIsLevel : Type 0
PrefixIsLevel = (front tail : List Terminal) → is_sound (front ++ tail) ≡ true → closed front ≤ opened front

-- A statement stays sound where a closed run of it becomes a run that is sound alone, is no deeper, and holds neither BEGIN
-- nor ATOMIC.
abbrev pub SoundnessStays : Type 0
SoundnessStays =
    (front run tail : List Terminal) (u : Terminal) (new : List Terminal) → is_closed run ≡ true →
    is_sound (u ∷ new) ≡ true → list_all begins_no_body (u ∷ new) ≡ true → deepest 0 (u ∷ new) ≤ deepest 0 run →
    is_sound (front ++ (run ++ tail)) ≡ true → is_sound (front ++ ((u ∷ new) ++ tail)) ≡ true
