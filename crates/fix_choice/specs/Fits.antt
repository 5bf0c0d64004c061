-- Which fixes are made, and which fix is the next one.
use Rattle.std.specs.Prelude.{◌≡◌, ◌<◌, ◌-◌, ◌^◌, ℕ, nat_lt, Bool, true, not, ◌&&◌, ◌||◌, ◌==◌, List, [], ◌∷◌, length, slice_index, if◌then◌else◌, Option, Some, None, IfSome}
use Rattle.std.specs.List.{list_all}
use Rattle.std.specs.Option.{option_map, option_or}
use Rattle.fix_edit.specs.sql_token.Token.{Text, is_word}
use Rattle.fix_edit.specs.lint_base.declared.edit.Edit.{Edit}
use Rattle.fix_edit.specs.lint_base.declared.violation.Violation.{Violation}
use Rattle.fix_edit.specs.lint_base.Fixes.{FixValue}
use Rattle.fix_edit.specs.law_fixes.Edited.{edited}
use Rattle.fix_edit.specs.Faults.{AreGood}
use Rattle.law_fix_steps.specs.Listed.{is_listed}

-- a byte of a word is at this place
abbrev pub is_word_at : Text → ℕ → Bool
is_word_at text place = is_word (slice_index text place)

-- a byte of a word is right before this place; before the first byte there is none
abbrev pub is_word_before : Text → ℕ → Bool
is_word_before text place = nat_lt 0 place && is_word_at text (place - 1)

-- The edit inserts, or no byte of a word is right before or right after the range that it replaces.
abbrev pub joins_no_word : Text → Edit → Bool
joins_no_word text e =
    e.text_range.start == e.text_range.end || (not (is_word_before text e.text_range.start) && not (is_word_at text e.text_range.end))

-- A fix fits where no edit joins words, and the text that it makes has less than 2^32 bytes.
abbrev pub fits : Text → FixValue → Bool
fits text fix = list_all (joins_no_word text) fix.edits && nat_lt (length (edited text fix.edits)) (2 ^ 32)

-- the fix, if it fits
abbrev pub fitting : Text → Option FixValue → Option FixValue
fitting text None = None
fitting text (Some fix) = if fits text fix then Some fix else None

-- the fix of a report of a listed rule
abbrev pub listed_fix : Violation → Option FixValue
listed_fix v = if is_listed v.code then v.fix else None

-- the fix of the first report that is of a listed rule and has a fix that fits, in the order of these reports
abbrev pub first_fitting : Text → List Violation → Option FixValue
first_fitting text [] = None
first_fitting text (v ∷ vs) = option_or (fitting text (listed_fix v)) (first_fitting text vs)

-- ---- texts

-- the text with a fix made
abbrev pub with_fix : Text → FixValue → Text
with_fix text fix = edited text fix.edits

-- the text with this fix made, if it fits
abbrev pub made_by : Text → FixValue → Option Text
made_by text fix = option_map (with_fix text) (fitting text (Some fix))

-- the text with the fix of a report made, if it is of a listed rule and has one that fits
abbrev pub made_for : Text → Violation → Option Text
made_for text v = option_map (with_fix text) (fitting text (listed_fix v))

-- the text with the first fix made that is of a listed rule and fits
abbrev pub next_text : Text → List Violation → Option Text
next_text text reports = option_map (with_fix text) (first_fitting text reports)

-- ---- what is asked of fixes

-- No edit is bad, and there are fewer than 2^32 edits.
pub record CanBeTried (text : Text) (fix : FixValue) : Type 0 where
  pub good : AreGood text fix.edits
  pub few : length fix.edits < 2 ^ 32

-- So it is for the fix of a report, if its rule is listed.
abbrev pub ListedCanBeTried : Text → Violation → Type 0
ListedCanBeTried text v = is_listed v.code ≡ true → IfSome v.fix (CanBeTried text)
