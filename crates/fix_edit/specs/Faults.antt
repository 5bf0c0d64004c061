-- Which edits of a list can't be made in a text. They are examined in order, so the first bad one counts.
use Rattle.std.specs.Prelude.{◌≡◌, ℕ, zero, suc, ◌<◌, ◌≤◌, List, length, Some, slice_get}
use Rattle.std.specs.Option.{option_map_or}
use Rattle.std.specs.Str.{IsCharBoundary}
use Rattle.law_type_fixes.specs.lint_base.declared.edit.Edit.{Edit}
use Rattle.law_type_fixes.specs.text_pos.Range.{Range}

-- the range begins and ends in the text, between two characters
abbrev pub IsInText : List ℕ → Range → Type 0
IsInText text range = IsCharBoundary text range.start × IsCharBoundary text range.end

-- where the predecessor of the edit with this number ends; the first edit has the text's beginning there
abbrev pub end_before : List Edit → ℕ → ℕ
end_before edits zero = 0
end_before edits (suc n) = option_map_or (λ edit. edit.text_range.end) (slice_get edits n) 0

-- the edit with this number is in the text, and begins no earlier than its predecessor ends
pub record IsGoodAt (text : List ℕ) (edits : List Edit) (n : ℕ) : Type 0 where
  pub edit : Edit
  pub is : slice_get edits n ≡ Some edit
  pub in_text : IsInText text edit.text_range
  pub apart : end_before edits n ≤ edit.text_range.start

-- all edits with lower numbers are good
abbrev pub AreGoodBelow : List ℕ → List Edit → ℕ → Type 0
AreGoodBelow text edits n = (k : ℕ) → k < n → IsGoodAt text edits k

-- no edit is bad
abbrev pub AreGood : List ℕ → List Edit → Type 0
AreGood text edits = AreGoodBelow text edits (length edits)

-- the first bad edit has this number, and leaves the text or cuts a character
pub record IsBadAt (text : List ℕ) (edits : List Edit) (n : ℕ) : Type 0 where
  pub edit : Edit
  pub is : slice_get edits n ≡ Some edit
  pub first : AreGoodBelow text edits n
  pub bad : ¬ (IsInText text edit.text_range)

-- the first bad edit has this number, and is in the text, but begins before its predecessor ends
pub record IsOverlapAt (text : List ℕ) (edits : List Edit) (n : ℕ) : Type 0 where
  pub edit : Edit
  pub is : slice_get edits n ≡ Some edit
  pub first : AreGoodBelow text edits n
  pub in_text : IsInText text edit.text_range
  pub overlap : edit.text_range.start < end_before edits n
