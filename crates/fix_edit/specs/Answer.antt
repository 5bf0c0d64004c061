-- When each answer of a fix comes.
use Rattle.std.specs.Prelude.{◌≡◌, ◌≤◌, ◌<◌, ◌^◌, ℕ, List, length, Result, Ok, Err}
use Rattle.law_type_fixes.specs.lint_base.declared.edit.Edit.{Edit}
use Rattle.law_type_fixes.specs.law_fixes.Edited.{edited}
use Rattle.fix_edit.specs.Faults.{AreGood, IsBadAt, IsOverlapAt}
use Rattle.fix_edit.specs.declared.error.FixError.{FixError}
use Rattle.fix_edit.specs.declared.error.FixError.TheVariants.{BadRange, Overlap, TooLong, NoMemory}

-- no edit is bad, and the edited text has less than 2^32 bytes
pub record CanBeMade (text : List ℕ) (edits : List Edit) : Type 0 where
  pub good : AreGood text edits
  pub short : length (edited text edits) < 2 ^ 32

-- no edit is bad, and the edited text has 2^32 bytes or more
pub record IsTooLong (text : List ℕ) (edits : List Edit) : Type 0 where
  pub good : AreGood text edits
  pub long : 2 ^ 32 ≤ length (edited text edits)

-- why edits are not made; memory runs out only where they could be
abbrev pub IsCause : List ℕ → List Edit → FixError → Type 0
IsCause text edits (BadRange n) = IsBadAt text edits n
IsCause text edits (Overlap n) = IsOverlapAt text edits n
IsCause text edits TooLong = IsTooLong text edits
IsCause text edits NoMemory = CanBeMade text edits

-- a value whose bytes are the edited text, or a refusal with its cause
abbrev pub IsAnswer : {X : Type 0} → List ℕ → List Edit → (X → List ℕ) → Result X FixError → Type 0
IsAnswer text edits bytes (Ok made) = CanBeMade text edits × (bytes made ≡ edited text edits)
IsAnswer text edits bytes (Err cause) = IsCause text edits cause

-- this value, unless memory ran out
abbrev pub OkOrNoMemory : {X : Type 0} → Result X FixError → (X → Type 0) → Type 0
OkOrNoMemory (Ok x) P = P x
OkOrNoMemory (Err NoMemory) P = Unit {0}
OkOrNoMemory (Err TooLong) P = ⊥
OkOrNoMemory (Err (BadRange n)) P = ⊥
OkOrNoMemory (Err (Overlap n)) P = ⊥
