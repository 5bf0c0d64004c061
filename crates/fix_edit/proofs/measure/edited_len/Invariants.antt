use Rattle.std.proofs.Common.{◌≡◌, ◌+◌, ◌<◌, ◌≤◌, ◌^◌, drop, length}
use Rattle.law_type_fixes.specs.law_fixes.Edited.{edited, edited_from}
use Rattle.fix_edit.specs.Faults.{end_before}
use Rattle.fix_edit.proofs.measure.edited_len.Given as goal

abbrev pub invariant-loop-edit : goal.invariant-loop-edit
invariant-loop-edit l = record {
  so_far : l.len + length (edited_from l.text l.place (drop l.edit-index l.edits)) ≡ length (edited l.text l.edits);
  small : l.len < 2 ^ 32;
  place : l.place ≡ end_before l.edits l.edit-index;
  within : l.place ≤ length l.text;
}
