use Rattle.std.proofs.Common.{◌≡◌, ◌++◌, drop, string_bytes}
use Rattle.std.specs.Str.{IsCharBoundary}
use Rattle.law_type_fixes.specs.law_fixes.Edited.{edited, edited_from}
use Rattle.fix_edit.specs.Faults.{end_before}
use Rattle.fix_edit.proofs.build.build.Given as goal

abbrev pub invariant-loop-edit : goal.invariant-loop-edit
invariant-loop-edit l = record {
  so_far : string_bytes l.made ++ edited_from l.text l.place (drop l.edit-index l.edits) ≡ edited l.text l.edits;
  place : l.place ≡ end_before l.edits l.edit-index;
  cut : IsCharBoundary l.text l.place;
}
