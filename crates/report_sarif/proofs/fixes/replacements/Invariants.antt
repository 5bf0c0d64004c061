use Rattle.std.proofs.Common.{◌≡◌, ◌++◌, drop, map}
use Rattle.serde_json.specs.View.{view}
use Rattle.report_sarif.specs.Results.{are_in_text, replacement}
use Rattle.report_sarif.proofs.fixes.replacements.Given as goal

abbrev pub invariant-loop-edit : goal.invariant-loop-edit
invariant-loop-edit l = record {
  grown : map view l.list.items ++ map (replacement l.file.text) (drop l.edit-index l.edits) ≡ map (replacement l.file.text) l.edits;
  checked : are_in_text l.file.text (drop l.edit-index l.edits) ≡ are_in_text l.file.text l.edits;
}
