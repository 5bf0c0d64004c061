-- No object of a finding has a float.
use Rattle.std.proofs.Common.{◌≡◌, false, List, [], ◌∷◌, map, Option, Some, None, refl}
use Rattle.serde_json.specs.View.{items_of}
use Rattle.serde_json.specs.Written.{has_float, items_have_float}
use Rattle.json_value.proofs.NoFloats.{hint_has_no_float, text_has_no_float}
use Rattle.lint_report.specs.lint_base.declared.edit.Edit.{Edit}
use Rattle.lint_report.specs.declared.report.Report.{Report}
use Rattle.lint_report.specs.declared.report.ReportFix.{ReportFix}
use Rattle.json_value.specs.source_file.declared.refusal.Refusal.{Refusal}
use Rattle.json_value.specs.source_file.File.{FileValue}
use Rattle.json_value.specs.source_file.Hints.{hint_of}
use Rattle.report_json.specs.Objects.{edit_object, fix_data, refusal_object, report_object}

edits_have_no_float : (edits : List Edit) → items_have_float (items_of (map edit_object edits)) ≡ false
edits_have_no_float [] = refl
edits_have_no_float (e ∷ es) = rw (text_has_no_float e.text) (edits_have_no_float es)

fix_has_no_float : (fix : Option ReportFix) → has_float (fix_data fix) ≡ false
fix_has_no_float None = refl
fix_has_no_float (Some fix) = rw (edits_have_no_float fix.fix.edits) refl

pub refusal_has_no_float : (file : FileValue) (r : Refusal) → has_float (refusal_object file r) ≡ false
refusal_has_no_float file r = rw (hint_has_no_float (hint_of file.text r)) refl

pub report_has_no_float : (file : FileValue) (r : Report) → has_float (report_object file r) ≡ false
report_has_no_float file r = rw (fix_has_no_float r.fix, text_has_no_float r.help, text_has_no_float r.note) refl
