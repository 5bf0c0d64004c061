-- No result of a finding has a float, and none is in the log.
use Rattle.std.proofs.Common.{◌≡◌, ℕ, Bool, true, false, List, [], ◌∷◌, ◌++◌, map, Option, Some, None, if◌then◌else◌, refl}
use Rattle.serde_json.specs.Data.{array, no_items}
use Rattle.serde_json.specs.View.{items_of}
use Rattle.serde_json.specs.Written.{has_float, items_have_float, members_have_float}
use Rattle.hazard_base.specs.declared.hazard.Hazard.{Hazard}
use Rattle.hazard_base.specs.Hazards.{all_hazards}
use Rattle.json_value.proofs.NoFloats.{hint_has_no_float, text_has_no_float}
use Rattle.lint_base.specs.declared.edit.Edit.{Edit}
use Rattle.lint_base.specs.declared.rule.Rule.{Rule}
use Rattle.lint_base.specs.Rules.{all_rules}
use Rattle.lint_report.specs.declared.report.Report.{Report}
use Rattle.lint_report.specs.declared.report.ReportFix.{ReportFix}
use Rattle.json_value.specs.source_file.declared.refusal.Refusal.{Refusal}
use Rattle.json_value.specs.source_file.File.{FileValue}
use Rattle.json_value.specs.source_file.Hints.{hint_of}
use Rattle.report_sarif.specs.Log.{hazard_object, rule_object, tool}
use Rattle.report_sarif.specs.Results.{are_in_text, fix_object, fixes, inserted, one, refusal_result, replacement, report_result}

inserted_has_no_float : (text : Option (List ℕ)) → members_have_float (inserted text) ≡ false
inserted_has_no_float None = refl
inserted_has_no_float (Some text) = refl

edits_have_no_float : (text : List ℕ) (edits : List Edit) → items_have_float (items_of (map (replacement text) edits)) ≡ false
edits_have_no_float text [] = refl
edits_have_no_float text (e ∷ es) = rw (inserted_has_no_float e.text) (edits_have_no_float text es)

fix_has_no_float : (file : FileValue) (fix : ReportFix) → has_float (one (fix_object file fix)) ≡ false
fix_has_no_float file fix = rw (edits_have_no_float file.text fix.fix.edits) refl

either_has_no_float : (c : Bool) (file : FileValue) (fix : ReportFix) → has_float (if c then one (fix_object file fix) else array no_items) ≡ false
either_has_no_float true file fix = fix_has_no_float file fix
either_has_no_float false file fix = refl

fixes_have_no_float : (file : FileValue) (fix : Option ReportFix) → has_float (fixes file fix) ≡ false
fixes_have_no_float file None = refl
fixes_have_no_float file (Some fix) = either_has_no_float (are_in_text file.text fix.fix.edits) file fix

pub report_has_no_float : (file : FileValue) (r : Report) → has_float (report_result file r) ≡ false
report_has_no_float file r = rw (fixes_have_no_float file r.fix, text_has_no_float r.help, text_has_no_float r.note) refl

pub refusal_has_no_float : (file : FileValue) (r : Refusal) → has_float (refusal_result file r) ≡ false
refusal_has_no_float file r = rw (hint_has_no_float (hint_of file.text r)) refl

hazards_have_no_float : (hazards : List Hazard) → items_have_float (items_of (map hazard_object hazards)) ≡ false
hazards_have_no_float [] = refl
hazards_have_no_float (h ∷ hs) = hazards_have_no_float hs

codes_have_no_float : (rules : List Rule) (hazards : List Hazard) → items_have_float (items_of (map rule_object rules ++ map hazard_object hazards)) ≡ false
codes_have_no_float [] hazards = hazards_have_no_float hazards
codes_have_no_float (r ∷ rs) hazards = codes_have_no_float rs hazards

pub tool_has_no_float : has_float tool ≡ false
tool_has_no_float = rw (codes_have_no_float all_rules all_hazards) refl
