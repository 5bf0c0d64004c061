-- The findings of sound files are in their texts.
use Rattle.std.proofs.Common.{◌<◌, ◌^◌, List, [], ◌∷◌, All, arith, length, map}
use Rattle.std.proofs.lemmas.List.Elements.{All-append, All-cons, All-head, All-map, All-nil, All-tail, All-weaker}
use Rattle.std.specs.Option.{IfSome}
use Rattle.std.specs.Str.{IsCharBoundary}
use Rattle.law_printed_lines.specs.check_print.Found.{Found, all_found, found_by, found_in, found_refusal, found_report}
use Rattle.law_printed_lines.specs.check_print.Printed.{read_as, source_of}
use Rattle.law_printed_lines.specs.checked_file.declared.answer.Answer.{Answer}
use Rattle.law_printed_lines.specs.checked_file.declared.answer.Answer.TheVariants.{Reports, Partial, Refused}
use Rattle.law_printed_lines.specs.checked_file.declared.checked.Checked.{Checked}
use Rattle.law_printed_lines.specs.checked_file.Sound.{AreEditsIn, IsIn, IsReportIn, IsSound}
use Rattle.law_printed_lines.specs.lint_report.declared.report.Report.{Report}
use Rattle.law_printed_lines.specs.source_file.declared.refusal.Refusal.{Refusal}
use Rattle.law_printed_lines.specs.source_file.File.{FileValue, IsRangeIn}
use Rattle.law_printed_lines.specs.source_file.Refusals.{place_of}
use Rattle.law_printed_arrays.proofs.Names.{name_bytes}

-- the name of a finding's file has bytes alone, its text is short, and the finding, its statement and its fix are in it
pub record IsPlaced (f : Found) : Type 0 where
  pub named : All (λ b. b < 256) f.file.name
  pub short : length f.file.text < 2 ^ 32
  pub range : IsRangeIn f.file.text f.range
  pub edits : IfSome f.fix (λ x. AreEditsIn f.file.text x.fix.edits)
  pub statement : IfSome f.statement (IsRangeIn f.file.text)

placed_report : (file : FileValue) (v : Report) → All (λ b. b < 256) file.name → length file.text < 2 ^ 32 → IsReportIn file.text v → IsPlaced (found_report file v)
placed_report file v named short h = record { named = named; short = short; range = h.range; edits = h.edits; statement = h.statement }

placed_refusal : (file : FileValue) (r : Refusal) → All (λ b. b < 256) file.name → length file.text < 2 ^ 32 → IsCharBoundary file.text (place_of r) → IsPlaced (found_refusal file r)
placed_refusal file r named short h =
    record {
      named = named;
      short = short;
      range = record { ordered = omega arith; start = h; end = h };
      edits = tt;
      statement = tt;
    }

placed_reports : (file : FileValue) (vs : List Report) → All (λ b. b < 256) file.name → length file.text < 2 ^ 32 → All (IsReportIn file.text) vs → All IsPlaced (map (found_report file) vs)
placed_reports file vs named short h =
    All-map IsPlaced (found_report file) vs
    (All-weaker (IsReportIn file.text) (λ v. IsPlaced (found_report file v)) (λ v. placed_report file v named short) vs h)

placed_refusals : (file : FileValue) (rs : List Refusal) → All (λ b. b < 256) file.name → length file.text < 2 ^ 32 → All (λ r. IsCharBoundary file.text (place_of r)) rs
    → All IsPlaced (map (found_refusal file) rs)
placed_refusals file rs named short h =
    All-map IsPlaced (found_refusal file) rs
    (All-weaker (λ r. IsCharBoundary file.text (place_of r)) (λ r. IsPlaced (found_refusal file r)) (λ r. placed_refusal file r named short) rs h)

placed_by : (file : FileValue) (answer : Answer) → All (λ b. b < 256) file.name → length file.text < 2 ^ 32 → IsIn file.text answer → All IsPlaced (found_by file answer)
placed_by file (Reports reports) named short h = placed_reports file reports.items named short h
placed_by file (Partial p) named short h =
    All-append IsPlaced (map (found_refusal (read_as file p)) p.faults.items) (map (found_report file) p.reports.items)
    (placed_refusals (read_as file p) p.faults.items named h.short h.faults) (placed_reports file p.reports.items named short h.reports)
placed_by file (Refused r) named short h = All-cons IsPlaced (found_refusal file r) [] (placed_refusal file r named short h) (All-nil IsPlaced)

placed_in : (file : Checked) → IsSound file → All IsPlaced (found_in file)
placed_in file sound = placed_by (source_of file) file.answer (name_bytes file.name sound.named) sound.short sound.placed

pub all_placed : (files : List Checked) → All IsSound files → All IsPlaced (all_found files)
all_placed [] h = All-nil IsPlaced
all_placed (file ∷ files) h =
    All-append IsPlaced (found_in file) (all_found files) (placed_in file (All-head IsSound file files h)) (all_placed files (All-tail IsSound file files h))
