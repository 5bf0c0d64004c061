-- From the findings of files back to their reports.
use Rattle.std.proofs.Common.{◌≡◌, ◌∙◌, Result, Ok, Err, ℕ, List, [], ◌∷◌, ◌++◌, ap, if◌then◌else◌, map, refl, sym}
use Rattle.std.proofs.lemmas.List.{map-append}
use Rattle.std.specs.Prelude.{codes, unwrap_or}
use Rattle.std.specs.Str.{bytes_eq}
use Rattle.law_printed_lines.specs.check_print.Found.{all_found, found_by, found_in, found_refusal, found_report}
use Rattle.law_printed_lines.specs.check_print.Printed.{read_as, source_of}
use Rattle.law_printed_lines.specs.checked_file.declared.answer.Answer.{Answer}
use Rattle.law_printed_lines.specs.checked_file.declared.answer.Answer.TheVariants.{Reports, Partial, Refused}
use Rattle.law_printed_lines.specs.checked_file.declared.checked.Checked.{Checked}
use Rattle.law_printed_lines.proofs.of_hazard_base.HazardNames as hazard_names
use Rattle.law_printed_lines.specs.hazard_base.declared.hazard.Hazard.{Hazard}
use Rattle.law_printed_lines.specs.hazard_base.Hazards as hazards
use Rattle.law_printed_lines.specs.lint_base.declared.rule.Rule.{Rule}
use Rattle.law_printed_lines.specs.lint_base.declared.rule.Rule.TheVariants as rule
use Rattle.law_printed_lines.specs.lint_base.RuleNames.{rule_named, same_rule}
use Rattle.law_printed_lines.specs.lint_base.Rules.{all_rules, facts_of}
use Rattle.law_printed_lines.specs.lint_report.declared.code.Code.{Code}
use Rattle.law_printed_lines.specs.lint_report.declared.code.Code.TheVariants as code
use Rattle.law_printed_lines.specs.lint_report.declared.report.Report.{Report}
use Rattle.law_printed_lines.specs.lint_report.Codes.{code_named, name_of}
use Rattle.law_printed_lines.specs.source_file.declared.level.Level.{Level}
use Rattle.law_printed_lines.specs.source_file.declared.level.Level.TheVariants.{Warning, Error}
use Rattle.law_printed_lines.specs.source_file.declared.refusal.Refusal.{Refusal}
use Rattle.law_printed_lines.specs.source_file.declared.refusal.Refusal.TheVariants.{Missing, Unreadable, NotUtf8, TooLong, Unterminated, Syntax}
use Rattle.law_printed_lines.specs.source_file.File.{FileValue}
use Rattle.law_printed_lines.specs.source_file.Refusals as refusals
use Rattle.law_printed_arrays.specs.Kept.{KeptFinding, all_reported, kept_finding, reported_by, reported_in}

-- ---- from its name back to a rule or a hazard

-- all are named by their names but one rule, which no comment can ignore
abbrev code_of : List ℕ → Code
code_of name = unwrap_or (code_named name) (code.Rule rule.UnusedIgnore)

rule_back : (r : Rule) → code_of (name_of (code.Rule r)) ≡ code.Rule r
unfolding code_named rule_named facts_of all_rules same_rule hazards.hazard_named hazards.all_hazards hazards.name_of
rule_back rule.UnusedIgnore = refl
rule_back r = refl

hazard_back : (h : Hazard) → code_of (name_of (code.Hazard h)) ≡ code.Hazard h
unfolding code_named
hazard_back h =
    let name = hazards.name_of h in
    let found = (hazard_names.found_exactly name (hazards.hazard_named name) refl h).1 refl in
    rw (hazard_names.apart h, found) refl

code_back : (c : Code) → code_of (name_of c) ≡ c
code_back (code.Rule r) = rule_back r
code_back (code.Hazard h) = hazard_back h

-- ---- from its name and its place back to a refusal

abbrev refusal_of : List ℕ → ℕ → Refusal
refusal_of name at =
    if bytes_eq name (codes "missing-file") then Missing
    else if bytes_eq name (codes "unreadable-file") then Unreadable
    else if bytes_eq name (codes "not-utf8") then NotUtf8 at
    else if bytes_eq name (codes "text-too-long") then TooLong
    else if bytes_eq name (codes "unterminated") then Unterminated at
    else Syntax at

refusal_back : (r : Refusal) → refusal_of (refusals.name_of r) (refusals.place_of r) ≡ r
refusal_back Missing = refl
refusal_back Unreadable = refl
refusal_back (NotUtf8 at) = refl
refusal_back TooLong = refl
refusal_back (Unterminated at) = refl
refusal_back (Syntax at) = refl

-- ---- from a finding

abbrev report_of : KeptFinding → Report
report_of k = record {
  code = code_of k.rule;
  message = k.message;
  text_range = k.range;
  statement = unwrap_or k.statement k.range;
  note = k.note;
  help = k.help;
  fix = k.fix;
}

abbrev by_level : Level → KeptFinding → Result Report Refusal
by_level Warning k = Ok (report_of k)
by_level Error k = Err (refusal_of k.rule k.range.start)

abbrev reported_of : KeptFinding → List ℕ × Result Report Refusal
reported_of k = (k.name, by_level k.level k)

report_back : (file : FileValue) (r : Report) → reported_of (kept_finding (found_report file r)) ≡ (file.name, Ok r)
report_back file r = ap (λ c. (file.name, Ok (record r { code = c }))) (code_back r.code)

reports_back : (file : FileValue) (rs : List Report) → map reported_of (map kept_finding (map (found_report file) rs)) ≡ map (λ r. (file.name, r)) (map (λ r. Ok r) rs)
reports_back file [] = refl
reports_back file (r ∷ rs) =
    ap (λ x. x ∷ map reported_of (map kept_finding (map (found_report file) rs))) (report_back file r) ∙ ap (λ xs. (file.name, Ok r) ∷ xs) (reports_back file rs)

refusals_back : (file : FileValue) (rs : List Refusal) → map reported_of (map kept_finding (map (found_refusal file) rs)) ≡ map (λ r. (file.name, r)) (map (λ r. Err r) rs)
refusals_back file [] = refl
refusals_back file (r ∷ rs) =
    ap (λ x. (file.name, Err x) ∷ map reported_of (map kept_finding (map (found_refusal file) rs))) (refusal_back r) ∙ ap (λ xs. (file.name, Err r) ∷ xs) (refusals_back file rs)

answer_back : (file : FileValue) (answer : Answer) → map reported_of (map kept_finding (found_by file answer)) ≡ map (λ r. (file.name, r)) (reported_by answer)
answer_back file (Reports reports) = reports_back file reports.items
answer_back file (Partial p) =
    let read = read_as file p in
    let faults = map (found_refusal read) p.faults.items in
    let reports = map (found_report file) p.reports.items in
    ap (map reported_of) (map-append kept_finding faults reports)
    ∙ map-append reported_of (map kept_finding faults) (map kept_finding reports)
    ∙ ap (λ l. l ++ map reported_of (map kept_finding reports)) (refusals_back read p.faults.items)
    ∙ ap (λ l. map (λ r. (file.name, r)) (map (λ r. Err r) p.faults.items) ++ l) (reports_back file p.reports.items)
    ∙ sym (map-append (λ r. (file.name, r)) (map (λ r. Err r) p.faults.items) (map (λ r. Ok r) p.reports.items))
answer_back file (Refused r) = ap (λ x. (file.name, Err x) ∷ []) (refusal_back r)

-- ---- from those of files

all_back : (files : List Checked) → map reported_of (map kept_finding (all_found files)) ≡ all_reported files
all_back [] = refl
all_back (file ∷ files) =
    let here = found_in file in
    let later = all_found files in
    ap (map reported_of) (map-append kept_finding here later)
    ∙ map-append reported_of (map kept_finding here) (map kept_finding later)
    ∙ ap (λ l. l ++ map reported_of (map kept_finding later)) (answer_back (source_of file) file.answer)
    ∙ ap (λ l. reported_in file ++ l) (all_back files)

pub same_reports : (files others : List Checked) → map kept_finding (all_found files) ≡ map kept_finding (all_found others) → all_reported files ≡ all_reported others
same_reports files others e = sym (all_back files) ∙ ap (map reported_of) e ∙ all_back others
