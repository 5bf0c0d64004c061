-- What is printed of files, finding by finding.
use Rattle.std.proofs.Common.{◌≡◌, ◌∙◌, ◌<◌, ◌^◌, ◌||◌, Bool, true, List, [], ◌∷◌, ◌++◌, All, ap, append-nil, append_assoc, length, map, refl, sym}
use Rattle.std.specs.List.{flat_map}
use Rattle.std.specs.Prelude.{ℕ, codes}
use Rattle.std.proofs.lemmas.Grind.{flat_map-append}
use Rattle.std.proofs.lemmas.List.Elements.{All-append, All-cons, All-head, All-map, All-nil, All-tail}
use Rattle.check_print.specs.declared.style.Style.{Style}
use Rattle.check_print.specs.Findings.{printed_refusal, printed_report, separator}
use Rattle.check_print.specs.Found.{Found, all_found, found_by, found_in, found_refusal, found_report}
use Rattle.check_print.specs.Printed.{follows_refusals, printed_answer, printed_file, printed_files, printed_refusals, printed_reports, read_as, separated, source_of}
use Rattle.check_print.specs.check_words.declared.request.Format.TheVariants as format
use Rattle.check_print.specs.checked_file.declared.answer.Answer.{Answer}
use Rattle.check_print.specs.checked_file.declared.answer.Answer.TheVariants.{Reports, Partial, Refused}
use Rattle.check_print.specs.checked_file.declared.checked.Checked.{Checked}
use Rattle.check_print.specs.checked_file.Answers.{has_findings}
use Rattle.check_print.specs.lint_report.declared.report.Report.{Report}
use Rattle.check_print.specs.report_lines.Concise.{concise}
use Rattle.check_print.specs.report_lines.declared.concise.Order.{Order}
use Rattle.check_print.specs.report_lines.declared.concise.Order.TheVariants.{RuleFirst, RuleLast}
use Rattle.check_print.specs.report_lines.Github.{command, detail}
use Rattle.check_print.specs.source_file.declared.refusal.Refusal.{Refusal}
use Rattle.check_print.specs.source_file.File.{FileValue}
use Rattle.law_printed_lines.specs.Unique.{IsShort, IsShortAnswer, style_in}
use Rattle.law_printed_lines.proofs.Commands.{command_line}
use Rattle.law_printed_lines.proofs.Names.{code_name, is_name, refusal_name}

-- ---- each finding is printed by itself

-- a style in which each finding is printed so
abbrev pub Prints : Style → (Found → List ℕ) → Type 0
Prints style line =
    ((b : Bool) (file : FileValue) (v : Report) → separated style b file v ≡ line (found_report file v))
    × ((b : Bool) (file : FileValue) (r : Refusal) → separator style.format b ++ printed_refusal style.format style.color file r ≡ line (found_refusal file r))

-- a finding on a line
abbrev pub line_of : Order → Found → List ℕ
line_of order f = concise order f.file f.range.start f.level f.rule f.message

pub concise_prints : (style : Style) → Prints (style_in format.Concise style) (line_of RuleFirst)
unfolding printed_report printed_refusal
concise_prints style = ((λ b file v. refl), (λ b file r. refl))

pub gcc_prints : (style : Style) → Prints (style_in format.Gcc style) (line_of RuleLast)
unfolding printed_report printed_refusal
gcc_prints style = ((λ b file v. refl), (λ b file r. refl))

pub github_prints : (style : Style) → Prints (style_in format.Github style) command_line
unfolding printed_report printed_refusal
github_prints style = (
  (λ b file v.
      let f = found_report file v in
      ap (λ l. l ++ codes "\n") (append_assoc (command file f.range f.level f.rule f.message) (detail (codes "note") f.note) (detail (codes "help") f.help))),
  (λ b file r.
      let f = found_refusal file r in
      ap (λ l. l ++ codes "\n") (sym (append-nil (command file f.range f.level f.rule f.message)))),
)

reports_lines : (style : Style) (line : Found → List ℕ) → Prints style line → (b : Bool) (file : FileValue) (vs : List Report)
    → printed_reports style b file vs ≡ flat_map line (map (found_report file) vs)
reports_lines style line prints b file [] = refl
reports_lines style line prints b file (v ∷ vs) =
    ap (λ l. l ++ printed_reports style true file vs) (prints.0 b file v)
    ∙ ap (λ l. line (found_report file v) ++ l) (reports_lines style line prints true file vs)

refusals_lines : (style : Style) (line : Found → List ℕ) → Prints style line → (b : Bool) (file : FileValue) (rs : List Refusal)
    → printed_refusals style b file rs ≡ flat_map line (map (found_refusal file) rs)
refusals_lines style line prints b file [] = refl
refusals_lines style line prints b file (r ∷ rs) =
    ap (λ l. l ++ printed_refusals style true file rs) (prints.1 b file r)
    ∙ ap (λ l. line (found_refusal file r) ++ l) (refusals_lines style line prints true file rs)

answer_lines : (style : Style) (line : Found → List ℕ) → Prints style line → (b : Bool) (file : FileValue) (answer : Answer)
    → printed_answer style b file answer ≡ flat_map line (found_by file answer)
answer_lines style line prints b file (Reports reports) = reports_lines style line prints b file reports.items
answer_lines style line prints b file (Partial p) =
    let read = read_as file p in
    let behind = follows_refusals b p.faults.items in
    ap (λ l. l ++ printed_reports style behind file p.reports.items) (refusals_lines style line prints b read p.faults.items)
    ∙ ap (λ l. flat_map line (map (found_refusal read) p.faults.items) ++ l) (reports_lines style line prints behind file p.reports.items)
    ∙ sym (flat_map-append line (map (found_refusal read) p.faults.items) (map (found_report file) p.reports.items))
answer_lines style line prints b file (Refused r) = prints.1 b file r ∙ sym (append-nil (line (found_refusal file r)))

pub files_lines : (style : Style) (line : Found → List ℕ) → Prints style line → (b : Bool) (files : List Checked)
    → printed_files style b files ≡ flat_map line (all_found files)
unfolding printed_file
files_lines style line prints b [] = refl
files_lines style line prints b (file ∷ files) =
    let later = b || has_findings file.answer in
    ap (λ l. l ++ printed_files style later files) (answer_lines style line prints b (source_of file) file.answer)
    ∙ ap (λ l. flat_map line (found_in file) ++ l) (files_lines style line prints later files)
    ∙ sym (flat_map-append line (found_in file) (all_found files))

-- ---- what holds of each finding

-- its file is short, and its rule is the name of one
pub record IsGood (f : Found) : Type 0 where
  pub short : length f.file.text < 2 ^ 32
  pub named : is_name f.rule ≡ true

reports_good : (file : FileValue) (vs : List Report) → length file.text < 2 ^ 32 → All IsGood (map (found_report file) vs)
reports_good file vs short = All-map IsGood (found_report file) vs (λ k d low. record { short = short; named = code_name _ })

refusals_good : (file : FileValue) (rs : List Refusal) → length file.text < 2 ^ 32 → All IsGood (map (found_refusal file) rs)
refusals_good file rs short = All-map IsGood (found_refusal file) rs (λ k d low. record { short = short; named = refusal_name _ })

good_by : (file : FileValue) (answer : Answer) → length file.text < 2 ^ 32 → IsShortAnswer answer → All IsGood (found_by file answer)
good_by file (Reports reports) short read = reports_good file reports.items short
good_by file (Partial p) short read =
    All-append IsGood (map (found_refusal (read_as file p)) p.faults.items) (map (found_report file) p.reports.items) (refusals_good (read_as file p) p.faults.items read) (reports_good file p.reports.items short)
good_by file (Refused r) short read = All-cons IsGood (found_refusal file r) [] (record { short = short; named = refusal_name r }) (All-nil IsGood)

pub all_good : (files : List Checked) → All IsShort files → All IsGood (all_found files)
all_good [] h = All-nil IsGood
all_good (file ∷ files) h =
    let short = All-head IsShort file files h in
    All-append IsGood (found_in file) (all_found files) (good_by (source_of file) file.answer short.linted short.read) (all_good files (All-tail IsShort file files h))
