-- What is written of the files of a run.
use Rattle.std.specs.Prelude.{ℕ, ◌==◌, ◌||◌, Bool, true, false, not, List, [], ◌∷◌, ◌++◌, codes, if◌then◌else◌, flat_map, length}
use Rattle.check_words.specs.declared.request.Format.{Format}
use Rattle.check_words.specs.declared.request.Format.TheVariants as format
use Rattle.checked_file.specs.declared.answer.Answer.{Answer}
use Rattle.checked_file.specs.declared.answer.Answer.TheVariants.{Reports, Refused}
use Rattle.checked_file.specs.declared.answer.Answer.TheVariants as answer
use Rattle.checked_file.specs.declared.answer.Partial.{Partial}
use Rattle.checked_file.specs.declared.checked.Checked.{Checked}
use Rattle.checked_file.specs.Answers.{has_findings}
use Rattle.checked_file.specs.Files.{readable_of}
use Rattle.checked_file.specs.lint_report.declared.report.Report.{Report}
use Rattle.report_sarif.specs.Log as sarif
use Rattle.report_text.specs.Closing as text
use Rattle.checked_file.specs.source_file.declared.refusal.Refusal.{Refusal}
use Rattle.checked_file.specs.source_file.File.{FileValue}
use Rattle.check_print.specs.declared.style.Style.{Style}
use Rattle.check_print.specs.Counted.{counts_of}
use Rattle.check_print.specs.Findings.{printed_refusal, printed_report, separator}
use Rattle.check_print.specs.Passed.{passed_in}
use Rattle.check_print.specs.Statistics.{code_lines}

-- ---- one file

-- the name and the text of a file
abbrev pub source_of : Checked → FileValue
source_of file = record { name = file.name; text = readable_of file.bytes.items }

-- the same file with the text as it was read, in which some statements could not be parsed
abbrev pub read_as : FileValue → Partial → FileValue
read_as file p = record { name = file.name; text = readable_of p.bytes.items }

-- a report with what is before it
abbrev pub separated : Style → Bool → FileValue → Report → List ℕ
separated style follows file v = separator style.format follows ++ printed_report style.format style.color file v

-- reports, the first of them by whether a finding was before it
abbrev pub printed_reports : Style → Bool → FileValue → List Report → List ℕ
printed_reports style follows file [] = []
printed_reports style follows file (v ∷ vs) = separated style follows file v ++ printed_reports style true file vs

-- a refusal with what is before it
abbrev pub separated_refusal : Style → Bool → FileValue → Refusal → List ℕ
separated_refusal style follows file r = separator style.format follows ++ printed_refusal style.format style.color file r

-- refusals, the first of them by whether a finding was before it
abbrev pub printed_refusals : Style → Bool → FileValue → List Refusal → List ℕ
printed_refusals style follows file [] = []
printed_refusals style follows file (r ∷ rs) = separated_refusal style follows file r ++ printed_refusals style true file rs

-- something was before, or is among these
abbrev pub follows_refusals : Bool → List Refusal → Bool
follows_refusals follows rs = follows || not (length rs == 0)

-- the statements that could not be parsed, in the text as it was read, and then the reports
abbrev pub printed_partial : Style → Bool → FileValue → Partial → List ℕ
printed_partial style follows file p =
    printed_refusals style follows (read_as file p) p.faults.items
    ++ printed_reports style (follows_refusals follows p.faults.items) file p.reports.items

abbrev pub printed_answer : Style → Bool → FileValue → Answer → List ℕ
printed_answer style follows file (Reports reports) = printed_reports style follows file reports.items
printed_answer style follows file (answer.Partial p) = printed_partial style follows file p
printed_answer style follows file (Refused r) = separated_refusal style follows file r

unfoldable pub printed_file : Style → Bool → Checked → List ℕ
printed_file style follows file = printed_answer style follows (source_of file) file.answer

-- ---- all files

abbrev pub printed_files : Style → Bool → List Checked → List ℕ
printed_files style follows [] = []
printed_files style follows (file ∷ files) =
    printed_file style follows file ++ printed_files style (follows || has_findings file.answer) files

-- what is before the first file
abbrev pub opening : Format → List ℕ
opening format.Text = []
opening format.Concise = []
opening format.Gcc = []
opening format.Github = []
opening format.Json = codes "["
opening format.Sarif = sarif.opening
opening format.Gitlab = codes "["

-- the lines that count the reports of each rule and hazard, where these are asked for
unfoldable pub statistics : Style → List Checked → List ℕ
statistics style files = if style.statistics then code_lines files else []

-- the line that counts all, where nothing but the findings is not asked for
unfoldable pub last_line : Style → List Checked → List ℕ
last_line style files = if style.quiet then [] else text.closing (counts_of files)

-- the lines on what of files was passed over, where nothing but the findings is not asked for
unfoldable pub passed_lines : Style → List Checked → List ℕ
passed_lines style files = if style.quiet then [] else flat_map passed_in files

-- what is after the last file: the formats for programs have their own end, and count nothing
abbrev pub closing_by : Format → Style → List Checked → List ℕ
closing_by format.Text style files = passed_lines style files ++ statistics style files ++ last_line style files
closing_by format.Concise style files = statistics style files
closing_by format.Gcc style files = statistics style files
closing_by format.Github style files = statistics style files
closing_by format.Json style files = codes "\n]\n"
closing_by format.Sarif style files = codes "\n" ++ sarif.closing ++ codes "\n"
closing_by format.Gitlab style files = codes "\n]\n"

abbrev pub closing : Style → List Checked → List ℕ
closing style files = closing_by style.format style files

-- what is written of the files of a run
abbrev pub printed : Style → List Checked → List ℕ
printed style files = opening style.format ++ printed_files style false files ++ closing style files
