-- One finding in each format.
use Rattle.std.specs.Prelude.{ℕ, Bool, List, [], ◌++◌, codes, if◌then◌else◌}
use Rattle.check_words.specs.declared.request.Format.{Format}
use Rattle.check_words.specs.declared.request.Format.TheVariants as format
use Rattle.checked_file.specs.lint_report.declared.report.Report.{Report}
use Rattle.checked_file.specs.lint_report.Codes.{name_of}
use Rattle.report_gitlab.specs.Issues as gitlab
use Rattle.report_json.specs.Objects as json
use Rattle.report_lines.specs.declared.concise.Order.{Order}
use Rattle.report_lines.specs.declared.concise.Order.TheVariants.{RuleFirst, RuleLast}
use Rattle.report_lines.specs.Concise.{concise}
use Rattle.report_lines.specs.Github.{command, detail}
use Rattle.report_sarif.specs.Results as sarif
use Rattle.report_text.specs.Report as text
use Rattle.serde_json.specs.Written.{compact_text}
use Rattle.checked_file.specs.source_file.declared.level.Level.TheVariants.{Warning, Error}
use Rattle.checked_file.specs.source_file.declared.refusal.Refusal.{Refusal}
use Rattle.checked_file.specs.source_file.File.{FileValue}
use Rattle.checked_file.specs.source_file.Refusals as refusals

-- a report on a line
abbrev pub report_line : Order → FileValue → Report → List ℕ
report_line order file v = concise order file v.text_range.start Warning (name_of v.code) v.message

-- a report as a workflow command
abbrev pub report_command : FileValue → Report → List ℕ
report_command file v =
    command file v.text_range Warning (name_of v.code) v.message ++ detail (codes "note") v.note ++ detail (codes "help") v.help ++ codes "\n"

-- a report
unfoldable pub printed_report : Format → Bool → FileValue → Report → List ℕ
printed_report format.Text color file v = text.printed_report color file v
printed_report format.Concise color file v = report_line RuleFirst file v
printed_report format.Gcc color file v = report_line RuleLast file v
printed_report format.Github color file v = report_command file v
printed_report format.Json color file v = compact_text (json.report_object file v)
printed_report format.Sarif color file v = compact_text (sarif.report_result file v)
printed_report format.Gitlab color file v = compact_text (gitlab.report_issue file v)

-- why a file could not be linted, on a line
abbrev pub refusal_line : Order → FileValue → Refusal → List ℕ
refusal_line order file r = concise order file (refusals.place_of r) Error (refusals.name_of r) (refusals.message_of r)

-- the same as a workflow command
abbrev pub refusal_command : FileValue → Refusal → List ℕ
refusal_command file r =
    let at = refusals.place_of r in
    command file (record { start = at; end = at }) Error (refusals.name_of r) (refusals.message_of r) ++ codes "\n"

-- why a file could not be linted
unfoldable pub printed_refusal : Format → Bool → FileValue → Refusal → List ℕ
printed_refusal format.Text color file r = text.printed_refusal color file r
printed_refusal format.Concise color file r = refusal_line RuleFirst file r
printed_refusal format.Gcc color file r = refusal_line RuleLast file r
printed_refusal format.Github color file r = refusal_command file r
printed_refusal format.Json color file r = compact_text (json.refusal_object file r)
printed_refusal format.Sarif color file r = compact_text (sarif.refusal_result file r)
printed_refusal format.Gitlab color file r = compact_text (gitlab.refusal_issue file r)

-- in an array each finding is on a line of its own, with a comma between two
abbrev pub array_separator : Bool → List ℕ
array_separator follows = if follows then codes ",\n" else codes "\n"

-- what is before a finding, by whether another one was before it
abbrev pub separator : Format → Bool → List ℕ
separator format.Text follows = []
separator format.Concise follows = []
separator format.Gcc follows = []
separator format.Github follows = []
separator format.Json follows = array_separator follows
separator format.Sarif follows = array_separator follows
separator format.Gitlab follows = array_separator follows
