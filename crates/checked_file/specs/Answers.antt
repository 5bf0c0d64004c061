-- What follows of what came of a file.
use Rattle.std.specs.Prelude.{ℕ, ◌==◌, ◌||◌, Bool, true, length, not, if◌then◌else◌}
use Rattle.source_file.specs.declared.refusal.Refusal.{Refusal}
use Rattle.source_file.specs.declared.refusal.Refusal.TheVariants as refusal
use Rattle.checked_file.specs.declared.answer.Answer.{Answer}
use Rattle.checked_file.specs.declared.answer.Answer.TheVariants.{Reports, Partial, Refused}
use Rattle.checked_file.specs.declared.status.Status.{Status}
use Rattle.checked_file.specs.declared.status.Status.TheVariants.{Clean, Found, NotUtf8, Unparsed, Unreadable}

-- a file that could not be linted
abbrev pub refused_status : Refusal → Status
refused_status refusal.Missing = Unreadable
refused_status refusal.Unreadable = Unreadable
refused_status (refusal.NotUtf8 at) = NotUtf8
refused_status refusal.TooLong = Unparsed
refused_status (refusal.Unterminated at) = Unparsed
refused_status (refusal.Syntax at) = Unparsed

-- the status of a run over one file
abbrev pub status_of : Answer → Status
status_of (Reports reports) = if length reports.items == 0 then Clean else Found
status_of (Partial p) = Unparsed
status_of (Refused r) = refused_status r

abbrev pub report_count : Answer → ℕ
report_count (Reports reports) = length reports.items
report_count (Partial p) = length p.reports.items
report_count (Refused r) = 0

-- the statements that could not be parsed, or one for the file that could not be linted
abbrev pub error_count : Answer → ℕ
error_count (Reports reports) = 0
error_count (Partial p) = length p.faults.items
error_count (Refused r) = 1

-- something is written of it
abbrev pub has_findings : Answer → Bool
has_findings (Reports reports) = not (length reports.items == 0)
has_findings (Partial p) = not (length p.faults.items == 0) || not (length p.reports.items == 0)
has_findings (Refused r) = true
