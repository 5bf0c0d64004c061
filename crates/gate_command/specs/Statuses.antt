-- The status of each end.
use Rattle.std.specs.Prelude.{ℕ}
use Rattle.refused_word.specs.source_file.declared.refusal.Refusal.{Refusal}
use Rattle.refused_word.specs.source_file.declared.refusal.Refusal.TheVariants as refusal
use Rattle.gate_command.specs.declared.outcome.Outcome.{Outcome}
use Rattle.gate_command.specs.declared.outcome.Outcome.TheVariants as outcome
use Rattle.gate_command.specs.declared.outcome.Status.{Status}
use Rattle.gate_command.specs.declared.outcome.Status.TheVariants.{Accepted, Rejected, NotUtf8, TooLong, Unreadable}

abbrev pub code_of : Status → ℕ
code_of Accepted = 0
code_of Rejected = 1
code_of NotUtf8 = 3
code_of TooLong = 4
code_of Unreadable = 5

-- a file was not read
abbrev pub status_by : Refusal → Status
status_by refusal.Missing = Unreadable
status_by refusal.Unreadable = Unreadable
status_by (refusal.NotUtf8 at) = NotUtf8
status_by refusal.TooLong = TooLong
status_by (refusal.Unterminated at) = Rejected
status_by (refusal.Syntax at) = Rejected

-- all files were read
abbrev pub status_of : Outcome → Status
status_of (outcome.Accepted works) = Accepted
status_of (outcome.Refused file cause) = Rejected
