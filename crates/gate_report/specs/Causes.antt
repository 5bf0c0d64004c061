-- The words for each cause.
use Rattle.std.specs.Prelude.{ℕ, List, codes, Option, Some, None, if◌then◌else◌}
use Rattle.report_lines.specs.lint_base.declared.rule.Rule.{Rule}
use Rattle.report_lines.specs.lint_base.Rules.{name_of as rule_name}
use Rattle.report_lines.specs.source_file.declared.hints.Hint.TheVariants.{Statement, End, Utf8}
use Rattle.report_lines.specs.source_file.declared.refusal.Refusal.{Refusal}
use Rattle.report_lines.specs.source_file.declared.refusal.Refusal.TheVariants as refusal
use Rattle.report_lines.specs.source_file.Hints.{text_of}
use Rattle.report_lines.specs.source_file.Refusals as refusals
use Rattle.migration_gate.specs.declared.verdict.Why.{Why}
use Rattle.migration_gate.specs.declared.verdict.Why.TheVariants as why
use Rattle.gate_report.specs.declared.cause.Cause.{Cause}
use Rattle.gate_report.specs.declared.cause.Cause.TheVariants.{Unread, Against, Open}

-- ---- a file that does not pass

abbrev pub why_name : Why → List ℕ
why_name (why.Unterminated at) = codes "unterminated"
why_name (why.Syntax at) = codes "syntax-error"
why_name (why.Ignored at) = codes "ignore-comment"
why_name why.NotPlain = codes "not-plain"
why_name (why.Found at rule) = rule_name rule

abbrev pub why_message : Why → List ℕ
why_message (why.Unterminated at) = codes "what begins here does not end"
why_message (why.Syntax at) = codes "the statement that begins here can't be read"
why_message (why.Ignored at) = codes "an ignore comment"
why_message why.NotPlain = codes "the file is not plain: what it does under locks is not all known"
why_message (why.Found at rule) = codes "the first report begins here"

abbrev pub why_place : Why → Option ℕ
why_place (why.Unterminated at) = Some at
why_place (why.Syntax at) = Some at
why_place (why.Ignored at) = Some at
why_place why.NotPlain = None
why_place (why.Found at rule) = Some at

abbrev pub why_help : Why → List ℕ
why_help (why.Unterminated at) = text_of End
why_help (why.Syntax at) = text_of Statement
why_help (why.Ignored at) = codes "take the comment out: of an accepted file no report is left out"
why_help why.NotPlain = codes "take out what divides a transaction or changes search_path, as SAVEPOINT and DISCARD"
why_help (why.Found at rule) = codes "says why, and what to write instead"

abbrev pub why_rule : Why → Option Rule
why_rule (why.Unterminated at) = None
why_rule (why.Syntax at) = None
why_rule (why.Ignored at) = None
why_rule why.NotPlain = None
why_rule (why.Found at rule) = Some rule

-- ---- all causes

abbrev pub refusal_help : Refusal → List ℕ
refusal_help refusal.Missing = codes "name a file or a folder that is there"
refusal_help refusal.Unreadable = codes "see that it is a file, and that it may be read"
refusal_help (refusal.NotUtf8 at) = text_of Utf8
refusal_help refusal.TooLong = codes "split the file"
refusal_help (refusal.Unterminated at) = text_of End
refusal_help (refusal.Syntax at) = text_of Statement

-- a name, as rules have them
abbrev pub name_of : Cause → List ℕ
name_of (Unread r) = refusals.name_of r
name_of (Against w) = why_name w
name_of Open = codes "open-transaction"

-- what is wrong
abbrev pub message_of : Cause → List ℕ
message_of (Unread r) = refusals.message_of r
message_of (Against w) = why_message w
message_of Open = codes "the file ends inside a transaction"

-- where it is, if it has a place
abbrev pub place_of : Cause → Option ℕ
place_of (Unread r) = if refusals.has_place r then Some (refusals.place_of r) else None
place_of (Against w) = why_place w
place_of Open = None

-- what to do; of a report what follows the command that explains its rule
abbrev pub help_of : Cause → List ℕ
help_of (Unread r) = refusal_help r
help_of (Against w) = why_help w
help_of Open = codes "end it in this file, by COMMIT or ROLLBACK without AND CHAIN"

-- the rule whose page says more
abbrev pub rule_of : Cause → Option Rule
rule_of (Unread r) = None
rule_of (Against w) = why_rule w
rule_of Open = None
