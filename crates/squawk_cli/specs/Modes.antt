-- What words ask for: with `--generate` a made text in place of the input, and a summary in place of the printed reports; with
-- `--locks` the work under locks after the printed reports.
use Rattle.std.specs.Prelude.{ℕ, List, ◌++◌, Some, None, option_and_then}
use Rattle.std.specs.declared.option.Option.{Option}
use Rattle.squawk_linter.specs.sql_token.Token.{Text}
use Rattle.squawk_linter.specs.lint_base.declared.violation.Violation.{Violation}
use Rattle.law_made_texts.specs.squawk_generate.Made.{made}
use Rattle.law_made_texts.specs.squawk_generate.Summary.{summary}
use Rattle.squawk_print_locks.specs.PrintedLocks.{printed_locks}
use Rattle.squawk_print_locks.specs.squawk_print.Printed.{printed}
use Rattle.squawk_cli.specs.Config.{config_of}
use Rattle.squawk_cli.specs.Findings.{FindingsValue, LocksValue}

-- how many made groups words ask for, if they ask for any
abbrev pub groups_to_make : List (List ℕ) → Option ℕ
groups_to_make words = option_and_then (λ config. config.generate) (config_of words)

-- the made text, or else what is left of the source
abbrev pub text_by : Option ℕ → Option Text → Option Text
text_by (Some n) left = Some (made n)
text_by None left = left

-- the text of a run
abbrev pub given_text : List (List ℕ) → Option Text → Option Text
given_text words left = text_by (groups_to_make words) left

-- the printed reports, and after them the locks that were asked for
abbrev pub printed_findings : List Violation → Option LocksValue → List ℕ
printed_findings violations None = printed violations
printed_findings violations (Some locks) = printed violations ++ printed_locks locks.works locks.plain

-- the summary of the reports, or else the printed form of all that was found
abbrev pub shown_by : Option ℕ → FindingsValue → List ℕ
shown_by (Some n) found = summary found.violations
shown_by None found = printed_findings found.violations found.locks

-- what a run writes of what it found
abbrev pub shown : List (List ℕ) → FindingsValue → List ℕ
shown words found = shown_by (groups_to_make words) found
