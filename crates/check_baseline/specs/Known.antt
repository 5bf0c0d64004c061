-- Which reports a baseline knows, and what is left of files without them.
use Rattle.std.specs.Prelude.{◌≡◌, ℕ, ◌+◌, ◌==◌, ◌&&◌, ◌||◌, Bool, not, List, [], ◌∷◌, Option, Some, None, codes, filter, if◌then◌else◌, length, nat_eq, nat_le, ⊤}
use Rattle.std.specs.HashSet.{contains_text}
use Rattle.std.specs.List.{before_first, list_all, list_any, slice_split, starts_with}
use Rattle.std.specs.Str.{bytes_eq}
use Rattle.checked_file.specs.declared.answer.Answer.{Answer}
use Rattle.checked_file.specs.declared.answer.Answer.TheVariants.{Reports, Refused}
use Rattle.checked_file.specs.declared.answer.Answer.TheVariants as answer
use Rattle.checked_file.specs.declared.answer.Partial.{Partial}
use Rattle.checked_file.specs.declared.checked.Checked.{Checked}
use Rattle.checked_file.specs.Files.{readable_of}
use Rattle.checked_file.specs.lint_report.declared.report.Report.{Report}
use Rattle.report_gitlab.specs.Issues.{report_fingerprint}
use Rattle.check_baseline.specs.declared.baseline.Baseline.{Baseline}
use Rattle.check_baseline.specs.declared.baseline.BaselineError.{BaselineError}
use Rattle.check_baseline.specs.declared.baseline.BaselineError.TheVariants.{Line, NoMemory}

abbrev pub Text : Type 0
Text = List ℕ

-- ---- a baseline

-- the first word of a line
abbrev pub first_word : Text → Text
first_word line = before_first (λ b. b == 32) line

-- what is between the line feeds of a text
abbrev pub lines_of : Text → List Text
lines_of text = slice_split (λ b. b == 10) text

-- some line of a text has this first word
abbrev pub is_first_word : Text → Text → Bool
is_first_word text word = list_any (λ line. bytes_eq (first_word line) word) (lines_of text)

-- a digit of base 16, as fingerprints have them
abbrev pub is_digit : ℕ → Bool
is_digit byte = (nat_le 48 byte && nat_le byte 57) || (nat_le 97 byte && nat_le byte 102)

-- a SHA-256 in base 16
abbrev pub is_fingerprint : Text → Bool
is_fingerprint word = length word == 64 && list_all is_digit word

-- an empty line, a comment, or a line that begins with a fingerprint
abbrev pub is_line : Text → Bool
is_line line = length line == 0 || starts_with nat_eq line (codes "#") || is_fingerprint (first_word line)

-- the number of the first line that is no such line, where the first of the lines has this number
unfoldable pub bad_line_from : ℕ → List Text → Option ℕ
bad_line_from n [] = None
bad_line_from n (line ∷ lines) = if not (is_line line) then Some n else bad_line_from (n + 1) lines

-- the number of the first line of a text that is not a line of a baseline, counted from 1
abbrev pub bad_line : Text → Option ℕ
bad_line text = bad_line_from 1 (lines_of text)

-- a fingerprint is among those of a baseline
abbrev pub knows : Baseline → Text → Bool
knows baseline print = contains_text baseline.fingerprints print

-- All lines of a text are those of a baseline, and it knows the fingerprints that lines begin with.
pub record IsBaselineOf (text : Text) (baseline : Baseline) : Type 0 where
  pub well_formed : bad_line text ≡ None
  pub known : (print : Text) → knows baseline print ≡ is_first_word text print

-- why a text is no baseline: the number of its first line that is not a line of one
abbrev pub IsNoBaseline : Text → BaselineError → Type 0
IsNoBaseline text (Line number) = bad_line text ≡ Some number
IsNoBaseline text NoMemory = ⊤

-- ---- reports

-- a baseline has the fingerprint of a report
abbrev pub is_known : Baseline → Text → Text → Report → Bool
is_known baseline name text v = knows baseline (report_fingerprint name text v)

-- the reports that a baseline does not know, in their order
abbrev pub unknown_reports : Baseline → Text → Text → List Report → List Report
unknown_reports baseline name text reports = filter (λ v. not (is_known baseline name text v)) reports

-- ---- files

-- what is left where some statements could not be parsed: the reports that a baseline does not know
pub record IsPartLeft (baseline : Baseline) (name text : Text) (old new : Partial) : Type 0 where
  pub bytes : new.bytes ≡ old.bytes
  pub faults : new.faults ≡ old.faults
  pub reports : new.reports.items ≡ unknown_reports baseline name text old.reports.items

-- what is left of an answer: the reports that a baseline does not know; what could not be parsed or linted stays
abbrev pub IsLeftOf : Baseline → Text → Text → Answer → Answer → Type 0
IsLeftOf baseline name text (Reports old) (Reports new) = new.items ≡ unknown_reports baseline name text old.items
IsLeftOf baseline name text (answer.Partial old) (answer.Partial new) = IsPartLeft baseline name text old new
IsLeftOf baseline name text (Refused r) (Refused s) = s ≡ r
IsLeftOf baseline name text (Reports old) (answer.Partial new) = ⊥
IsLeftOf baseline name text (Reports old) (Refused r) = ⊥
IsLeftOf baseline name text (answer.Partial old) (Reports new) = ⊥
IsLeftOf baseline name text (answer.Partial old) (Refused r) = ⊥
IsLeftOf baseline name text (Refused r) (Reports new) = ⊥
IsLeftOf baseline name text (Refused r) (answer.Partial new) = ⊥

-- what is left of a file: all but its answer stays
pub record IsLeft (baseline : Baseline) (old new : Checked) : Type 0 where
  pub name : new.name ≡ old.name
  pub bytes : new.bytes ≡ old.bytes
  pub passed : new.passed ≡ old.passed
  pub answer : IsLeftOf baseline old.name (readable_of old.bytes.items) old.answer new.answer
