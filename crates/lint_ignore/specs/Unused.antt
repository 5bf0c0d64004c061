-- The names in ignore comments that cover nothing.
use Rattle.std.specs.Prelude.{ℕ, ◌-◌, ◌++◌, Bool, true, false, ◌&&◌, not, List, codes, drop, filter, map, slice_index_or, take}
use Rattle.std.specs.List.{list_any}
use Rattle.sql_tree.specs.sql_token.Token.{Text}
use Rattle.sql_tree.specs.Statement.{Tree}
use Rattle.sql_tree.specs.text_pos.Line.{line_of}
use Rattle.sql_tree.specs.text_pos.Range.{Range}
use Rattle.lint_base.specs.declared.rule.Rule.TheVariants as rule
use Rattle.lint_base.specs.declared.violation.Violation.{Violation}
use Rattle.lint_base.specs.Rules.{all_rules}
use Rattle.lint_base.specs.RuleSets.{Rules, has, no_rules, without_rule}
use Rattle.lint_base.specs.Violations.{violation}
use Rattle.lint_ignore.specs.declared.ignore.Ignore.{Ignore}
use Rattle.lint_ignore.specs.declared.ignore.IgnoreKind.{IgnoreKind}
use Rattle.lint_ignore.specs.declared.ignore.IgnoreKind.TheVariants.{File, Line}
use Rattle.lint_ignore.specs.declared.ignore.IgnorePiece.{IgnorePiece}
use Rattle.lint_ignore.specs.Covered.{reaches}
use Rattle.lint_ignore.specs.Found.{found_in}

-- ---- the ignore comment of a name

abbrev pub no_ignore : Ignore
no_ignore = record { range = record { start = 0; end = 0 }; violation_names = no_rules; ignore_all = false; kind = Line }

-- the ignore comment of this number
abbrev pub ignore_at : List Ignore → ℕ → Ignore
ignore_at ignores i = slice_index_or ignores i no_ignore

-- a file ignore reaches each line, and a line ignore its own and the next one
abbrev pub reaches_by : IgnoreKind → Text → Ignore → ℕ → Bool
reaches_by File text g line = true
reaches_by Line text g line = reaches text g line

-- ---- used and unused names

-- a report has one of these rules, and starts on a line that the ignore comment reaches
abbrev pub is_use : Text → Ignore → Rules → Violation → Bool
is_use text g rules v = reaches_by g.kind text g (line_of text v.text_range.start) && has rules v.code

-- some report does
abbrev pub is_used : Text → Ignore → Rules → List Violation → Bool
is_used text g rules all = list_any (is_use text g rules) all

-- some rule is in both sets
abbrev pub meets : Rules → Rules → Bool
meets a b = list_any (λ r. has a r && has b r) all_rules

-- a name is to be reported: one of its rules is enabled, and no report makes use of it
abbrev pub is_unused : Text → List Ignore → List Violation → Rules → IgnorePiece → Bool
is_unused text ignores all enabled piece = meets piece.rules enabled && not (is_used text (ignore_at ignores piece.ignore) piece.rules all)

-- ---- reports of unused names

-- the bytes of a text on a range
abbrev pub bytes_in : Text → Range → Text
bytes_in text range = take (range.end - range.start) (drop range.start text)

abbrev pub unused_message : List ℕ → List ℕ
unused_message name = codes "unused ignore `" ++ name ++ codes "`"

abbrev pub unused_name : Text → IgnorePiece → Violation
unused_name text piece = violation rule.UnusedIgnore (unused_message (bytes_in text piece.range)) piece.range

-- the reports of those of some names that are to be reported
abbrev pub unused_among : Text → List Ignore → List Violation → Rules → List IgnorePiece → List Violation
unused_among text ignores all enabled pieces = map (unused_name text) (filter (is_unused text ignores all enabled) pieces)

-- the enabled rules that count for a name: all but the alias
abbrev pub counting : Rules → Rules
counting rules = without_rule rules rule.RequireTimeoutSettings

-- the reports of the names in the ignore comments of a text that cover none of some reports, by place, under some rules
abbrev pub unused_names : Tree → List Violation → Rules → List Violation
unused_names tree all rules = unused_among tree.text (found_in tree).ignores all (counting rules) (found_in tree).pieces
