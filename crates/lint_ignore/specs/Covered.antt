-- Which reports the ignore comments of a text cover.
use Rattle.std.specs.Prelude.{ℕ, ◌+◌, Bool, ◌==◌, ◌&&◌, ◌||◌, not, List}
use Rattle.std.specs.List.{list_any}
use Rattle.sql_tree.specs.sql_token.Token.{Text}
use Rattle.sql_tree.specs.text_pos.Line.{line_of}
use Rattle.sql_tree.specs.text_pos.Range.{Range}
use Rattle.lint_base.specs.declared.rule.Rule.{Rule}
use Rattle.lint_base.specs.RuleSets.{has}
use Rattle.lint_ignore.specs.declared.ignore.Ignore.{Ignore}
use Rattle.lint_ignore.specs.declared.ignore.IgnoreKind.{IgnoreKind}
use Rattle.lint_ignore.specs.declared.ignore.IgnoreKind.TheVariants.{File, Line}

-- the line on which an ignore comment is there: that of its range's start
abbrev pub line_of_ignore : Text → Ignore → ℕ
line_of_ignore text g = line_of text g.range.start

-- a line is that of the ignore comment, or the next one
abbrev pub reaches : Text → Ignore → ℕ → Bool
reaches text g line = line == line_of_ignore text g || line == line_of_ignore text g + 1

-- A file ignore covers the reports of its names, and all reports where it is bare. A line ignore covers those of its
-- names that start on a line that it reaches, and none where it is bare.
abbrev pub covers_by : IgnoreKind → Text → Ignore → ℕ → Rule → Bool
covers_by File text g line rule = g.ignore_all || has g.violation_names rule
covers_by Line text g line rule = not g.ignore_all && has g.violation_names rule && reaches text g line

-- an ignore comment covers the reports of a rule that start on a line
abbrev pub covers : Text → ℕ → Rule → Ignore → Bool
covers text line rule g = covers_by g.kind text g line rule

-- some ignore comment covers a report of a rule on a range
abbrev pub is_covered : Text → List Ignore → Range → Rule → Bool
is_covered text ignores range rule = list_any (covers text (line_of text range.start) rule) ignores
