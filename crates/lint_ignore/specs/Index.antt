-- What an index of ignore comments knows.
use Rattle.std.specs.Prelude.{◌≡◌, ℕ, Bool, true, false, ◌-◌, ◌==◌, ◌&&◌, ◌||◌, nat_lt, not, List}
use Rattle.std.specs.List.{list_any}
use Rattle.sql_tree.specs.sql_token.Token.{Text}
use Rattle.sql_tree.specs.text_pos.Line.{line_feeds}
use Rattle.lint_base.specs.declared.rule.Rule.{Rule}
use Rattle.lint_base.specs.RuleSets.{has}
use Rattle.lint_ignore.specs.declared.ignore.Ignore.{Ignore}
use Rattle.lint_ignore.specs.declared.ignore.IgnoreKind.{IgnoreKind}
use Rattle.lint_ignore.specs.declared.ignore.IgnoreKind.TheVariants.{File, Line}
use Rattle.lint_ignore.specs.declared.index.IgnoreIndex.{IgnoreIndex}
use Rattle.lint_ignore.specs.Covered.{line_of_ignore}
use Rattle.lint_ignore.specs.Lines.{at_line, is_among}

abbrev pub is_file : IgnoreKind → Bool
is_file File = true
is_file Line = false

abbrev pub is_bare_file : Ignore → Bool
is_bare_file g = is_file g.kind && g.ignore_all

abbrev pub file_names : Rule → Ignore → Bool
file_names rule g = is_file g.kind && has g.violation_names rule

-- the ignore comment is not bare, and names the rule
abbrev pub names : Ignore → Rule → Bool
names g rule = not g.ignore_all && has g.violation_names rule

abbrev pub line_names : Text → ℕ → Rule → Ignore → Bool
line_names text line rule g = not (is_file g.kind) && names g rule && line_of_ignore text g == line

-- the index knows whether some of these ignore comments names a rule, for the file and for each line, and whether a bare file
-- ignore is there
pub record IsIndexOf (index : IgnoreIndex) (text : Text) (ignores : List Ignore) : Type 0 where
  pub lines : index.lines ≡ line_feeds text
  pub bare : index.covers_all ≡ list_any is_bare_file ignores
  pub file : (rule : Rule) → has index.file rule ≡ list_any (file_names rule) ignores
  pub by_line : (line : ℕ) (rule : Rule) → is_among (at_line index.by_line line) rule ≡ list_any (line_names text line rule) ignores

-- what the index says of a report of a rule that starts on a line
abbrev pub knows : IgnoreIndex → ℕ → Rule → Bool
knows index line rule =
    index.covers_all || has index.file rule || is_among (at_line index.by_line line) rule
    || (nat_lt 0 line && is_among (at_line index.by_line (line - 1)) rule)

-- the second index knows one ignore comment more
pub record AddsIgnore (old new : IgnoreIndex) (g : Ignore) : Type 0 where
  pub lines : new.lines ≡ old.lines
  pub bare : new.covers_all ≡ (old.covers_all || is_bare_file g)
  pub file : (rule : Rule) → has new.file rule ≡ (has old.file rule || file_names rule g)
  pub by_line : (text : Text) → old.lines ≡ line_feeds text → (line : ℕ) (rule : Rule)
      → is_among (at_line new.by_line line) rule ≡ (is_among (at_line old.by_line line) rule || line_names text line rule g)
