-- Which findings the ignore comments of a text cover, and which names of hazards in them cover nothing.
use Rattle.std.specs.Prelude.{◌≡◌, ℕ, ◌+◌, Bool, true, ◌==◌, ◌&&◌, ◌||◌, not, nat_le, List, [], ◌∷◌, Option, Some, None, if◌then◌else◌}
use Rattle.std.specs.List.{flat_map, list_any}
use Rattle.lint_ignore.specs.sql_token.Token.{Text}
use Rattle.lint_ignore.specs.sql_tree.Statement.{Tree}
use Rattle.hazard_base.specs.text_pos.Line.{line_feeds, line_of}
use Rattle.hazard_base.specs.text_pos.Range.{Range}
use Rattle.lint_base.specs.declared.rule.Rule.TheVariants as rule
use Rattle.lint_base.specs.declared.violation.Violation.{Violation}
use Rattle.lint_base.specs.Violations.{violation}
use Rattle.lint_ignore.specs.declared.ignore.Ignore.{Ignore}
use Rattle.lint_ignore.specs.declared.ignore.IgnoreKind.{IgnoreKind}
use Rattle.lint_ignore.specs.declared.ignore.IgnoreKind.TheVariants.{File, Line}
use Rattle.lint_ignore.specs.Covered.{line_of_ignore}
use Rattle.lint_ignore.specs.Found.{found_in}
use Rattle.lint_ignore.specs.Index.{is_bare_file}
use Rattle.lint_ignore.specs.Unused.{unused_message}
use Rattle.hazard_base.specs.declared.finding.Finding.{Finding}
use Rattle.hazard_base.specs.declared.hazard.Hazard.{Hazard}
use Rattle.hazard_base.specs.declared.hazard_set.HazardSet.{HazardSet}
use Rattle.hazard_base.specs.Hazards.{name_of, same_hazard}
use Rattle.hazard_base.specs.HazardSets.{has}
use Rattle.hazard_ignore.specs.declared.covered.HazardIgnores.{HazardIgnores}
use Rattle.hazard_ignore.specs.declared.covered.Named.{Named}
use Rattle.hazard_ignore.specs.HazardNames.{hazard_of}

-- ---- names

-- the second range is in the first one
abbrev pub is_in : Range → Range → Bool
is_in outer inner = nat_le outer.start inner.start && nat_le inner.end outer.end

abbrev pub named_by : Text → Ignore → Violation → Option Hazard → List Named
named_by text g v None = []
named_by text g v (Some h) = record { hazard = h; kind = g.kind; line = line_of_ignore text g; range = v.text_range } ∷ []

-- the name of a hazard that a report calls unknown, where it is in this ignore comment
unfoldable pub named_in : Text → Ignore → Violation → List Named
named_in text g v = if is_in g.range v.text_range then named_by text g v (hazard_of v) else []

-- the names of hazards in an ignore comment, by the linter's reports of unknown names
unfoldable pub names_in : Text → List Violation → Ignore → List Named
names_in text unknown g = flat_map (named_in text g) unknown

-- the names of hazards in all ignore comments
abbrev pub names_of : Text → List Violation → List Ignore → List Named
names_of text unknown ignores = flat_map (names_in text unknown) ignores

abbrev pub named : Tree → List Named
named tree = names_of tree.text (found_in tree).reports (found_in tree).ignores

-- ---- cover

-- a file ignore reaches each line, and a line ignore its own and the next one
abbrev pub reaches : IgnoreKind → ℕ → ℕ → Bool
reaches File at line = true
reaches Line at line = line == at || line == at + 1

-- a name covers the findings of its hazard that start on a line
unfoldable pub covers : ℕ → Hazard → Named → Bool
covers line h n = same_hazard n.hazard h && reaches n.kind n.line line

abbrev pub is_bare : Tree → Bool
is_bare tree = list_any is_bare_file (found_in tree).ignores

-- A bare file ignore covers each finding, and else a name does.
abbrev pub is_covered : Tree → Finding → Bool
is_covered tree f = is_bare tree || list_any (covers (line_of tree.text f.range.start) f.hazard) (named tree)

-- ---- names that cover nothing

-- a name covers some finding
abbrev pub is_used : Text → List Finding → Named → Bool
is_used text found n = list_any (λ f. covers (line_of text f.range.start) f.hazard n) found

-- the report of a name whose hazard is enabled, where it covers none of these findings
unfoldable pub unused_name : Text → List Finding → HazardSet → Named → List Violation
unused_name text found enabled n =
    if has enabled n.hazard && not (is_used text found n) then violation rule.UnusedIgnore (unused_message (name_of n.hazard)) n.range ∷ [] else []

-- Where a bare file ignore is there, no name is reported: it covers all itself.
abbrev pub unused_names : Tree → List Finding → HazardSet → List Violation
unused_names tree found enabled = if is_bare tree then [] else flat_map (unused_name tree.text found enabled) (named tree)

-- ---- what is kept

-- what the program keeps of the ignore comments of a tree
pub record AreIgnoresOf (ignores : HazardIgnores) (tree : Tree) : Type 0 where
  pub lines : ignores.lines ≡ line_feeds tree.text
  pub bare : ignores.is_bare ≡ is_bare tree
  pub names : ignores.names.items ≡ named tree
