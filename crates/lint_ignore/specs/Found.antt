-- The ignore comments of a text, and what they say.
use Rattle.std.specs.Prelude.{ℕ, ◌+◌, ◌==◌, List, [], ◌∷◌, ◌++◌, length}
use Rattle.std.specs.List.{filter_map, flat_map}
use Rattle.std.specs.Str.{trim}
use Rattle.sql_tree.specs.sql_token.declared.token.Tok.{Tok}
use Rattle.sql_tree.specs.sql_token.Token.{Text}
use Rattle.sql_tree.specs.Statement.{Tree}
use Rattle.lint_base.specs.declared.violation.Violation.{Violation}
use Rattle.lint_base.specs.Grown.{GrownBy}
use Rattle.lint_base.specs.RuleSets.{Rules, rules_in}
use Rattle.lint_ignore.specs.declared.found.Found.{Found}
use Rattle.lint_ignore.specs.declared.ignore.Ignore.{Ignore}
use Rattle.lint_ignore.specs.declared.ignore.IgnoreKind.{IgnoreKind}
use Rattle.lint_ignore.specs.declared.ignore.IgnorePiece.{IgnorePiece}
use Rattle.lint_ignore.specs.Part.{Part, range_of}
use Rattle.lint_ignore.specs.Comment.{ignore_in_token}
use Rattle.lint_ignore.specs.Names.{names_in, rules_of_name, unknown_name, known_name}

-- ---- lists of what is found

-- some reports, ignores and pieces
pub record Lists : Type 0 where
  pub reports : List Violation
  pub ignores : List Ignore
  pub pieces : List IgnorePiece

-- what the program has found
abbrev pub lists_of : Found → Lists
lists_of found = record { reports = found.reports; ignores = found.ignores.items; pieces = found.pieces.items }

-- each list of the first followed by the one of the second
abbrev pub followed_by : Lists → Lists → Lists
followed_by a b = record { reports = a.reports ++ b.reports; ignores = a.ignores ++ b.ignores; pieces = a.pieces ++ b.pieces }

-- each list grew by a prefix of the one of the table
pub record HasGrown (old new table : Lists) : Type 0 where
  pub reports : GrownBy old.reports new.reports table.reports
  pub ignores : GrownBy old.ignores new.ignores table.ignores
  pub pieces : GrownBy old.pieces new.pieces table.pieces

-- ---- names

-- what some names of the ignore comment of this number say
abbrev pub named : ℕ → List Part → Lists
named ignore names = record { reports = flat_map unknown_name names; ignores = []; pieces = flat_map (known_name ignore) names }

-- the rules that some names name
abbrev pub rules_named : List Part → Rules
rules_named names = rules_in (flat_map rules_of_name names)

-- ---- comments

-- what an ignore comment says whose body goes on like this
abbrev pub ignore_said : Part → IgnoreKind → Ignore
ignore_said rest kind =
    record { range = range_of rest; violation_names = rules_named (names_in rest); ignore_all = length (trim rest.bytes) == 0; kind = kind }

-- what it adds, as the ignore comment of this number
abbrev pub said : ℕ → Part × IgnoreKind → Lists
said number comment =
    record {
      reports = flat_map unknown_name (names_in comment.0);
      ignores = ignore_said comment.0 comment.1 ∷ [];
      pieces = flat_map (known_name number) (names_in comment.0);
    }

abbrev pub nothing : Lists
nothing = record { reports = []; ignores = []; pieces = [] }

-- what some ignore comments add, the first of which has this number
abbrev pub all_said : ℕ → List (Part × IgnoreKind) → Lists
all_said number [] = nothing
all_said number (c ∷ cs) = followed_by (said number c) (all_said (number + 1) cs)

-- the ignore comments among some tokens, in order
abbrev pub ignore_comments : Text → List Tok → List (Part × IgnoreKind)
ignore_comments t toks = filter_map (ignore_in_token t) toks

-- what the ignore comments of a text add, the first of which has this number
abbrev pub found_from : ℕ → Tree → Lists
found_from number tree = all_said number (ignore_comments tree.text tree.toks)

-- what is found in a text
abbrev pub found_in : Tree → Lists
found_in tree = found_from 0 tree
