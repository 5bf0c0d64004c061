-- Backslashes outside of strings, quoted names and comments. PostgreSQL has no such token (its manual, section 4.1): psql has a command there, which was
-- not read.
use Rattle.std.specs.Prelude.{◌≡◌, ℕ, ◌==◌, Bool, true, false, ◌&&◌, slice_index, slice_index_or, option_map, Option, Some}
use Rattle.std.specs.List.{position}
use Rattle.law_reports.specs.sql_read.Cause.{IsTreeOf}
use Rattle.law_reports.specs.sql_read.sql_token.declared.token.Tok.{Tok}
use Rattle.law_reports.specs.sql_read.sql_token.declared.token.TokKind.{TokKind}
use Rattle.law_reports.specs.sql_read.sql_token.declared.token.TokKind.TheVariants.{Other}
use Rattle.law_reports.specs.sql_read.sql_token.Token.{Text}
use Rattle.law_reports.specs.sql_read.sql_tree.Statement.{Tree, no_token}

abbrev pub is_other : TokKind → Bool
is_other Other = true
is_other _ = false

abbrev pub is_backslash : Text → Tok → Bool
is_backslash t tok = is_other tok.kind && slice_index t tok.start == 92

abbrev pub start_of : Tree → ℕ → ℕ
start_of tree n = (slice_index_or tree.toks n no_token).start

-- the place of the first one
unfoldable pub first_backslash : Tree → Option ℕ
first_backslash tree = option_map (start_of tree) (position (is_backslash tree.text) tree.toks)

-- The text has a tree, and the first one is here.
pub record IsBackslashAt (t : Text) (at : ℕ) : Type 0 where
  pub tree : Tree
  pub of_text : IsTreeOf t tree
  pub first : first_backslash tree ≡ Some at
