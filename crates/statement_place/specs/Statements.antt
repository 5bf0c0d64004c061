-- The statements that parts of a text are in.
use Rattle.std.specs.Prelude.{◌≡◌, ℕ, ◌≤◌, ◌&&◌, All, Bool, true, false, Option, Some, None, IfSome, find, if◌then◌else◌, length, nat_le, nat_lt, slice_get, take}
use Rattle.std.specs.List.{position_or_len}
use Rattle.sql_tree.specs.declared.nodes.Stmt.{Stmt}
use Rattle.sql_tree.specs.Range.{stmt_range_of}
use Rattle.sql_tree.specs.Statement.{Tree}
use Rattle.sql_tree.specs.text_pos.Range.{Range}
use Rattle.statement_place.specs.declared.cursor.Cursor.{Cursor}

-- a statement ends behind a place
unfoldable pub ends_behind : Tree → ℕ → Stmt → Bool
ends_behind tree place s = nat_lt place (stmt_range_of tree.toks s).end

-- the first statement that does
abbrev pub statement_behind : Tree → ℕ → Option Stmt
statement_behind tree place = find (ends_behind tree place) tree.stmts

-- the number of the first statement that ends behind a place, from 0 on; the number of statements where there is none
unfoldable pub number_behind : Tree → ℕ → ℕ
number_behind tree place = position_or_len (ends_behind tree place) tree.stmts

abbrev pub is_within : Range → Range → Bool
is_within outer inner = nat_le outer.start inner.start && nat_le inner.end outer.end

-- a statement, where a part is in it, and the part itself where it is not
unfoldable pub part_in : Tree → Option Stmt → Range → Range
part_in tree None range = range
part_in tree (Some s) range = if is_within (stmt_range_of tree.toks s) range then stmt_range_of tree.toks s else range

-- the statement that a part of a text is in, from its first token to its last; the part itself where it is in none
abbrev pub statement_of : Tree → Range → Range
statement_of tree range = part_in tree (statement_behind tree range.start) range

-- ---- how they are found

-- as many statements as the cursor's number says end at or before its place
pub record IsCursor (tree : Tree) (c : Cursor) : Type 0 where
  pub within : c.number ≤ length tree.stmts
  pub past : All (λ s. ends_behind tree c.place s ≡ false) (take c.number tree.stmts)

-- the statement of this number, where there is one, ends behind the place
abbrev pub IsStop : Tree → ℕ → ℕ → Type 0
IsStop tree place number = IfSome (slice_get tree.stmts number) (λ s. ends_behind tree place s ≡ true)
