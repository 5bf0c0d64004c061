-- Rows that share a message.
use Rattle.std.specs.Prelude.{ℕ, List, [], ◌∷◌, ◌++◌, map, codes}
use Rattle.lint_ignore.specs.sql_tree.declared.kinds.StmtKind.{StmtKind}
use Rattle.lint_ignore.specs.sql_tree.declared.kinds.StmtKind.TheVariants as stmt
use Rattle.lint_ignore.specs.sql_tree.declared.kinds.ActionKind.{ActionKind}
use Rattle.lint_ignore.specs.sql_tree.declared.kinds.PieceKind.{PieceKind}
use Rattle.lint_pass.specs.declared.bans.Spot.{Spot}
use Rattle.lint_pass.specs.declared.bans.Spot.TheVariants as spot
use Rattle.lint_pass.specs.Bans.{BanRow}

-- one spot, without a note
abbrev pub at : Spot → List ℕ → List BanRow
at s message = (s, message, []) ∷ []

-- statements of these kinds
abbrev pub at_statements : List StmtKind → List ℕ → List BanRow
at_statements kinds message = map (λ k. (spot.Statement k, message, [])) kinds

-- actions of a kind, of statements of these kinds
abbrev pub at_actions : List StmtKind → ActionKind → List ℕ → List BanRow
at_actions kinds a message = map (λ k. (spot.Action k a, message, [])) kinds

-- pieces of a kind, of statements of these kinds
abbrev pub at_pieces : List StmtKind → PieceKind → List ℕ → List BanRow
at_pieces kinds q message = map (λ k. (spot.Piece k q, message, [])) kinds

-- statements of these kinds with OR REPLACE
abbrev pub at_replacing : List StmtKind → List ℕ → List BanRow
at_replacing kinds message = map (λ k. (spot.Replacing k, message, [])) kinds

-- ALTER TABLE and ALTER FOREIGN TABLE
abbrev pub tables : List StmtKind
tables = stmt.AlterTable ∷ stmt.AlterForeignTable ∷ []

-- ---- ends of messages

abbrev pub breaks : List ℕ → List ℕ
breaks front = front ++ codes " may break existing clients"

abbrev pub changes_silently : List ℕ → List ℕ
changes_silently front = front ++ codes " may silently change behavior for existing clients"

abbrev pub changes : List ℕ → List ℕ
changes front = front ++ codes " may change behavior for existing clients"

abbrev pub changes_access : List ℕ → List ℕ
changes_access front = front ++ codes " may change access for existing clients"
