-- The laws of order: in a tree that was read of a text the nodes of each list begin at tokens that ascend, and tokens begin at
-- bytes that ascend, so no two of them have one place.
use Rattle.std.specs.Prelude.{ℕ, ◌<◌, List, length}
use Rattle.std.specs.List.Sorted.{IsStrictlyIncreasing}
use Rattle.sql_token.specs.declared.token.Tok.{Tok}
use Rattle.sql_token.specs.Token.{Text, Lexed}
use Rattle.sql_tree.specs.Nodes.{statement_starts, action_starts, element_starts, type_starts}
use Rattle.sql_tree.specs.Range.{token_at}
use Rattle.sql_tree.specs.Statement.{Tree, IsTree}

abbrev pub StartsAscend : (Tree → List ℕ) → Type 0
StartsAscend starts = (tree : Tree) → IsTree tree → IsStrictlyIncreasing (starts tree)

abbrev pub StatementsAscend : Type 0
StatementsAscend = StartsAscend statement_starts

abbrev pub ActionsAscend : Type 0
ActionsAscend = StartsAscend action_starts

abbrev pub ElementsAscend : Type 0
ElementsAscend = StartsAscend element_starts

abbrev pub TypesAscend : Type 0
TypesAscend = StartsAscend type_starts

-- of two tokens of a text the later one begins at a later byte
abbrev pub PlacesAscend : Type 0
PlacesAscend = (t : Text) (ks : List Tok) (i j : ℕ) → Lexed t ks → i < j → j < length ks → (token_at ks i).start < (token_at ks j).start
