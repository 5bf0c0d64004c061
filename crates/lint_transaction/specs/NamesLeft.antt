-- The names of a span that a walk over its tokens has left.
use Rattle.std.specs.Prelude.{ℕ, List, drop, take}
use Rattle.std.specs.List.{flat_map}
use Rattle.sql_tree.specs.sql_name.Name.{cut_name}
use Rattle.sql_tree.specs.sql_token.Token.{text_of}
use Rattle.sql_tree.specs.Path.{name_cuts}
use Rattle.sql_tree.specs.Range.{token_at}
use Rattle.sql_tree.specs.Statement.{Tree}
use Rattle.lint_transaction.specs.declared.names.Names.{Names}

-- the name that token i gives
abbrev pub name_given : Tree → ℕ → List ℕ
name_given tree i = cut_name (text_of tree.text (token_at tree.toks i))

-- the names among the tokens from number i to before number n
abbrev pub names_from : Tree → ℕ → ℕ → List (List ℕ)
names_from tree n i = flat_map (name_cuts tree.text) (drop i (take n tree.toks))

abbrev pub names_left : Names → List (List ℕ)
names_left names = names_from names.file.now names.end names.next
