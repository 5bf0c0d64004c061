-- The names by which a span of a text is identified (PostgreSQL manual, section 4.1.1, "Identifiers and Key Words").
use Rattle.std.specs.Prelude.{ℕ, List, [], ◌∷◌, fold}
use Rattle.std.specs.Hash.FoldHasher as folding
use Rattle.std.specs.List.{flat_map}
use Rattle.sql_tree.specs.sql_name.Hash.{text_writes}
use Rattle.sql_tree.specs.sql_token.declared.token.Span.{Span}
use Rattle.sql_tree.specs.Path.{path_cuts}
use Rattle.sql_tree.specs.Statement.{Tree}
use Rattle.lint_transaction.specs.Names.{name_at}
use Rattle.lint_transaction.specs.declared.span_key.SpanKey.{SpanKey}
use Rattle.lint_transaction.specs.declared.span_key.SpanKey.TheVariants as by

-- the names by which a span is identified
abbrev pub key_of : SpanKey → Tree → Span → List (List ℕ)
key_of by.Path tree span = path_cuts tree.text tree.toks span
key_of by.LastName tree span = name_at tree span.last ∷ []
key_of by.BothEnds tree span = name_at tree span.first ∷ name_at tree span.last ∷ []

-- the hash of names: each writes its bytes, and then a byte that no name has
unfoldable pub hash_of : List (List ℕ) → ℕ
hash_of names = folding.finish (fold folding.write folding.initial (flat_map text_writes names))
