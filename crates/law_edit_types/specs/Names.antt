-- What a token of a tree is to the grammar.
use Rattle.std.specs.Prelude.{ℕ, Bool, true, false}
use Rattle.law_edit_inserts.specs.sql_token.declared.terminal.Symbol.{Symbol}
use Rattle.law_edit_inserts.specs.sql_token.declared.terminal.Symbol.TheVariants as s
use Rattle.law_edit_inserts.specs.sql_token.Token.{text_of}
use Rattle.law_edit_inserts.specs.sql_token.Terminal.{symbol_of}
use Rattle.law_edit_inserts.specs.sql_tree.Range.{token_at}
use Rattle.law_edit_inserts.specs.sql_tree.Statement.{Tree}

-- token n
abbrev pub symbol_at : Tree → ℕ → Symbol
symbol_at tree n = symbol_of (token_at tree.toks n).kind (text_of tree.text (token_at tree.toks n))

-- any key word
abbrev pub is_key_word : Symbol → Bool
is_key_word (s.Keyword w) = true
is_key_word _ = false
