-- Words of a statement that its tree does not keep, by the numbers of its tokens.
use Rattle.std.specs.Prelude.{ℕ, zero, suc, ◌+◌, ◌-◌, Bool, true, false, ◌&&◌, ◌||◌, List, length, min}
use Rattle.std.specs.Str.{str_eq_ignore_ascii_case}
use Rattle.lint_ignore.specs.sql_token.declared.token.TokKind.{TokKind}
use Rattle.lint_ignore.specs.sql_token.declared.token.TokKind.TheVariants as kinds
use Rattle.lint_ignore.specs.sql_token.Token.{text_of}
use Rattle.lint_ignore.specs.sql_tree.declared.nodes.Stmt.{Stmt}
use Rattle.lint_ignore.specs.sql_tree.Range.{token_at}
use Rattle.lint_ignore.specs.sql_tree.Statement.{Tree}

abbrev pub is_word_kind : TokKind → Bool
is_word_kind kinds.Word = true
is_word_kind _ = false

abbrev pub is_word_by : TokKind → List ℕ → List ℕ → Bool
is_word_by kind text word = is_word_kind kind && str_eq_ignore_ascii_case text word

-- the token of this number is this word, in capitals or not
unfoldable pub is_word_at : Tree → List ℕ → ℕ → Bool
is_word_at tree word i = is_word_by (token_at tree.toks i).kind (text_of tree.text (token_at tree.toks i)) word

-- one of so many tokens from this number on is this word
abbrev pub says_from : Tree → List ℕ → ℕ → ℕ → Bool
says_from tree word i zero = false
says_from tree word i (suc n) = is_word_at tree word i || says_from tree word (i + 1) n

-- the number after the last token of the statement
abbrev pub end_of : Tree → Stmt → ℕ
end_of tree s = min (s.last + 1) (length tree.toks)

-- a token of the statement is this word
abbrev pub says : Tree → List ℕ → Stmt → Bool
says tree word s = says_from tree word s.first (end_of tree s - s.first)
