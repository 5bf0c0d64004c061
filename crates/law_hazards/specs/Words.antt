-- The tokens of a part of a text, and the words that they begin with.
use Rattle.std.specs.Prelude.{ℕ, ◌+◌, Bool, true, false, ◌&&◌, List, [], ◌∷◌, drop, take, filter, Option, Some, None}
use Rattle.law_renumber.specs.sql_keyword.declared.words.Keyword.{Keyword}
use Rattle.law_renumber.specs.sql_keyword.Same.{same_keyword}
use Rattle.law_renumber.specs.sql_keyword.Find.{keyword_of}
use Rattle.law_renumber.specs.sql_token.declared.token.Tok.{Tok}
use Rattle.law_renumber.specs.sql_token.declared.token.TokKind.{TokKind}
use Rattle.law_renumber.specs.sql_token.declared.token.TokKind.TheVariants as kinds
use Rattle.law_renumber.specs.sql_token.Terminal.{is_significant_token}
use Rattle.law_renumber.specs.sql_token.Token.{Text, text_of}
use Rattle.law_renumber.specs.sql_tree.declared.nodes.Action.{Action}
use Rattle.law_renumber.specs.sql_tree.declared.nodes.Stmt.{Stmt}
use Rattle.law_renumber.specs.sql_tree.Statement.{Tree}

-- the tokens from the first number to before the last one that are no blanks and no comments
unfoldable pub shown : Tree → ℕ → ℕ → List Tok
shown tree first last = filter is_significant_token (drop first (take last tree.toks))

-- those of a statement
abbrev pub statement_tokens : Tree → Stmt → List Tok
statement_tokens tree s = shown tree s.first (s.last + 1)

-- those of an action of an ALTER statement
abbrev pub action_tokens : Tree → Action → List Tok
action_tokens tree a = shown tree a.first (a.last + 1)

-- the key word that a token of this kind and these bytes is
abbrev pub key_by : TokKind → List ℕ → Option Keyword
key_by kinds.Word bytes = keyword_of bytes
key_by _ bytes = None

abbrev pub is_this : Keyword → Option Keyword → Bool
is_this word None = false
is_this word (Some found) = same_keyword found word

-- the token is this key word
abbrev pub is_key : Text → Keyword → Tok → Bool
is_key t word tok = is_this word (key_by tok.kind (text_of t tok))

-- the tokens begin with these key words
abbrev pub begin_with : Text → List Keyword → List Tok → Bool
begin_with t [] toks = true
begin_with t (word ∷ words) [] = false
begin_with t (word ∷ words) (tok ∷ toks) = is_key t word tok && begin_with t words toks
