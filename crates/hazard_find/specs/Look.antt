-- Words of a statement that its tree does not keep, by the numbers of its tokens.
use Rattle.std.specs.Prelude.{ℕ, ◌+◌, Bool, false, ◌||◌, List, [], ◌∷◌, drop, take, codes, position, is_some, Option, Some, None, if◌then◌else◌}
use Rattle.std.specs.Option.{option_and_then, option_map, unwrap_or}
use Rattle.std.specs.Str.{bytes_eq}
use Rattle.lint_ignore.specs.sql_keyword.declared.words.Keyword.{Keyword}
use Rattle.lint_ignore.specs.sql_keyword.declared.words.TheConstants.Keyword as keyword
use Rattle.lint_ignore.specs.sql_keyword.Same.{same_keyword}
use Rattle.lint_ignore.specs.sql_keyword.Find.{keyword_of}
use Rattle.lint_ignore.specs.sql_token.declared.token.Span.{Span}
use Rattle.lint_ignore.specs.sql_token.declared.token.TokKind.{TokKind}
use Rattle.lint_ignore.specs.sql_token.declared.token.TokKind.TheVariants as kinds
use Rattle.lint_ignore.specs.sql_token.Terminal.{is_significant_token}
use Rattle.lint_ignore.specs.sql_token.Token.{text_of}
use Rattle.lint_ignore.specs.sql_tree.declared.nodes.Stmt.{Stmt}
use Rattle.lint_ignore.specs.sql_tree.Range.{token_at}
use Rattle.lint_ignore.specs.sql_tree.Statement.{Tree}

-- ---- one token

abbrev pub text_at : Tree → ℕ → List ℕ
text_at tree i = text_of tree.text (token_at tree.toks i)

-- the number of the first token, from number i to before number n, that is no blank and no comment
unfoldable pub token_from : Tree → ℕ → ℕ → Option ℕ
token_from tree n i = option_map (λ k. i + k) (position is_significant_token (drop i (take n tree.toks)))

abbrev pub word_by : TokKind → List ℕ → Option Keyword
word_by kinds.Word bytes = keyword_of bytes
word_by _ bytes = None

abbrev pub is_word : Keyword → Option Keyword → Bool
is_word word None = false
is_word word (Some found) = same_keyword found word

-- the token of this number is this key word
abbrev pub is_word_at : Tree → Keyword → ℕ → Bool
is_word_at tree word i = is_word word (word_by (token_at tree.toks i).kind (text_at tree i))

-- ---- words one after another

-- the number after that word, where it comes first from number i to before number n
abbrev pub after_word : Tree → ℕ → Keyword → ℕ → Option ℕ
after_word tree n word i = option_and_then (λ k. if is_word_at tree word k then Some (k + 1) else None) (token_from tree n i)

-- the number after these words
abbrev pub after_words : Tree → ℕ → List Keyword → ℕ → Option ℕ
after_words tree n [] i = Some i
after_words tree n (word ∷ words) i = option_and_then (after_words tree n words) (after_word tree n word i)

-- the number after these words where they come first, and i itself where they do not
unfoldable pub after_optional : Tree → ℕ → List Keyword → ℕ → ℕ
after_optional tree n words i = unwrap_or (after_words tree n words i) i

-- the tokens from the first number to the last one begin with these words
unfoldable pub begins : Tree → List Keyword → ℕ → ℕ → Bool
begins tree words first last = is_some (after_words tree (last + 1) words first)

-- the statement begins with these words
abbrev pub says : Tree → List Keyword → Stmt → Bool
says tree words s = begins tree words s.first s.last

-- ---- paths

abbrev pub name_after_dot : Tree → ℕ → ℕ → Option ℕ
name_after_dot tree n dot = if bytes_eq (text_at tree dot) (codes ".") then token_from tree n (dot + 1) else None

-- the token after the dot that follows token k, and token k itself where none does
abbrev pub after_dot : Tree → ℕ → ℕ → ℕ
after_dot tree n k = unwrap_or (option_and_then (name_after_dot tree n) (token_from tree n (k + 1))) k

-- a name and the two that may follow it after dots: database, schema and object
abbrev pub path_at : Tree → ℕ → ℕ → Span
path_at tree n k = record { first = k; last = after_dot tree n (after_dot tree n k) }

-- the path that comes first from number i to before number n
unfoldable pub path_from : Tree → ℕ → ℕ → Option Span
path_from tree n i = option_map (path_at tree n) (token_from tree n i)

-- the path that follows these words, which come first in the statement, and then perhaps those
unfoldable pub path_after : Tree → List Keyword → List Keyword → Stmt → Option Span
path_after tree words optional s =
    option_and_then (λ i. path_from tree (s.last + 1) (after_optional tree (s.last + 1) optional i)) (after_words tree (s.last + 1) words s.first)
