-- The names that tokens give.
use Rattle.std.specs.Prelude.{ℕ, Bool, false, ◌&&◌, List, nat_eq, Option, Some, None}
use Rattle.std.specs.List.{list_any}
use Rattle.std.specs.Str.{bytes_eq}
use Rattle.sql_tree.specs.sql_name.Name.{full_name}
use Rattle.sql_tree.specs.sql_token.declared.token.Span.{Span}
use Rattle.sql_tree.specs.sql_token.Token.{text_of}
use Rattle.sql_tree.specs.Statement.{Tree}
use Rattle.sql_tree.specs.Range.{token_at}

-- the full text of the name that the token of this number gives, empty past the last token
abbrev pub name_at : Tree → ℕ → List ℕ
name_at tree number = full_name (text_of tree.text (token_at tree.toks number))

-- the token of this number gives the name
abbrev pub is_name : Tree → List ℕ → Option ℕ → Bool
is_name tree name None = false
is_name tree name (Some number) = bytes_eq name (name_at tree number)

-- the path is this one name
abbrev pub is_one_name : Tree → Span → List ℕ → Bool
is_one_name tree path name = nat_eq path.first path.last && bytes_eq name (name_at tree path.first)

-- the full text of the name that this token gives is one of these
abbrev pub is_listed : List (List ℕ) → Tree → ℕ → Bool
is_listed names tree number = list_any (λ listed. bytes_eq listed (name_at tree number)) names

-- a call without arguments, of a function of one name, which is listed
abbrev pub is_listed_call : List (List ℕ) → Tree → Option ℕ → Bool → Bool
is_listed_call names tree None no_args = false
is_listed_call names tree (Some number) no_args = no_args && is_listed names tree number
