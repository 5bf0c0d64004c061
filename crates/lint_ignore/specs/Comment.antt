-- Comments that speak to the linter.
use Rattle.std.specs.Prelude.{◌≡◌, ◌≤◌, ℕ, ◌-◌, Bool, false, List, Option, Some, None, IfSome, codes, nat_eq, bytes_eq, length, if◌then◌else◌}
use Rattle.std.specs.List.{list_any, starts_with}
use Rattle.std.specs.Option.{option_and_then}
use Rattle.std.specs.Str.{IsCharBoundary}
use Rattle.sql_tree.specs.sql_token.declared.token.Tok.{Tok}
use Rattle.sql_tree.specs.sql_token.declared.token.TokKind.{TokKind}
use Rattle.sql_tree.specs.sql_token.declared.token.TokKind.TheVariants.{LineComment, BlockComment}
use Rattle.sql_tree.specs.sql_token.Token.{Text, text_of}
use Rattle.sql_tree.specs.Statement.{Tree}
use Rattle.sql_tree.specs.Range.{token_at}
use Rattle.lint_ignore.specs.declared.ignore.IgnoreKind.{IgnoreKind}
use Rattle.lint_ignore.specs.declared.ignore.IgnoreKind.TheVariants.{File, Line}
use Rattle.sql_tree.specs.text_pos.Range.{Range}
use Rattle.lint_ignore.specs.Part.{Part, range_of, part_after, part_before, trimmed, trimmed_end, part_before_dashes}

-- ---- the body of a comment

-- what follows `--`, or is between `/*` and `*/`
abbrev pub inside : TokKind → Part → Option Part
inside LineComment p = Some (part_after 2 p)
inside BlockComment p = Some (part_before (length p.bytes - 4) (part_after 2 p))
inside _ p = None

-- trimmed, cut before the first `--`, and trimmed at its end again
abbrev pub body_of : Part → Part
body_of p = trimmed_end (part_before_dashes (trimmed p))

-- a token and its place
abbrev pub token_part : Text → Tok → Part
token_part t k = record { at = k.start; bytes = text_of t k }

-- the body of a token that is a comment
abbrev pub comment_body : Text → Tok → Option Part
comment_body t k = option_and_then (λ p. Some (body_of p)) (inside k.kind (token_part t k))

-- the token is no comment whose body begins with these words
abbrev pub BeginsNoBody : List ℕ → Text → Tok → Type 0
BeginsNoBody words t k = IfSome (comment_body t k) (λ body. starts_with nat_eq body.bytes words ≡ false)

-- ---- ignore comments

abbrev pub line_text : List ℕ
line_text = codes "squawk-ignore"

abbrev pub file_text : List ℕ
file_text = codes "squawk-ignore-file"

abbrev pub disable_text : List ℕ
disable_text = codes "squawk-disable-assume-in-transaction"

-- the rest after the text that makes a body an ignore comment, and what it makes it
abbrev pub ignore_in : Part → Option (Part × IgnoreKind)
ignore_in body =
    if starts_with nat_eq body.bytes file_text then Some (part_after (length file_text) body, File)
    else (if starts_with nat_eq body.bytes line_text then Some (part_after (length line_text) body, Line)
    else None)

-- the same of a token: None where it is no ignore comment
abbrev pub ignore_in_token : Text → Tok → Option (Part × IgnoreKind)
ignore_in_token t k = option_and_then ignore_in (comment_body t k)

-- the same of the token of this number
abbrev pub ignore_of : Tree → ℕ → Option (Part × IgnoreKind)
ignore_of tree i = ignore_in_token tree.text (token_at tree.toks i)

-- ---- the disable comment

abbrev pub is_disable_body : Option Part → Bool
is_disable_body None = false
is_disable_body (Some body) = bytes_eq body.bytes disable_text

abbrev pub is_disable_comment : Text → Tok → Bool
is_disable_comment t k = is_disable_body (comment_body t k)

-- some comment says that no transaction is to be assumed
abbrev pub has_disable_comment : Tree → Bool
has_disable_comment tree = list_any (is_disable_comment tree.text) tree.toks

-- ---- where a comment is cut

-- a text of this kind may be cut after its first mark, and before its last one if it has one
abbrev pub CanCutDelimiters : TokKind → List ℕ → Type 0
CanCutDelimiters LineComment z = IsCharBoundary z 2
CanCutDelimiters BlockComment z = (4 ≤ length z) × IsCharBoundary z 2 × IsCharBoundary z (length z - 2)
CanCutDelimiters _ z = Unit {0}

-- The token of this number is an ignore comment of this kind: this is the rest, and this its range.
pub record IsIgnore (tree : Tree) (i : ℕ) (bytes : List ℕ) (range : Range) (kind : IgnoreKind) : Type 0 where
  pub rest : Part
  pub is : ignore_of tree i ≡ Some (rest, kind)
  pub bytes_of : bytes ≡ rest.bytes
  pub place : range ≡ range_of rest
