-- Timeouts that a text sets for its session (PostgreSQL manual, SET, RESET and DISCARD, and section 20.11.1, lock_timeout and
-- statement_timeout).
use Rattle.std.specs.Prelude.{ℕ, ◌+◌, Bool, true, false, not, ◌&&◌, ◌||◌, List, [], ◌∷◌, codes, Option, Some, None, if◌then◌else◌}
use Rattle.std.specs.Option.{option_and_then}
use Rattle.std.specs.Str.{bytes_eq}
use Rattle.lint_ignore.specs.sql_keyword.declared.words.TheConstants.Keyword as keyword
use Rattle.lint_ignore.specs.sql_token.declared.token.Span.{Span}
use Rattle.lint_ignore.specs.sql_token.declared.token.TokKind.{TokKind}
use Rattle.lint_ignore.specs.sql_token.declared.token.TokKind.TheVariants as kinds
use Rattle.lint_ignore.specs.sql_tree.declared.kinds.StmtKind.TheVariants as stmt
use Rattle.lint_ignore.specs.sql_tree.declared.nodes.Body.{Body}
use Rattle.lint_ignore.specs.sql_tree.declared.nodes.Body.TheVariants as body
use Rattle.lint_ignore.specs.sql_tree.declared.nodes.Stmt.{Stmt}
use Rattle.lint_ignore.specs.sql_tree.Range.{token_at}
use Rattle.lint_ignore.specs.sql_tree.Statement.{Tree}
use Rattle.lint_node.specs.Same.{same_kind}
use Rattle.lint_transaction.specs.Names.{is_one_name}
use Rattle.hazard_find.specs.Look.{is_word_at, path_after, says, text_at, token_from}

-- the path is this one name
abbrev pub is_parameter : Tree → List ℕ → Option Span → Bool
is_parameter tree name None = false
is_parameter tree name (Some path) = is_one_name tree path name

-- ---- SET

abbrev pub parameter_by : Body → Option Span
parameter_by (body.Setting name) = name
parameter_by _ = None

-- SET of this parameter for the session: a SET LOCAL ends with its transaction, and outside of one it does nothing
unfoldable pub sets : Tree → List ℕ → Stmt → Bool
sets tree name s = is_parameter tree name (parameter_by s.body) && not (says tree (keyword.SET ∷ keyword.LOCAL ∷ []) s)

abbrev pub is_literal : TokKind → Bool
is_literal kinds.Str = true
is_literal kinds.Number = true
is_literal _ = false

-- 0, alone, or in a unit of time
unfoldable pub is_bare_zero : List ℕ → Bool
is_bare_zero text = bytes_eq text (codes "0") || bytes_eq text (codes "'0'") || bytes_eq text (codes "'0ms'")

unfoldable pub is_zero_time : List ℕ → Bool
is_zero_time text = bytes_eq text (codes "'0s'") || bytes_eq text (codes "'0min'") || bytes_eq text (codes "'0h'")

abbrev pub is_zero : List ℕ → Bool
is_zero text = is_bare_zero text || is_zero_time text

-- the token is a literal other than 0
unfoldable pub is_limit_at : Tree → ℕ → Bool
is_limit_at tree v = is_literal (token_at tree.toks v).kind && not (is_zero (text_at tree v))

-- TO or =
abbrev pub is_to : Tree → ℕ → Bool
is_to tree k = is_word_at tree keyword.TO k || bytes_eq (text_at tree k) (codes "=")

abbrev pub value_after : Tree → ℕ → ℕ → Option ℕ
value_after tree n k = if is_to tree k then token_from tree n (k + 1) else None

abbrev pub is_limit : Tree → Option ℕ → Bool
is_limit tree None = false
is_limit tree (Some v) = is_limit_at tree v

-- what follows the parameter's path, and TO or =, is a literal other than 0
unfoldable pub gives_limit : Tree → ℕ → Option Span → Bool
gives_limit tree n None = false
gives_limit tree n (Some path) = is_limit tree (option_and_then (value_after tree n) (token_from tree n (path.last + 1)))

-- ---- what ends a setting

-- RESET of this parameter, or of all
unfoldable pub resets : Tree → List ℕ → Stmt → Bool
resets tree name s =
    same_kind s.kind stmt.Reset
    && (says tree (keyword.RESET ∷ keyword.ALL ∷ []) s || is_parameter tree name (path_after tree (keyword.RESET ∷ []) [] s))

unfoldable pub discards_all : Tree → Stmt → Bool
discards_all tree s = same_kind s.kind stmt.Discard && says tree (keyword.DISCARD ∷ keyword.ALL ∷ []) s

-- ---- both

-- the statement gives the parameter another value, or its default
abbrev pub changes : Tree → List ℕ → Stmt → Bool
changes tree name s = sets tree name s || resets tree name s || discards_all tree s

-- the statement sets the parameter to a literal other than 0
abbrev pub limits : Tree → List ℕ → Stmt → Bool
limits tree name s = sets tree name s && gives_limit tree (s.last + 1) (parameter_by s.body)
