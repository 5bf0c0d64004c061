-- Plain texts: those of which the lock machine tells all that PostgreSQL does to transactions, to the names of tables and to
-- the rows of new columns, as far as the linter's rules look (PostgreSQL manual, the pages of SAVEPOINT, PREPARE TRANSACTION,
-- ROLLBACK, SET, REINDEX, and section 5.10.3, "The Schema Search Path").
use Rattle.std.specs.Prelude.{ℕ, ◌+◌, Bool, true, false, ◌&&◌, ◌||◌, not, if◌then◌else◌, List, [], ◌∷◌, drop, take, codes, Option, Some, None}
use Rattle.std.specs.List.{flat_map, list_any}
use Rattle.lint_pass.specs.sql_keyword.declared.words.Keyword.{Keyword}
use Rattle.lint_pass.specs.sql_keyword.declared.words.TheConstants.Keyword as keyword
use Rattle.lint_pass.specs.sql_keyword.Same.{same_keyword}
use Rattle.lint_pass.specs.sql_keyword.Find.{keyword_of}
use Rattle.lint_pass.specs.sql_token.declared.token.Span.{Span}
use Rattle.lint_pass.specs.sql_token.declared.token.Tok.{Tok}
use Rattle.lint_pass.specs.sql_token.declared.token.TokKind.{TokKind}
use Rattle.lint_pass.specs.sql_token.declared.token.TokKind.TheVariants as kinds
use Rattle.lint_pass.specs.sql_token.Terminal.{is_significant}
use Rattle.lint_pass.specs.sql_token.Token.{text_of}
use Rattle.sql_tree.specs.declared.kinds.StmtKind.{StmtKind}
use Rattle.sql_tree.specs.declared.kinds.StmtKind.TheVariants as stmt
use Rattle.sql_tree.specs.declared.nodes.Action.{Action}
use Rattle.sql_tree.specs.declared.nodes.Body.{Body}
use Rattle.sql_tree.specs.declared.nodes.Body.TheVariants as body
use Rattle.sql_tree.specs.declared.nodes.ConKind.TheVariants as con
use Rattle.sql_tree.specs.declared.nodes.Constraint.{Constraint}
use Rattle.sql_tree.specs.declared.nodes.Expr.{Expr, Expr-F, fold-Expr}
use Rattle.sql_tree.specs.declared.nodes.Expr.TheOpen as layer
use Rattle.sql_tree.specs.declared.nodes.Stmt.{Stmt}
use Rattle.sql_tree.specs.Statement.{Tree}
use Rattle.lint_pass.specs.lint_node.Parts.{new_constraints, table_actions}
use Rattle.lint_pass.specs.lint_node.Same.{same_constraint, same_kind}
use Rattle.lint_pass.specs.lint_transaction.Names.{is_one_name}

-- ---- transactions

-- SAVEPOINT, RELEASE and PREPARE TRANSACTION divide a transaction, and RESET and DISCARD may change the search path.
abbrev pub is_unplain_kind : StmtKind → Bool
is_unplain_kind stmt.SavepointCreate = true
is_unplain_kind stmt.ReleaseSavepoint = true
is_unplain_kind stmt.PrepareTransaction = true
is_unplain_kind stmt.Reset = true
is_unplain_kind stmt.Discard = true
is_unplain_kind _ = false

-- COMMIT PREPARED, ROLLBACK PREPARED or ROLLBACK TO
abbrev pub is_unplain_end : Body → Bool
is_unplain_end (body.End plain chain) = not plain
is_unplain_end _ = false

-- ---- the search path

abbrev pub is_search_path : Tree → Option Span → Bool
is_search_path tree None = false
is_search_path tree (Some path) = is_one_name tree path (codes "search_path")

-- SET search_path
abbrev pub sets_search_path : Tree → Body → Bool
sets_search_path tree (body.Setting name) = is_search_path tree name
sets_search_path tree _ = false

abbrev pub word_by : TokKind → List ℕ → Option Keyword
word_by kinds.Word bytes = keyword_of bytes
word_by _ bytes = None

-- the key word that a token is, for each token but blanks and comments
abbrev pub word_in : List ℕ → Tok → List (Option Keyword)
word_in text tok = if is_significant tok.kind then word_by tok.kind (text_of text tok) ∷ [] else []

-- those of the tokens from number i to before number n
abbrev pub words_from : Tree → ℕ → ℕ → List (Option Keyword)
words_from tree n i = flat_map (word_in tree.text) (drop i (take n tree.toks))

abbrev pub is_word : Keyword → Option Keyword → Bool
is_word word None = false
is_word word (Some found) = same_keyword found word

abbrev pub begins_with : Keyword → List (Option Keyword) → Bool
begins_with word [] = false
begins_with word (x ∷ xs) = is_word word x

-- SCHEMA comes first, or after SESSION or LOCAL.
abbrev pub names_schema : List (Option Keyword) → Bool
names_schema [] = false
names_schema (x ∷ xs) = if is_word keyword.SESSION x || is_word keyword.LOCAL x then begins_with keyword.SCHEMA xs else is_word keyword.SCHEMA x

-- SET SCHEMA, which is another way to set the search path
abbrev pub sets_schema : Tree → Stmt → Bool
sets_schema tree s = same_kind s.kind stmt.Set && names_schema (drop 1 (words_from tree (s.last + 1) s.first))

-- ---- what rules let through

abbrev pub array_by_parts : Expr-F Bool → Bool
array_by_parts layer.Literal = false
array_by_parts layer.Array = true
array_by_parts (layer.Bin parts) = list_any (λ x. x) parts
array_by_parts (layer.Call name no_args) = false
array_by_parts (layer.Cast x) = x
array_by_parts (layer.Collate x) = x
array_by_parts (layer.Name path) = false
array_by_parts (layer.IsNotNull x) = x
array_by_parts layer.Other = false

-- an array is in the expression, at any depth
unfoldable pub has_array : Expr → Bool
has_array x = fold-Expr Bool array_by_parts x

abbrev pub has_array_in : Option Expr → Bool
has_array_in None = false
has_array_in (Some x) = has_array x

-- a DEFAULT with an array
abbrev pub is_array_default : Constraint → Bool
is_array_default c = same_constraint c.kind con.Default && has_array_in c.expr

-- a column whose default has an array
abbrev pub adds_array : Action → Bool
adds_array a = list_any is_array_default (new_constraints a)

-- REINDEX with a value of its option CONCURRENTLY
abbrev pub is_valued_reindex : Body → Bool
is_valued_reindex (body.Reindex target word concurrent valued path) = valued
is_valued_reindex _ = false

-- ---- the whole

abbrev pub is_unplain : Tree → Stmt → Bool
is_unplain tree s =
    is_unplain_kind s.kind || is_unplain_end s.body || sets_search_path tree s.body || sets_schema tree s
    || is_valued_reindex s.body || list_any adds_array (table_actions s)

-- No statement of the text is one of these.
abbrev pub plain : Tree → Bool
plain tree = not (list_any (is_unplain tree) tree.stmts)
