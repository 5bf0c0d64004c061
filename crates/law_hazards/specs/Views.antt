-- Materialized views that are made and filled (PostgreSQL manual, CREATE MATERIALIZED VIEW and REFRESH MATERIALIZED VIEW).
use Rattle.std.specs.Prelude.{◌≡◌, ◌<◌, ℕ, true, List, [], ◌∷◌, codes, drop, if◌then◌else◌}
use Rattle.std.specs.List.{flat_map}
use Rattle.std.specs.Str.{bytes_eq}
use Rattle.law_renumber.specs.sql_keyword.declared.words.TheConstants.Keyword as keyword
use Rattle.law_renumber.specs.sql_token.declared.token.Tok.{Tok}
use Rattle.law_renumber.specs.sql_token.Token.{Text, text_of}
use Rattle.law_renumber.specs.sql_tree.declared.kinds.StmtKind.TheVariants as stmt
use Rattle.law_renumber.specs.sql_tree.Path.{name_cuts}
use Rattle.law_renumber.specs.sql_tree.Statement.{Tree}
use Rattle.hazard_find.specs.lint_transaction.Transaction.{stmt_at}
use Rattle.law_hazards.specs.Words.{begin_with, statement_tokens}

-- a dot and the token behind it, where the tokens begin with them, and what comes of the others
abbrev pub one_more : Text → (List Tok → List Tok) → List Tok → List Tok
one_more t others [] = []
one_more t others (dot ∷ []) = []
one_more t others (dot ∷ tok ∷ toks) = if bytes_eq (text_of t dot) (codes ".") then dot ∷ tok ∷ others toks else []

-- the tokens of a path: the first one, and what two dots add
abbrev pub path_tokens : Text → List Tok → List Tok
path_tokens t [] = []
path_tokens t (tok ∷ toks) = tok ∷ one_more t (one_more t (λ others. [])) toks

-- the names of the path that the tokens begin with, each cut to what PostgreSQL tells names apart by
abbrev pub path_names : Text → List Tok → List (List ℕ)
path_names t toks = flat_map (name_cuts t) (path_tokens t toks)

-- the tokens without IF NOT EXISTS at their front
abbrev pub without_guard : Text → List Tok → List Tok
without_guard t toks = if begin_with t (keyword.IF ∷ keyword.NOT ∷ keyword.EXISTS ∷ []) toks then drop 3 toks else toks

-- Statement i fills a view, and an earlier statement makes the view of that name, perhaps with IF NOT EXISTS.
pub record IsMadeFirst (tree : Tree) (i : ℕ) : Type 0 where
  pub number : ℕ
  pub is_earlier : number < i
  pub makes : (stmt_at tree number).kind ≡ stmt.CreateMaterializedView
  pub made : begin_with tree.text (keyword.CREATE ∷ keyword.MATERIALIZED ∷ keyword.VIEW ∷ []) (statement_tokens tree (stmt_at tree number)) ≡ true
  pub filled : begin_with tree.text (keyword.REFRESH ∷ keyword.MATERIALIZED ∷ keyword.VIEW ∷ []) (statement_tokens tree (stmt_at tree i)) ≡ true
  pub same_view : path_names tree.text (drop 3 (statement_tokens tree (stmt_at tree i)))
      ≡ path_names tree.text (without_guard tree.text (drop 3 (statement_tokens tree (stmt_at tree number))))
