-- Whole texts under a map that keeps what reading sees: the same statements, or the same fault, with its numbers changed alike.
use Rattle.std.specs.Prelude.{◌≡◌, ℕ, List, map, Result, Ok, Err}
use Rattle.std.specs.List.{All}
use Rattle.sql_token.specs.declared.terminal.Terminal.{Terminal}
use Rattle.sql_token.specs.declared.token.Tok.{Tok}
use Rattle.sql_token.specs.Depth.{statements}
use Rattle.sql_token.specs.Terminal.{terminals}
use Rattle.sql_token.specs.Token.{Text}
use Rattle.sql_tree.specs.declared.nodes.Stmt.{Stmt}
use Rattle.sql_tree.specs.Statement.{all_statements, read_tokens}
use Rattle.law_renumber.specs.Moved.{stmt_moved}
use Rattle.law_renumber.specs.Options.{StatementKept}

-- statements, or the token at which reading fails, under other numbers
abbrev pub reading_moved : (ℕ → ℕ) → Result (List Stmt) ℕ → Result (List Stmt) ℕ
reading_moved f (Ok stmts) = Ok (map (stmt_moved f) stmts)
reading_moved f (Err number) = Err (f number)

abbrev pub StatementsRenumber : (Terminal → Terminal) → (ℕ → ℕ) → Type 0
StatementsRenumber g f =
    (ts : List Terminal) → statements (map g ts) ≡ map (map g) (statements ts)

abbrev pub ReadingRenumbers : (Terminal → Terminal) → (ℕ → ℕ) → Type 0
ReadingRenumbers g f =
    (ts : List Terminal) → All (StatementKept g) (statements ts) →
    all_statements (statements (map g ts)) ≡ reading_moved f (all_statements (statements ts))

-- A text whose terminals are those of another text under such a map is read alike.
abbrev pub TextRenumbers : (Terminal → Terminal) → (ℕ → ℕ) → Type 0
TextRenumbers g f =
    (t u : Text) (ks ls : List Tok) → terminals u ls ≡ map g (terminals t ks) → All (StatementKept g) (statements (terminals t ks)) →
    read_tokens u ls ≡ reading_moved f (read_tokens t ks)
