-- When each answer of the reader comes.
use Rattle.std.specs.Prelude.{◌≡◌, ◌≤◌, ◌<◌, ◌^◌, ℕ, List, ◌++◌, length, Result, Ok, Err}
use Rattle.sql_token.specs.Token.{Text, OpenAt}
use Rattle.sql_tree.specs.declared.nodes.Stmt.{Stmt}
use Rattle.sql_tree.specs.Statement.{Tree, IsTree, IsSyntaxAt}
use Rattle.sql_read.specs.declared.error.LintError.{LintError}
use Rattle.sql_read.specs.declared.error.LintError.TheVariants.{TooLong, Unterminated, Syntax, NoMemory}
use Rattle.sql_read.specs.declared.reading.Stop.{Stop}
use Rattle.sql_read.specs.declared.reading.Stop.TheVariants as stop

-- the text is too long, or a token never closes, or a statement is not sound or has no form, or memory ran out
abbrev pub IsCause : Text → LintError → Type 0
IsCause t TooLong = 2 ^ 32 ≤ length t
IsCause t (Unterminated at) = (length t < 2 ^ 32) × OpenAt t at
IsCause t (Syntax at) = IsSyntaxAt t at
IsCause t NoMemory = Unit {0}

-- the tree of this text
abbrev pub IsTreeOf : Text → Tree → Type 0
IsTreeOf t tree = (tree.text ≡ t) × IsTree tree

-- this value, unless memory ran out
abbrev pub OkOrNoMemory : {X : Type 0} → Result X LintError → (X → Type 0) → Type 0
OkOrNoMemory (Ok x) P = P x
OkOrNoMemory (Err NoMemory) P = Unit {0}
OkOrNoMemory (Err TooLong) P = ⊥
OkOrNoMemory (Err (Unterminated at)) P = ⊥
OkOrNoMemory (Err (Syntax at)) P = ⊥

-- this refusal, unless memory ran out
abbrev pub ErrOrNoMemory : {X : Type 0} → Result X LintError → LintError → Type 0
ErrOrNoMemory (Ok x) e = ⊥
ErrOrNoMemory (Err NoMemory) e = Unit {0}
ErrOrNoMemory (Err TooLong) e = TooLong ≡ e
ErrOrNoMemory (Err (Unterminated at)) e = Unterminated at ≡ e
ErrOrNoMemory (Err (Syntax at)) e = Syntax at ≡ e

-- these statements, and then those of the reading
abbrev pub after : List Stmt → Result (List Stmt) ℕ → Result (List Stmt) ℕ
after before (Ok stmts) = Ok (before ++ stmts)
after before (Err first) = Err first

-- what the walk over the statements answers
abbrev pub Reads : Result (List Stmt) ℕ → Result (List Stmt) Stop → Type 0
Reads reading (Ok stmts) = reading ≡ Ok stmts
Reads reading (Err (stop.NoForm first)) = reading ≡ Err first
Reads reading (Err stop.NoMemory) = Unit {0}
