-- The lock machine: it numbers the transactions of a text, and knows in which one each table was created (PostgreSQL manual,
-- section 3.4, "Transactions", and the pages of BEGIN, COMMIT and ROLLBACK).
use Rattle.std.specs.Prelude.{ℕ, zero, suc, ◌+◌, Bool, false, ◌&&◌, ◌||◌, not, nat_eq, List, [], ◌∷◌, Option, Some, None, if◌then◌else◌}
use Rattle.std.specs.Map.{lookup}
use Rattle.lint_pass.specs.sql_token.declared.token.Span.{Span}
use Rattle.sql_tree.specs.declared.nodes.Stmt.{Stmt}
use Rattle.sql_tree.specs.Statement.{Tree}
use Rattle.sql_tree.specs.Path.{path_cuts}
use Rattle.lint_pass.specs.lint_transaction.Transaction.{begins, ends, chains, created, same_path, stmt_at}

-- ---- states

-- A state between two statements: the number of the last transaction that was begun, whether it is still open as a block, and
-- the births of tables: the path of each table that was created, with the number of the transaction that created it, the latest
-- first. Number 0 is the transaction that may be open at the start.
pub record Machine : Type 0 where
  pub number : ℕ
  pub in_block : Bool
  pub births : List (List (List ℕ) × ℕ)

-- before the first statement: a block is open where the text is run in a transaction that was begun before it
abbrev pub start : Bool → Machine
start assumed = record { number = 0; in_block = assumed; births = [] }

-- The number of the transaction that the next statement runs in: that of the open block. Outside a block each statement
-- runs in a transaction of its own, which has the next number.
abbrev pub running : Machine → ℕ
running m = if m.in_block then m.number else m.number + 1

-- ---- steps

-- In a block the number goes on only at its end; outside a block each statement takes a number, a BEGIN for its whole block.
abbrev pub number_after : Stmt → Machine → ℕ
number_after s m = if m.in_block && not (ends s) then m.number else m.number + 1

-- A BEGIN opens a block, and changes nothing in an open one. An end closes it, unless AND CHAIN opens the next one at once.
abbrev pub block_after : Stmt → Machine → Bool
block_after s m = if ends s then chains s else begins s || m.in_block

-- A table that is created is born in the running transaction.
abbrev pub births_with : Tree → Option Span → ℕ → List (List (List ℕ) × ℕ) → List (List (List ℕ) × ℕ)
births_with tree None number births = births
births_with tree (Some path) number births = (path_cuts tree.text tree.toks path, number) ∷ births

-- the state after a statement
abbrev pub after : Tree → Stmt → Machine → Machine
after tree s m = record {
  number = number_after s m;
  in_block = block_after s m;
  births = births_with tree (created s) (running m) m.births;
}

-- the state before statement i, counted from 0
abbrev pub before : Bool → Tree → ℕ → Machine
before assumed tree zero = start assumed
before assumed tree (suc i) = after tree (stmt_at tree i) (before assumed tree i)

-- ---- ages

-- the transaction in which the table of this path was created last, where the text creates it
abbrev pub birth : Machine → List (List ℕ) → Option ℕ
birth m path = lookup (same_path path) m.births

abbrev pub is_number : ℕ → Option ℕ → Bool
is_number number None = false
is_number number (Some born) = nat_eq born number

-- The running transaction created the table of this path: nobody else has seen it yet, so nobody waits for its locks.
abbrev pub is_young : Machine → List (List ℕ) → Bool
is_young m path = is_number (running m) (birth m path)
