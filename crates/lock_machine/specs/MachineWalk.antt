-- What a walk over the statements of a tree keeps of the machine's state.
use Rattle.std.specs.Prelude.{◌≡◌, ℕ, Bool, List}
use Rattle.sql_tree.specs.Statement.{Tree}
use Rattle.lint_pass.specs.lint_transaction.SpanMap.{Values, get_span}
use Rattle.lock_machine.specs.Machine.{Machine, birth}

-- the number, the mark, and the births by spans of the text
pub record Kept : Type 0 where
  pub number : ℕ
  pub in_block : Bool
  pub births : Values ℕ

-- what the walk keeps is this state of the lock machine
pub record IsMachine (tree : Tree) (m : Machine) (kept : Kept) : Type 0 where
  pub same_number : kept.number ≡ m.number
  pub same_block : kept.in_block ≡ m.in_block
  pub same_births : (path : List (List ℕ)) → get_span tree kept.births path ≡ birth m path
