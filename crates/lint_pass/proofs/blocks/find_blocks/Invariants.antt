use Rattle.std.proofs.Common.{◌≡◌, ◌+◌, ◌-◌, ◌≤◌, length}
use Rattle.std.specs.Option.{option_to_list}
use Rattle.lint_transaction.specs.Earlier.{concat_below}
use Rattle.lint_pass.specs.Blocks.{block_to}
use Rattle.lint_pass.specs.BlockWalk.{openings}
use Rattle.lint_pass.proofs.blocks.find_blocks.Given as goal

-- the blocks that the statements so far end were found, with a step for each
abbrev pub invariant-loop-i : goal.invariant-loop-i
invariant-loop-i g l = record {
  tree : l.cursor.tree ≡ l.fn.cursor.tree;
  file : l.p ≡ l.fn.cursor.tree;
  within : l.cursor.next ≤ length l.fn.cursor.tree.stmts;
  opening : option_to_list l.opening ≡ openings l.fn.cursor.tree l.cursor.next;
  found : l.blocks.items ≡ concat_below (block_to l.fn.cursor.tree) l.cursor.next;
  steps : l.steps ≡ l.fn.steps + l.cursor.next;
}

abbrev pub decreases-loop-i : goal.decreases-loop-i
decreases-loop-i g l = length l.fn.cursor.tree.stmts - l.cursor.next
