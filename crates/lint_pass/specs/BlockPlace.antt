-- Which statements lie in a block that Alembic writes, by a walk that keeps the number of the next block.
use Rattle.std.specs.Prelude.{ℕ, Bool, false, ◌&&◌, nat_le, List, [], ◌∷◌}
use Rattle.std.specs.List.{list_any}
use Rattle.lint_ignore.specs.sql_tree.Statement.{Tree}
use Rattle.lint_pass.specs.declared.blocks.Block.{Block}
use Rattle.lint_pass.specs.Blocks.{blocks_of, block_to}
use Rattle.lint_transaction.specs.Earlier.{concat_below}

-- statement i lies in the block
abbrev pub covers : ℕ → Block → Bool
covers i b = nat_le b.first i && nat_le i b.last

abbrev pub in_block : Tree → ℕ → Bool
in_block tree i = list_any (covers i) (blocks_of tree)

-- the blocks that end before statement i
abbrev pub ended_before : Tree → ℕ → List Block
ended_before tree i = concat_below (block_to tree) i

-- the first block begins before statement i, or with it
abbrev pub starts_by : ℕ → List Block → Bool
starts_by i [] = false
starts_by i (b ∷ bs) = nat_le b.first i
