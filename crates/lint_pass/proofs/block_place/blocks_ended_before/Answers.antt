use Rattle.std.proofs.Common.{length, arith}
use Rattle.lint_pass.proofs.BlockPlaces.{next_ends, next_stays}
use Rattle.lint_pass.proofs.block_place.blocks_ended_before.Goals as goal
use Rattle.lint_pass.proofs.block_place.blocks_ended_before.Goals.{else-next-blocks-via-then-next-blocks+else-blocks-next, else-next-blocks-via-else-next-blocks}

pub returns-then-blocks-next : goal.returns-then-blocks-next
returns-then-blocks-next c =
    next_ends c.args._p.now c.args.i (length c.args._p.now.stmts) c.args.next c.args.blocks.now (record { first = 0; last = 0 }) c.requires.within c.requires.blocks c.requires.next
    c.if-next-blocks.true c.if-blocks-next.true

pub returns-else-next-blocks : goal.returns-else-next-blocks
returns-else-next-blocks c =
    let stays = next_stays c.args._p.now c.args.i (length c.args._p.now.stmts) c.args.next c.args.blocks.now (record { first = 0; last = 0 }) c.requires.within c.requires.blocks c.requires.next in
    elim c.else-next-blocks.branch [
      | else-next-blocks-via-then-next-blocks+else-blocks-next w ↦ stays (λ l. w.if-blocks-next.false)
      | else-next-blocks-via-else-next-blocks w ↦ stays (λ l e. let none = w.if-next-blocks.false in omega arith)
    ]
