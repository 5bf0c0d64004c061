use Rattle.std.proofs.Common.{◌≡◌, ◌+◌, ◌-◌, ◌≤◌, ◌++◌, length, true}
use Rattle.lint_transaction.specs.Earlier.{concat_below}
use Rattle.lint_transaction.specs.Tracking.{IsTracking}
use Rattle.lint_pass.specs.Blocks.{blocks_of}
use Rattle.lint_pass.proofs.feed.drive.Given as goal

-- the pieces of the statements so far were reported, with a step for each, and what the walk lends is right before the next one
abbrev pub invariant-loop-i : goal.invariant-loop-i
invariant-loop-i g l =
    let pass = g.P.StepPass in
    record {
      tree : l.cursor.tree ≡ l.p;
      within : l.cursor.next ≤ length l.p.stmts;
      state : pass.at l.pass l.state l.p l.rules l.set l.cursor.next;
      blocks : pass.wants l.pass l.rules ≡ true → l.seen.blocks.items ≡ blocks_of l.p;
      created : IsTracking l.p l.set.assume_in_transaction l.cursor.next l.seen.created;
      told : l.out ≡ l.fn.out ++ concat_below (pass.reports_at l.pass l.p l.rules l.set) l.cursor.next;
      steps : l.steps ≤ l.fn.steps + length l.p.stmts + l.cursor.next;
    }

abbrev pub decreases-loop-i : goal.decreases-loop-i
decreases-loop-i g l = length l.p.stmts - l.cursor.next
