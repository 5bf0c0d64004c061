use Rattle.std.proofs.Common.{◌∙◌, length, ap, arith}
use Rattle.lint_ignore.specs.sql_tree.Statement.{Tree}
use Rattle.lint_pass.proofs.BlockLaws.{opening_walked, found_walked}
use Rattle.lint_pass.proofs.blocks.find_blocks.Goals as goal

pub loop-i-preserved : goal.loop-i-preserved
loop-i-preserved g c =
    let was = c.loop-i.invariant in
    let next = c.in-Some.ensures in
    record {
      tree = next.tree ∙ was.tree;
      file = was.file;
      within = omega (arith, next.next, next.within, ap (λ (t : Tree). length t.stmts) was.tree);
      opening = opening_walked _ _ _ _ _ _ _ _ _ was.tree was.file next.number next.next next.stmt c.in_ok-go_after.ensures.opening was.opening;
      found = found_walked _ _ _ _ _ _ _ _ _ was.tree next.number next.next next.stmt c.in_ok-go_after.ensures.found was.opening was.found;
      steps = omega (arith, next.next, next.steps, was.steps);
    }
