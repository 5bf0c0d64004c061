use Rattle.std.proofs.Common.{List, ℕ}
use Rattle.std.specs.Borrow.{Bor}
use Rattle.text_diff.proofs.Sides.{rest_left}
use Rattle.text_diff.proofs.script.script.Goals as goal

pub lines-preserved : goal.lines-preserved
lines-preserved c = record {
  old_side = rest_left (λ (line : Bor (List ℕ)). line.now) c.lines.old_rest.now c.in_ok-piece.piece.old _ _ _ c.lines.invariant.old_side c.in_ok-piece.ensures.old_side;
  new_side = rest_left (λ (line : Bor (List ℕ)). line.now) c.lines.new_rest.now c.in_ok-piece.piece.new _ _ _ c.lines.invariant.new_side c.in_ok-piece.ensures.new_side;
}
