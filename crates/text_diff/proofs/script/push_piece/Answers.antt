use Rattle.std.proofs.Common.{List, ℕ, ◌∙◌, ◌++◌, ap}
use Rattle.std.specs.Borrow.{Bor}
use Rattle.text_diff.specs.Script.{new_lines}
use Rattle.text_diff.proofs.Sides.{two_pieces}
use Rattle.text_diff.proofs.script.push_piece.Goals as goal

pub returns-clause-old_side : goal.returns-clause-old_side
returns-clause-old_side c =
    two_pieces (λ (line : Bor (List ℕ)). line.now) c.args.old.now c.same_front-kept.result c.in_ok-gap.gap.old _ _ _ c.in_ok-push_all.ensures.old_side c.in_ok-gap.ensures.old_side

pub returns-clause-new_side : goal.returns-clause-new_side
returns-clause-new_side c =
    two_pieces (λ (line : Bor (List ℕ)). line.now) c.args.new.now c.same_front-kept.result c.in_ok-gap.gap.new _ _ _
    (c.in_ok-push_all.ensures.new_side ∙ ap (λ (l : List (List ℕ)). new_lines c.args.steps.now.items ++ l) c.same_front-kept.ensures.same) c.in_ok-gap.ensures.new_side
