use Rattle.std.proofs.Common.{◌≡◌, false, ℕ, List, take}
use Rattle.hazard_base.specs.text_pos.Line.{line_feeds}
use Rattle.hazard_ignore.specs.Covered.{is_used}
use Rattle.hazard_ignore.proofs.covered.is_used.Given as goal

-- none of the findings so far
abbrev pub invariant-loop-f : goal.invariant-loop-f
invariant-loop-f l = (text : List ℕ) → l.lines ≡ line_feeds text → is_used text (take l.f-index l.found) l.n ≡ false
