use Rattle.std.proofs.Common.{◌≡◌, ◌++◌, ℕ, List, take}
use Rattle.hazard_base.specs.text_pos.Line.{line_feeds}
use Rattle.hazard_ignore.specs.Covered.{names_of}
use Rattle.hazard_ignore.proofs.covered.names_of.Given as goal

abbrev pub invariant-loop-g : goal.invariant-loop-g
invariant-loop-g l = (text : List ℕ) → l.lines ≡ line_feeds text → l.names.items ≡ names_of text l.unknown (take l.g-index l.ignores)
