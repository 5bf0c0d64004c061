use Rattle.std.proofs.Common.{◌≡◌, ◌++◌, ℕ, List, take}
use Rattle.std.specs.List.{flat_map}
use Rattle.hazard_base.specs.text_pos.Line.{line_feeds}
use Rattle.hazard_ignore.specs.Covered.{named_in}
use Rattle.hazard_ignore.proofs.covered.push_names.Given as goal

abbrev pub invariant-loop-v : goal.invariant-loop-v
invariant-loop-v l = (text : List ℕ) → l.lines ≡ line_feeds text → l.names.items ≡ l.fn.names.items ++ flat_map (named_in text l.g) (take l.v-index l.unknown)
