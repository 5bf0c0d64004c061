use Rattle.std.proofs.Common.{◌≡◌, ◌++◌, ℕ, List, take}
use Rattle.std.specs.List.{flat_map}
use Rattle.hazard_base.specs.text_pos.Line.{line_feeds}
use Rattle.hazard_ignore.specs.Covered.{unused_name}
use Rattle.hazard_ignore.proofs.covered.unused_among.Given as goal

abbrev pub invariant-loop-n : goal.invariant-loop-n
invariant-loop-n l = (text : List ℕ) → l.lines ≡ line_feeds text → l.reports.items ≡ flat_map (unused_name text l.found l.enabled) (take l.n-index l.names)
