use Rattle.std.proofs.Common.{◌≡◌, drop, map}
use Rattle.check_words.specs.Steps.{first_unknown}
use Rattle.check_words.proofs.lists.first_unnamed.Given as goal

-- what is found among the items that are left is found among all
abbrev pub invariant-loop-item : goal.invariant-loop-item
invariant-loop-item l = first_unknown (map (λ s. s.now) (drop l.item-index l.items)) ≡ first_unknown (map (λ s. s.now) l.items)
