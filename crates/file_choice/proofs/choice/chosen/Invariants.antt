use Rattle.std.proofs.Common.{◌≡◌, ℕ, List, take}
use Rattle.std.specs.BTreeSet.{contains_text}
use Rattle.file_choice.specs.Choice.{chosen_of, is_among}
use Rattle.file_choice.proofs.Steps.{chosen_from}
use Rattle.file_choice.proofs.choice.chosen.Given as goal

-- what was chosen and what is chosen of the rest is what is chosen of all, and the set has the names so far
abbrev pub invariant-loop-i : goal.invariant-loop-i
invariant-loop-i l = record {
  done : chosen_from l.patterns l.names l.all l.i ≡ chosen_of l.patterns l.names;
  seen : (other : List ℕ) → contains_text l.seen other ≡ is_among (take l.i l.names) other;
}
