use Rattle.std.proofs.Common.{◌≡◌, false, map, take}
use Rattle.std.specs.List.{list_any}
use Rattle.squawk_run.specs.ForeignWords.{is_foreign_word}
use Rattle.squawk_run.proofs.foreign.has_foreign_word.Given as goal

-- none of the words so far is
abbrev pub invariant-loop-i : goal.invariant-loop-i
invariant-loop-i l = list_any (is_foreign_word (map (λ n. n.now) l.names)) (take l.i l.words) ≡ false
