use Rattle.std.proofs.Common.{◌≡◌, false, take}
use Rattle.std.specs.List.{list_any}
use Rattle.code_choice.specs.Choices.{is_no_hazards}
use Rattle.code_choice.proofs.read.has_no_hazards.Given as goal

-- none of the words so far is
abbrev pub invariant-loop-i : goal.invariant-loop-i
invariant-loop-i l = list_any is_no_hazards (take l.i l.words) ≡ false
