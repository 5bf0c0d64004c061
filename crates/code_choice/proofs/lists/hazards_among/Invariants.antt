use Rattle.std.proofs.Common.{◌≡◌, take}
use Rattle.code_choice.specs.Choices.{hazards_among}
use Rattle.code_choice.proofs.lists.hazards_among.Given as goal

-- the hazards among the codes so far
abbrev pub invariant-loop-code : goal.invariant-loop-code
invariant-loop-code l = l.hazards.items ≡ hazards_among (take l.code-index l.codes)
