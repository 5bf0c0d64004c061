use Rattle.std.proofs.Common.{◌≡◌, take}
use Rattle.code_choice.specs.Choices.{rules_among}
use Rattle.code_choice.proofs.lists.rules_among.Given as goal

-- the rules among the codes so far
abbrev pub invariant-loop-code : goal.invariant-loop-code
invariant-loop-code l = l.rules.items ≡ rules_among (take l.code-index l.codes)
