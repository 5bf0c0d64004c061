use Rattle.std.proofs.Common.{◌≡◌, drop}
use Rattle.explain_command.specs.Words.{first_option}
use Rattle.explain_command.proofs.choice.first_option.Given as goal

-- none of the words so far is an option
abbrev pub invariant-loop-i : goal.invariant-loop-i
invariant-loop-i l = first_option (drop l.i l.words) ≡ first_option (drop 1 l.words)
