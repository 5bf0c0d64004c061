use Rattle.std.proofs.Common.{◌≡◌, drop}
use Rattle.file_choice.specs.Choice.{is_excluded}
use Rattle.file_choice.proofs.choice.is_excluded.Given as goal

-- what the rest of the patterns say is what all say
abbrev pub invariant-loop-i : goal.invariant-loop-i
invariant-loop-i l = is_excluded (drop l.i l.patterns) l.path ≡ is_excluded l.patterns l.path
