use Rattle.std.proofs.Common.{◌≡◌, take}
use Rattle.fix_command.proofs.fixer.copied_names.Given as goal

-- the names so far were copied
abbrev pub invariant-loop-i : goal.invariant-loop-i
invariant-loop-i l = l.copy ≡ take l.i l.names
