use Rattle.std.proofs.Common.{take}
use Rattle.gate_report.specs.migration_gate.Verdict.{texts_of}
use Rattle.gate_command.specs.Open.{AllEndOutside}
use Rattle.gate_command.proofs.left_open.first_open.Given as goal

-- no file so far ends inside a transaction
abbrev pub invariant-loop-file : goal.invariant-loop-file
invariant-loop-file l = AllEndOutside (take l.file (texts_of l.files))
