use Rattle.std.proofs.Common.{length, ◌-◌}
use Rattle.statement_place.specs.Statements.{IsCursor}
use Rattle.statement_place.proofs.cursor.go_past.Given as goal

-- the statements so far end at or before the place
abbrev pub invariant-loop-stmt : goal.invariant-loop-stmt
invariant-loop-stmt l = IsCursor l.file (record { number = l.number; place = l.place })

abbrev pub decreases-loop-stmt : goal.decreases-loop-stmt
decreases-loop-stmt l = length l.stmts - l.number
