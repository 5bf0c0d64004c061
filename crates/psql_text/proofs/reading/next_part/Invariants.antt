use Rattle.std.proofs.Common.{◌≡◌, ◌≤◌, ◌-◌, List, length}
use Rattle.psql_text.specs.declared.mark.Mark.{Mark}
use Rattle.psql_text.specs.Reading.{IsPlace, GoesTo, MayFollow, state, summary}
use Rattle.psql_text.proofs.reading.next_part.Given as goal

abbrev pub invariant-loop-now : goal.invariant-loop-now
invariant-loop-now l = record {
  place : IsPlace l.text l.now;
  begun : l.fn.reading.at ≤ l.now.at;
  taken : l.fn.reading.taken ≤ l.now.taken;
  signs : MayFollow l.text l.now.at l.is_after_operator;
  goes : (ms : List Mark) → l.fn.reading.statement ≡ summary ms → GoesTo l.text (state l.text l.fn.reading ms) l.now;
}

abbrev pub decreases-loop-now : goal.decreases-loop-now
decreases-loop-now l = length l.text - l.now.at
