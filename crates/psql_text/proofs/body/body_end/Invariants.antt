use Rattle.std.proofs.Common.{◌≡◌, ◌≤◌, ◌-◌, ℕ, List, Option, length}
use Rattle.psql_text.specs.Psql.{BodyFrom, IsBody}
use Rattle.psql_text.specs.Reading.{MayFollow, block_of}
use Rattle.psql_text.specs.declared.mark.Mark.{Mark}
use Rattle.psql_text.proofs.body.body_end.Given as goal

abbrev pub invariant-loop-at : goal.invariant-loop-at
invariant-loop-at l = record {
  from : l.from ≤ l.at;
  opened : l.block.opened ≤ l.at;
  closed : l.block.closed ≤ l.at;
  begun : l.block.begun ≤ l.at;
  ended : l.block.ended ≤ l.at;
  signs : MayFollow l.text l.at l.is_after_operator;
  goes : (ms : List Mark) × (l.block ≡ block_of ms) × ((to : Option ℕ) → BodyFrom l.text l.at ms to → IsBody l.text l.from to);
}

abbrev pub decreases-loop-at : goal.decreases-loop-at
decreases-loop-at l = length l.text - l.at
