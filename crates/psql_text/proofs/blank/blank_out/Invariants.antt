use Rattle.std.proofs.Common.{◌≡◌, ℕ, ◌<◌, length, get_or}
use Rattle.psql_text.specs.Psql.{byte_blanked}
use Rattle.psql_text.proofs.blank.blank_out.Given as goal

abbrev pub invariant-loop-at : goal.invariant-loop-at
invariant-loop-at l = record {
  same : length l.text.items ≡ length l.initial.text.items;
  each : (k : ℕ) → k < length l.initial.text.items → get_or l.text.items k 0 ≡ byte_blanked (record { kind = l.part.kind; from = l.part.from; to = l.at }) l.initial.text.items k;
}
