use Rattle.std.proofs.Common.{◌≡◌, ◌≤◌, ◌-◌, length, take, true}
use Rattle.std.specs.List.{list_all}
use Rattle.lint_base.specs.PlainBytes.{is_plain}
use Rattle.squawk_print.proofs.escape.is_long_plain.Given as goal

abbrev pub invariant-looking : goal.invariant-looking
invariant-looking l = record {
  within : l.at ≤ length l.text;
  plain : list_all is_plain (take l.at l.text) ≡ true;
}

abbrev pub decreases-looking : goal.decreases-looking
decreases-looking l = length l.text - l.at
