use Rattle.std.proofs.Common.{◌≡◌, true, take}
use Rattle.std.specs.List.{list_all}
use Rattle.pass_constraint.specs.Volatility.{is_non_volatile_or_const}
use Rattle.pass_constraint.proofs.volatility.+is_non_volatile_or_const.Given as goal

-- none of the parts so far is volatile
abbrev pub invariant-are_non_volatile_or_const-loop-part : goal.invariant-are_non_volatile_or_const-loop-part
invariant-are_non_volatile_or_const-loop-part l = list_all (is_non_volatile_or_const l.names l.p) (take l.part-index l.parts) ≡ true
