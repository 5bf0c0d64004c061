use Rattle.std.proofs.Common.{◌≡◌, take}
use Rattle.std.specs.List.{filter_map}
use Rattle.pass_name.specs.Members as spec
use Rattle.pass_name.proofs.lists.columns_of.Given as goal

abbrev pub invariant-loop-e : goal.invariant-loop-e
invariant-loop-e l = l.names.items ≡ filter_map spec.column_of (take l.e-index l.elems)
