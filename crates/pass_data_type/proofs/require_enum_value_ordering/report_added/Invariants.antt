use Rattle.std.proofs.Common.{◌≡◌, ◌++◌, take}
use Rattle.lint_pass.specs.Those.{those}
use Rattle.pass_data_type.specs.RequireEnumValueOrdering as spec
use Rattle.pass_data_type.specs.RequireEnumValueOrdering.{adds_last}
use Rattle.pass_data_type.proofs.require_enum_value_ordering.report_added.Given as goal

-- what came so far was reported
abbrev pub invariant-loop-a : goal.invariant-loop-a
invariant-loop-a l = l.out ≡ l.fn.out ++ those adds_last (spec.report l.p) (take l.a-index l.actions)
