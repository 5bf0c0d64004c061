use Rattle.std.proofs.Common.{◌≡◌, false, take}
use Rattle.std.specs.List.{list_any}
use Rattle.lint_transaction.specs.SpanKey.{key_of}
use Rattle.lint_transaction.specs.SpanSet.{has_names}
use Rattle.lint_transaction.proofs.span_set.SpanSet.is_other.Given as goal

-- none of the spans so far has the names
abbrev pub invariant-loop-other : goal.invariant-loop-other
invariant-loop-other l = list_any (has_names l.self.key l.p (key_of l.self.key l.p l.fn.span)) (take l.other-index l.other-items) ≡ false
