use Rattle.std.proofs.Common.{◌≡◌, take}
use Rattle.std.specs.Option.{option_map}
use Rattle.lint_transaction.specs.Events.{last_event}
use Rattle.lint_transaction.specs.SpanKey.{key_of}
use Rattle.lint_transaction.specs.SpanMap.{is_for}
use Rattle.lint_transaction.proofs.span_map.SpanMap.other_value.Given as goal

-- the last value so far
abbrev pub invariant-loop-kept : goal.invariant-loop-kept
invariant-loop-kept g l = l.value ≡ option_map (λ kept. kept.value) (last_event (is_for l.self.key l.p (key_of l.self.key l.p l.fn.span)) (take l.kept-index l.kept-items))
