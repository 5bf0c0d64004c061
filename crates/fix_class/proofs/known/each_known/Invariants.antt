use Rattle.std.proofs.Common.{◌≡◌, ◌<◌, ℕ, length, get_or}
use Rattle.std.specs.List.{list_any}
use Rattle.lint_transaction.specs.Earlier.{any_below}
use Rattle.lint_transaction.specs.Transaction.{is_open, stmt_at}
use Rattle.lint_transaction.specs.declared.span_key.SpanKey.TheVariants as by
use Rattle.fix_class.specs.Known.{is_assumed, is_outside_work, known_at, limits, major_of, nothing}
use Rattle.fix_class.specs.Partitioned.{ArePartitioned}
use Rattle.fix_class.proofs.known.each_known.Given as goal

abbrev pub invariant-loop-i : goal.invariant-loop-i
invariant-loop-i l = record {
  count : length l.all.items ≡ l.i;
  transaction : l.transaction ≡ is_open (is_assumed l.settings l.p) l.p l.i;
  limited : l.is_limited ≡ any_below (λ j. limits l.p (stmt_at l.p j)) l.i;
  key : l.partitioned.key ≡ by.Path;
  partitioned : ArePartitioned l.p l.i l.partitioned;
  work : l.has_outside_work ≡ list_any is_outside_work l.p.stmts;
  major : l.major ≡ major_of l.settings;
  each : (k : ℕ) → k < l.i → get_or l.all.items k nothing ≡ known_at l.settings l.p k;
}
