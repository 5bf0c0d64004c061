use Rattle.std.proofs.Common.{◌≡◌, length}
use Rattle.lint_base.specs.Rules.{rule_count}
use Rattle.squawk_generate.proofs.Counting.{CountsBelow}
use Rattle.squawk_generate.proofs.counts.counts_of.Given as goal

abbrev pub invariant-loop-violation : goal.invariant-loop-violation
invariant-loop-violation l = record {
  all : length l.counts ≡ rule_count;
  counted : CountsBelow l.counts l.violations l.violation-index;
}
