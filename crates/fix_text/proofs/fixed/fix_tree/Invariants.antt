use Rattle.std.proofs.Common.{◌≡◌, ◌-◌}
use Rattle.std.specs.Prelude.{string_bytes}
use Rattle.law_next_fix.specs.law_fix_steps.Step.{load}
use Rattle.law_next_fix.specs.squawk_linter.Reports.{cleared}
use Rattle.fix_text.proofs.Stages.{Stage}
use Rattle.fix_text.proofs.fixed.fix_tree.Given as goal

abbrev pub invariant-fixing : goal.invariant-fixing
invariant-fixing l = record {
  stage : Stage l.file l.wide l.fn.linter.rules l.fn.linter.settings l.applied (string_bytes l.made);
  rules : l.linter.rules ≡ l.fn.linter.rules;
  settings : l.linter.settings ≡ cleared l.file l.fn.linter.settings;
}

abbrev pub decreases-fixing : goal.decreases-fixing
decreases-fixing l = load l.file l.fn.linter.rules (cleared l.file l.fn.linter.settings) - l.applied
