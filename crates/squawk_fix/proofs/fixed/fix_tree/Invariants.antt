use Rattle.std.proofs.Common.{◌≡◌, ◌-◌}
use Rattle.std.specs.Prelude.{string_bytes}
use Rattle.law_next_fix.specs.law_fix_steps.Step.{load}
use Rattle.law_next_fix.specs.squawk_linter.Reports.{cleared}
use Rattle.squawk_fix.proofs.Stages.{Stage}
use Rattle.squawk_fix.proofs.fixed.fix_tree.Given as goal

abbrev pub invariant-loop-made : goal.invariant-loop-made
invariant-loop-made l = record {
  stage : Stage l.file l.fn.linter.rules l.fn.linter.settings (string_bytes l.made) l.applied l.left.items;
  rules : l.linter.rules ≡ l.fn.linter.rules;
  settings : l.linter.settings ≡ cleared l.file l.fn.linter.settings;
}

abbrev pub decreases-loop-made : goal.decreases-loop-made
decreases-loop-made l = load l.file l.fn.linter.rules (cleared l.file l.fn.linter.settings) - l.applied
