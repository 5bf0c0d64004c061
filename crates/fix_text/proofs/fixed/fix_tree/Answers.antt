use Rattle.std.proofs.Common.{◌≡◌, ◌∙◌, ap, arith, Some, None}
use Rattle.std.specs.Prelude.{option_map, string_bytes}
use Rattle.law_next_fix.specs.squawk_linter.declared.linter.Linter.{Linter}
use Rattle.law_next_fix.specs.squawk_linter.Reports.{cleared}
use Rattle.fix_text.proofs.Stages.{ended, look_here, next}
use Rattle.fix_text.specs.Others.{others_of}
use Rattle.other_fix.specs.lint_base.declared.settings.LinterSettings.{LinterSettings}
use Rattle.other_fix.specs.lint_base.RuleSets.{Rules}
use Rattle.law_next_fix.specs.squawk_linter.Answers.{reports}
use Rattle.fix_text.proofs.fixed.fix_tree.Goals as goal

pub overflow_add-applied : goal.overflow_add-applied
overflow_add-applied c =
    let file = c.args.file.now in
    let rules = c.args.linter.now.rules in
    let settings = c.args.linter.now.settings in
    let l = c.fixing in
    let found = look_here c.args.wide l.linter.rules rules l.linter.settings (cleared file settings) c.as_str.result.now (string_bytes l.made) c.in_ok-left.field-0.left.items
    (option_map string_bytes c.in_ok-left.field-0.next) (Some (string_bytes c.in-Some.text)) l.invariant.rules l.invariant.settings c.as_str.ensures.value (ap (option_map string_bytes) c.in-Some.is) c.in_ok-left.ensures.found in
    let stage = next file c.args.wide rules settings c.fitting_fixes_step.ensures.steps
    (string_bytes l.made) l.applied c.in_ok-left.field-0.left.items (string_bytes c.in-Some.text) l.invariant.stage found in
    let few = stage.few in
    let small = c.load_is_small.ensures file rules (cleared file settings) c.text.ensures.tree in
    omega (arith, few, small)

pub fixing-smaller : goal.fixing-smaller
fixing-smaller c =
    let file = c.args.file.now in
    let rules = c.args.linter.now.rules in
    let settings = c.args.linter.now.settings in
    let l = c.fixing in
    let found = look_here c.args.wide l.linter.rules rules l.linter.settings (cleared file settings) c.as_str.result.now (string_bytes l.made) c.in_ok-left.field-0.left.items
    (option_map string_bytes c.in_ok-left.field-0.next) (Some (string_bytes c.in-Some.text)) l.invariant.rules l.invariant.settings c.as_str.ensures.value (ap (option_map string_bytes) c.in-Some.is) c.in_ok-left.ensures.found in
    let stage = next file c.args.wide rules settings c.fitting_fixes_step.ensures.steps
    (string_bytes l.made) l.applied c.in_ok-left.field-0.left.items (string_bytes c.in-Some.text) l.invariant.stage found in
    let few = stage.few in
    omega (arith, few)

pub fixing-preserved : goal.fixing-preserved
fixing-preserved c =
    let file = c.args.file.now in
    let rules = c.args.linter.now.rules in
    let settings = c.args.linter.now.settings in
    let l = c.fixing in
    let found = look_here c.args.wide l.linter.rules rules l.linter.settings (cleared file settings) c.as_str.result.now (string_bytes l.made) c.in_ok-left.field-0.left.items
    (option_map string_bytes c.in_ok-left.field-0.next) (Some (string_bytes c.in-Some.text)) l.invariant.rules l.invariant.settings c.as_str.ensures.value (ap (option_map string_bytes) c.in-Some.is) c.in_ok-left.ensures.found in
    let stage = next file c.args.wide rules settings c.fitting_fixes_step.ensures.steps
    (string_bytes l.made) l.applied c.in_ok-left.field-0.left.items (string_bytes c.in-Some.text) l.invariant.stage found in
    record {
      stage = stage;
      rules = ap (λ (x : Linter). x.rules) c.in_ok-left.ensures.same ∙ l.invariant.rules;
      settings = ap (λ (x : Linter). x.settings) c.in_ok-left.ensures.same ∙ l.invariant.settings;
    }

pub returns-in-None-clause-fixed : goal.returns-in-None-clause-fixed
returns-in-None-clause-fixed c =
    let file = c.args.file.now in
    let wide = c.args.wide in
    let rules = c.args.linter.now.rules in
    let settings = c.args.linter.now.settings in
    let l = c.fixing in
    let found = look_here wide l.linter.rules rules l.linter.settings (cleared file settings) c.as_str.result.now (string_bytes l.made) c.in_ok-left.field-0.left.items
    (option_map string_bytes c.in_ok-left.field-0.next) None l.invariant.rules l.invariant.settings c.as_str.ensures.value (ap (option_map string_bytes) c.in-None.is) c.in_ok-left.ensures.found in
    let are : c.in_ok-others.others.items ≡ others_of wide (cleared file settings) file (reports file rules (cleared file settings)) =
    c.in_ok-others.ensures.others ∙ ap (λ (r : Rules). others_of wide c.clear.new.linter.settings file (reports file r c.clear.new.linter.settings)) c.clear.ensures.rules
    ∙ ap (λ (s : LinterSettings). others_of wide s file (reports file rules s)) c.clear.ensures.settings in
    ended file wide rules settings (string_bytes l.made) l.applied c.in_ok-left.field-0.left.items c.in_ok-others.others.items l.invariant.stage found are
