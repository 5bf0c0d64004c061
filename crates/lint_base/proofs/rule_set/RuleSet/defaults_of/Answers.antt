use Rattle.std.proofs.Common.{arith, ◌<◌, length, sym, ◌∙◌}
use Rattle.lint_base.proofs.RuleSets.{rules_in-more, rules_in-same}
use Rattle.lint_base.proofs.rule_set.RuleSet.defaults_of.Goals as goal
use Rattle.lint_base.proofs.rule_set.RuleSet.defaults_of.Goals.{then-not-is_opt_in, else-not-is_opt_in}

pub loop-rule-preserved : goal.loop-rule-preserved
loop-rule-preserved c =
    elim c.if-not-is_opt_in.branch [
      | then-not-is_opt_in w ↦
          let within : c.loop-rule.rule-index < length c.args.rules.now = omega arith in
          w.set-is ∙ (w.insert.ensures.value ∙ (rw c.loop-rule.invariant (sym (rules_in-more c.args.rules.now c.loop-rule.rule-index _ within (sym c.is_opt_in.ensures ∙ w.if-not-is_opt_in.true)))))
      | else-not-is_opt_in w ↦
          let within : c.loop-rule.rule-index < length c.args.rules.now = omega arith in
          w.set-is ∙ (c.loop-rule.invariant ∙ sym (rules_in-same c.args.rules.now c.loop-rule.rule-index _ within (sym c.is_opt_in.ensures ∙ w.if-not-is_opt_in.false)))
    ]
