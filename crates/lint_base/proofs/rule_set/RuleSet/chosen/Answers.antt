use Rattle.std.proofs.Common.{◌≡◌, ◌∙◌, rules}
use Rattle.lint_base.specs.Rules.{all_rules}
use Rattle.lint_base.specs.RuleChoice.{is_chosen}
use Rattle.lint_base.proofs.RuleChoice.{chosen_set, chosen_set-nothing, chosen_set_is, has-rules_that}
use Rattle.lint_base.proofs.rule_set.RuleSet.chosen.Goals as goal

pub returns-clause-value : goal.returns-clause-value
unfolding all_rules
returns-clause-value c =
    let made : c.remove_aliases.new.set ≡ chosen_set c.args.include.now c.args.exclude.now = search rules in
    made ∙ chosen_set_is c.args.include.now c.args.exclude.now

pub returns-clause-rules : goal.returns-clause-rules
returns-clause-rules c = λ r.
    rw (returns-clause-value c) (has-rules_that (is_chosen c.args.include.now c.args.exclude.now) r)

pub returns-clause-none : goal.returns-clause-none
unfolding all_rules
returns-clause-none c = λ no_include no_exclude.
    let made : c.remove_aliases.new.set ≡ chosen_set c.args.include.now c.args.exclude.now = search rules in
    rw (made, no_include, no_exclude) chosen_set-nothing
