use Rattle.std.proofs.Common.{◌≡◌, ◌∙◌, rules}
use Rattle.lint_base.specs.RuleSets.{rules_in}
use Rattle.lint_base.specs.RuleChoice.{is_named, with_expansions}
use Rattle.lint_base.proofs.RuleChoice.{has-rules_that, named_set_is}
use Rattle.lint_base.proofs.rule_set.RuleSet.named.Goals as goal

pub returns-clause-value : goal.returns-clause-value
returns-clause-value c =
    let made : c.insert_all.new.set ≡ rules_in (with_expansions c.args.rules.now) = search rules in
    made ∙ named_set_is c.args.rules.now

pub returns-clause-rules : goal.returns-clause-rules
returns-clause-rules c = λ r. rw (returns-clause-value c) (has-rules_that (is_named c.args.rules.now) r)
