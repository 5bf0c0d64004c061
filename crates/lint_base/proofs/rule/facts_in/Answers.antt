use Rattle.lint_base.specs.RuleFacts.{facts}
use Rattle.lint_base.specs.Rules.{all_rules, facts_of}
use Rattle.lint_base.proofs.RuleFacts.{same_place}
use Rattle.lint_base.proofs.rule.facts_in.Goals as goal

pub returns : goal.returns
returns c = same_place facts facts_of c.args.table.now all_rules c.number.result _ c.args.rule c.number.ensures.place c.requires
