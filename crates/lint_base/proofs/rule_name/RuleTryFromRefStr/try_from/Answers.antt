use Rattle.std.proofs.Common.{sym, ◌∙◌}
use Rattle.lint_base.proofs.RuleNames.{names_rule}
use Rattle.lint_base.proofs.rule_name.RuleTryFromRefStr.try_from.Goals as goal

pub returns : goal.returns
returns c = names_rule c.args.value.now c.ok_or.result (sym c.ok_or.ensures.ok_part ∙ c.rule_named.ensures)
