use Rattle.std.proofs.Common.{Err, Ok}
use Rattle.lint_base.proofs.RuleNames.{found_exactly}
use Rattle.lint_base.proofs.rule.Rule.from_str.Goals as goal

pub returns-in-Ok-clause-named : goal.returns-in-Ok-clause-named
returns-in-Ok-clause-named c = found_exactly c.args.s.now (Ok c.in-Ok.rule) c.in-Ok.ensures.value

pub returns-in-Err-clause-named : goal.returns-in-Err-clause-named
returns-in-Err-clause-named c = found_exactly c.args.s.now (Err c.unknown_rule_name.result) c.in-Err.ensures.value
