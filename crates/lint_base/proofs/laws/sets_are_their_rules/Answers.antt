use Rattle.lint_base.proofs.OfRules.{all_counted, both_are_of_rules, none_is_of_rules, put_rules, same_rules, with_is_of_rules, without_is_of_rules}
use Rattle.lint_base.proofs.laws.sets_are_their_rules.Goals as goal

pub returns-clause-same : goal.returns-clause-same
returns-clause-same c = same_rules

pub returns-clause-none : goal.returns-clause-none
returns-clause-none c = none_is_of_rules

pub returns-clause-listed : goal.returns-clause-listed
returns-clause-listed c = put_rules

pub returns-clause-inserted : goal.returns-clause-inserted
returns-clause-inserted c = with_is_of_rules

pub returns-clause-removed : goal.returns-clause-removed
returns-clause-removed c = without_is_of_rules

pub returns-clause-joined : goal.returns-clause-joined
returns-clause-joined c = both_are_of_rules

pub returns-clause-all : goal.returns-clause-all
returns-clause-all c = all_counted
