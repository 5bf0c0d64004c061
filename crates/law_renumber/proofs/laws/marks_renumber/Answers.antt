use Rattle.law_renumber.proofs.Seen.{for_kept, for_blind, blind_of}
use Rattle.law_renumber.proofs.Marks as law
use Rattle.law_renumber.proofs.laws.marks_renumber.Goals as goal

pub returns-clause-comma : goal.returns-clause-comma
returns-clause-comma c = for_blind _ law.comma_is_blind

pub returns-clause-not_valid : goal.returns-clause-not_valid
returns-clause-not_valid c = for_blind _ law.not_valid_is_blind

pub returns-clause-into : goal.returns-clause-into
returns-clause-into c = for_blind _ law.into_is_blind

pub returns-clause-verb : goal.returns-clause-verb
returns-clause-verb c = for_blind _ law.verb_is_blind

pub returns-clause-privileges : goal.returns-clause-privileges
returns-clause-privileges c = for_blind _ law.privileges_is_blind

pub returns-clause-word : goal.returns-clause-word
returns-clause-word c = λ w. for_blind _ (law.word_is_blind w)

pub returns-clause-operator : goal.returns-clause-operator
returns-clause-operator c = for_blind _ law.operator_is_blind

pub returns-clause-cast : goal.returns-clause-cast
returns-clause-cast c = for_blind _ law.cast_is_blind

pub returns-clause-on_commit_drop : goal.returns-clause-on_commit_drop
returns-clause-on_commit_drop c = for_blind _ law.on_commit_drop_is_blind

pub returns-clause-before : goal.returns-clause-before
returns-clause-before c = for_kept _ (λ f mark blind ts. law.before_renumbers mark (blind_of mark blind) f ts)

pub returns-clause-split : goal.returns-clause-split
returns-clause-split c = for_kept _ (λ f mark blind ts. law.split_renumbers mark (blind_of mark blind) f ts)

pub returns-clause-closing : goal.returns-clause-closing
returns-clause-closing c = for_kept _ law.closing_renumbers
