use Rattle.law_renumber.proofs.Seen.{for_blind}
use Rattle.law_renumber.proofs.Marks as law
use Rattle.law_renumber.proofs.Types as types
use Rattle.law_renumber.proofs.Constraints as constraints
use Rattle.law_renumber.proofs.ActionPieces as pieces
use Rattle.law_renumber.proofs.Writes as writes
use Rattle.law_renumber.proofs.laws.piece_marks_renumber.Goals as goal

pub returns-clause-type_end : goal.returns-clause-type_end
returns-clause-type_end c = for_blind _ types.type_end_is_blind

pub returns-clause-value_end : goal.returns-clause-value_end
returns-clause-value_end c = for_blind _ types.value_end_is_blind

pub returns-clause-constraint_start : goal.returns-clause-constraint_start
returns-clause-constraint_start c = for_blind _ constraints.start_is_blind

pub returns-clause-no_group : goal.returns-clause-no_group
returns-clause-no_group c = for_blind _ types.no_group_is_blind

pub returns-clause-only_groups : goal.returns-clause-only_groups
returns-clause-only_groups c = for_blind _ types.only_groups_is_blind

pub returns-clause-no_accessor : goal.returns-clause-no_accessor
returns-clause-no_accessor c = for_blind _ writes.no_accessor_is_blind

pub returns-clause-sequence_option : goal.returns-clause-sequence_option
returns-clause-sequence_option c = for_blind _ pieces.sequence_is_blind

pub returns-clause-identity_option : goal.returns-clause-identity_option
returns-clause-identity_option c = for_blind _ pieces.identity_is_blind

pub returns-clause-policy_part : goal.returns-clause-policy_part
returns-clause-policy_part c = for_blind _ pieces.policy_is_blind

pub returns-clause-equals : goal.returns-clause-equals
returns-clause-equals c = for_blind _ law.equals_is_blind

pub returns-clause-do_update_set : goal.returns-clause-do_update_set
returns-clause-do_update_set c = for_blind _ law.do_update_set_is_blind

pub returns-clause-then_update_set : goal.returns-clause-then_update_set
returns-clause-then_update_set c = for_blind _ law.then_update_set_is_blind

pub returns-clause-then_insert : goal.returns-clause-then_insert
returns-clause-then_insert c = for_blind _ law.then_insert_is_blind

pub returns-clause-clause_end : goal.returns-clause-clause_end
returns-clause-clause_end c = for_blind _ law.clause_end_is_blind

pub returns-clause-merge_clause_end : goal.returns-clause-merge_clause_end
returns-clause-merge_clause_end c = for_blind _ law.merge_clause_end_is_blind

pub returns-clause-target_list_end : goal.returns-clause-target_list_end
returns-clause-target_list_end c = for_blind _ law.target_list_end_is_blind
