use Rattle.law_edit_tokens.proofs.After.{rereads, rereads_after_one, first_is_free}
use Rattle.law_edit_tokens.proofs.Last.{made_rereads}
use Rattle.law_edit_tokens.proofs.laws.tokens_stay.Goals as goal

pub returns-clause-two : goal.returns-clause-two
returns-clause-two c = rereads

pub returns-clause-one : goal.returns-clause-one
returns-clause-one c = rereads_after_one

pub returns-clause-first : goal.returns-clause-first
returns-clause-first c = first_is_free

pub returns-clause-made : goal.returns-clause-made
returns-clause-made c = made_rereads
