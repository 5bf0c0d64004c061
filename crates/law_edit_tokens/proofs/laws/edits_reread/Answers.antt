use Rattle.law_edit_tokens.proofs.Beside.{no_word_after, letter_follows, letter_follows_dot}
use Rattle.law_edit_tokens.proofs.Edits.{concurrently_rereads, word_rereads, set_rereads, word_ends}
use Rattle.law_edit_tokens.proofs.laws.edits_reread.Goals as goal

pub returns-clause-concurrently : goal.returns-clause-concurrently
returns-clause-concurrently c = concurrently_rereads

pub returns-clause-word : goal.returns-clause-word
returns-clause-word c = word_rereads

pub returns-clause-set : goal.returns-clause-set
returns-clause-set c = set_rereads

pub returns-clause-word_ends : goal.returns-clause-word_ends
returns-clause-word_ends c = word_ends

pub returns-clause-no_word : goal.returns-clause-no_word
returns-clause-no_word c = no_word_after

pub returns-clause-letter : goal.returns-clause-letter
returns-clause-letter c = letter_follows

pub returns-clause-dot : goal.returns-clause-dot
returns-clause-dot c = letter_follows_dot
