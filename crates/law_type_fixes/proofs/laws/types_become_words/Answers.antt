use Rattle.law_type_fixes.proofs.Inners.{inners_become_words}
use Rattle.law_type_fixes.proofs.LastNames.{names_become_words}
use Rattle.law_type_fixes.proofs.laws.types_become_words.Goals as goal

pub returns-clause-inner : goal.returns-clause-inner
returns-clause-inner c = inners_become_words

pub returns-clause-name : goal.returns-clause-name
returns-clause-name c = names_become_words
