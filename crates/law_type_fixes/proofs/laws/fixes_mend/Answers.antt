use Rattle.law_type_fixes.proofs.Fixes.{varchars_mend, timestamps_mend, ints_mend, smallints_mend}
use Rattle.law_type_fixes.proofs.Inners.{inners_become_words}
use Rattle.law_type_fixes.proofs.LastNames.{names_become_words}
use Rattle.law_type_fixes.proofs.laws.fixes_mend.Goals as goal

pub returns-clause-varchars : goal.returns-clause-varchars
returns-clause-varchars c = varchars_mend inners_become_words

pub returns-clause-timestamps : goal.returns-clause-timestamps
returns-clause-timestamps c = timestamps_mend inners_become_words

pub returns-clause-ints : goal.returns-clause-ints
returns-clause-ints c = ints_mend names_become_words

pub returns-clause-smallints : goal.returns-clause-smallints
returns-clause-smallints c = smallints_mend names_become_words
