use Rattle.law_renumber.proofs.WholeLaws as law
use Rattle.law_renumber.proofs.whole.nothing_is_missing.Goals as goal

pub returns-clause-path : goal.returns-clause-path
returns-clause-path c = law.alter_tables_have_paths

pub returns-clause-added : goal.returns-clause-added
returns-clause-added c = law.added_is_known
