use Rattle.law_edit_types.proofs.Named.{name_reads}
use Rattle.law_edit_types.proofs.laws.names_become_words.Goals as goal

pub returns : goal.returns
returns c = name_reads
