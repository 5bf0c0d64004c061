use Rattle.law_edit_types.proofs.Added.{added_type_reads}
use Rattle.law_edit_types.proofs.Altered.{set_type_reads}
use Rattle.law_edit_types.proofs.Created.{created_type_reads}
use Rattle.law_edit_types.proofs.laws.types_become_words.Goals as goal

pub returns : goal.returns
returns c = record { added = added_type_reads; set = set_type_reads; created = created_type_reads }
