use Rattle.law_edit_inserts.proofs.DetachFields.{detach_begins, detach_has_path, detach_reads}
use Rattle.law_edit_inserts.proofs.Fields.{concurrently_reads}
use Rattle.law_edit_inserts.proofs.laws.concurrently_reads_again.Goals as goal

pub returns-clause-statement : goal.returns-clause-statement
returns-clause-statement c = concurrently_reads

pub returns-clause-action : goal.returns-clause-action
returns-clause-action c = detach_reads

pub returns-clause-begins : goal.returns-clause-begins
returns-clause-begins c = detach_begins

pub returns-clause-path : goal.returns-clause-path
returns-clause-path c = detach_has_path
