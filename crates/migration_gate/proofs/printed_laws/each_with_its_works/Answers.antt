use Rattle.migration_gate.proofs.Each.{each_with_its_works}
use Rattle.migration_gate.proofs.printed_laws.each_with_its_works.Goals as goal

pub returns : goal.returns
returns c = each_with_its_works c.files_are_apart.ensures
