use Rattle.std.proofs.Common.{ap, map}
use Rattle.sql_tree.specs.PathNames.{names_of}
use Rattle.lint_transaction.proofs.TrackingLaws.{tracking_start}
use Rattle.lint_transaction.proofs.tables.TablesCreatedInTransaction.new.Goals as goal

pub returns : goal.returns
returns c tree = tracking_start _ c.args.assume c.new.ensures.value (ap (map names_of) c.new-2.ensures.empty) tree
