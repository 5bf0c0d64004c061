use Rattle.std.proofs.Common.{◌∙◌, ap}
use Rattle.lint_transaction.specs.Tracking.{holds}
use Rattle.lint_transaction.proofs.tables.TablesCreatedInTransaction.has_path.Goals as goal

pub returns : goal.returns
returns c = c.contains.ensures.held ∙ ap (holds c.args.self.now) c.in_ok-path.ensures.names
