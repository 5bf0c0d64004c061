use Rattle.std.proofs.Common.{◌∙◌, refl, ap}
use Rattle.sql_tree.specs.PathNames.{names_of}
use Rattle.lint_transaction.specs.Tracking.{Known, holds}
use Rattle.lint_transaction.proofs.Paths.{contains_path}
use Rattle.lint_transaction.proofs.tables.TablesCreatedInTransaction.contains.Goals as goal

held : goal.returns-clause-held
held c =
    c.contains.ensures
    ∙ contains_path names_of _ (λ a b. refl) c.self.inside.tables.keys c.args.path.now
    ∙ ap (λ (k : Known). holds k (names_of c.args.path.now)) c.self.view_is

pub returns-clause-held : goal.returns-clause-held
returns-clause-held c = held c

pub returns-clause-new : goal.returns-clause-new
returns-clause-new c tree assumed i h = held c ∙ h.new_here (names_of c.args.path.now)
