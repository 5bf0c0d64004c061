use Rattle.std.proofs.Common.{arith}
use Rattle.std.proofs.Common.{◌∙◌, refl, ap, ◌||◌}
use Rattle.sql_tree.specs.PathNames.{names_of}
use Rattle.lint_transaction.specs.Transaction.{same_path}
use Rattle.lint_transaction.specs.Tracking.{Known, holds}
use Rattle.lint_transaction.proofs.Paths.{put_path}
use Rattle.lint_transaction.proofs.tables.TablesCreatedInTransaction.add.Goals as goal

pub returns-clause-ok : goal.returns-clause-ok
returns-clause-ok c q =
    put_path names_of _ (λ a b. refl) c.self.inside.tables.keys c.insert.new.self.keys c.args.path c.in_ok-insert.field-0 c.in_ok-insert.ensures.added c.in_ok-insert.ensures.keys q
    ∙ ap (λ (k : Known). same_path q (names_of c.args.path) || holds k q) c.self.view_is

pub returns-in_err-insert-clause-err : goal.returns-in_err-insert-clause-err
returns-in_err-insert-clause-err c = grind arith

pub returns-in_err-insert-clause-ok : goal.returns-in_err-insert-clause-ok
returns-in_err-insert-clause-ok c = grind arith

pub returns-in_err-insert-clause-open : goal.returns-in_err-insert-clause-open
returns-in_err-insert-clause-open c = grind arith
