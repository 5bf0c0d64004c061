use Rattle.std.proofs.Common.{ap}
use Rattle.std.proofs.lemmas.Result.{IfOk-weaker}
use Rattle.sql_tree.specs.Path.{path_cuts}
use Rattle.sql_tree.specs.PathNames.{names_of}
use Rattle.lint_transaction.specs.Tracking.{Known}
use Rattle.lint_transaction.proofs.TrackingLaws.{none_new, new_where_held}
use Rattle.lint_transaction.proofs.tables.TablesCreatedInTransaction.contains_at.Goals as goal

pub returns-then-is_empty : goal.returns-then-is_empty
returns-then-is_empty c assumed i h =
    let p = c.args.p.now in
    let none = c.is_empty.ensures.0 c.if-is_empty.true in
    none_new names_of c.self.inside.tables.keys p assumed i c.args.self.now (path_cuts p.text p.toks c.args.path) none (ap (λ (k : Known). k.tables) c.self.view_is) h

pub returns-else-is_empty : goal.returns-else-is_empty
returns-else-is_empty c =
    let p = c.args.p.now in
    IfOk-weaker c.has_path.result _ _ (λ b held assumed i h. new_where_held p assumed i c.args.self.now (path_cuts p.text p.toks c.args.path) b held h) c.has_path.ensures
