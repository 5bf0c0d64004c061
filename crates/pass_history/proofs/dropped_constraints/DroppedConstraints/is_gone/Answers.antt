use Rattle.std.proofs.Common.{◌∙◌, ap, false}
use Rattle.std.specs.Option.{unwrap_or}
use Rattle.lint_pass.specs.lint_transaction.Names.{name_at}
use Rattle.pass_history.proofs.DropLaws.{gone_by}
use Rattle.pass_history.proofs.dropped_constraints.DroppedConstraints.is_gone.Goals as goal

pub returns : goal.returns
returns c es h = gone_by c.args.p.now es c.args.self.now h (name_at c.args.p.now c.args.number) c.unwrap_or.result (c.unwrap_or.ensures ∙ ap (λ o. unwrap_or o false) c.get.ensures)
