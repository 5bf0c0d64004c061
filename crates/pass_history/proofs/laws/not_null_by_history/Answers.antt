use Rattle.std.proofs.Common.{◌∙◌, ap, cond, [], length}
use Rattle.lint_pass.proofs.of_lint_transaction.EventLaws.{history_whole}
use Rattle.lint_pass.specs.lint_transaction.Earlier.{concat_below}
use Rattle.pass_history.specs.History.{altered_at}
use Rattle.pass_history.specs.AddingNotNullField.{not_null_of, report_on, uses_checks}
use Rattle.pass_history.proofs.laws.not_null_by_history.Goals as goal

pub returns : goal.returns
returns c tree rules settings on =
    ap (λ b. concat_below (λ i. cond b (not_null_of tree settings i) []) (length tree.stmts)) on
    ∙ history_whole (report_on (uses_checks settings) tree) (altered_at tree) (length tree.stmts)
