use Rattle.std.proofs.Common.{◌∙◌, sym}
use Rattle.lint_transaction.proofs.Paths.{so_same}
use Rattle.lint_transaction.proofs.names.is_same_path.Goals as goal

pub returns-then-is_same_text : goal.returns-then-is_same_text
returns-then-is_same_text c =
    c.if-is_same_text.true ∙ sym (so_same _ _ (c.is_same_text.ensures c.if-is_same_text.true))
