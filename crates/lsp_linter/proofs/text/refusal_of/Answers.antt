use Rattle.std.proofs.Common.{subst}
use Rattle.lsp_linter.proofs.Placing.{syntax_in}
use Rattle.text_reports.specs.sql_read.Cause.{IsCause}
use Rattle.text_reports.specs.sql_read.declared.error.LintError.{LintError}
use Rattle.lsp_linter.proofs.text.refusal_of.Goals as goal

pub position_of-requires-in-Syntax-clause-place : goal.position_of-requires-in-Syntax-clause-place
position_of-requires-in-Syntax-clause-place c =
    syntax_in c.args.text.now c.in-Syntax.at c.utf8.text (subst (λ (e : LintError). IsCause c.args.text.now e) c.in-Syntax.is c.requires)
