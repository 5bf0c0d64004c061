use Rattle.std.proofs.Common.{ℕ, subst, sym}
use Rattle.std.specs.Str.{IsCharBoundary}
use Rattle.law_reports.specs.sql_read.Cause.{IsCause}
use Rattle.law_reports.specs.sql_read.declared.error.LintError.{LintError}
use Rattle.law_reports.specs.sql_read.declared.error.LintError.TheVariants.{Syntax}
use Rattle.file_answer.proofs.Places.{syntax_in}
use Rattle.file_answer.proofs.fault.refusal_of.Goals as goal

pub returns-in-Syntax-clause-placed : goal.returns-in-Syntax-clause-placed
returns-in-Syntax-clause-placed c =
    let text = c.args.text.now in
    let cause : IsCause text (Syntax c.in-Syntax.at) = subst (λ (e : LintError). IsCause text e) c.in-Syntax.is c.requires.cause in
    subst (λ (n : ℕ). IsCharBoundary text n) (sym c.new-in-Syntax.ensures) (syntax_in text c.in-Syntax.at c.utf8.text cause)
