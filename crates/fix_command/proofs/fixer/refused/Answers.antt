use Rattle.std.proofs.Common.{ℕ, subst, sym}
use Rattle.std.specs.Str.{IsCharBoundary}
use Rattle.fix_text.specs.sql_read.Cause.{IsCause}
use Rattle.fix_text.specs.sql_tree.Statement.{IsSyntaxAt}
use Rattle.fix_command.proofs.Placing.{syntax_in}
use Rattle.fix_command.proofs.fixer.refused.Goals as goal

pub returns-in-Syntax-clause-placed : goal.returns-in-Syntax-clause-placed
returns-in-Syntax-clause-placed c =
    let text = c.args.text.now in
    let at = c.in-Syntax.at in
    let h : IsSyntaxAt text at = subst (IsCause text) c.in-Syntax.is c.requires.cause in
    subst (λ (n : ℕ). IsCharBoundary text n) (sym c.new-in-Syntax.ensures) (syntax_in text at c.utf8.text h)
