use Rattle.std.proofs.Common.{subst}
use Rattle.law_next_fix.specs.sql_tree.Statement.{Tree}
use Rattle.squawk_fix.specs.Fixing.{IsFixed}
use Rattle.squawk_fix.proofs.fixed.fix_all.Goals as goal

pub returns-in-Ok-clause-valid : goal.returns-in-Ok-clause-valid
returns-in-Ok-clause-valid c = λ tree is.
    subst (λ (t : Tree). IsFixed t c.args.linter.now.rules c.args.linter.now.settings c.in-Ok.fixed) (c.in_ok-file.ensures.valid tree is) c.in-Ok.ensures.ok

pub returns-in-Ok-clause-unterminated : goal.returns-in-Ok-clause-unterminated
returns-in-Ok-clause-unterminated c = λ at short opens. c.in_ok-file.ensures.unterminated at short opens

pub returns-in-Ok-clause-syntax : goal.returns-in-Ok-clause-syntax
returns-in-Ok-clause-syntax c = λ at fault. c.in_ok-file.ensures.syntax at fault
