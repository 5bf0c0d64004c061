use Rattle.std.proofs.Common.{subst}
use Rattle.lint_pass.specs.lint_base.Grown.{GrownBy}
use Rattle.lint_pass.specs.lint_base.GrownLaws.{at_err}
use Rattle.pass_constraint.proofs.ConstraintLaws.{validations_known, watching_next}
use Rattle.pass_constraint.proofs.constraint_missing_not_valid.ValidationsRulePass.visit.Goals as goal

pub returns-clause-memory : goal.returns-clause-memory
returns-clause-memory c =
    let p = c.args.p.now in
    let was = c.args.memory.now in
    let now = c.watch.new.self in
    let next = c.go_after.new.self in
    watching_next p c.args._set.now.assume_in_transaction c.args._i c.args.s.now was.open now.open next.open was.names now.names next.names
    c.requires.stmt c.requires.memory c.in_ok-watch.ensures.open c.in_ok-watch.ensures.names c.go_after.ensures.open c.go_after.ensures.key (c.go_after.ensures.names p)

pub returns-in_err-watch-clause-err : goal.returns-in_err-watch-clause-err
returns-in_err-watch-clause-err c =
    let p = c.args.p.now in
    let was = c.args.memory.now in
    at_err _ (subst (GrownBy c.args.out.now c.watch.new.out) (validations_known c.args._set.now p c.args._i c.args.s.now was.open was.names c.requires.stmt c.requires.memory) c.in_err-watch.ensures.err)
