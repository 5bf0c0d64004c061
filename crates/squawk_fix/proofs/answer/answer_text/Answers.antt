use Rattle.std.proofs.Common.{◌≡◌, ℕ, ap, sym, subst}
use Rattle.squawk_fix.specs.Fixing.{FixedValue}
use Rattle.squawk_fix.specs.Outcome.{AnsweredAs}
use Rattle.squawk_fix.proofs.Answered.{written}
use Rattle.squawk_fix.proofs.answer.answer_text.Goals as goal

pub returns-in-Ok-clause-answered : goal.returns-in-Ok-clause-answered
returns-in-Ok-clause-answered g c =
    let view = c.fixed.view_is in
    let count : c.in-Ok.fixed.applied ≡ c.fixed.inside.applied = sym (ap (λ (f : FixedValue). f.applied) view) in
    subst (λ (k : ℕ). AnsweredAs c.write_fixed.result c.args.linter.now c.args.text.now (g.K.Sink.held c.args.out.now) (g.K.Sink.held c.write_fixed.new.out) (λ n. n ≡ k)) count
    (written c.write_fixed.result c.args.linter.now c.args.text.now c.in-Ok.fixed _ _ c.utf8.text c.in-Ok.ensures.ok c.write_fixed.ensures.wrote)
