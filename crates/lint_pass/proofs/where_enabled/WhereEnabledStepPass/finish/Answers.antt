use Rattle.std.proofs.Common.{◌≡◌, ◌++◌, sym, ◌∙◌, ap, false, [], length}
use Rattle.std.proofs.lemmas.List.{append-nil}
use Rattle.lint_pass.specs.Enabled.{some_enabled}
use Rattle.lint_pass.proofs.Silence.{silent_tail}
use Rattle.lint_pass.proofs.where_enabled.WhereEnabledStepPass.finish.Goals as goal

pub returns-then-not-has_enabled_rule-clause-ok : goal.returns-then-not-has_enabled_rule-clause-ok
returns-then-not-has_enabled_rule-clause-ok g c =
    let tree = c.args.p.now in
    let rules = c.args.rules.now in
    let set = c.args.set.now in
    let pass = c.args.self.now.pass in
    let off : some_enabled (g.P.StepPass.own pass) rules ≡ false = cc in
    let none : g.P.StepPass.tail pass tree rules set ≡ [] =
    silent_tail (g.P.StepPass.own pass) rules (g.P.StepPass.reports_at pass tree rules set) (g.P.StepPass.tail pass tree rules set) (g.P.StepPass.table pass tree rules set)
    (length tree.stmts) off (g.P.StepPass.coded pass tree rules set) (g.P.StepPass.whole pass tree rules set) in
    sym (ap (λ xs. c.args.out.now ++ xs) none ∙ append-nil c.args.out.now)
