use Rattle.std.proofs.Common.{◌∙◌, ◌++◌, sym, ap}
use Rattle.squawk_linter.specs.lock_machine.Works.{works}
use Rattle.migration_gate.specs.Run.{in_file}
use Rattle.migration_gate.proofs.judging.judge_tree.Goals as goal

pub returns-in_ok-push_works-in-None-clause-told : goal.returns-in_ok-push_works-in-None-clause-told
returns-in_ok-push_works-in-None-clause-told c = (
  sym c.in_ok-why.ensures.why ∙ c.in-None.is,
  c.in_ok-push_works-in-None.ensures
      ∙ ap (λ ws. c.args.works.now.items ++ in_file c.args.file ws)
      (c.as_slice.ensures.value ∙ (c.in_ok-listed-in-None.ensures ∙ ap (works c.args.p.now) (c.in_ok-why.ensures.cleared c.in-None.is))),
)
