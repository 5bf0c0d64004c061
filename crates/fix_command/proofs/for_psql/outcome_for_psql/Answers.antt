use Rattle.std.proofs.Common.{◌≡◌}
use Rattle.fix_command.proofs.Putting.{fixed_for_psql}
use Rattle.fix_command.proofs.for_psql.outcome_for_psql.Goals as goal

pub returns-in_ok-outcome-in-Ok-clause-answer : goal.returns-in_ok-outcome-in-Ok-clause-answer
returns-in_ok-outcome-in-Ok-clause-answer c = λ ps passes starts same.
    let is_text : c.as_str-made.result.now ≡ c.in-Ok.fixed.text = cc (c.as_str-made.ensures.value, c.fixed.view_is) in
    let are_others : c.as_slice.result.now ≡ c.in-Ok.fixed.others = cc (c.as_slice.ensures.value, c.fixed.view_is) in
    fixed_for_psql c.args.wide c.args.linter.now c.args.text.now ps c.args.sql.now c.as_str-made.result.now c.as_slice.result.now c.in-Ok.fixed c.in_ok-outcome-in-Ok.outcome same c.in-Ok.ensures.ok
    is_text are_others (c.in_ok-outcome-in-Ok.ensures.put ps passes starts)
