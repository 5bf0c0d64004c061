use Rattle.std.proofs.Common.{◌∙◌, sym}
use Rattle.gate_command.proofs.Ending.{apart_by, unfit_for}
use Rattle.gate_command.proofs.command.answered.Goals as goal

pub returns-in-Some-clause-refused : goal.returns-in-Some-clause-refused
returns-in-Some-clause-refused g c =
    unfit_for c.args.request.now c.args.linter.now c.in-Some.fault c.refused.result (sym c.unfit.ensures ∙ c.in-Some.is) c.refused.ensures

pub answer_files-requires-clause-apart : goal.answer_files-requires-clause-apart
answer_files-requires-clause-apart g c = apart_by c.args.request.now c.args.linter.now (sym c.unfit.ensures ∙ c.in_default.is)

pub returns-in-Ok-clause-answer : goal.returns-in-Ok-clause-answer
returns-in-Ok-clause-answer g c = (sym c.unfit.ensures ∙ c.in_default.is, c.in-Ok.ensures)
