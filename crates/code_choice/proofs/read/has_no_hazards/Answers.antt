use Rattle.std.proofs.Common.{◌∙◌, sym}
use Rattle.code_choice.specs.Choices.{is_no_hazards}
use Rattle.squawk_run.proofs.Search.{found_in, none_next}
use Rattle.code_choice.proofs.read.has_no_hazards.Goals as goal

pub returns-then-is_no_hazards : goal.returns-then-is_no_hazards
returns-then-is_no_hazards c =
    sym (found_in is_no_hazards c.args.words.now c.loop-i.i c.get.result.now c.get.ensures (sym c.is_no_hazards.ensures ∙ c.if-is_no_hazards.true))

pub loop-i-preserved : goal.loop-i-preserved
loop-i-preserved c = none_next is_no_hazards c.args.words.now c.loop-i.i c.get.result.now c.loop-i.invariant c.get.ensures (sym c.is_no_hazards.ensures ∙ c.if-is_no_hazards.false)
