use Rattle.gate_report.specs.migration_gate.Verdict.{texts_of}
use Rattle.gate_command.proofs.Opening.{first_open, outside_more}
use Rattle.gate_command.proofs.left_open.first_open.Goals as goal

pub returns-then-branch : goal.returns-then-branch
returns-then-branch c =
    first_open (texts_of c.args.files.now) c.loop-file.file c.text_of.result.now c.in_ok-is_open.field-0 c.text_of.ensures c.loop-file.invariant c.if-branch.true c.in_ok-is_open.ensures

pub loop-file-preserved : goal.loop-file-preserved
loop-file-preserved c =
    outside_more (texts_of c.args.files.now) c.loop-file.file c.text_of.result.now c.in_ok-is_open.field-0 c.text_of.ensures c.loop-file.invariant c.if-branch.false c.in_ok-is_open.ensures
