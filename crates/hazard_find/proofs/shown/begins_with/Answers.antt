use Rattle.hazard_find.proofs.ShownLaws.{begins_so}
use Rattle.hazard_find.proofs.shown.begins_with.Goals as goal

pub returns : goal.returns
returns c =
    begins_so c.eq_ignore_ascii_case.result c.args.word.now c.args.bytes.now c.min-end.result c.min-end.ensures c.eq_ignore_ascii_case.ensures.test
