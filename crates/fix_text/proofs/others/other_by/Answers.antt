use Rattle.fix_text.proofs.Beside.{numbered_at}
use Rattle.fix_text.proofs.others.other_by.Goals as goal

pub is_beside-requires-clause-first : goal.is_beside-requires-clause-first
is_beside-requires-clause-first c =
    numbered_at c.args.file.now c.args.reports.now c.args.last c.index-reports-last.result c.if-last-reports.false c.index-reports-last.is c.requires.last
