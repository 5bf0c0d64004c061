use Rattle.lsp_shown.proofs.Reported.{reported}
use Rattle.lsp_shown.proofs.report.report_of.Goals as goal

pub returns : goal.returns
returns c =
    reported c.args.index.now c.args.tokens.now c.args.notes.now c.args.report c.pos-start.result c.pos.result c.start.result c.end.result c.in_ok-remedy_if.field-0 c.in_ok-ignore_if.field-0 c.start.ensures.value
    c.end.ensures.value c.pos-start.ensures c.pos.ensures c.in_ok-remedy_if.ensures c.in_ok-ignore_if.ensures
