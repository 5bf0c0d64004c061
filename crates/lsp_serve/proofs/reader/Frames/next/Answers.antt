use Rattle.lsp_serve.proofs.Keeping.{stops_on}
use Rattle.lsp_serve.proofs.reader.Frames.next.Goals as goal

pub returns-in-Err-read_on-clause-stopped : goal.returns-in-Err-read_on-clause-stopped
returns-in-Err-read_on-clause-stopped g c =
    stops_on _ _ _ _ _ _ _ _ _ c.reading.invariant.kept c.reading.invariant.later c.in-Err-read_on.ensures.stopped
