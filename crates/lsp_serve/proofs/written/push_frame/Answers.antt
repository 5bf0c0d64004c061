use Rattle.std.proofs.Common.{append_assoc, rules}
use Rattle.lsp_serve.proofs.Back.{reads_back}
use Rattle.lsp_serve.proofs.written.push_frame.Goals as goal

pub returns-clause-written : goal.returns-clause-written
returns-clause-written c = search (rules, append_assoc)

pub returns-clause-reads_back : goal.returns-clause-reads_back
returns-clause-reads_back c = λ fits rest. reads_back _ rest fits
