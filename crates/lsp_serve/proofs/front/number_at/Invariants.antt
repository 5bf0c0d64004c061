use Rattle.std.proofs.Common.{◌≡◌, ◌≤◌, drop}
use Rattle.lsp_serve.specs.Frame.{content_limit, number_from}
use Rattle.lsp_serve.proofs.front.number_at.Given as goal

abbrev pub invariant-loop-byte : goal.invariant-loop-byte
invariant-loop-byte l = record {
  so_far : number_from l.number (drop l.byte-index l.line) ≡ number_from 0 l.line;
  small : l.number ≤ content_limit;
}
