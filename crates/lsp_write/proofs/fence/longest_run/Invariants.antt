use Rattle.std.proofs.Common.{◌≡◌, ◌≤◌, drop, max}
use Rattle.lsp_write.specs.Fence.{longest_run}
use Rattle.lsp_write.proofs.fence.longest_run.Given as goal

-- the longest run so far, and what is still to come after the run before it, have the longest of all
abbrev pub invariant-loop-byte : goal.invariant-loop-byte
invariant-loop-byte l = record {
  same : max l.longest (longest_run l.run (drop l.byte-index l.text)) ≡ longest_run 0 l.text;
  run_short : l.run ≤ l.byte-index;
  short : l.longest ≤ l.byte-index;
}
