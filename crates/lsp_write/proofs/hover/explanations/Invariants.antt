use Rattle.std.proofs.Common.{◌≡◌, ◌++◌, drop, string_bytes}
use Rattle.lsp_write.specs.Hover.{explanations}
use Rattle.lsp_write.proofs.hover.explanations.Given as goal

-- what was done, before what is still to be done, is all
abbrev pub invariant-loop-report : goal.invariant-loop-report
invariant-loop-report l = string_bytes l.out ++ explanations (drop l.report-index l.reports) l.at ≡ explanations l.reports l.at
