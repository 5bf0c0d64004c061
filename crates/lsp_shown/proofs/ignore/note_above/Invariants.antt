use Rattle.std.proofs.Common.{◌≡◌, drop}
use Rattle.std.specs.List.{find}
use Rattle.lsp_shown.specs.Ignore.{is_above}
use Rattle.lsp_shown.proofs.ignore.note_above.Given as goal

-- the first of those that are left is the first of all
abbrev pub invariant-loop-at : goal.invariant-loop-at
invariant-loop-at l = find (is_above l.line) (drop l.at-index l.notes) ≡ find (is_above l.line) l.notes
