use Rattle.std.proofs.Common.{◌≡◌, All, map}
use Rattle.lsp_shown.specs.Shown.{change_of}
use Rattle.lsp_shown.specs.Places.{EditIn}
use Rattle.lsp_shown.proofs.report.changes_of.Given as goal

-- the edits made so far; those still to be made are in the text
abbrev pub invariant-loop-edit : goal.invariant-loop-edit
invariant-loop-edit l = (l.made.items ≡ map (change_of l.index) l.yielded) × All (EditIn l.index) l.edit-iterator.rest.items
