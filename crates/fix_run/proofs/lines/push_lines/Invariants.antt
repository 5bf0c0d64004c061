use Rattle.std.proofs.Common.{◌≡◌, ◌++◌, take}
use Rattle.std.specs.List.{flat_map}
use Rattle.fix_run.specs.Giving.{line_of}
use Rattle.fix_run.proofs.lines.push_lines.Given as goal

-- the lines so far were added
abbrev pub invariant-loop-unread : goal.invariant-loop-unread
invariant-loop-unread l = l.to.items ≡ l.initial.to.items ++ flat_map line_of (take l.unread-index l.all)
