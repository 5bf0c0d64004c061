use Rattle.std.proofs.Common.{◌≡◌, ◌++◌, take}
use Rattle.std.specs.List.{flat_map}
use Rattle.fix_run.specs.Giving.{notes_of}
use Rattle.fix_run.proofs.lines.push_all_notes.Given as goal

-- the notes so far were added
abbrev pub invariant-loop-file : goal.invariant-loop-file
invariant-loop-file l = l.to.items ≡ l.initial.to.items ++ flat_map notes_of (take l.file-index l.files)
