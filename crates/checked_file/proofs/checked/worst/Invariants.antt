use Rattle.std.proofs.Common.{◌≡◌, drop, fold}
use Rattle.checked_file.specs.Answers.{status_of}
use Rattle.checked_file.specs.Files.{worst}
use Rattle.checked_file.specs.Statuses.{worse}
use Rattle.checked_file.proofs.checked.worst.Given as goal

-- the status so far, and then those of the files that are left
abbrev pub invariant-loop-file : goal.invariant-loop-file
invariant-loop-file l = fold (λ s file. worse s (status_of file.answer)) l.status (drop l.file-index l.files) ≡ worst l.files
