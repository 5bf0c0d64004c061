use Rattle.std.proofs.Common.{◌≡◌, drop, fold}
use Rattle.gate_files.specs.checked_file.Answers.{refused_status}
use Rattle.gate_files.specs.checked_file.Statuses.{worse}
use Rattle.fix_run.specs.Giving.{unread_status}
use Rattle.fix_run.proofs.status.unread_status.Given as goal

-- the status so far, and then those of the files that are left
abbrev pub invariant-loop-unread : goal.invariant-loop-unread
invariant-loop-unread l = fold (λ s u. worse s (refused_status u.refusal)) l.status (drop l.unread-index l.all) ≡ unread_status l.all
