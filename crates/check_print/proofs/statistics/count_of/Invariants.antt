use Rattle.std.proofs.Common.{◌≡◌, ◌+◌, drop, fold}
use Rattle.check_print.specs.Counted.{capped}
use Rattle.check_print.specs.Statistics.{count_in, count_of}
use Rattle.check_print.proofs.statistics.count_of.Given as goal

-- the count so far, and then those of the files that are left
abbrev pub invariant-loop-file : goal.invariant-loop-file
invariant-loop-file l = fold (λ n file. capped (n + count_in l.code file.answer)) l.count (drop l.file-index l.files) ≡ count_of l.code l.files
