use Rattle.std.proofs.Common.{◌≡◌, drop, fold}
use Rattle.check_print.specs.Counted.{counts_of, with_file}
use Rattle.check_print.proofs.counts.counts_of.Given as goal

-- the counts so far, and then those of the files that are left
abbrev pub invariant-loop-file : goal.invariant-loop-file
invariant-loop-file l = fold with_file l.counts (drop l.file-index l.files) ≡ counts_of l.files
