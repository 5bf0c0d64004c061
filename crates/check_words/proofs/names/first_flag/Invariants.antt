use Rattle.std.proofs.Common.{◌≡◌, drop, find}
use Rattle.check_words.specs.Names.{is_flag_named}
use Rattle.check_words.proofs.names.first_flag.Given as goal

-- the first of those that are left is the first of all
abbrev pub invariant-loop-flag : goal.invariant-loop-flag
invariant-loop-flag l = find (is_flag_named l.name) (drop l.flag-index l.flags) ≡ find (is_flag_named l.name) l.flags
