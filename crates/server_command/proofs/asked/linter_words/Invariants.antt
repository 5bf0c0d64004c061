use Rattle.std.proofs.Common.{◌≡◌, ◌++◌, drop, filter}
use Rattle.server_command.specs.Asked.{is_taken, linter_words}
use Rattle.server_command.proofs.asked.linter_words.Given as goal

-- the words so far, before those that are left, are all
abbrev pub invariant-loop-i : goal.invariant-loop-i
invariant-loop-i l = l.rest ++ filter is_taken (drop l.i l.words) ≡ linter_words l.words
