use Rattle.std.proofs.Common.{◌≡◌}
use Rattle.lock_machine.specs.Plain.{words_from}
use Rattle.lock_machine.proofs.search_path.token_from.Given as goal

-- the tokens so far are blanks and comments
abbrev pub invariant-loop-i : goal.invariant-loop-i
invariant-loop-i l = words_from l.p l.fn.end l.i ≡ words_from l.p l.fn.end l.fn.next
