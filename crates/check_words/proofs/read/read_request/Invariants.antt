use Rattle.std.proofs.Common.{◌≡◌, drop}
use Rattle.check_words.specs.Asked.{read_from, start}
use Rattle.check_words.proofs.read.read_request.Given as goal

-- what is read from here on is what is read of all
abbrev pub invariant-loop-i : goal.invariant-loop-i
invariant-loop-i l = read_from l.reader (drop l.i l.words) ≡ read_from start (drop l.from l.words)
