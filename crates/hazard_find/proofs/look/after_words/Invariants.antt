use Rattle.std.proofs.Common.{◌≡◌, drop}
use Rattle.hazard_find.specs.Look.{after_words}
use Rattle.hazard_find.proofs.look.after_words.Given as goal

-- the words that are left, from here on, are all of them from the start
abbrev pub invariant-loop-word : goal.invariant-loop-word
invariant-loop-word l = after_words l.p l.end (drop l.word-index l.words) l.at ≡ after_words l.p l.end l.words l.next
