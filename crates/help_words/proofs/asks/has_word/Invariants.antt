use Rattle.std.proofs.Common.{◌≡◌, false, take}
use Rattle.help_words.specs.Help.{has_word}
use Rattle.help_words.proofs.asks.has_word.Given as goal

-- none of the words so far is
abbrev pub invariant-loop-i : goal.invariant-loop-i
invariant-loop-i l = has_word l.wanted (take l.i l.words) ≡ false
