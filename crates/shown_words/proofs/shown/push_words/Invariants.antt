use Rattle.std.proofs.Common.{◌≡◌, ◌++◌, take}
use Rattle.shown_words.specs.Shown.{words_part}
use Rattle.shown_words.proofs.shown.push_words.Given as goal

-- the words so far were added
abbrev pub invariant-loop-i : goal.invariant-loop-i
invariant-loop-i l = l.to.items ≡ l.initial.to.items ++ words_part (take l.i l.words)
