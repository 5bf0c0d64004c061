use Rattle.std.proofs.Common.{◌≡◌, take}
use Rattle.std.specs.Prelude.{flat_map}
use Rattle.code_choice.specs.Choices.{other_word}
use Rattle.code_choice.proofs.read.other_words.Given as goal

-- the other words so far
abbrev pub invariant-loop-i : goal.invariant-loop-i
invariant-loop-i l = l.rest ≡ flat_map other_word (take l.i l.words)
