use Rattle.std.proofs.Common.{◌≡◌, length}
use Rattle.source_file.specs.Hints.{has_word}
use Rattle.source_file.proofs.hints.has_word.Given as goal

abbrev pub decreases-rest : goal.decreases-rest
decreases-rest l = length l.rest

abbrev pub invariant-rest : goal.invariant-rest
invariant-rest l = has_word l.rest l.word ≡ has_word l.text l.word
