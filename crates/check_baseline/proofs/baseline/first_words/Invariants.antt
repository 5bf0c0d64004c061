use Rattle.std.proofs.Common.{◌≡◌, ℕ, List, take}
use Rattle.std.specs.HashSet.{contains_text}
use Rattle.std.specs.List.{list_any}
use Rattle.std.specs.Str.{bytes_eq}
use Rattle.check_baseline.specs.Known.{first_word}
use Rattle.check_baseline.proofs.baseline.first_words.Given as goal

-- the first words of the lines so far
abbrev pub invariant-loop-line : goal.invariant-loop-line
invariant-loop-line l = (print : List ℕ) → contains_text l.words print ≡ list_any (λ line. bytes_eq (first_word line.now) print) (take l.line-index l.lines)
