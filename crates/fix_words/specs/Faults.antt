-- The line about words that are refused.
use Rattle.std.specs.Prelude.{ℕ, List}
use Rattle.refused_word.specs.Messages.{line_of, words_line}
use Rattle.fix_words.specs.declared.fault.Fault.{Fault}
use Rattle.fix_words.specs.declared.fault.Fault.TheVariants.{Word, Linter}

-- `error: unknown word: -w; --help lists what there is`
unfoldable pub fault_line : Fault → List ℕ
fault_line (Word fault) = line_of fault
fault_line (Linter words) = words_line words
