-- The line about words that are refused.
use Rattle.std.specs.Prelude.{ℕ, List, ◌++◌, codes}
use Rattle.refused_word.specs.Messages.{line_of, words_line}
use Rattle.refused_word.specs.source_file.Escaped.{escaped}
use Rattle.refused_word.specs.squawk_words.Words.{Text}
use Rattle.gate_command.specs.declared.fault.Fault.{Fault}
use Rattle.gate_command.specs.declared.fault.Fault.TheVariants.{Word, UnknownOrder, NoOrder, NoFiles, Linter, Beside}

-- of a value that `--order` does not have
abbrev pub order_line : Text → List ℕ
order_line value = codes "error: --order: unknown value: " ++ escaped value ++ codes "; one of given, name\n"

-- what `check` says of a word and of words, and the gate's own lines
unfoldable pub fault_line : Fault → List ℕ
fault_line (Word fault) = line_of fault
fault_line (UnknownOrder value) = order_line value
fault_line NoOrder = codes "error: --order: its value is missing\n"
fault_line NoFiles = codes "error: no files are named; --help lists what there is\n"
fault_line (Linter words) = words_line words
fault_line Beside = codes "error: --one-session: not beside --assume-in-transaction\n"
