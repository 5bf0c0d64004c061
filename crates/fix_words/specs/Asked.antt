-- What the words after the program's name ask for.
use Rattle.std.specs.Prelude.{false, List, [], ◌∷◌, None, drop, if◌then◌else◌}
use Rattle.std.specs.Option.{option_map_or}
use Rattle.refused_word.specs.check_words.declared.fault.WordFault.TheVariants.{UnknownWord, MissingValue}
use Rattle.refused_word.specs.check_words.declared.names.Choice.TheVariants as choice
use Rattle.refused_word.specs.help_words.Help.{asks_for_help}
use Rattle.refused_word.specs.squawk_words.Words.{Text}
use Rattle.fix_words.specs.declared.asked.Asked.{Asked}
use Rattle.fix_words.specs.declared.asked.Asked.TheVariants.{Fix, Help, Refused}
use Rattle.fix_words.specs.declared.fault.Fault.TheVariants.{Word, Linter}
use Rattle.fix_words.specs.declared.request.Request.{Request}
use Rattle.fix_words.specs.declared.step.Next.{Next}
use Rattle.fix_words.specs.declared.step.Next.TheVariants.{Any, ConfigValue, LinterValue, File}
use Rattle.fix_words.specs.declared.step.Reader.{Reader}
use Rattle.fix_words.specs.Steps.{step}

-- what no word asks for
abbrev pub start : Reader
start = record { next = Any; request = record { write = false; with_unsafe = false; config = None; files = []; linter = [] } }

-- The end. Where a value is waited for, it is missing: the linter says so of its own options.
abbrev pub ended : Next → Request → Asked
ended Any r = Fix r
ended File r = Fix r
ended ConfigValue r = Refused (Word (MissingValue choice.Config))
ended LinterValue r = Refused (Linter r.linter)

-- a word that there isn't
abbrev pub unknown_word : Text → Asked
unknown_word word = Refused (Word (UnknownWord word))

-- the words one by one, up to the first one that is refused
unfoldable pub read_from : Reader → List Text → Asked
read_from reader [] = ended reader.next reader.request
read_from reader (word ∷ words) = option_map_or (λ r. read_from r words) (step word reader) (unknown_word word)

-- what the words after `fix` ask for
abbrev pub request_of : List Text → Asked
request_of words = read_from start words

-- `--help` and `-h` count wherever they are
abbrev pub asked_of : List Text → Asked
asked_of words = if asks_for_help words then Help else request_of (drop 1 words)
