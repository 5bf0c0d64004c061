-- What words ask for.
use Rattle.std.specs.Prelude.{Bool, false, not, List, Option, Some, None, codes, drop, filter, slice_get}
use Rattle.std.specs.Str.{bytes_eq}
use Rattle.refused_word.specs.help_words.Help as help
use Rattle.refused_word.specs.squawk_words.Words.{Text}

abbrev pub is_server_word : Option Text → Bool
is_server_word None = false
is_server_word (Some word) = bytes_eq word (codes "server")

-- the first word is `server`
abbrev pub is_server : List Text → Bool
is_server words = is_server_word (slice_get words 0)

-- the words that ask for help count wherever they are
abbrev pub asks_for_help : List Text → Bool
asks_for_help words = help.asks_for_help words

-- `--stdio`, which some editors add, says how the server talks anyway
abbrev pub is_taken : Text → Bool
is_taken word = not (bytes_eq word (codes "--stdio"))

-- the words after the first that choose the linter
abbrev pub linter_words : List Text → List Text
linter_words words = filter is_taken (drop 1 words)
