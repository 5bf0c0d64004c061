-- Words on a line that is shown.
use Rattle.std.specs.Prelude.{ℕ, List, ◌++◌, codes, flat_map}
use Rattle.source_file.specs.Escaped.{escaped}
use Rattle.squawk_words.specs.Words.{Text}

-- a blank, and the word as it is shown
abbrev pub word_part : Text → List ℕ
word_part word = codes " " ++ escaped word

-- words, one after another
abbrev pub words_part : List Text → List ℕ
words_part words = flat_map word_part words
