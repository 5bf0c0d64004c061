-- Words that ask for help, or for the version.
use Rattle.std.specs.Prelude.{◌||◌, Bool, List, [], ◌∷◌, codes}
use Rattle.std.specs.List.{list_any}
use Rattle.std.specs.Str.{bytes_eq}
use Rattle.squawk_run.specs.ForeignWords.{has_foreign_word}
use Rattle.squawk_run.specs.squawk_words.Words.{Text}

-- one of the words is this one
abbrev pub has_word : Text → List Text → Bool
has_word wanted words = list_any (λ word. bytes_eq word wanted) words

-- `--help` or `-h`, wherever it is
abbrev pub asks_for_help : List Text → Bool
asks_for_help words = has_foreign_word (codes "help" ∷ []) words || has_word (codes "-h") words

-- `--version` or `-V`, wherever it is
abbrev pub asks_for_version : List Text → Bool
asks_for_version words = has_foreign_word (codes "version" ∷ []) words || has_word (codes "-V") words
