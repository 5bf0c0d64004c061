-- Words that name an option which a program does not take.
use Rattle.std.specs.Prelude.{Bool, false, List, Option, Some, None}
use Rattle.std.specs.List.{list_any}
use Rattle.std.specs.Str.{bytes_eq}
use Rattle.squawk_words.specs.Words.{Text, after_dashes, name_in}

-- the name is one of these
abbrev pub is_among : List Text → Text → Bool
is_among names name = list_any (λ n. bytes_eq n name) names

abbrev pub is_option_among : List Text → Option Text → Bool
is_option_among names None = false
is_option_among names (Some rest) = is_among names (name_in rest)

-- the word is an option of one of these names, with a value after `=` or without
abbrev pub is_foreign_word : List Text → Text → Bool
is_foreign_word names word = is_option_among names (after_dashes word)

-- one of the words is
abbrev pub has_foreign_word : List Text → List Text → Bool
has_foreign_word names words = list_any (is_foreign_word names) words
