-- What words without a foreign one say.
use Rattle.std.specs.Prelude.{◌≡◌, true, false, List, Some, None}
use Rattle.squawk_words.specs.Words.{Settings, Text, settings_of, value_of}
use Rattle.squawk_run.specs.ForeignWords.{has_foreign_word, is_among}

-- Words of which none is an option of these names set none of these names.
abbrev pub ForeignStaysUnset : Type 0
ForeignStaysUnset =
    (names words : List Text) (said : Settings) (name : Text) → has_foreign_word names words ≡ false → settings_of words ≡ Some said
    → is_among names name ≡ true → value_of name said ≡ None
