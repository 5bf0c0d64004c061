-- From one word to the next.
use Rattle.std.proofs.Common.{◌≡◌, ◌+◌, ◌<◌, ap, arith, ℕ, List, [], drop, length, Some}
use Rattle.std.proofs.lemmas.List.{drop_all}
use Rattle.std.specs.Option.{option_map_or}
use Rattle.std.specs.Prelude.{slice_get}
use Rattle.refused_word.specs.squawk_words.Words.{Text}
use Rattle.refused_word.proofs.of_squawk_words.Places.{drop_at}
use Rattle.fix_words.specs.declared.step.Reader.{Reader}
use Rattle.fix_words.specs.Asked.{read_from, unknown_word}
use Rattle.fix_words.specs.Steps.{step}

-- what is read from here on, by the word that is here
pub read_at : (reader : Reader) (words : List Text) (k : ℕ) (word : Text) → slice_get words k ≡ Some word
    → read_from reader (drop k words) ≡ option_map_or (λ r. read_from r (drop (k + 1) words)) (step word reader) (unknown_word word)
unfolding read_from
read_at reader words k word e = ap (read_from reader) (drop_at words k word e)

-- nothing is left to read
pub read_end : (reader : Reader) (words : List Text) (k : ℕ) → length words < k + 1 → read_from reader (drop k words) ≡ read_from reader []
read_end reader words k h = ap (read_from reader) (drop_all k words (omega arith))
