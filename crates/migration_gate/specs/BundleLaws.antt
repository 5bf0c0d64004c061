-- A text is a bundle in at most one way.
use Rattle.std.specs.Prelude.{◌≡◌, ◌<◌, ◌^◌, ℕ, List, length}
use Rattle.migration_gate.specs.Bundle.{Entry, IsBadAt, IsBundle}

-- A text has at most one list of entries.
abbrev pub OneReading : Type 0
OneReading = (text : List ℕ) (a b : List Entry) → length text < 2 ^ 32 → IsBundle text a → IsBundle text b → a ≡ b

-- There is at most one place at which a text is no bundle.
abbrev pub OneBadPlace : Type 0
OneBadPlace = (text : List ℕ) (a b : ℕ) → length text < 2 ^ 32 → IsBadAt text a → IsBadAt text b → a ≡ b

-- A bundle has no such place.
abbrev pub NeverBundleAndBad : Type 0
NeverBundleAndBad = (text : List ℕ) (entries : List Entry) (at : ℕ) → length text < 2 ^ 32 → IsBundle text entries → IsBadAt text at → ⊥
