-- Letters in either case.
use Rattle.std.specs.Prelude.{ℕ, ◌+◌, ◌*◌, List, ◌≤◌, ◌<◌, ◌≡◌, length, slice_index}
use Rattle.std.specs.Char.{to_ascii_lowercase}

abbrev pub IsCapital : ℕ → Type 0
IsCapital b = (65 ≤ b) × (b < 91)

abbrev pub AreCapitals : List ℕ → Type 0
AreCapitals text = (i : ℕ) → i < length text → IsCapital (slice_index text i)

-- from one place up to another the two have the same bytes, without regard to ASCII case
abbrev pub AreSame : List ℕ → List ℕ → ℕ → ℕ → Type 0
AreSame a b from to =
    (i : ℕ) → from ≤ i → i < to → to_ascii_lowercase (slice_index a i) ≡ to_ascii_lowercase (slice_index b i)

-- the first four bytes as one number, the first of them the lowest
abbrev pub four_of : List ℕ → ℕ
four_of bs = ((slice_index bs 3 * 256 + slice_index bs 2) * 256 + slice_index bs 1) * 256 + slice_index bs 0

-- the first four are bytes
abbrev pub AreFourBytes : List ℕ → Type 0
AreFourBytes bs = (slice_index bs 0 < 256) × (slice_index bs 1 < 256) × (slice_index bs 2 < 256) × (slice_index bs 3 < 256)
