-- Which ends of a path pass a test, and how a part before others changes the test.
use Rattle.std.specs.Prelude.{◌≡◌, ◌&&◌, ◌||◌, ◌≤◌, ℕ, Bool, true, false, if◌then◌else◌, List, [], ◌∷◌, drop, length, slice_index_or}
use Rattle.path_pattern.specs.declared.part.Part.{Part}
use Rattle.path_pattern.specs.Patterns.{takes, takes_many}

-- nothing is left
abbrev pub ends_here : List ℕ → Bool
ends_here [] = true
ends_here (x ∷ xs) = false

-- one byte that may come, and then what passes the test
abbrev pub after_one : (ℕ → Bool) → (List ℕ → Bool) → List ℕ → Bool
after_one may test [] = false
after_one may test (x ∷ xs) = may x && test xs

-- any number of bytes that may come, and then what passes the test
abbrev pub after_any : (ℕ → Bool) → (List ℕ → Bool) → List ℕ → Bool
after_any may test [] = test []
after_any may test (x ∷ xs) = test (x ∷ xs) || (may x && after_any may test xs)

-- bytes that a part stands for, and then what passes the test
abbrev pub part_test : Part → (List ℕ → Bool) → List ℕ → Bool
part_test part test path = if takes_many part then after_any (takes part) test path else after_one (takes part) test path

-- The path matches the parts, as a test.
abbrev pub matched_by : List Part → List ℕ → Bool
matched_by [] = ends_here
matched_by (part ∷ parts) = part_test part (matched_by parts)

-- a part's test from what is known of the first byte, of what is here and of what is after that byte
abbrev pub value_at : Part → Bool → Bool → Bool → Bool → Bool
value_at part is_here takes_first is_later is_next = if takes_many part then is_here || (takes_first && is_later) else takes_first && is_next

-- at each place, whether the path from there on passes the test
abbrev pub IsRow : (List ℕ → Bool) → List ℕ → List Bool → Type 0
IsRow test path row = (k : ℕ) → k ≤ length path → slice_index_or row k false ≡ test (drop k path)
