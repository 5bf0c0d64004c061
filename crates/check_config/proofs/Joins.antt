-- Names with commas between them, one by one.
use Rattle.std.proofs.Common.{◌≡◌, ◌∙◌, ◌+◌, ◌≤◌, ap, append_assoc, append-nil, sym, ℕ, List, [], ◌∷◌, ◌++◌, Some, drop, length}
use Rattle.std.proofs.lemmas.List.{drop_all}
use Rattle.std.specs.List.{join_with_byte}
use Rattle.std.specs.Prelude.{flat_map, slice_get}
use Rattle.squawk_run.specs.squawk_words.Words.{Text}
use Rattle.check_config.proofs.Finds.{drop_at}

-- each name after a comma
abbrev pub tail_of : List Text → Text
tail_of names = flat_map (λ name. 44 ∷ name) names

pub join_first : (name : Text) (names : List Text) → name ++ tail_of names ≡ join_with_byte 44 (name ∷ names)
join_first name [] = append-nil name
join_first name (next ∷ names) = ap (λ rest. name ++ (44 ∷ rest)) (join_first next names)

pub join_begun : (names : List Text) (name : Text) → slice_get names 0 ≡ Some name → name ++ tail_of (drop 1 names) ≡ join_with_byte 44 names
join_begun names name at = join_first name (drop 1 names) ∙ ap (join_with_byte 44) (sym (drop_at names 0 name at))

pub join_next : (text : Text) (names : List Text) (i : ℕ) (name : Text) → slice_get names i ≡ Some name → (text ++ 44 ∷ []) ++ name ++ tail_of (drop (i + 1) names) ≡ text ++ tail_of (drop i names)
join_next text names i name at = rw (drop_at names i name at) (ap (λ t. t ++ tail_of (drop (i + 1) names)) (append_assoc text (44 ∷ []) name) ∙ append_assoc text (44 ∷ name) (tail_of (drop (i + 1) names)))

pub join_last : (text : Text) (names : List Text) (i : ℕ) → length names ≤ i → text ++ tail_of (drop i names) ≡ text
join_last text names i ended = rw (drop_all i names ended) (append-nil text)
