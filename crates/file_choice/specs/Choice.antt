-- Which of the files that are named are checked.
use Rattle.std.specs.Prelude.{◌==◌, ◌&&◌, ◌||◌, Bool, if◌then◌else◌, List, [], ◌∷◌, ◌++◌, Option, Some, None}
use Rattle.std.specs.List.{list_any}
use Rattle.std.specs.Str.{bytes_eq}
use Rattle.path_pattern.specs.Patterns.{parts_of}
use Rattle.path_pattern.specs.Rows.{matched_by}
use Rattle.squawk_words.specs.Words.{Text}

-- what follows `./` at the start of a name
abbrev pub after_dot : Text → Option Text
after_dot [] = None
after_dot (x ∷ []) = None
after_dot (x ∷ y ∷ rest) = if x == 46 && y == 47 then Some rest else None

abbrev pub bare_by : Option Text → Text → Text
bare_by None name = name
bare_by (Some rest) name = rest

-- a name without `./` at its start
abbrev pub bare : Text → Text
bare name = bare_by (after_dot name) name

-- the path matches one of the patterns
abbrev pub is_excluded : List Text → Text → Bool
is_excluded patterns path = list_any (λ pattern. matched_by (parts_of pattern) path) patterns

-- the name was there before
abbrev pub is_among : List Text → Text → Bool
is_among before name = list_any (λ other. bytes_eq other name) before

-- Those of the names that are checked, by the names before them: a name is left out that was there before, or that matches a pattern.
abbrev pub chosen_after : List Text → List Text → List Text → List Text
chosen_after patterns before [] = []
chosen_after patterns before (name ∷ names) =
    if is_among before name || is_excluded patterns (bare name) then chosen_after patterns (before ++ name ∷ []) names
    else name ∷ chosen_after patterns (before ++ name ∷ []) names

abbrev pub chosen_of : List Text → List Text → List Text
chosen_of patterns names = chosen_after patterns [] names
