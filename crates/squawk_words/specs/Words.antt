-- Which words are accepted, and what they set.
use Rattle.std.specs.Prelude.{◌==◌, ◌&&◌, ℕ, Bool, true, false, List, [], ◌∷◌, ◌++◌, Option, Some, None}
use Rattle.std.specs.Prelude.{codes, find, option_map, option_and_then, if◌then◌else◌}
use Rattle.std.specs.List.{list_any, before_first, after_first}
use Rattle.std.specs.Str.{bytes_eq}

-- a text, by its bytes
abbrev pub Text : Type 0
Text = List ℕ

-- ---- the names

-- names, each with whether it takes a value
abbrev pub Table : Type 0
Table = List (Text × Bool)

-- the names that are accepted
abbrev pub table : Table
table =
    (codes "only", true) ∷ (codes "include", true) ∷ (codes "exclude", true) ∷ (codes "non-volatile", true) ∷
    (codes "pg-major", true) ∷ (codes "pg-minor", true) ∷ (codes "pg-patch", true) ∷ (codes "generate", true) ∷
    (codes "assume-in-transaction", false) ∷ (codes "locks", false) ∷ []

-- whether a name takes a value, where it is one of the names
abbrev pub takes_value : Table → Text → Option Bool
takes_value names name = option_map (λ e. e.1) (find (λ e. bytes_eq e.0 name) names)

-- ---- what is set

-- names with their values, in the order in which they were set; one that takes no value is set to `true`
abbrev pub Settings : Type 0
Settings = List (Text × Text)

abbrev pub has : Text → Settings → Bool
has name said = list_any (λ p. bytes_eq p.0 name) said

abbrev pub value_of : Text → Settings → Option Text
value_of name said = option_map (λ p. p.1) (find (λ p. bytes_eq p.0 name) said)

-- what is set, and one name more; nothing where the name is set already
abbrev pub put : Text → Text → Settings → Option Settings
put name value said = if has name said then None else Some (said ++ (name, value) ∷ [])

-- ---- one word

-- what follows `--` at the start of a word
abbrev pub after_dashes : Text → Option Text
after_dashes [] = None
after_dashes (x ∷ []) = None
after_dashes (x ∷ y ∷ rest) = if x == 45 && y == 45 then Some rest else None

-- whether the first byte is `-`
abbrev pub begins_with_dash : Text → Bool
begins_with_dash [] = false
begins_with_dash (x ∷ rest) = x == 45

-- a `-` and at least one byte more
abbrev pub is_option : Text → Bool
is_option [] = false
is_option (x ∷ []) = false
is_option (x ∷ y ∷ rest) = x == 45

-- what comes before the first `=`
abbrev pub name_in : Text → Text
name_in text = before_first (λ x. x == 61) text

-- what comes after the first `=`, if there is one
abbrev pub value_in : Text → Option Text
value_in text = if list_any (λ x. x == 61) text then Some (after_first (λ x. x == 61) text) else None

-- ---- word by word

-- the name whose value is to be the next word, if there is one, and what is set
abbrev pub State : Type 0
State = Option Text × Settings

abbrev pub set_to : Text → Text → Settings → Option State
set_to name value said = option_map (λ s. (None, s)) (put name value said)

-- `--name=value` sets the name, and `--name` waits for the next word
abbrev pub option_word : Text → Option Text → Settings → Option State
option_word name (Some value) said = set_to name value said
option_word name None said = Some (Some name, said)

-- `--name` alone sets the name
abbrev pub flag_word : Text → Option Text → Settings → Option State
flag_word name (Some value) said = None
flag_word name None said = set_to name (codes "true") said

-- a word by whether its name takes a value
abbrev pub named_word : Text → Option Bool → Option Text → Settings → Option State
named_word name None value said = None
named_word name (Some true) value said = option_word name value said
named_word name (Some false) value said = flag_word name value said

-- one word: a value that was waited for, which does not begin with `-`, or a name after `--`
abbrev pub step : Table → Option Text → Text → Settings → Option State
step names (Some name) word said = if begins_with_dash word then None else set_to name word said
step names None word said =
    option_and_then (λ rest. named_word (name_in rest) (takes_value names (name_in rest)) (value_in rest) said) (after_dashes word)

-- the end, at which no value is waited for
abbrev pub ended : Option Text → Settings → Option Settings
ended (Some name) said = None
ended None said = Some said

-- the words one by one
unfoldable pub read_from : Table → Option Text → Settings → List Text → Option Settings
read_from names waiting said [] = ended waiting said
read_from names waiting said (word ∷ words) = option_and_then (λ s. read_from names s.0 s.1 words) (step names waiting word said)

-- what the words set, or nothing where they are refused
abbrev pub settings_of : List Text → Option Settings
settings_of words = read_from table None [] words
