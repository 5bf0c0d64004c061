-- What the table of a configuration says, or why it is refused.
use Rattle.std.specs.Prelude.{◌≡◌, ◌==◌, ℕ, ◌&&◌, ◌||◌, Bool, false, if◌then◌else◌, List, [], ◌∷◌, Option, Some, None, Result, Ok, Err, codes, find, is_none, length, nat_le, nat_lt, option_and_then, option_map, ⊤}
use Rattle.std.specs.Char.{is_ascii_digit}
use Rattle.std.specs.List.{list_all, slice_split}
use Rattle.std.specs.Str.{bytes_eq}
use Rattle.lint_report.specs.Codes.{code_named}
use Rattle.squawk_run.specs.squawk_words.Words.{Text}
use Rattle.toml.specs.Data.{Data, Items, no_items, item, Members, no_members, member, as_array, as_bool, as_str, get_member}
use Rattle.check_config.specs.declared.config.Config.{Config}
use Rattle.check_config.specs.declared.fault.ConfigError.{ConfigError}
use Rattle.check_config.specs.declared.fault.ConfigError.TheVariants as error
use Rattle.check_config.specs.declared.fault.ConfigFault.{ConfigFault}
use Rattle.check_config.specs.declared.fault.ConfigFault.TheVariants as fault

-- the configuration that says nothing
abbrev pub empty : Config
empty = record { excluded_rules = []; included_rules = []; excluded_paths = []; pg_version = []; assume_in_transaction = false }

-- ---- keys

abbrev pub is_key : Text → Bool
is_key name =
    bytes_eq name (codes "excluded_rules") || bytes_eq name (codes "included_rules") || bytes_eq name (codes "excluded_paths") ||
    bytes_eq name (codes "pg_version") || bytes_eq name (codes "assume_in_transaction")

-- the first key that is not one of these
abbrev pub unknown_key : Members → Option Text
unknown_key no_members = None
unknown_key (member key value rest) = if is_key key then unknown_key rest else Some key

-- ---- values

-- what was read, and what is read after it
abbrev pub read_then : {X Y : Type 0} → Result X ConfigFault → (X → Result Y ConfigFault) → Result Y ConfigFault
read_then (Ok x) next = next x
read_then (Err e) next = Err e

-- a value that was read, or the fault of its key
abbrev pub ok_or_bad : {X : Type 0} → Text → Option X → Result X ConfigFault
ok_or_bad key None = Err (fault.BadValue key)
ok_or_bad key (Some x) = Ok x

abbrev pub bad_value : Text → ConfigError
bad_value key = error.Refused (fault.BadValue key)

-- the texts of a list that has nothing else
abbrev pub texts_of : Items → Option (List Text)
texts_of no_items = Some []
texts_of (item value rest) = option_and_then (λ text. option_map (λ texts. text ∷ texts) (texts_of rest)) (as_str value)

abbrev pub text_list : Data → Option (List Text)
text_list value = option_and_then texts_of (as_array value)

-- the texts of the value that a key has, none where it has no value
abbrev pub texts_by : Text → Option Data → Result (List Text) ConfigFault
texts_by key None = Ok []
texts_by key (Some value) = ok_or_bad key (text_list value)

abbrev pub texts_at : Text → Members → Result (List Text) ConfigFault
texts_at key table = texts_by key (get_member key table)

abbrev pub is_unknown_rule : Text → Bool
is_unknown_rule name = is_none (code_named name)

-- names of rules and hazards, or the fault of the first name that is neither
abbrev pub known_by : List Text → Option Text → Result (List Text) ConfigFault
known_by names None = Ok names
known_by names (Some name) = Err (fault.UnknownRule name)

abbrev pub known_rules : List Text → Result (List Text) ConfigFault
known_rules names = known_by names (find is_unknown_rule names)

-- the names of rules and hazards at a key
abbrev pub rules_at : Text → Members → Result (List Text) ConfigFault
rules_at key table = read_then (texts_at key table) known_rules

-- the error of a rule or a key that there isn't, or memory ran out
abbrev pub IsUnknownRule : Text → ConfigError → Type 0
IsUnknownRule name (error.Refused f) = f ≡ fault.UnknownRule name
IsUnknownRule name error.NoMemory = ⊤

abbrev pub IsUnknownKey : Text → ConfigError → Type 0
IsUnknownKey key (error.Refused f) = f ≡ fault.UnknownKey key
IsUnknownKey key error.NoMemory = ⊤

-- ---- the version

abbrev pub is_dot : ℕ → Bool
is_dot byte = byte == 46

-- one to nine digits
abbrev pub is_part : Text → Bool
is_part text = nat_lt 0 (length text) && nat_le (length text) 9 && list_all is_ascii_digit text

-- at most three parts: major, minor, patch
abbrev pub is_version : List Text → Bool
is_version parts = nat_le (length parts) 3 && list_all is_part parts

abbrev pub version_if : List Text → Option (List Text)
version_if parts = if is_version parts then Some parts else None

-- the parts of a version, between its dots
abbrev pub version_parts : Text → Option (List Text)
version_parts text = version_if (slice_split is_dot text)

abbrev pub version_of : Data → Option (List Text)
version_of value = option_and_then version_parts (as_str value)

abbrev pub version_by : Option Data → Result (List Text) ConfigFault
version_by None = Ok []
version_by (Some value) = ok_or_bad (codes "pg_version") (version_of value)

abbrev pub version_at : Members → Result (List Text) ConfigFault
version_at table = version_by (get_member (codes "pg_version") table)

-- ---- the transaction

abbrev pub flag_by : Option Data → Result Bool ConfigFault
flag_by None = Ok false
flag_by (Some value) = ok_or_bad (codes "assume_in_transaction") (as_bool value)

abbrev pub flag_at : Members → Result Bool ConfigFault
flag_at table = flag_by (get_member (codes "assume_in_transaction") table)

-- ---- the table

-- the values of the keys, or the fault of the first that can't be read
abbrev pub values_in : Members → Result Config ConfigFault
values_in table =
    read_then (rules_at (codes "excluded_rules") table) (λ excluded_rules.
    read_then (rules_at (codes "included_rules") table) (λ included_rules.
    read_then (texts_at (codes "excluded_paths") table) (λ excluded_paths.
    read_then (version_at table) (λ pg_version.
    read_then (flag_at table) (λ assume_in_transaction.
    Ok (record {
      excluded_rules = excluded_rules;
      included_rules = included_rules;
      excluded_paths = excluded_paths;
      pg_version = pg_version;
      assume_in_transaction = assume_in_transaction;
    }))))))

abbrev pub config_by : Option Text → Members → Result Config ConfigFault
config_by None table = values_in table
config_by (Some key) table = Err (fault.UnknownKey key)

-- what a table says: an unknown key is its first fault
abbrev pub config_in : Members → Result Config ConfigFault
config_in table = config_by (unknown_key table) table
