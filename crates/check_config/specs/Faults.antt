-- Where the fault of a configuration is, and what is said of it.
use Rattle.std.specs.Prelude.{ℕ, ◌+◌, ◌==◌, ◌&&◌, ◌||◌, Bool, true, false, not, if◌then◌else◌, [], ◌∷◌, ◌++◌, Option, Some, None, codes, length, nat_eq, slice_get, unwrap_or}
use Rattle.std.specs.Char.{is_ascii_alphanumeric}
use Rattle.std.specs.List.{starts_with}
use Rattle.squawk_run.specs.squawk_words.Words.{Text}
use Rattle.check_config.specs.declared.fault.ConfigFault.{ConfigFault}
use Rattle.check_config.specs.declared.fault.ConfigFault.TheVariants.{NotToml, UnknownKey, UnknownRule, BadValue}

-- what is wrong with what
abbrev pub message_of : ConfigFault → Text
message_of (NotToml at what) = codes "not TOML: " ++ what
message_of (UnknownKey key) = codes "unknown key: " ++ key
message_of (UnknownRule name) = codes "unknown rule: " ++ name
message_of (BadValue key) = codes "bad value: " ++ key

-- a letter, a digit, `-` or `_`
abbrev pub is_name_byte : ℕ → Bool
is_name_byte byte = is_ascii_alphanumeric byte || byte == 45 || byte == 95

abbrev pub ends_name : Option ℕ → Bool
ends_name None = true
ends_name (Some byte) = not (is_name_byte byte)

-- a text begins with a name that goes no further
abbrev pub begins_with_name : Text → Text → Bool
begins_with_name name text = starts_with nat_eq text name && ends_name (slice_get text (length name))

-- The first place, from so many bytes on, at which what is left of a text begins with a name: anywhere, or only where a line begins.
unfoldable pub place_from : Bool → Text → Text → Bool → ℕ → Option ℕ
place_from anywhere name [] begins_line i = None
place_from anywhere name (byte ∷ rest) begins_line i =
    if (anywhere || begins_line) && begins_with_name name (byte ∷ rest) then Some i
    else place_from anywhere name rest (byte == 10) (i + 1)

abbrev pub first_place : Bool → Text → Text → Option ℕ
first_place anywhere name text = place_from anywhere name text true 0

abbrev pub place_or : Option ℕ → ℕ → ℕ
place_or None other = other
place_or (Some at) other = at

-- where a name is: at the first line that begins with it, or else at its first place, or else at the start
abbrev pub name_place : Text → Text → ℕ
name_place name text = place_or (first_place false name text) (unwrap_or (first_place true name text) 0)

-- where the fault of a text is
abbrev pub fault_place : ConfigFault → Text → ℕ
fault_place (NotToml at what) text = at
fault_place (UnknownKey key) text = name_place key text
fault_place (UnknownRule name) text = name_place name text
fault_place (BadValue key) text = name_place key text
