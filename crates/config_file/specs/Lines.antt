-- The line that says why a configuration is refused.
use Rattle.std.specs.Prelude.{◌≡◌, ◌⊎◌, ℕ, List, ◌++◌, codes, decimal}
use Rattle.std.specs.Str.{IsCharBoundary}
use Rattle.check_config.specs.declared.fault.ConfigFault.{ConfigFault}
use Rattle.check_config.specs.Faults.{fault_place, message_of}
use Rattle.report_lines.specs.source_file.declared.place.Place.{Place}
use Rattle.report_lines.specs.source_file.File.{location}
use Rattle.report_lines.specs.source_file.Escaped.{escaped, escaped_name}
use Rattle.check_config.specs.squawk_words.Words.{Text}

-- the beginning of a line about a file: `error: .squawk.toml:`
abbrev pub opening : Text → List ℕ
opening name = codes "error: " ++ escaped_name name ++ codes ":"

abbrev pub start : Place
start = record { line = 1; column = 1 }

-- the place of a byte, or the start where a character is cut there
abbrev pub IsPlaceOf : Text → ℕ → Place → Type 0
IsPlaceOf text at place = (IsCharBoundary text at × (place ≡ location text at)) ⊎ ((¬ (IsCharBoundary text at)) × (place ≡ start))

-- `error: .squawk.toml:3:1: unknown key: exclude_rules`
abbrev pub fault_line : Text → Place → Text → List ℕ
fault_line name place message = opening name ++ decimal place.line ++ codes ":" ++ decimal place.column ++ codes ": " ++ escaped message ++ codes "\n"

abbrev pub IsFaultLine : Text → Text → ConfigFault → List ℕ → Type 0
IsFaultLine name text fault line = (place : Place) × IsPlaceOf text (fault_place fault text) place × (line ≡ fault_line name place (message_of fault))
