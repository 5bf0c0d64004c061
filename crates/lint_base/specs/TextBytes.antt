-- The bytes of a text, whichever way it was made.
use Rattle.std.specs.Prelude.{◌≡◌, ℕ, List, true}
use Rattle.std.specs.List.{list_all}
use Rattle.std.specs.String.{string_bytes}
use Rattle.lint_base.specs.PlainBytes.{is_plain}
use Rattle.lint_base.specs.declared.text.Source.{Source}
use Rattle.lint_base.specs.declared.text.Source.TheVariants.{Fixed, Plain, Made}

abbrev pub source_bytes : Source → List ℕ
source_bytes (Fixed bytes) = bytes
source_bytes (Plain bytes) = bytes
source_bytes (Made text) = string_bytes text

-- each byte of a text that is kept as plain stands for itself
abbrev pub IsKept : Source → Type 0
IsKept (Fixed bytes) = Unit {0}
IsKept (Plain bytes) = list_all is_plain bytes ≡ true
IsKept (Made text) = Unit {0}
