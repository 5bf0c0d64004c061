-- The value of a text has no float.
use Rattle.std.proofs.Common.{◌≡◌, ℕ, false, List, Option, Some, None, option_map, refl}
use Rattle.serde_json.specs.Written.{has_float}
use Rattle.source_file.specs.declared.hints.Hint.{Hint}
use Rattle.source_file.specs.Hints.{text_of}
use Rattle.json_value.specs.Values.{hint_data, text_data}

pub text_has_no_float : (text : Option (List ℕ)) → has_float (text_data text) ≡ false
text_has_no_float None = refl
text_has_no_float (Some text) = refl

pub hint_has_no_float : (hint : Option Hint) → has_float (hint_data hint) ≡ false
hint_has_no_float hint = text_has_no_float (option_map text_of hint)
