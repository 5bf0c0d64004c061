-- The printed form, as it is written in pieces.
use Rattle.std.specs.Prelude.{◌≡◌, ℕ, List, ◌++◌, codes, decimal}
use Rattle.std.specs.declared.option.Option.{Option}
use Rattle.std.specs.Io.KnownBytes.{Appends}

-- the line after the reports
unfoldable pub last_line : ℕ → List ℕ
last_line count = codes "violations: " ++ decimal count ++ codes "\n"

-- known bytes grow by all of bs but its end, which is kept
pub record AppendsBut (old new : Option (List ℕ)) (kept bs : List ℕ) : Type 0 where
  pub put : List ℕ
  pub is : put ++ kept ≡ bs
  pub appended : Appends old new put
