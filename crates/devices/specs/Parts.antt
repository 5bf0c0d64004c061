-- A prefix of what is written.
use Rattle.std.specs.Prelude.{◌≡◌, ℕ, List, ◌++◌}
use Rattle.std.specs.declared.option.Option.{Option}
use Rattle.std.specs.Io.KnownBytes.{Appends}

-- known bytes grow by a prefix of bs
pub record AppendsPart (old new : Option (List ℕ)) (bs : List ℕ) : Type 0 where
  pub put : List ℕ
  pub rest : List ℕ
  pub is : put ++ rest ≡ bs
  pub appended : Appends old new put
