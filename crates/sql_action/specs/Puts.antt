-- An action that is put after those that were read.
use Rattle.std.specs.Prelude.{Bool, true, false, List, [], ◌∷◌, ◌++◌, Option, Some, None}

-- whether there was one, and the list
abbrev pub put_after : {A : Type 0} → Option A → List A → Bool × List A
put_after None xs = (false, xs)
put_after (Some x) xs = (true, xs ++ x ∷ [])
