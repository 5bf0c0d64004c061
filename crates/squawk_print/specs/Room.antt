-- Room in a list of bytes.
use Rattle.std.specs.Prelude.{ℕ, ◌<◌, List, ◌++◌, length, vec_capacity}
use Rattle.std.specs.declared.vec.Vec.{Vec}

-- the list has no room for more bytes after its own
abbrev pub LacksRoom : {Z : Type 0} → Vec ℕ Z → List ℕ → Type 0
LacksRoom to more = vec_capacity to < length (to.items ++ more)
