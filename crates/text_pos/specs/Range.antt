-- A range of a text: the bytes from `start` to before `end`.
use Rattle.std.specs.Prelude.{ℕ, ◌≤◌}

pub record Range : Type 0 where
  pub start : ℕ
  pub end : ℕ

-- the range runs forward
abbrev pub IsOrdered : Range → Type 0
IsOrdered r = r.start ≤ r.end

-- the bytes of the second range all lie in the first, and so does its place where it has none
abbrev pub ContainsRange : Range → Range → Type 0
ContainsRange outer inner = (outer.start ≤ inner.start) × (inner.end ≤ outer.end)
