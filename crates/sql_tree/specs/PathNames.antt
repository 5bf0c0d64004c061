-- The names by which a path is compared.
use Rattle.std.specs.Prelude.{ℕ, Bool, List, map}
use Rattle.std.specs.Cmp.Lexicographic.{pointwise, slice_cmp}
use Rattle.std.specs.Hash.{HashWrites, slice}
use Rattle.std.specs.Ordering.{nat_cmp, on}
use Rattle.std.specs.declared.cmp.Ordering.{Ordering}
use Rattle.std.specs.Str.{bytes_eq}
use Rattle.sql_name.specs.Compared.{name_cut}
use Rattle.sql_name.specs.Hash.{text_writes}
use Rattle.sql_tree.specs.declared.path.NamePath.{NamePath}

-- the names of a path, each cut
abbrev pub names_of : NamePath → List (List ℕ)
names_of path = map name_cut path.names.items

-- `==` on paths: as many names, and the same ones
abbrev pub names_eq : NamePath → NamePath → Bool
names_eq = on names_of (pointwise bytes_eq)

-- the order of paths: the first names that differ decide, by their bytes
abbrev pub names_cmp : NamePath → NamePath → Ordering
names_cmp = on names_of (slice_cmp (slice_cmp nat_cmp))

-- what a path writes to a hasher: how many names, and then each
abbrev pub names_writes : NamePath → HashWrites
names_writes path = slice text_writes (names_of path)
