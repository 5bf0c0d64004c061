-- The texts that names show, and what is compared of them.
use Rattle.std.specs.Prelude.{ℕ, List, Bool}
use Rattle.std.specs.Ordering.{on}
use Rattle.std.specs.Str.{bytes_eq}
use Rattle.sql_name.specs.declared.name.Name.{Name}
use Rattle.sql_name.specs.declared.full_name.FullName.{FullName}
use Rattle.sql_name.specs.Name.{cut_name, full_name}

-- the source text of a name
abbrev pub name_text : Name → List ℕ
name_text n = n.text.now

-- the text by which names are compared
abbrev pub name_cut : Name → List ℕ
name_cut n = cut_name (name_text n)

-- `==` on names
abbrev pub name_eq : Name → Name → Bool
name_eq = on name_cut bytes_eq

-- the source text of a full name
abbrev pub full_name_text : FullName → List ℕ
full_name_text n = n.text.now

-- the text by which full names are compared
abbrev pub full_text : FullName → List ℕ
full_text n = full_name (full_name_text n)

-- `==` on full names
abbrev pub full_name_eq : FullName → FullName → Bool
full_name_eq = on full_text bytes_eq
