-- The files of a folder that hold SQL.
use Rattle.std.specs.Prelude.{ℕ, Bool, List, codes, filter, nat_eq, String, string_bytes}
use Rattle.std.specs.List.{ends_with}
use Rattle.std.specs.List.Sorted.{IsPermutation, IsSorted}
use Rattle.std.specs.String.{string_cmp}

-- the name ends in `.sql`
abbrev pub is_sql_name : List ℕ → Bool
is_sql_name name = ends_with nat_eq name (codes ".sql")

-- those of the names that end in `.sql`, each as often as it was there, in order of their bytes
pub record AreSqlNames {Z : Type 0} (names kept : List (String Z)) : Type 0 where
  pub permutation : IsPermutation (filter (λ name. is_sql_name (string_bytes name)) names) kept
  pub sorted : IsSorted string_cmp kept
