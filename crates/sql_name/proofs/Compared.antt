-- What equal names have in common, alone, in a list and in a set.
use Rattle.std.proofs.Common.{◌≡◌, sym, ℕ, List, map}
use Rattle.std.proofs.lemmas.List.Folds.{Any-from_list_any, list_any-from_Any}
use Rattle.std.proofs.lemmas.Slice.Eq.{bytes_eq-Decides, slice_eq-Decides}
use Rattle.std.specs.Bool.{Decides}
use Rattle.std.specs.Cmp.Derive.Mapped.{pointwise-map}
use Rattle.std.specs.Cmp.Lexicographic.{pointwise}
use Rattle.std.specs.HashSet.{HashSet, contains}
use Rattle.std.specs.List.{Any}
use Rattle.std.specs.Ordering.{on}
use Rattle.std.specs.Str.{bytes_eq}
use Rattle.sql_name.specs.declared.name.Name.{Name}
use Rattle.sql_name.specs.declared.full_name.FullName.{FullName}
use Rattle.sql_name.specs.Compared.{name_cut, name_eq, full_text, full_name_eq}

module _ {N : Type 0} (text : N → List ℕ) where
  -- an element of a set has a text exactly where the set finds it
  found : {S : Type 0} (s : HashSet N S) (n : N) → Decides (contains (on text bytes_eq) s n) (Any (λ k. text k ≡ text n) s.keys)
  found s n = (
    λ e. let some = Any-from_list_any (λ k. bytes_eq (text n) (text k)) s.keys e in
        (some.0, some.1, some.2, some.3, sym ((bytes_eq-Decides (text n) (text some.1)).0 some.4)),
    λ some. list_any-from_Any (λ k. bytes_eq (text n) (text k)) s.keys
        (some.0, some.1, some.2, some.3, (bytes_eq-Decides (text n) (text some.1)).1 (sym some.4)),
  )

  -- two lists are equal by their texts
  listed : (xs ys : List N) → Decides (pointwise (on text bytes_eq) xs ys) (map text xs ≡ map text ys)
  listed xs ys = slice_eq-Decides bytes_eq-Decides (map text xs) (map text ys) (pointwise (on text bytes_eq) xs ys) (sym (pointwise-map text bytes_eq xs ys))

pub name_eq-Decides : (a b : Name) → Decides (name_eq a b) (name_cut a ≡ name_cut b)
name_eq-Decides a b = bytes_eq-Decides (name_cut a) (name_cut b)

-- lists of names, as paths are, are equal exactly where their lists of cuts are
pub names_eq-Decides : (xs ys : List Name) → Decides (pointwise name_eq xs ys) (map name_cut xs ≡ map name_cut ys)
names_eq-Decides = listed name_cut

-- a set contains a name exactly where a name in it has the same cut
pub contains-Decides : {S : Type 0} (s : HashSet Name S) (n : Name) → Decides (contains name_eq s n) (Any (λ k. name_cut k ≡ name_cut n) s.keys)
contains-Decides = found name_cut

pub full_name_eq-Decides : (a b : FullName) → Decides (full_name_eq a b) (full_text a ≡ full_text b)
full_name_eq-Decides a b = bytes_eq-Decides (full_text a) (full_text b)

pub full_names_eq-Decides : (xs ys : List FullName) → Decides (pointwise full_name_eq xs ys) (map full_text xs ≡ map full_text ys)
full_names_eq-Decides = listed full_text

pub contains_full-Decides : {S : Type 0} (s : HashSet FullName S) (n : FullName) → Decides (contains full_name_eq s n) (Any (λ k. full_text k ≡ full_text n) s.keys)
contains_full-Decides = found full_text
