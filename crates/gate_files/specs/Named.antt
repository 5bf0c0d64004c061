-- Which files the words stand for, and in which order.
use Rattle.std.specs.Prelude.{◌≡◌, ℕ, List, [], String, map, string_bytes}
use Rattle.std.specs.declared.alloc.Global.{Global}
use Rattle.std.specs.List.Sorted.{IsPermutation, IsSorted}
use Rattle.std.specs.String.{string_cmp}
use Rattle.file_choice.specs.Choice.{chosen_of}
use Rattle.sql_files.specs.devices.Contents.{Content}
use Rattle.sql_files.specs.Named.{AreNamed}
use Rattle.sql_files.specs.squawk_words.Words.{Text}
use Rattle.gate_files.specs.declared.order.Order.{Order}
use Rattle.gate_files.specs.declared.order.Order.TheVariants.{Given, Name}

-- the same names, each as often as it was there, in order of their bytes
pub record AreSorted (names sorted : List Text) : Type 0 where
  pub given : List (String Global)
  pub kept : List (String Global)
  pub given_are : map string_bytes given ≡ names
  pub sorted_are : map string_bytes kept ≡ sorted
  pub permutation : IsPermutation given kept
  pub in_order : IsSorted string_cmp kept

abbrev pub IsOrdered : Order → List Text → List Text → Type 0
IsOrdered Given names result = result ≡ names
IsOrdered Name names result = AreSorted names result

-- these are the files that the words stand for, in this order, each at its first place
pub record AreFilesOf (content : Text → Content) (before now : ℕ) (order : Order) (words names : List Text) : Type 0 where
  pub given : List Text
  pub result : List Text
  pub named : AreNamed content before now words given
  pub in_order : IsOrdered order given result
  pub once : names ≡ chosen_of [] result
