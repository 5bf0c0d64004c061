-- Files printed one after another.
use Rattle.std.proofs.Common.{◌≡◌, ◌∙◌, sym, ap, refl, arith, ℕ, zero, suc, ◌+◌, ◌<◌, ◌≤◌, List, [], ◌∷◌, ◌++◌, append_assoc, append-nil, drop, length, take, Some, None}
use Rattle.std.specs.Prelude.{slice_get}
use Rattle.migration_gate.specs.declared.file.GateFile.{GateFile}
use Rattle.migration_gate.specs.declared.verdict.GateWork.{GateWork}
use Rattle.migration_gate.specs.Verdict.{names_of}
use Rattle.migration_gate.specs.PrintedVerdict.{count_of_file, name_at, printed_files, printed_ok, printed_works}

-- file i and its works, and then the files after it
abbrev from_file : ℕ → List ℕ → List (List ℕ) → List GateWork → List ℕ
from_file i name others works =
    printed_ok name ++ printed_works (take (count_of_file i works) works) ++ printed_files (suc i) others (drop (count_of_file i works) works)

files_at : (i k : ℕ) (names : List (List ℕ)) (works : List GateWork) → k < length names
    → printed_files i (drop k names) works ≡ from_file i (name_at names k) (drop (suc k) names) works
files_at i k [] works l = absurd (omega (arith, l))
files_at i zero (n ∷ ns) works l = refl
files_at i (suc k) (n ∷ ns) works l = files_at i k ns works (omega (arith, l))

-- one more file is printed
pub files_next : (i : ℕ) (names : List (List ℕ)) (works rest : List GateWork) (count : ℕ) (here to to1 to2 all : List ℕ) → i < length names
    → to ++ printed_files i (drop i names) works ≡ all → to1 ≡ to ++ printed_ok (name_at names i) → count ≡ count_of_file i works → here ≡ printed_works (take count works)
    → to2 ≡ to1 ++ here → rest ≡ drop count works
    → to2 ++ printed_files (i + 1) (drop (i + 1) names) rest ≡ all
files_next i names works rest count here to to1 to2 all l so_far ok counted printed added left =
    let next : i + 1 ≡ suc i = omega arith in
    let head = printed_ok (name_at names i) in
    let mine = printed_works (take (count_of_file i works) works) in
    let others = printed_files (suc i) (drop (suc i) names) (drop (count_of_file i works) works) in
    let rest_is : printed_files (i + 1) (drop (i + 1) names) rest ≡ others = (λ x. printed_files (next x) (drop (next x) names) (left x)) ∙ ap (λ c. printed_files (suc i) (drop (suc i) names) (drop c works)) counted in
    let here_is : here ≡ mine = printed ∙ ap (λ c. printed_works (take c works)) counted in
    let to_is : to2 ≡ (to ++ head) ++ mine = added ∙ (λ x. ok x ++ here_is x) in
    (λ x. to_is x ++ rest_is x)
    ∙ append_assoc (to ++ head) mine others ∙ append_assoc to head (mine ++ others)
    ∙ ap (λ x. to ++ x) (sym (append_assoc head mine others)) ∙ ap (λ x. to ++ x) (sym (files_at i i names works l)) ∙ so_far

-- no file is left
pub files_end : (i : ℕ) (names : List (List ℕ)) (works : List GateWork) (to all : List ℕ) → length names ≤ i → to ++ printed_files i (drop i names) works ≡ all → to ≡ all
files_end i names works to all l e = sym (append-nil to) ∙ ap (λ x. to ++ x) (sym (none_left i i names works l)) ∙ e
  where
    none_left : (j k : ℕ) (ns : List (List ℕ)) (ws : List GateWork) → length ns ≤ k → printed_files j (drop k ns) ws ≡ []
    none_left j zero [] ws l = refl
    none_left j (suc k) [] ws l = refl
    none_left j zero (n ∷ ns) ws l = absurd (omega (arith, l))
    none_left j (suc k) (n ∷ ns) ws l = none_left j k ns ws (omega (arith, l))

-- ---- names

pub name_there : (files : List GateFile) (i : ℕ) (f : GateFile) → slice_get files i ≡ Some f → f.name.now ≡ name_at (names_of files) i
name_there [] zero f e = absurd cc
name_there [] (suc i) f e = absurd cc
name_there (g ∷ gs) zero f e = let same : f ≡ g = cc in ap (λ (h : GateFile). h.name.now) same
name_there (g ∷ gs) (suc i) f e = name_there gs i f e

pub name_missing : (files : List GateFile) (i : ℕ) → slice_get files i ≡ None → [] ≡ name_at (names_of files) i
name_missing [] zero e = refl
name_missing [] (suc i) e = refl
name_missing (g ∷ gs) zero e = absurd cc
name_missing (g ∷ gs) (suc i) e = name_missing gs i e
