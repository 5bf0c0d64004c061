-- The works of a catalogue come file by file.
use Rattle.std.proofs.Common.{◌≡◌, ◌∙◌, sym, ap, refl, arith, ℕ, zero, suc, ◌+◌, ◌<◌, ◌≤◌, Bool, true, false, List, [], ◌∷◌, ◌++◌, drop, length, take, Some, None}
use Rattle.std.specs.Prelude.{◌==◌, All, cond, flat_map, nat_lt, not, unwrap_or}
use Rattle.std.specs.List.{prefix_len}
use Rattle.std.proofs.lemmas.Bool.{eq-eqb, ltb-false, ne_eqb}
use Rattle.std.proofs.lemmas.List.Elements.{All-append, All-cons, All-head, All-nil, All-tail, All-weaker}
use Rattle.std.proofs.lemmas.List.Sums.{prefix_len-le-length}
use Rattle.std.proofs.Math.Seq.{drop-append_seam, take-append_seam}
use Rattle.squawk_linter.specs.sql_tree.Statement.{Tree}
use Rattle.squawk_linter.specs.lint_base.declared.settings.LinterSettings.{LinterSettings}
use Rattle.squawk_linter.specs.lock_machine.declared.work.Work.{Work}
use Rattle.squawk_linter.specs.lock_machine.Works.{works}
use Rattle.migration_gate.specs.declared.verdict.GateWork.{GateWork}
use Rattle.migration_gate.specs.MachineLaws.{FilesAreApart}
use Rattle.migration_gate.specs.Run.{by_file, catalogue, in_file, settings_for}
use Rattle.migration_gate.specs.PrintedLaws.{EachWithItsWorks, printed_each}
use Rattle.migration_gate.specs.PrintedVerdict.{count_of_file, printed_files, printed_ok, printed_work, printed_works}

-- ---- counting

abbrev IsOf : ℕ → GateWork → Type 0
IsOf file w = w.file ≡ file

abbrev IsAfter : ℕ → GateWork → Type 0
IsAfter file w = file < w.file

abbrev passes : ℕ → GateWork → Bool
passes file w = not (not (w.file == file))

front_len : (file : ℕ) (xs ys : List GateWork) → All (IsOf file) xs → All (IsAfter file) ys → prefix_len (passes file) (xs ++ ys) ≡ length xs
front_len file [] [] hx hy = refl
front_len file [] (y ∷ ys) hx hy =
    let later = All-head (IsAfter file) y ys hy in
    let other : (y.file == file) ≡ false = ne_eqb y.file file (λ e. omega (arith, e, later)) in
    λ i. cond (not (not (other i))) (1 + prefix_len (passes file) ys) 0
front_len file (x ∷ xs) ys hx hy =
    let same : (x.file == file) ≡ true = eq-eqb x.file file (All-head (IsOf file) x xs hx) in
    let rest = front_len file xs ys (All-tail (IsOf file) x xs hx) hy in
    let next : 1 + length xs ≡ suc (length xs) = omega arith in
    (λ i. cond (not (not (same i))) (1 + rest i) 0) ∙ next

place_or_all : (b : Bool) (k n : ℕ) → nat_lt k n ≡ b → k ≤ n → unwrap_or (cond b (Some k) None) n ≡ k
place_or_all true k n e l = refl
place_or_all false k n e l = let past = ltb-false k n e in omega (arith, past, l)

count_is : (file : ℕ) (xs ys : List GateWork) → All (IsOf file) xs → All (IsAfter file) ys → count_of_file file (xs ++ ys) ≡ length xs
count_is file xs ys hx hy =
    let k = prefix_len (passes file) (xs ++ ys) in
    place_or_all (nat_lt k (length (xs ++ ys))) k (length (xs ++ ys)) refl (prefix_len-le-length (passes file) (xs ++ ys)) ∙ front_len file xs ys hx hy

-- ---- catalogues

of_file : (file : ℕ) (ws : List Work) → All (IsOf file) (in_file file ws)
of_file file [] = All-nil (IsOf file)
of_file file (w ∷ ws) = All-cons (IsOf file) (record { file = file; work = w }) (in_file file ws) refl (of_file file ws)

after_file : (file n : ℕ) (ws : List Work) → file < n → All (IsAfter file) (in_file n ws)
after_file file n [] l = All-nil (IsAfter file)
after_file file n (w ∷ ws) l = All-cons (IsAfter file) (record { file = n; work = w }) (in_file n ws) l (after_file file n ws l)

all_after : (settings : LinterSettings) (file n : ℕ) (trees : List Tree) → file < n → All (IsAfter file) (by_file settings n trees)
all_after settings file n [] l = All-nil (IsAfter file)
all_after settings file n (tree ∷ trees) l =
    All-append (IsAfter file) (in_file n (works tree (settings_for settings tree))) (by_file settings (suc n) trees)
    (after_file file n (works tree (settings_for settings tree)) l) (all_after settings file (suc n) trees (omega (arith, l)))

works_printed : (file : ℕ) (ws : List Work) → printed_works (in_file file ws) ≡ flat_map printed_work ws
works_printed file [] = refl
works_printed file (w ∷ ws) = ap (λ bs. printed_work w ++ bs) (works_printed file ws)

files_printed : (settings : LinterSettings) (n : ℕ) (names : List (List ℕ)) (trees : List Tree) → length names ≡ length trees
    → printed_files n names (by_file settings n trees) ≡ printed_each settings names trees
files_printed settings n [] trees l = refl
files_printed settings n (name ∷ names) [] l = absurd (omega (arith, l))
files_printed settings n (name ∷ names) (tree ∷ trees) l =
    let own = works tree (settings_for settings tree) in
    let mine = in_file n own in
    let others = by_file settings (suc n) trees in
    let count = count_is n mine others (of_file n own) (all_after settings n (suc n) trees (omega arith)) in
    let here : take (count_of_file n (mine ++ others)) (mine ++ others) ≡ mine = ap (λ c. take c (mine ++ others)) count ∙ take-append_seam mine others in
    let rest : drop (count_of_file n (mine ++ others)) (mine ++ others) ≡ others = ap (λ c. drop c (mine ++ others)) count ∙ drop-append_seam mine others in
    let printed = ap printed_works here ∙ works_printed n own in
    let later = ap (printed_files (suc n) names) rest ∙ files_printed settings (suc n) names trees (omega (arith, l)) in
    λ i. printed_ok name ++ printed i ++ later i

pub each_with_its_works : FilesAreApart → EachWithItsWorks
each_with_its_works law settings names trees l = ap (printed_files 0 names) (law settings trees) ∙ files_printed settings 0 names trees l
