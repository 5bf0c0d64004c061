-- One session for all files.
use Rattle.std.proofs.Common.{◌≡◌, ◌∙◌, sym, ap, refl, arith, ℕ, zero, suc, ◌+◌, ◌-◌, ◌<◌, ◌≤◌, Bool, true, false, ◌||◌, ◌&&◌, not, List, [], ◌∷◌, ◌++◌, length, true≢false, subst}
use Rattle.std.proofs.lemmas.List.Elements.{All-head, All-tail}
use Rattle.std.specs.Prelude.{All, if◌then◌else◌}
use Rattle.squawk_linter.specs.sql_tree.Statement.{Tree, IsTree}
use Rattle.squawk_linter.specs.lint_base.declared.settings.LinterSettings.{LinterSettings}
use Rattle.squawk_linter.specs.lint_ignore.Comment.{has_disable_comment}
use Rattle.squawk_linter.specs.lint_transaction.Transaction.{ends, ends_at, is_open, opens_at, stmt_at}
use Rattle.squawk_linter.proofs.of_lint_transaction.TrackingLaws.{is_open-suc}
use Rattle.squawk_linter.specs.lock_machine.Laws.{BlocksAreOpen}
use Rattle.squawk_linter.specs.lock_machine.Machine.{Machine, after, before, is_young, running, start}
use Rattle.squawk_linter.specs.lock_machine.Works.{is_assumed, works}
use Rattle.squawk_linter.proofs.of_lock_machine.BirthLaws.{running_of}
use Rattle.squawk_linter.proofs.of_lock_machine.BeginLaws.{not_both}
use Rattle.migration_gate.specs.MachineLaws.{SessionsAgree, TransactionsEnd}
use Rattle.migration_gate.specs.Run.{EndsOutside, after_file, before_from, by_file, in_file, session_from, settings_for, works_from}
use Rattle.migration_gate.proofs.Ages.{IsCounted, after_moved, counted_from, files_are_apart, moved, works_where, young_moved}

start_outside : (m : Machine) → m.in_block ≡ false → m ≡ moved m.number m.births (start false)
start_outside m e =
    let n : m.number ≡ m.number + 0 = omega arith in
    λ i. record { number = n i; in_block = e i; births = m.births }

before_outside : (tree : Tree) (m : Machine) (i : ℕ) → m.in_block ≡ false → before_from m tree i ≡ moved m.number m.births (before false tree i)
before_outside tree m zero e = start_outside m e
before_outside tree m (suc i) e =
    ap (after tree (stmt_at tree i)) (before_outside tree m i e) ∙ after_moved tree (stmt_at tree i) m.number m.births (before false tree i)

-- after a statement the number is not 0, where it is not 0 in a transaction
number_grows : (e inside : Bool) (n : ℕ) → (inside ≡ true → 0 < n) → 0 < (if inside && not e then n else n + 1)
number_grows true true n h = omega arith
number_grows true false n h = omega arith
number_grows false true n h = h refl
number_grows false false n h = omega arith

counts_inside : (tree : Tree) (i : ℕ) → (before false tree i).in_block ≡ true → 0 < (before false tree i).number
counts_inside tree zero e = not_both (sym e)
counts_inside tree (suc i) e =
    let m = before false tree i in
    number_grows (ends (stmt_at tree i)) m.in_block m.number (counts_inside tree i)

runs_later : (inside : Bool) (n : ℕ) → (inside ≡ true → 0 < n) → 0 < running_of inside n
runs_later true n h = h refl
runs_later false n h = omega arith

works_outside : (settings : LinterSettings) (tree : Tree) (m : Machine) → is_assumed settings tree ≡ false → IsCounted m → m.in_block ≡ false
    → works_from settings m tree ≡ works tree settings
works_outside settings tree m off h e =
    works_where settings tree m
    (λ i path.
    let n = before false tree i in
    let later : 0 < running n = runs_later n.in_block n.number (counts_inside tree i) in
    ap (λ s. is_young s path) (before_outside tree m i e) ∙ young_moved path m.number m n h (omega (arith, later))
    ∙ ap (λ a. is_young (before a tree i) path) (sym off))

not_assumed : (settings : LinterSettings) (tree : Tree) → settings.assume_in_transaction ≡ false → is_assumed (settings_for settings tree) tree ≡ false
not_assumed settings tree e = λ i. (e i && not (has_disable_comment tree)) && not (has_disable_comment tree)

files_outside : BlocksAreOpen → (settings : LinterSettings) (n : ℕ) (m : Machine) (trees : List Tree) → settings.assume_in_transaction ≡ false → All IsTree trees → All EndsOutside trees
    → IsCounted m → m.in_block ≡ false → session_from settings n m trees ≡ by_file settings n trees
files_outside law settings n m [] off are out h e = refl
files_outside law settings n m (tree ∷ trees) off are out h e =
    let here = works_outside (settings_for settings tree) tree m (not_assumed settings tree off) h e in
    let end : (after_file m tree).in_block ≡ false =
    ap (λ (s : Machine). s.in_block) (before_outside tree m (length tree.stmts) e)
    ∙ law false tree (All-head IsTree tree trees are) (length tree.stmts) ∙ All-head EndsOutside tree trees out in
    let others = files_outside law settings (suc n) (after_file m tree) trees off (All-tail IsTree tree trees are) (All-tail EndsOutside tree trees out) (counted_from tree m h (length tree.stmts)) end in
    λ i. in_file n (here i) ++ others i

pub sessions_agree : BlocksAreOpen → SessionsAgree
sessions_agree law settings trees off are out = files_outside law settings 0 (start false) trees off are out (λ path. tt) refl ∙ sym (files_are_apart settings trees)

-- ---- transactions end

or_true : (a : Bool) → (a || true) ≡ true
or_true true = refl
or_true false = refl

-- an open transaction goes on over a statement that ends none
goes_on : (opens on ends : Bool) → on ≡ true → ends ≡ false → (opens || (on && not ends)) ≡ true
goes_on opens on ends o e = (λ i. opens || (o i && not (e i))) ∙ or_true opens

abbrev EndsFrom : Tree → ℕ → Type 0
EndsFrom tree j = (n : ℕ) × (j ≤ n) × (n < length tree.stmts) × (ends_at tree n ≡ true)

from_next : (tree : Tree) (j : ℕ) → EndsFrom tree (suc j) → EndsFrom tree j
from_next tree j h = let l = h.1 in (h.0, omega (arith, l), h.2, h.3)

here_or_later : (tree : Tree) (j : ℕ) (b : Bool) → ends_at tree j ≡ b → j < length tree.stmts → is_open false tree j ≡ true → (is_open false tree (suc j) ≡ true → EndsFrom tree (suc j))
    → EndsFrom tree j
here_or_later tree j true e l o later = (j, omega arith, l, e)
here_or_later tree j false e l o later =
    from_next tree j (later (is_open-suc false tree j ∙ goes_on (opens_at tree j) (is_open false tree j) (ends_at tree j) o e))

-- the end is looked for in the d statements from j on
search_end : (tree : Tree) (d j : ℕ) → j + d ≡ length tree.stmts → EndsOutside tree → is_open false tree j ≡ true → EndsFrom tree j
search_end tree zero j sum out o =
    let here : j ≡ length tree.stmts = omega (arith, sum) in
    absurd (true≢false (sym o ∙ ap (is_open false tree) here ∙ out))
search_end tree (suc d) j sum out o =
    let more : suc j + d ≡ length tree.stmts = omega (arith, sum) in
    here_or_later tree j (ends_at tree j) refl (omega (arith, sum)) o (λ on. search_end tree d (suc j) more out on)

pub transactions_end : TransactionsEnd
transactions_end tree out j l o = let d = length tree.stmts - j in let sum : j + d ≡ length tree.stmts = omega (arith, l) in search_end tree d j sum out o
