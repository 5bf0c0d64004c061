-- No birth of an earlier file has the running number of a later one, so the births that stay change no age.
use Rattle.std.proofs.Common.{◌≡◌, ◌∙◌, sym, ap, refl, arith, ℕ, zero, suc, ◌+◌, ◌<◌, inl, inr, Bool, true, false, ◌&&◌, ◌||◌, not, List, [], ◌∷◌, ◌++◌, length, Option, Some, None, subst}
use Rattle.std.specs.Prelude.{nat_eq, if◌then◌else◌, option_map}
use Rattle.std.specs.Map.{lookup}
use Rattle.std.proofs.lemmas.Bool.{cases_lt, eq-eqb, ne_eqb}
use Rattle.squawk_linter.specs.sql_token.declared.token.Span.{Span}
use Rattle.squawk_linter.specs.sql_tree.declared.nodes.Action.{Action}
use Rattle.squawk_linter.specs.sql_tree.declared.nodes.Stmt.{Stmt}
use Rattle.squawk_linter.specs.sql_tree.Path.{path_cuts}
use Rattle.squawk_linter.specs.sql_tree.Statement.{Tree}
use Rattle.squawk_linter.specs.lint_base.declared.settings.LinterSettings.{LinterSettings}
use Rattle.squawk_print_locks.specs.lint_lock.declared.lock.LockKind.{LockKind}
use Rattle.squawk_linter.specs.lint_node.Altered.{altered_path}
use Rattle.squawk_linter.specs.lint_node.Parts.{table_actions}
use Rattle.squawk_linter.specs.lint_transaction.Earlier.{concat_below}
use Rattle.squawk_linter.specs.lint_transaction.Transaction.{begins, ends, chains, created, creates, is_path, same_path, stmt_at}
use Rattle.squawk_linter.specs.lock_machine.declared.work.Work.{Work}
use Rattle.squawk_linter.specs.lock_machine.Machine.{Machine, after, before, births_with, birth, is_number, is_young, running, start}
use Rattle.squawk_linter.specs.lock_machine.Works.{action_lock, index_lock, indexed_table, is_assumed, is_old, range_of, work_if, works, works_of, works_of_actions}
use Rattle.squawk_linter.proofs.of_lock_machine.BirthLaws.{at_most, at_most-up, at_most-next, late, running_of}
use Rattle.squawk_linter.proofs.of_lock_machine.MachineLaws.{birth_with}
use Rattle.migration_gate.specs.MachineLaws.{FilesAreApart}
use Rattle.migration_gate.specs.Run.{after_file, before_from, by_file, catalogue_from, entering, in_file, next_file, settings_for, works_from}

-- some births, each k later, and then older ones
abbrev pub later : ℕ → List (List (List ℕ) × ℕ) → List (List (List ℕ) × ℕ) → List (List (List ℕ) × ℕ)
later k old [] = old
later k old (b ∷ bs) = (b.0, k + b.1) ∷ later k old bs

-- a machine that counts from k, and has older births
abbrev pub moved : ℕ → List (List (List ℕ) × ℕ) → Machine → Machine
moved k old m = record { number = k + m.number; in_block = m.in_block; births = later k old m.births }

-- ---- a statement

add_one : (k n : ℕ) → k + n + 1 ≡ k + (n + 1)
add_one k n = omega arith

number_moved : (goes_on : Bool) (k n : ℕ) → (if goes_on then k + n else k + n + 1) ≡ k + (if goes_on then n else n + 1)
number_moved true k n = refl
number_moved false k n = add_one k n

running_moved : (inside : Bool) (k n : ℕ) → running_of inside (k + n) ≡ k + running_of inside n
running_moved = number_moved

births_moved : (tree : Tree) (made : Option Span) (k r s : ℕ) (old bs : List (List (List ℕ) × ℕ)) → s ≡ k + r
    → births_with tree made s (later k old bs) ≡ later k old (births_with tree made r bs)
births_moved tree None k r s old bs e = refl
births_moved tree (Some span) k r s old bs e = λ i. births_with tree (Some span) (e i) (later k old bs)

pub after_moved : (tree : Tree) (s : Stmt) (k : ℕ) (old : List (List (List ℕ) × ℕ)) (m : Machine) → after tree s (moved k old m) ≡ moved k old (after tree s m)
after_moved tree s k old m =
    let n = number_moved (m.in_block && not (ends s)) k m.number in
    let b = births_moved tree (created s) k (running m) (running (moved k old m)) old m.births (running_moved m.in_block k m.number) in
    λ i. record { number = n i; in_block = if ends s then chains s else begins s || m.in_block; births = b i }

start_moved : (assumed : Bool) (m : Machine) → next_file assumed m ≡ moved (m.number + 1) m.births (start assumed)
start_moved assumed m =
    let n : m.number + 1 ≡ m.number + 1 + 0 = omega arith in
    λ i. record { number = n i; in_block = assumed; births = m.births }

before_moved : (assumed : Bool) (tree : Tree) (m : Machine) (i : ℕ) → before_from (next_file assumed m) tree i ≡ moved (m.number + 1) m.births (before assumed tree i)
before_moved assumed tree m zero = start_moved assumed m
before_moved assumed tree m (suc i) =
    ap (after tree (stmt_at tree i)) (before_moved assumed tree m i) ∙ after_moved tree (stmt_at tree i) (m.number + 1) m.births (before assumed tree i)

-- ---- ages

same_sum : (k a b : ℕ) → nat_eq (k + a) (k + b) ≡ nat_eq a b
same_sum k a b =
    elim (cases_lt a b) [
      | inl l ↦ ne_eqb (k + a) (k + b) (λ e. omega (arith, e, l)) ∙ sym (ne_eqb a b (λ e. omega (arith, e, l)))
      | inr g ↦
          elim (cases_lt b a) [
            | inl l ↦ ne_eqb (k + a) (k + b) (λ e. omega (arith, e, l)) ∙ sym (ne_eqb a b (λ e. omega (arith, e, l)))
            | inr h ↦ let e : a ≡ b = omega arith in let f : k + a ≡ k + b = omega (arith, e) in eq-eqb (k + a) (k + b) f ∙ sym (eq-eqb a b e)
          ]
    ]

pick : (t : Bool) (k r b : ℕ) (o p : Option ℕ) → is_number (k + r) p ≡ is_number r o
    → is_number (k + r) (if t then Some (k + b) else p) ≡ is_number r (if t then Some b else o)
pick true k r b o p h = same_sum k b r
pick false k r b o p h = h

lookup_later : (path : List (List ℕ)) (k r : ℕ) (old bs : List (List (List ℕ) × ℕ)) → is_number (k + r) (lookup (same_path path) old) ≡ false
    → is_number (k + r) (lookup (same_path path) (later k old bs)) ≡ is_number r (lookup (same_path path) bs)
lookup_later path k r old [] h = h
lookup_later path k r old (b ∷ bs) h =
    pick (same_path path b.0) k r b.1 (lookup (same_path path) bs) (lookup (same_path path) (later k old bs)) (lookup_later path k r old bs h)

-- no birth is later than the number
abbrev pub IsCounted : Machine → Type 0
IsCounted m = (path : List (List ℕ)) → at_most (birth m path) m.number

pub young_moved : (path : List (List ℕ)) (k : ℕ) (m n : Machine) → IsCounted m → m.number < k + running n → is_young (moved k m.births n) path ≡ is_young n path
young_moved path k m n h l =
    ap (λ r. is_number r (lookup (same_path path) (later k m.births n.births))) (running_moved n.in_block k n.number)
    ∙ lookup_later path k (running n) m.births n.births (late (birth m path) m.number (k + running n) (h path) l)

-- ---- works

-- two machines tell the same tables apart
abbrev pub AgreeOn : Machine → Machine → Type 0
AgreeOn m n = (path : List (List ℕ)) → is_young m path ≡ is_young n path

old_where : (tree : Tree) (m n : Machine) (path : Option Span) → AgreeOn m n → is_old tree m path ≡ is_old tree n path
old_where tree m n None h = refl
old_where tree m n (Some span) h = ap not (h (path_cuts tree.text tree.toks span))

work_where : (tree : Tree) (m n : Machine) (i : ℕ) (path : Option Span) (lock : Option LockKind) → AgreeOn m n → work_if tree m i path lock ≡ work_if tree n i path lock
work_where tree m n i path None h = refl
work_where tree m n i path (Some lock) h =
    let age = old_where tree m n path h in
    ap (λ (old : Bool). (record { stmt = i; path = option_map (range_of tree) path; lock = lock; old = old }) ∷ []) age

actions_where : (settings : LinterSettings) (tree : Tree) (m n : Machine) (i : ℕ) (path : Option Span) (actions : List Action) → AgreeOn m n
    → works_of_actions settings tree m i path actions ≡ works_of_actions settings tree n i path actions
actions_where settings tree m n i path [] h = refl
actions_where settings tree m n i path (a ∷ others) h =
    let here = work_where tree m n i path (action_lock settings tree a) h in
    let rest = actions_where settings tree m n i path others h in
    λ x. here x ++ rest x

statement_where : (settings : LinterSettings) (tree : Tree) (m n : Machine) (i : ℕ) (s : Stmt) → AgreeOn m n → works_of settings tree m i s ≡ works_of settings tree n i s
statement_where settings tree m n i s h =
    let index = work_where tree m n i (indexed_table s.body) (index_lock s) h in
    let actions = actions_where settings tree m n i (altered_path s) (table_actions s) h in
    λ x. index x ++ actions x

pieces_where : (f g : ℕ → List Work) (n : ℕ) → ((i : ℕ) → f i ≡ g i) → concat_below f n ≡ concat_below g n
pieces_where f g zero h = refl
pieces_where f g (suc n) h = let rest = pieces_where f g n h in λ x. rest x ++ h n x

-- the works of a file in two machines that agree before each statement
pub works_where : (settings : LinterSettings) (tree : Tree) (m : Machine) → ((i : ℕ) → AgreeOn (before_from m tree i) (before (is_assumed settings tree) tree i))
    → works_from settings m tree ≡ works tree settings
works_where settings tree m h =
    pieces_where (λ i. works_of settings tree (before_from m tree i) i (stmt_at tree i))
    (λ i. works_of settings tree (before (is_assumed settings tree) tree i) i (stmt_at tree i)) (length tree.stmts)
    (λ i. statement_where settings tree (before_from m tree i) (before (is_assumed settings tree) tree i) i (stmt_at tree i) (h i))

works_moved : (settings : LinterSettings) (tree : Tree) (m : Machine) → IsCounted m → works_from settings (next_file (is_assumed settings tree) m) tree ≡ works tree settings
works_moved settings tree m h =
    let assumed = is_assumed settings tree in
    works_where settings tree (next_file assumed m)
    (λ i path.
    ap (λ n. is_young n path) (before_moved assumed tree m i) ∙ young_moved path (m.number + 1) m (before assumed tree i) h (omega arith))

-- ---- files

counted_after : (tree : Tree) (s : Stmt) (m : Machine) → IsCounted m → IsCounted (after tree s m)
counted_after tree s m h = λ path.
    subst (λ o. at_most o (after tree s m).number) (sym (birth_with tree path (created s) (running m) m.births))
    (at_most-next (birth m path) m.number (creates tree path s) (ends s) m.in_block (h path))

pub counted_from : (tree : Tree) (m : Machine) → IsCounted m → (i : ℕ) → IsCounted (before_from m tree i)
counted_from tree m h zero = h
counted_from tree m h (suc i) = counted_after tree (stmt_at tree i) (before_from m tree i) (counted_from tree m h i)

counted_next : (assumed : Bool) (m : Machine) → IsCounted m → IsCounted (next_file assumed m)
counted_next assumed m h = λ path. at_most-up (birth m path) m.number (m.number + 1) (h path) (omega arith)

files_after : (settings : LinterSettings) (n : ℕ) (m : Machine) (trees : List Tree) → IsCounted m → catalogue_from settings n m trees ≡ by_file settings n trees
files_after settings n m [] h = refl
files_after settings n m (tree ∷ trees) h =
    let first = entering settings tree m in
    let here = works_moved (settings_for settings tree) tree m h in
    let others = files_after settings (suc n) (after_file first tree) trees (counted_from tree first (counted_next (is_assumed (settings_for settings tree) tree) m h) (length tree.stmts)) in
    λ i. in_file n (here i) ++ others i

pub files_are_apart : FilesAreApart
files_are_apart settings trees = files_after settings 0 (start false) trees (λ path. tt)
