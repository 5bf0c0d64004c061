-- What the lock machine's states say of the earlier statements.
use Rattle.std.specs.Prelude.{◌≡◌, ℕ, zero, suc, ◌+◌, Bool, true, false, ◌||◌, not, List, None, if◌then◌else◌}
use Rattle.sql_tree.specs.Statement.{Tree, IsTree}
use Rattle.lint_pass.specs.lint_transaction.Transaction.{begins, created, ends, ends_at, is_new, is_open, stmt_at}
use Rattle.lock_machine.specs.Machine.{before, is_young}

-- A BEGIN ends nothing and creates nothing.
abbrev pub BeginsAlone : Tree → Type 0
BeginsAlone tree = (j : ℕ) → begins (stmt_at tree j) ≡ true → (ends (stmt_at tree j) ≡ false) × (created (stmt_at tree j) ≡ None)

-- how many numbers below n pass
abbrev pub count_below : (ℕ → Bool) → ℕ → ℕ
count_below p zero = 0
count_below p (suc n) = if p n then count_below p n + 1 else count_below p n

-- The mark says whether a transaction is open.
abbrev pub BlocksAreOpen : Type 0
BlocksAreOpen = (assumed : Bool) (tree : Tree) → IsTree tree → (i : ℕ) → (before assumed tree i).in_block ≡ is_open assumed tree i

-- The number counts the earlier statements that end a transaction or are outside of one.
abbrev pub NumbersCount : Type 0
NumbersCount =
    (assumed : Bool) (tree : Tree) → IsTree tree → (i : ℕ) →
    (before assumed tree i).number ≡ count_below (λ j. ends_at tree j || not (is_open assumed tree j)) i

-- The paths that were born in the running transaction are those that are new: an earlier statement of the same open
-- transaction creates the table.
abbrev pub BirthsAreNew : Type 0
BirthsAreNew =
    (assumed : Bool) (tree : Tree) → IsTree tree → (path : List (List ℕ)) (i : ℕ) →
    is_young (before assumed tree i) path ≡ is_new assumed tree path i
