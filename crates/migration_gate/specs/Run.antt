-- The lock machine over a list of files, one after another.
use Rattle.std.specs.Prelude.{◌≡◌, ℕ, zero, suc, ◌+◌, Bool, false, List, [], ◌∷◌, ◌++◌, map, length}
use Rattle.squawk_linter.specs.sql_tree.Statement.{Tree}
use Rattle.squawk_linter.specs.lint_base.declared.settings.LinterSettings.{LinterSettings}
use Rattle.squawk_linter.specs.lint_transaction.Earlier.{concat_below}
use Rattle.squawk_linter.specs.lint_transaction.Transaction.{is_open, stmt_at}
use Rattle.squawk_linter.specs.lock_machine.declared.work.Work.{Work}
use Rattle.squawk_linter.specs.lock_machine.Machine.{Machine, after, start}
use Rattle.squawk_linter.specs.lock_machine.Works.{is_assumed, works, works_of}
use Rattle.migration_gate.specs.declared.verdict.GateWork.{GateWork}

-- the settings under which a file is read: no transaction is assumed where a comment of the file says that none is to be assumed
abbrev pub settings_for : LinterSettings → Tree → LinterSettings
settings_for settings tree = record settings { assume_in_transaction = is_assumed settings tree }

-- ---- one file

-- At the start of a file the number rises by one, the mark says whether a transaction is assumed, and the births stay.
abbrev pub next_file : Bool → Machine → Machine
next_file assumed m = record { number = m.number + 1; in_block = assumed; births = m.births }

-- the machine before statement i of a file that begins with m
abbrev pub before_from : Machine → Tree → ℕ → Machine
before_from m tree zero = m
before_from m tree (suc i) = after tree (stmt_at tree i) (before_from m tree i)

-- the machine after a file that begins with m
abbrev pub after_file : Machine → Tree → Machine
after_file m tree = before_from m tree (length tree.stmts)

-- the works of a file that begins with m, with their ages
abbrev pub works_from : LinterSettings → Machine → Tree → List Work
works_from settings m tree = concat_below (λ i. works_of settings tree (before_from m tree i) i (stmt_at tree i)) (length tree.stmts)

abbrev pub in_file : ℕ → List Work → List GateWork
in_file file works = map (λ w. record { file = file; work = w }) works

-- ---- one after another

-- the machine at the start of a file that follows m
abbrev pub entering : LinterSettings → Tree → Machine → Machine
entering settings tree m = next_file (is_assumed (settings_for settings tree) tree) m

-- the works of some files, the first of which has number n and follows m
abbrev pub catalogue_from : LinterSettings → ℕ → Machine → List Tree → List GateWork
catalogue_from settings n m [] = []
catalogue_from settings n m (tree ∷ trees) =
    in_file n (works_from (settings_for settings tree) (entering settings tree m) tree)
    ++ catalogue_from settings (suc n) (after_file (entering settings tree m) tree) trees

-- The works of all files in order, each with its file and with its age in the machine that goes from file to file.
abbrev pub catalogue : LinterSettings → List Tree → List GateWork
catalogue settings trees = catalogue_from settings 0 (start false) trees

-- the works of each file by itself
abbrev pub by_file : LinterSettings → ℕ → List Tree → List GateWork
by_file settings n [] = []
by_file settings n (tree ∷ trees) = in_file n (works tree (settings_for settings tree)) ++ by_file settings (suc n) trees

-- ---- one session

-- the same where one session runs all files: the next file begins in the state that the one before has left
abbrev pub session_from : LinterSettings → ℕ → Machine → List Tree → List GateWork
session_from settings n m [] = []
session_from settings n m (tree ∷ trees) =
    in_file n (works_from (settings_for settings tree) m tree) ++ session_from settings (suc n) (after_file m tree) trees

abbrev pub session : LinterSettings → List Tree → List GateWork
session settings trees = session_from settings 0 (start false) trees

-- No transaction is open behind the file, where none is open before it.
abbrev pub EndsOutside : Tree → Type 0
EndsOutside tree = is_open false tree (length tree.stmts) ≡ false
