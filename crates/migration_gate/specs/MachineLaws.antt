-- What the lock machine says of files that run one after another.
use Rattle.std.specs.Prelude.{◌≡◌, ◌<◌, ◌≤◌, ℕ, true, false, All, List, length}
use Rattle.squawk_linter.specs.sql_tree.Statement.{Tree, IsTree}
use Rattle.squawk_linter.specs.lint_base.declared.settings.LinterSettings.{LinterSettings}
use Rattle.squawk_linter.specs.lint_transaction.Transaction.{ends_at, is_open}
use Rattle.migration_gate.specs.Run.{EndsOutside, by_file, catalogue, session}

-- The machine that goes from file to file dates each work as the machine that begins with its file: no birth of an earlier file has the
-- running number of a later one.
abbrev pub FilesAreApart : Type 0
FilesAreApart = (settings : LinterSettings) (trees : List Tree) → catalogue settings trees ≡ by_file settings 0 trees

-- Where no transaction is assumed and no file ends inside of one, one session that runs all files dates each work alike. Without that a file
-- may run in a transaction that an earlier one has left open.
abbrev pub SessionsAgree : Type 0
SessionsAgree =
    (settings : LinterSettings) (trees : List Tree) → settings.assume_in_transaction ≡ false → All IsTree trees → All EndsOutside trees
    → session settings trees ≡ catalogue settings trees

-- In a file that ends outside of a transaction, each transaction that is open at a statement is ended there or later. So no constraint is
-- validated in a later file in the transaction that added it.
abbrev pub TransactionsEnd : Type 0
TransactionsEnd =
    (tree : Tree) → EndsOutside tree → (j : ℕ) → j < length tree.stmts → is_open false tree j ≡ true
    → (n : ℕ) × (j ≤ n) × (n < length tree.stmts) × (ends_at tree n ≡ true)
