-- What is printed of accepted files.
use Rattle.std.specs.Prelude.{◌≡◌, ℕ, List, [], ◌∷◌, ◌++◌, flat_map, length}
use Rattle.squawk_linter.specs.sql_tree.Statement.{Tree}
use Rattle.squawk_linter.specs.lint_base.declared.settings.LinterSettings.{LinterSettings}
use Rattle.squawk_linter.specs.lock_machine.Works.{works}
use Rattle.migration_gate.specs.Run.{catalogue, settings_for}
use Rattle.migration_gate.specs.PrintedVerdict.{printed_files, printed_ok, printed_work}

-- each file with the works of its own tree
abbrev pub printed_each : LinterSettings → List (List ℕ) → List Tree → List ℕ
printed_each settings [] trees = []
printed_each settings (name ∷ names) [] = []
printed_each settings (name ∷ names) (tree ∷ trees) =
    printed_ok name ++ flat_map printed_work (works tree (settings_for settings tree)) ++ printed_each settings names trees

-- Each accepted file is printed with all works of its own tree, and with no other.
abbrev pub EachWithItsWorks : Type 0
EachWithItsWorks =
    (settings : LinterSettings) (names : List (List ℕ)) (trees : List Tree) → length names ≡ length trees
    → printed_files 0 names (catalogue settings trees) ≡ printed_each settings names trees
