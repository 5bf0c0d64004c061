-- The settings of a linter.
use Rattle.std.specs.Prelude.{ℕ, List, [], ◌∷◌, codes}

-- functions that are not volatile
abbrev pub standard_names : List (List ℕ)
standard_names =
    codes "now" ∷ codes "transaction_timestamp" ∷ codes "statement_timestamp" ∷ codes "current_database" ∷
    codes "current_schema" ∷ codes "version" ∷ codes "pi" ∷ []
