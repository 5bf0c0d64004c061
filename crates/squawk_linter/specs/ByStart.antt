-- The entries of a list in the order of a number.
use Rattle.std.specs.Prelude.{ℕ, ◌==◌, List, filter}
use Rattle.fix_edit.specs.lint_transaction.Earlier.{concat_below}

-- The entries whose number is below n, in the order of their numbers; entries of one number stay in the order in which
-- they were.
abbrev pub by_key : {X : Type 0} → (X → ℕ) → ℕ → List X → List X
by_key key n xs = concat_below (λ s. filter (λ x. key x == s) xs) n
