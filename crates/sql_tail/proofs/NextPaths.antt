-- One name of a list of paths after another.
use Rattle.std.proofs.Common.{◌≡◌, ℕ, Bool, true, false, ◌&&◌, cond, List, [], ◌∷◌, Option, Some, None, ◌++◌, refl, subst, ap, sym, ◌∙◌, append_assoc}
use Rattle.sql_token.specs.declared.token.Span.{Span}
use Rattle.sql_token.specs.declared.terminal.Terminal.{Terminal}
use Rattle.sql_token.specs.Terminal.{is_dot, is_name}
use Rattle.sql_tree.specs.Split.{is_comma_symbol}
use Rattle.sql_tree.specs.Tails.{from_to}
use Rattle.sql_tree.proofs.TailWalks.{paths_walk}
use Rattle.sql_tail.specs.Paths.{next_name}

-- what the paths are by the next name
abbrev by_next : ℕ → ℕ → List Span → Option (Bool × ℕ × List Terminal) → Type 0
by_next first last all None = all ≡ from_to first last ∷ []
by_next first last all (Some (false, n, ts)) = all ≡ paths_walk first n ts
by_next first last all (Some (true, n, ts)) = all ≡ from_to first last ∷ paths_walk n n ts

by_tests : (first last n : ℕ) (ts : List Terminal) (dot name comma : Bool) →
    by_next first last
    (cond (dot && name) (paths_walk first n ts) (cond (comma && name) (from_to first last ∷ paths_walk n n ts) (from_to first last ∷ [])))
    (cond (dot && name) (Some (false, n, ts)) (cond (comma && name) (Some (true, n, ts)) None))
by_tests first last n ts true true comma = refl
by_tests first last n ts true false true = refl
by_tests first last n ts true false false = refl
by_tests first last n ts false true true = refl
by_tests first last n ts false true false = refl
by_tests first last n ts false false true = refl
by_tests first last n ts false false false = refl

step : (first last : ℕ) (ts : List Terminal) → by_next first last (paths_walk first last ts) (next_name ts)
unfolding next_name
step first last [] = refl
step first last (d ∷ []) = refl
step first last (d ∷ t ∷ ts) = by_tests first last t.number ts (is_dot d) (is_name t) (is_comma_symbol d.symbol)

pub name_follows : (first last n : ℕ) (ts rest : List Terminal) → next_name ts ≡ Some (false, n, rest) → paths_walk first last ts ≡ paths_walk first n rest
name_follows first last n ts rest h = subst (by_next first last (paths_walk first last ts)) h (step first last ts)

path_follows : (first last n : ℕ) (ts rest : List Terminal) → next_name ts ≡ Some (true, n, rest) → paths_walk first last ts ≡ from_to first last ∷ paths_walk n n rest
path_follows first last n ts rest h = subst (by_next first last (paths_walk first last ts)) h (step first last ts)

-- A path that was read whole comes after those before it.
pub path_put : (before after : List Span) (path : Span) (n : ℕ) (ts rest : List Terminal) (all : List Span) → after ≡ before ++ path ∷ [] →
    next_name ts ≡ Some (true, n, rest) → before ++ paths_walk path.first path.last ts ≡ all → after ++ paths_walk n n rest ≡ all
path_put before after path n ts rest all put found is =
    ap (λ xs. xs ++ paths_walk n n rest) put ∙ append_assoc before (path ∷ []) (paths_walk n n rest)
    ∙ ap (λ xs. before ++ xs) (sym (path_follows path.first path.last n ts rest found)) ∙ is

pub none_follows : (first last : ℕ) (ts : List Terminal) → next_name ts ≡ None → paths_walk first last ts ≡ from_to first last ∷ []
none_follows first last ts h = subst (by_next first last (paths_walk first last ts)) h (step first last ts)
