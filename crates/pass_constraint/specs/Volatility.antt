-- Expressions that give one value for all rows of a statement, as far as the linter knows: no part of them is volatile
-- (PostgreSQL manual, "Function Volatility Categories", and ALTER TABLE, Notes).
use Rattle.std.specs.Prelude.{ℕ, Bool, true, false, List, codes}
use Rattle.std.specs.List.{list_all}
use Rattle.sql_tree.specs.declared.nodes.Expr.{Expr, Expr-F, fold-Expr}
use Rattle.sql_tree.specs.declared.nodes.Expr.TheOpen as layer
use Rattle.sql_tree.specs.Statement.{Tree}
use Rattle.lint_pass.specs.lint_transaction.Names.{is_listed_call, is_one_name}

-- one level of an expression, by the answers for its parts
abbrev pub of_parts : List (List ℕ) → Tree → Expr-F Bool → Bool
of_parts names tree layer.Literal = true
of_parts names tree layer.Array = true
of_parts names tree (layer.Bin parts) = list_all (λ x. x) parts
of_parts names tree (layer.Call name no_args) = is_listed_call names tree name no_args
of_parts names tree (layer.Cast x) = x
of_parts names tree (layer.Collate x) = x
of_parts names tree (layer.Name path) = is_one_name tree path (codes "current_timestamp")
of_parts names tree (layer.IsNotNull x) = x
of_parts names tree layer.Other = false

-- The expression is a literal, an array, a function that is listed, or made of such. An array counts whatever it holds.
unfoldable pub is_non_volatile_or_const : List (List ℕ) → Tree → Expr → Bool
is_non_volatile_or_const names tree x = fold-Expr Bool (of_parts names tree) x
