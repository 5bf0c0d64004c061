-- Expressions that give one value for all rows of a table, and hold no array (PostgreSQL manual, "Function Volatility
-- Categories", and ALTER TABLE, Notes).
use Rattle.std.specs.Prelude.{ℕ, Bool, true, false, List, codes}
use Rattle.std.specs.List.{list_all}
use Rattle.sql_tree.specs.declared.nodes.Expr.{Expr, Expr-F, fold-Expr}
use Rattle.sql_tree.specs.declared.nodes.Expr.TheOpen as layer
use Rattle.sql_tree.specs.Statement.{Tree}
use Rattle.lint_pass.specs.lint_transaction.Names.{is_listed_call, is_one_name}

-- one level of an expression, by the answers for its parts
abbrev pub steady_by_parts : List (List ℕ) → Tree → Expr-F Bool → Bool
steady_by_parts names tree layer.Literal = true
steady_by_parts names tree layer.Array = false
steady_by_parts names tree (layer.Bin parts) = list_all (λ x. x) parts
steady_by_parts names tree (layer.Call name no_args) = is_listed_call names tree name no_args
steady_by_parts names tree (layer.Cast x) = x
steady_by_parts names tree (layer.Collate x) = x
steady_by_parts names tree (layer.Name path) = is_one_name tree path (codes "current_timestamp")
steady_by_parts names tree (layer.IsNotNull x) = x
steady_by_parts names tree layer.Other = false

-- No part of the expression, at any depth, is unknown, an array, a name other than CURRENT_TIMESTAMP, or a call other than one
-- without arguments of a function that is listed.
unfoldable pub is_steady : List (List ℕ) → Tree → Expr → Bool
is_steady names tree x = fold-Expr Bool (steady_by_parts names tree) x
