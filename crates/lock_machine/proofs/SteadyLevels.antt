-- Steady expressions, level by level.
use Rattle.std.proofs.Common.{◌≡◌, ◌∙◌, sym, ap, ℕ, Bool, true, false, List, Option}
use Rattle.std.specs.Prelude.{codes}
use Rattle.std.proofs.lemmas.List.Folds.{list_all-map}
use Rattle.std.specs.List.{list_all}
use Rattle.lint_pass.specs.sql_token.declared.token.Span.{Span}
use Rattle.sql_tree.specs.declared.nodes.Expr.{Expr, fold-Expr, fold-roll-Expr}
use Rattle.sql_tree.specs.declared.nodes.Expr.TheVariants as e
use Rattle.sql_tree.specs.declared.nodes.Expr.TheOpen as layer
use Rattle.sql_tree.specs.Statement.{Tree}
use Rattle.lint_pass.specs.lint_transaction.Names.{is_listed_call, is_one_name}
use Rattle.lock_machine.specs.Steady.{is_steady, steady_by_parts}

pub literal_level : (names : List (List ℕ)) (tree : Tree) → is_steady names tree e.Literal ≡ true
unfolding is_steady
literal_level names tree = ap (fold-Expr Bool (steady_by_parts names tree)) (sym e.rolls-Literal) ∙ fold-roll-Expr Bool (steady_by_parts names tree) layer.Literal

pub array_level : (names : List (List ℕ)) (tree : Tree) → is_steady names tree e.Array ≡ false
unfolding is_steady
array_level names tree = ap (fold-Expr Bool (steady_by_parts names tree)) (sym e.rolls-Array) ∙ fold-roll-Expr Bool (steady_by_parts names tree) layer.Array

pub other_level : (names : List (List ℕ)) (tree : Tree) → is_steady names tree e.Other ≡ false
unfolding is_steady
other_level names tree = ap (fold-Expr Bool (steady_by_parts names tree)) (sym e.rolls-Other) ∙ fold-roll-Expr Bool (steady_by_parts names tree) layer.Other

pub call_level : (names : List (List ℕ)) (tree : Tree) (name : Option ℕ) (no_args : Bool) → is_steady names tree (e.Call name no_args) ≡ is_listed_call names tree name no_args
unfolding is_steady
call_level names tree name no_args = ap (fold-Expr Bool (steady_by_parts names tree)) (sym (e.rolls-Call name no_args)) ∙ fold-roll-Expr Bool (steady_by_parts names tree) (layer.Call name no_args)

pub name_level : (names : List (List ℕ)) (tree : Tree) (path : Span) → is_steady names tree (e.Name path) ≡ is_one_name tree path (codes "current_timestamp")
unfolding is_steady
name_level names tree path = ap (fold-Expr Bool (steady_by_parts names tree)) (sym (e.rolls-Name path)) ∙ fold-roll-Expr Bool (steady_by_parts names tree) (layer.Name path)

pub bin_level : (names : List (List ℕ)) (tree : Tree) (parts : List Expr) → is_steady names tree (e.Bin parts) ≡ list_all (is_steady names tree) parts
unfolding is_steady
bin_level names tree parts = ap (fold-Expr Bool (steady_by_parts names tree)) (sym (e.rolls-Bin parts)) ∙ (fold-roll-Expr Bool (steady_by_parts names tree) (layer.Bin parts) ∙ list_all-map (λ b. b) (is_steady names tree) parts)

pub cast_level : (names : List (List ℕ)) (tree : Tree) (x : Expr) → is_steady names tree (e.Cast x) ≡ is_steady names tree x
unfolding is_steady
cast_level names tree x = ap (fold-Expr Bool (steady_by_parts names tree)) (sym (e.rolls-Cast x)) ∙ fold-roll-Expr Bool (steady_by_parts names tree) (layer.Cast x)

pub collate_level : (names : List (List ℕ)) (tree : Tree) (x : Expr) → is_steady names tree (e.Collate x) ≡ is_steady names tree x
unfolding is_steady
collate_level names tree x = ap (fold-Expr Bool (steady_by_parts names tree)) (sym (e.rolls-Collate x)) ∙ fold-roll-Expr Bool (steady_by_parts names tree) (layer.Collate x)

pub is_not_null_level : (names : List (List ℕ)) (tree : Tree) (x : Expr) → is_steady names tree (e.IsNotNull x) ≡ is_steady names tree x
unfolding is_steady
is_not_null_level names tree x = ap (fold-Expr Bool (steady_by_parts names tree)) (sym (e.rolls-IsNotNull x)) ∙ fold-roll-Expr Bool (steady_by_parts names tree) (layer.IsNotNull x)

pub ruleset levels = (
  literal_level,
  array_level,
  other_level,
  call_level,
  name_level,
  bin_level,
  cast_level,
  collate_level,
  is_not_null_level,
)
