-- Arrays in expressions, level by level.
use Rattle.std.proofs.Common.{◌≡◌, ◌∙◌, sym, ap, refl, ℕ, Bool, true, false, ◌||◌, List, [], ◌∷◌, map, Option}
use Rattle.std.specs.List.{list_any}
use Rattle.lint_pass.specs.sql_token.declared.token.Span.{Span}
use Rattle.sql_tree.specs.declared.nodes.Expr.{Expr, fold-Expr, fold-roll-Expr}
use Rattle.sql_tree.specs.declared.nodes.Expr.TheVariants as e
use Rattle.sql_tree.specs.declared.nodes.Expr.TheOpen as layer
use Rattle.lock_machine.specs.Plain.{has_array, array_by_parts}

any_map : {X : Type 0} (p : X → Bool) (xs : List X) → list_any (λ b. b) (map p xs) ≡ list_any p xs
any_map p [] = refl
any_map p (x ∷ xs) = ap (λ b. p x || b) (any_map p xs)

pub literal_level : has_array e.Literal ≡ false
unfolding has_array
literal_level = ap (fold-Expr Bool array_by_parts) (sym e.rolls-Literal) ∙ fold-roll-Expr Bool array_by_parts layer.Literal

pub array_level : has_array e.Array ≡ true
unfolding has_array
array_level = ap (fold-Expr Bool array_by_parts) (sym e.rolls-Array) ∙ fold-roll-Expr Bool array_by_parts layer.Array

pub other_level : has_array e.Other ≡ false
unfolding has_array
other_level = ap (fold-Expr Bool array_by_parts) (sym e.rolls-Other) ∙ fold-roll-Expr Bool array_by_parts layer.Other

pub call_level : (name : Option ℕ) (no_args : Bool) → has_array (e.Call name no_args) ≡ false
unfolding has_array
call_level name no_args = ap (fold-Expr Bool array_by_parts) (sym (e.rolls-Call name no_args)) ∙ fold-roll-Expr Bool array_by_parts (layer.Call name no_args)

pub name_level : (path : Span) → has_array (e.Name path) ≡ false
unfolding has_array
name_level path = ap (fold-Expr Bool array_by_parts) (sym (e.rolls-Name path)) ∙ fold-roll-Expr Bool array_by_parts (layer.Name path)

pub bin_level : (parts : List Expr) → has_array (e.Bin parts) ≡ list_any has_array parts
unfolding has_array
bin_level parts =
    ap (fold-Expr Bool array_by_parts) (sym (e.rolls-Bin parts)) ∙ (fold-roll-Expr Bool array_by_parts (layer.Bin parts) ∙ any_map has_array parts)

pub cast_level : (x : Expr) → has_array (e.Cast x) ≡ has_array x
unfolding has_array
cast_level x = ap (fold-Expr Bool array_by_parts) (sym (e.rolls-Cast x)) ∙ fold-roll-Expr Bool array_by_parts (layer.Cast x)

pub collate_level : (x : Expr) → has_array (e.Collate x) ≡ has_array x
unfolding has_array
collate_level x = ap (fold-Expr Bool array_by_parts) (sym (e.rolls-Collate x)) ∙ fold-roll-Expr Bool array_by_parts (layer.Collate x)

pub is_not_null_level : (x : Expr) → has_array (e.IsNotNull x) ≡ has_array x
unfolding has_array
is_not_null_level x = ap (fold-Expr Bool array_by_parts) (sym (e.rolls-IsNotNull x)) ∙ fold-roll-Expr Bool array_by_parts (layer.IsNotNull x)

pub ruleset levels = (
  literal_level,
  array_level,
  other_level,
  call_level,
  name_level,
  bin_level,
  cast_level,
  collate_level,
  is_not_null_level,
)
