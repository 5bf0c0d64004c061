-- An expression without arrays is steady exactly where it is not volatile.
use Rattle.std.proofs.Common.{◌≡◌, ◌∙◌, sym, refl, ℕ, Bool, false, ◌&&◌, List, [], ◌∷◌, map, subst}
use Rattle.std.proofs.lemmas.Bool.{or_parts}
use Rattle.std.specs.List.{list_any, list_all}
use Rattle.lock_machine.specs.sql_tree.declared.nodes.Expr.{Expr, Expr-F, fold-roll-Expr, ind-Expr, map-Expr, roll-Expr}
use Rattle.lock_machine.specs.sql_tree.declared.nodes.Expr.TheOpen as layer
use Rattle.lock_machine.specs.sql_tree.Statement.{Tree}
use Rattle.lock_machine.specs.Plain.{array_by_parts, has_array}
use Rattle.lock_machine.specs.Steady.{is_steady, steady_by_parts}
use Rattle.pass_groups.specs.pass_constraint.Volatility.{is_non_volatile_or_const, of_parts}
use Rattle.law_clean.proofs.Nothing.{not_both}

abbrev pub AreAlike : List (List ℕ) → Tree → Expr → Type 0
AreAlike names tree x = has_array x ≡ false → is_steady names tree x ≡ is_non_volatile_or_const names tree x

-- each part has its proof beside it
parts_alike : (names : List (List ℕ)) (tree : Tree) (parts : List ((x : Expr) × AreAlike names tree x))
    → list_any (λ b. b) (map has_array (map (λ p. p.0) parts)) ≡ false
    → list_all (λ b. b) (map (is_steady names tree) (map (λ p. p.0) parts)) ≡ list_all (λ b. b) (map (is_non_volatile_or_const names tree) (map (λ p. p.0) parts))
parts_alike names tree [] none = refl
parts_alike names tree (p ∷ parts) none =
    let both = or_parts (has_array p.0) (list_any (λ b. b) (map has_array (map (λ p. p.0) parts))) none in
    let first = p.1 both.0 in
    let others = parts_alike names tree parts both.1 in
    λ i. first i && others i

level : (names : List (List ℕ)) (tree : Tree) (y : Expr-F ((x : Expr) × AreAlike names tree x)) → AreAlike names tree (roll-Expr (map-Expr _ _ (λ p. p.0) y))
unfolding is_steady is_non_volatile_or_const has_array
level names tree layer.Literal none =
    fold-roll-Expr Bool (steady_by_parts names tree) layer.Literal ∙ sym (fold-roll-Expr Bool (of_parts names tree) layer.Literal)
level names tree layer.Array none = not_both (sym (fold-roll-Expr Bool array_by_parts layer.Array) ∙ none)
level names tree (layer.Bin parts) none =
    let z = layer.Bin (map (λ p. p.0) parts) in
    fold-roll-Expr Bool (steady_by_parts names tree) z
    ∙ (parts_alike names tree parts (sym (fold-roll-Expr Bool array_by_parts z) ∙ none) ∙ sym (fold-roll-Expr Bool (of_parts names tree) z))
level names tree (layer.Call name no_args) none =
    fold-roll-Expr Bool (steady_by_parts names tree) (layer.Call name no_args) ∙ sym (fold-roll-Expr Bool (of_parts names tree) (layer.Call name no_args))
level names tree (layer.Cast p) none =
    let z = layer.Cast p.0 in
    fold-roll-Expr Bool (steady_by_parts names tree) z
    ∙ (p.1 (sym (fold-roll-Expr Bool array_by_parts z) ∙ none) ∙ sym (fold-roll-Expr Bool (of_parts names tree) z))
level names tree (layer.Collate p) none =
    let z = layer.Collate p.0 in
    fold-roll-Expr Bool (steady_by_parts names tree) z
    ∙ (p.1 (sym (fold-roll-Expr Bool array_by_parts z) ∙ none) ∙ sym (fold-roll-Expr Bool (of_parts names tree) z))
level names tree (layer.Name path) none =
    fold-roll-Expr Bool (steady_by_parts names tree) (layer.Name path) ∙ sym (fold-roll-Expr Bool (of_parts names tree) (layer.Name path))
level names tree (layer.IsNotNull p) none =
    let z = layer.IsNotNull p.0 in
    fold-roll-Expr Bool (steady_by_parts names tree) z
    ∙ (p.1 (sym (fold-roll-Expr Bool array_by_parts z) ∙ none) ∙ sym (fold-roll-Expr Bool (of_parts names tree) z))
level names tree layer.Other none =
    fold-roll-Expr Bool (steady_by_parts names tree) layer.Other ∙ sym (fold-roll-Expr Bool (of_parts names tree) layer.Other)

pub steady_without_array : (names : List (List ℕ)) (tree : Tree) (x : Expr) → AreAlike names tree x
steady_without_array names tree =
    ind-Expr (AreAlike names tree) (λ x y is. subst (λ z. AreAlike names tree (roll-Expr z)) is (level names tree y))
