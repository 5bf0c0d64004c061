-- Expressions of changed terminals.
use Rattle.std.proofs.Common.{◌≡◌, ◌∙◌, ℕ, zero, suc, Bool, true, false, cond, List, [], ◌∷◌, length, map, refl, ap, sym, Option, Some, None}
use Rattle.std.specs.Option.{option_map}
use Rattle.std.proofs.lemmas.List.{length-map}
use Rattle.sql_tree.specs.sql_keyword.declared.words.TheConstants.Keyword as keyword
use Rattle.sql_token.specs.declared.token.Span.{Span}
use Rattle.sql_token.specs.declared.terminal.Terminal.{Terminal}
use Rattle.sql_tree.specs.declared.nodes.Expr.{Expr, fold-Expr, fold-roll-Expr}
use Rattle.sql_tree.specs.declared.nodes.Expr.TheVariants as e
use Rattle.sql_tree.specs.declared.nodes.Expr.TheOpen as layer
use Rattle.sql_tree.specs.declared.shape.Shape.{Shape}
use Rattle.sql_tree.specs.declared.shape.Shape.TheVariants as shape
use Rattle.sql_tree.specs.Split.{operator, cast, word, split}
use Rattle.sql_tree.specs.Expression.{ends_not_null, is_not_null, all_full_of, all_full, cast_at, is_literal, cast_call, after_path, named_by, named, or_named, leaf, shape_of, part, tree_by, tree, expression_of}
use Rattle.law_renumber.specs.Moved.{span_moved, layer_moved, expr_moved}
use Rattle.law_renumber.specs.Trees.{ExpressionRenumbers}
use Rattle.law_renumber.proofs.Seen.{Change, Changes, changed}
use Rattle.law_renumber.proofs.Basics.{moves, map_moved, at_sees}
use Rattle.law_renumber.proofs.Marks.{operator_is_blind, cast_is_blind, word_is_blind, before_renumbers, split_renumbers}
use Rattle.law_renumber.proofs.Groups.{is_empty_moved, is_list_sees, inside_list_moved, is_square_sees, path_moved, path_first_moved}

-- ---- one level of an expression

pub literal_moved : (f : Change) → expr_moved f.number e.Literal ≡ e.Literal
unfolding expr_moved
literal_moved f = ap (fold-Expr Expr (layer_moved f.number)) (sym e.rolls-Literal) ∙ fold-roll-Expr Expr (layer_moved f.number) layer.Literal

pub array_moved : (f : Change) → expr_moved f.number e.Array ≡ e.Array
unfolding expr_moved
array_moved f = ap (fold-Expr Expr (layer_moved f.number)) (sym e.rolls-Array) ∙ fold-roll-Expr Expr (layer_moved f.number) layer.Array

pub other_moved : (f : Change) → expr_moved f.number e.Other ≡ e.Other
unfolding expr_moved
other_moved f = ap (fold-Expr Expr (layer_moved f.number)) (sym e.rolls-Other) ∙ fold-roll-Expr Expr (layer_moved f.number) layer.Other

pub call_moved : (f : Change) (name : Option ℕ) (no_args : Bool) → expr_moved f.number (e.Call name no_args) ≡ e.Call (option_map f.number name) no_args
unfolding expr_moved
call_moved f name no_args =
    ap (fold-Expr Expr (layer_moved f.number)) (sym (e.rolls-Call name no_args)) ∙ fold-roll-Expr Expr (layer_moved f.number) (layer.Call name no_args)

pub name_moved : (f : Change) (path : Span) → expr_moved f.number (e.Name path) ≡ e.Name (span_moved f.number path)
unfolding expr_moved
name_moved f path = ap (fold-Expr Expr (layer_moved f.number)) (sym (e.rolls-Name path)) ∙ fold-roll-Expr Expr (layer_moved f.number) (layer.Name path)

pub bin_moved : (f : Change) (parts : List Expr) → expr_moved f.number (e.Bin parts) ≡ e.Bin (map (expr_moved f.number) parts)
unfolding expr_moved
bin_moved f parts = ap (fold-Expr Expr (layer_moved f.number)) (sym (e.rolls-Bin parts)) ∙ fold-roll-Expr Expr (layer_moved f.number) (layer.Bin parts)

pub cast_moved : (f : Change) (x : Expr) → expr_moved f.number (e.Cast x) ≡ e.Cast (expr_moved f.number x)
unfolding expr_moved
cast_moved f x = ap (fold-Expr Expr (layer_moved f.number)) (sym (e.rolls-Cast x)) ∙ fold-roll-Expr Expr (layer_moved f.number) (layer.Cast x)

pub collate_moved : (f : Change) (x : Expr) → expr_moved f.number (e.Collate x) ≡ e.Collate (expr_moved f.number x)
unfolding expr_moved
collate_moved f x = ap (fold-Expr Expr (layer_moved f.number)) (sym (e.rolls-Collate x)) ∙ fold-roll-Expr Expr (layer_moved f.number) (layer.Collate x)

pub is_not_null_moved : (f : Change) (x : Expr) → expr_moved f.number (e.IsNotNull x) ≡ e.IsNotNull (expr_moved f.number x)
unfolding expr_moved
is_not_null_moved f x =
    ap (fold-Expr Expr (layer_moved f.number)) (sym (e.rolls-IsNotNull x)) ∙ fold-roll-Expr Expr (layer_moved f.number) (layer.IsNotNull x)

ruleset levels = (
  literal_moved,
  array_moved,
  other_moved,
  call_moved,
  name_moved,
  bin_moved,
  cast_moved,
  collate_moved,
  is_not_null_moved,
)

-- ---- readings

ends_not_null_sees : (f : Change) (ts : List Terminal) → ends_not_null (map (changed f) ts) ≡ ends_not_null ts
unfolding ends_not_null
ends_not_null_sees f ts = simp (moves, at_sees)

is_not_null_sees : (f : Change) (ts : List Terminal) → is_not_null (map (changed f) ts) ≡ is_not_null ts
unfolding is_not_null
is_not_null_sees f ts = simp (moves, ends_not_null_sees, before_renumbers operator operator_is_blind)

all_full_of_sees : (f : Change) (parts : List (List Terminal)) → all_full_of (map (map (changed f)) parts) ≡ all_full_of parts
all_full_of_sees f [] = refl
all_full_of_sees f (p ∷ ps) = rw (is_empty_moved (changed f) p, all_full_of_sees f ps) refl

all_full_sees : (f : Change) (ts : List Terminal) → all_full (map (changed f) ts) ≡ all_full ts
unfolding all_full
all_full_sees f ts = simp (split_renumbers operator operator_is_blind, all_full_of_sees)

literal_sees : (f : Change) (t : Terminal) → is_literal (changed f t) ≡ is_literal t
unfolding is_literal
literal_sees f t = simp moves

-- ---- shapes

abbrev shape_moved : Change → Shape → Shape
shape_moved f (shape.Call name no_args) = shape.Call (option_map f.number name) no_args
shape_moved f (shape.Name path) = shape.Name (span_moved f.number path)
shape_moved f other = other

shape_cond : (f : Change) (b : Bool) (x y : Shape) → shape_moved f (cond b x y) ≡ cond b (shape_moved f x) (shape_moved f y)
shape_cond f true x y = refl
shape_cond f false x y = refl

cast_at_moved : (f : Change) (ts : List Terminal) (n : ℕ) → cast_at (map (changed f) ts) n ≡ shape_moved f (cast_at ts n)
unfolding cast_at
cast_at_moved f ts n = simp (shape_cond, moves, at_sees)

cast_call_moved : (f : Change) (ts : List Terminal) → cast_call (map (changed f) ts) ≡ option_map (shape_moved f) (cast_call ts)
unfolding cast_call
cast_call_moved f ts = simp (is_list_sees, inside_list_moved, before_renumbers (word keyword.AS) (word_is_blind keyword.AS), moves)

after_path_moved : (f : Change) (is_one : Bool) (path : Span) (rest : List Terminal) →
    after_path is_one (span_moved f.number path) (map (changed f) rest) ≡ shape_moved f (after_path is_one path rest)
unfolding after_path
after_path_moved f is_one path rest = simp (is_empty_moved, is_list_sees, shape_cond, moves)

named_by_moved : (f : Change) (ts : List Terminal) (r : Option (Span × List Terminal)) →
    named_by (map (changed f) ts) (option_map (path_moved f) r) ≡ shape_moved f (named_by ts r)
named_by_moved f ts None = refl
named_by_moved f ts (Some r) = simp (moves, after_path_moved)

named_moved : (f : Change) (ts : List Terminal) → named (map (changed f) ts) ≡ shape_moved f (named ts)
unfolding named
named_moved f ts = simp (path_first_moved, named_by_moved)

or_named_moved : (f : Change) (ts : List Terminal) (r : Option Shape) →
    or_named (map (changed f) ts) (option_map (shape_moved f) r) ≡ shape_moved f (or_named ts r)
or_named_moved f ts None = named_moved f ts
or_named_moved f ts (Some x) = refl

leaf_moved : (f : Change) (ts : List Terminal) → leaf (map (changed f) ts) ≡ shape_moved f (leaf ts)
unfolding leaf
leaf_moved f [] = refl
leaf_moved f (t ∷ ts) =
    simp (
      cast_call_moved f ts,
      or_named_moved f (t ∷ ts),
      named_moved f (t ∷ ts),
      shape_cond,
      is_empty_moved (changed f) ts,
      literal_sees,
      is_square_sees f ts,
      moves,
    )

shape_of_moved : (f : Change) (ts : List Terminal) → shape_of (map (changed f) ts) ≡ shape_moved f (shape_of ts)
unfolding shape_of
shape_of_moved f ts =
    simp (
      is_not_null_sees,
      before_renumbers operator operator_is_blind,
      before_renumbers cast cast_is_blind,
      all_full_sees,
      cast_at_moved,
      leaf_moved,
      shape_cond,
      moves,
    )

-- ---- trees

part_moved : (f : Change) (from len : ℕ) (ts : List Terminal) → part from len (map (changed f) ts) ≡ map (changed f) (part from len ts)
part_moved f from len ts = simp moves

tree_by_moved : (f : Change) (g : List Terminal → Expr) → ((ts : List Terminal) → g (map (changed f) ts) ≡ expr_moved f.number (g ts)) →
    (ts : List Terminal) (x : Shape) → tree_by g (map (changed f) ts) (shape_moved f x) ≡ expr_moved f.number (tree_by g ts x)
tree_by_moved f g moves_g ts shape.Literal = simp levels
tree_by_moved f g moves_g ts shape.Array = simp levels
tree_by_moved f g moves_g ts shape.Bin =
    rw (split_renumbers operator operator_is_blind f ts, map_moved (map (changed f)) (expr_moved f.number) g g moves_g (split operator ts)) (simp levels)
tree_by_moved f g moves_g ts (shape.Call name no_args) = simp levels
tree_by_moved f g moves_g ts (shape.Cast from len) = rw (part_moved f from len ts, moves_g (part from len ts)) (simp levels)
tree_by_moved f g moves_g ts (shape.Collate len) = rw (part_moved f 0 len ts, moves_g (part 0 len ts)) (simp levels)
tree_by_moved f g moves_g ts (shape.Name path) = simp levels
tree_by_moved f g moves_g ts (shape.IsNotNull len) = rw (part_moved f 0 len ts, moves_g (part 0 len ts)) (simp levels)
tree_by_moved f g moves_g ts shape.Other = simp levels

tree_moved : (f : Change) (n : ℕ) (ts : List Terminal) → tree n (map (changed f) ts) ≡ expr_moved f.number (tree n ts)
unfolding tree
tree_moved f zero ts = simp levels
tree_moved f (suc n) ts = rw (shape_of_moved f ts) (tree_by_moved f (tree n) (tree_moved f n) ts (shape_of ts))

pub expression_renumbers : Changes ExpressionRenumbers
unfolding expression_of
expression_renumbers f ts = rw (length-map ts (changed f)) (tree_moved f (suc (length ts)) ts)
