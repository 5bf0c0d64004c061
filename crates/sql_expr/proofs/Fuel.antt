-- The number that bounds the nesting does not matter, once it is larger than the length.
use Rattle.std.proofs.Common.{◌≡◌, ℕ, suc, zero, ◌+◌, ◌-◌, ◌<◌, ◌≤◌, ◌==◌, Bool, true, false, ◌&&◌, nat_lt, if◌then◌else◌, List, [], ◌∷◌, length, take, drop, map, refl, ap, arith, Option, Some, None, length-drop}
use borrow.Author.Tests.{ltb-true}
use Rattle.std.proofs.lemmas.List.{length-take}
use Rattle.std.proofs.lemmas.Grind.{common_steps}
use Rattle.sql_tree.specs.sql_token.declared.token.Span.{Span}
use Rattle.sql_tree.specs.sql_token.declared.terminal.Terminal.{Terminal}
use Rattle.sql_tree.specs.sql_token.Terminal.{is_opener, is_closer}
use Rattle.sql_tree.specs.sql_token.Depth.{one_if, onto}
use Rattle.sql_tree.specs.Split.{Test, before_from, before, split_from, split, operator, cast}
use Rattle.sql_tree.specs.Groups.{path_first}
use Rattle.sql_tree.specs.declared.nodes.Expr.{Expr}
use Rattle.sql_tree.specs.declared.nodes.Expr.TheVariants as e
use Rattle.sql_tree.specs.declared.shape.Shape.{Shape}
use Rattle.sql_tree.specs.declared.shape.Shape.TheVariants.{Literal, Array, Bin, Call, Cast, Collate, Name, IsNotNull, Other}
use Rattle.sql_tree.specs.Expression.{tree, expression_of, tree_by, shape_of, part, cast_at, leaf, named, named_by, after_path, cast_call, or_named, is_not_null, ends_not_null}

-- ---- parts are shorter

-- each of these is shorter than n
abbrev Shorter : ℕ → List (List Terminal) → Type 0
Shorter n [] = Unit {0}
Shorter n (x ∷ xs) = (length x < n) × Shorter n xs

wider : (n k : ℕ) (xs : List (List Terminal)) → n ≤ k → Shorter n xs → Shorter k xs
wider n k [] h s = tt
wider n k (x ∷ xs) h s = (omega (arith, s.0), wider n k xs h s.1)

put : (t : Terminal) (n : ℕ) (xs : List (List Terminal)) → 0 < n → Shorter n xs → Shorter (suc n) (onto t xs)
put t n [] some s = (omega arith, tt)
put t n (x ∷ xs) some s = (omega (arith, s.0), wider n (suc n) xs (omega arith) s.1)

-- No part is longer than the whole.
parts_step : (b : Bool) (t : Terminal) (n : ℕ) (xs ys : List (List Terminal)) → Shorter (suc n) xs → Shorter (suc n) ys → Shorter (suc (suc n)) (if b then [] ∷ xs else onto t ys)
parts_step true t n xs ys s r = (omega arith, wider (suc n) (suc (suc n)) xs (omega arith) s)
parts_step false t n xs ys s r = put t (suc n) ys (omega arith) r

parts : (mark : Test) (d : Option Terminal) (o c : ℕ) (ts : List Terminal) → Shorter (suc (length ts)) (split_from mark d o c ts)
parts mark d o c [] = (omega arith, tt)
parts mark d o c (t ∷ ts) =
    parts_step (o == c && mark d t ts) t (length ts) _ _ (parts mark (Some t) 0 0 ts)
    (parts mark (Some t) (o + one_if (is_opener t)) (c + one_if (is_closer t)) ts)

-- Where a mark is there, each is shorter.
cut_step : (b : Bool) (t : Terminal) (n k : ℕ) (xs ys : List (List Terminal)) → Shorter (suc n) xs → (k < n → Shorter n ys) → (if b then 0 else suc k) < suc n
    → Shorter (suc n) (if b then [] ∷ xs else onto t ys)
cut_step true t n k xs ys s r h = (omega arith, s)
cut_step false t n k xs ys s r h = put t n ys (omega arith) (r (omega arith))

cut : (mark : Test) (d : Option Terminal) (o c : ℕ) (ts : List Terminal) → before_from mark d o c ts < length ts → Shorter (length ts) (split_from mark d o c ts)
cut mark d o c [] h = absurd (omega arith)
cut mark d o c (t ∷ ts) h =
    cut_step (o == c && mark d t ts) t (length ts) _ _ _ (parts mark (Some t) 0 0 ts)
    (cut mark (Some t) (o + one_if (is_opener t)) (c + one_if (is_closer t)) ts) h

cut_parts : (mark : Test) (ts : List Terminal) → before mark ts < length ts → Shorter (length ts) (split mark ts)
unfolding before split
cut_parts mark ts h = cut mark None 0 0 ts h

map_same : (f g : List Terminal → Expr) (n : ℕ) (xs : List (List Terminal)) → ((x : List Terminal) → length x < n → f x ≡ g x) → Shorter n xs → map f xs ≡ map g xs
map_same f g n [] same s = refl
map_same f g n (x ∷ xs) same s = rw (same x s.0, map_same f g n xs same s.1) refl

picked : (b : Bool) (from len : ℕ) (ts : List Terminal) → 0 < length ts → nat_lt (from + len) (length ts) ≡ b → length (if b then take len (drop from ts) else []) < length ts
picked true from len ts some is = let l : from + len < length ts = ltb-true (from + len) (length ts) is in simp (length-take, length-drop) (omega arith)
picked false from len ts some is = some

part_shorter : (from len : ℕ) (ts : List Terminal) → 0 < length ts → length (part from len ts) < length ts
part_shorter from len ts some = picked (nat_lt (from + len) (length ts)) from len ts some refl

-- ---- Bin is the shape only where an operator is at depth 0

abbrev is_bin : Shape → Bool
is_bin Bin = true
is_bin _ = false

cast_not : (ts : List Terminal) (n : ℕ) → is_bin (cast_at ts n) ≡ false
unfolding cast_at
cast_not ts n = grind (arith, common_steps)

after_not : (is_one : Bool) (path : Span) (ts : List Terminal) → is_bin (after_path is_one path ts) ≡ false
unfolding after_path
after_not is_one path ts = grind (arith, common_steps)

named_not : (ts : List Terminal) → is_bin (named ts) ≡ false
unfolding named
named_not ts = by_not (path_first ts)
  where
    by_not : (r : Option (Span × List Terminal)) → is_bin (named_by ts r) ≡ false
    by_not None = refl
    by_not (Some r) = after_not _ r.0 r.1

call_cases : (b : Bool) (ts : List Terminal) (n : ℕ) → is_bin (or_named ts (if b then Some (Cast 2 n) else None)) ≡ false
call_cases true ts n = refl
call_cases false ts n = named_not ts

call_not : (ts rest : List Terminal) → is_bin (or_named ts (cast_call rest)) ≡ false
unfolding cast_call
call_not ts rest = call_cases _ ts _

leaf_cases : (a b c : Bool) (x y : Shape) → is_bin x ≡ false → is_bin y ≡ false → is_bin (if a then Literal else (if b then Array else (if c then x else y))) ≡ false
leaf_cases true b c x y p q = refl
leaf_cases false true c x y p q = refl
leaf_cases false false true x y p q = p
leaf_cases false false false x y p q = q

leaf_not : (ts : List Terminal) → is_bin (leaf ts) ≡ false
unfolding leaf
leaf_not [] = refl
leaf_not (t ∷ ts) = leaf_cases _ _ _ (or_named (t ∷ ts) (cast_call ts)) (named (t ∷ ts)) (call_not (t ∷ ts) ts) (named_not (t ∷ ts))

top : (a b c full : Bool) (i : ℕ) (x y : Shape) → is_bin x ≡ false → is_bin y ≡ false → is_bin (if a then IsNotNull i else (if b then (if full then Bin else Other) else (if c then x else y))) ≡ true → b ≡ true
top true b c full i x y p q e = cc
top false true c full i x y p q e = refl
top false false true full i x y p q e = cc
top false false false full i x y p q e = cc

bin_has : (ts : List Terminal) → is_bin (shape_of ts) ≡ true → before operator ts < length ts
unfolding shape_of
bin_has ts h =
    ltb-true (before operator ts) (length ts)
    (top (is_not_null ts) _ _ _ (length ts - 3) (cast_at ts (before cast ts)) (leaf ts) (cast_not ts (before cast ts)) (leaf_not ts) h)

empty : shape_of [] ≡ Other
unfolding shape_of is_not_null ends_not_null before leaf
empty = refl

-- ---- the tree

same_by : (f g : List Terminal → Expr) (ts : List Terminal) → 0 < length ts → ((y : List Terminal) → length y < length ts → f y ≡ g y)
    → (x : Shape) → shape_of ts ≡ x → tree_by f ts x ≡ tree_by g ts x
same_by f g ts some same Literal is = refl
same_by f g ts some same Array is = refl
same_by f g ts some same Bin is = ap e.Bin (map_same f g (length ts) (split operator ts) same (cut_parts operator ts (bin_has ts (rw is refl))))
same_by f g ts some same (Call name no_args) is = refl
same_by f g ts some same (Cast from len) is = ap e.Cast (same (part from len ts) (part_shorter from len ts some))
same_by f g ts some same (Collate len) is = ap e.Collate (same (part 0 len ts) (part_shorter 0 len ts some))
same_by f g ts some same (Name path) is = refl
same_by f g ts some same (IsNotNull len) is = ap e.IsNotNull (same (part 0 len ts) (part_shorter 0 len ts some))
same_by f g ts some same Other is = refl

pub stable : (n k : ℕ) (ts : List Terminal) → length ts < n → length ts < k → tree n ts ≡ tree k ts
unfolding tree
stable zero k ts h l = absurd (omega arith)
stable (suc n) zero ts h l = absurd (omega arith)
stable (suc n) (suc k) [] h l = rw empty refl
stable (suc n) (suc k) (t ∷ ts) h l =
    same_by (tree n) (tree k) (t ∷ ts) (omega arith) (λ y b. stable n k y (omega arith) (omega arith)) (shape_of (t ∷ ts)) refl

-- The equation without the number: the tree is that of the shape, over the trees of its parts.
pub no_fuel : (ts : List Terminal) → expression_of ts ≡ tree_by expression_of ts (shape_of ts)
unfolding tree expression_of
no_fuel [] = rw empty refl
no_fuel (t ∷ ts) =
    same_by (tree (length (t ∷ ts))) expression_of (t ∷ ts) (omega arith)
    (λ y b. stable (length (t ∷ ts)) (suc (length y)) y b (omega arith)) (shape_of (t ∷ ts)) refl
