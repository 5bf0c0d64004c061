-- The first statement that ends behind a place is the one at which the cursor stops.
use Rattle.std.proofs.Common.{◌≡◌, ◌+◌, ◌++◌, ◌≤◌, ◌<◌, ℕ, zero, suc, ap, arith, refl, subst, sym, Bool, true, false, List, [], ◌∷◌, All, Some, IfSome, length, take}
use Rattle.std.proofs.lemmas.Bool.Decides.{nat_tests}
use Rattle.std.proofs.lemmas.List.Elements.{All-append, All-cons, All-head, All-nil, All-tail, All-weaker}
use Rattle.std.proofs.lemmas.Option.{slice_get_within}
use Rattle.std.specs.List.{position_or_len}
use Rattle.std.specs.Prelude.{find, slice_get}
use Rattle.sql_tree.specs.declared.nodes.Stmt.{Stmt}
use Rattle.sql_tree.specs.Statement.{Tree}
use Rattle.statement_place.specs.declared.cursor.Cursor.{Cursor}
use Rattle.statement_place.specs.Statements.{IsCursor, IsStop, ends_behind, number_behind, statement_behind}

-- the first element that passes a test is the one of this number, where none before it passes and it does
find_at : {X : Type 0} (p : X → Bool) (xs : List X) (n : ℕ) → All (λ x. p x ≡ false) (take n xs) → IfSome (slice_get xs n) (λ x. p x ≡ true) → find p xs ≡ slice_get xs n
find_at p [] n none stop = refl
find_at p (x ∷ xs) zero none stop = rw stop refl
find_at p (x ∷ xs) (suc n) none stop =
    rw (All-head (λ y. p y ≡ false) x (take n xs) none) (find_at p xs n (All-tail (λ y. p y ≡ false) x (take n xs) none) stop)

-- and its number is the position of the first that passes
position_at : {X : Type 0} (p : X → Bool) (xs : List X) (n : ℕ) → n ≤ length xs → All (λ x. p x ≡ false) (take n xs) → IfSome (slice_get xs n) (λ x. p x ≡ true) → n ≡ position_or_len p xs
position_at p [] n le none stop = omega arith
position_at p (x ∷ xs) zero le none stop = rw stop refl
position_at p (x ∷ xs) (suc n) le none stop =
    let rest : n ≡ position_or_len p xs = position_at p xs n (omega arith) (All-tail (λ y. p y ≡ false) x (take n xs) none) stop in
    rw (All-head (λ y. p y ≡ false) x (take n xs) none) (omega (arith, rest))

pub numbered : (tree : Tree) (place number : ℕ) → IsCursor tree (record { number = number; place = place }) → IsStop tree place number → number ≡ number_behind tree place
unfolding number_behind
numbered tree place number cursor stop = position_at (ends_behind tree place) tree.stmts number cursor.within cursor.past stop

pub found : (tree : Tree) (place number : ℕ) → IsCursor tree (record { number = number; place = place }) → IsStop tree place number → statement_behind tree place ≡ slice_get tree.stmts number
found tree place number cursor stop = find_at (ends_behind tree place) tree.stmts number cursor.past stop

take_at : {X : Type 0} (xs : List X) (i : ℕ) (x : X) → slice_get xs i ≡ Some x → take (i + 1) xs ≡ take i xs ++ x ∷ []
take_at [] i x e = absurd (omega (arith, slice_get_within [] i x e))
take_at (first ∷ xs) zero x e = let same : first ≡ x = cc in ap (λ w. w ∷ []) same
take_at (first ∷ xs) (suc i) x e = let next : suc i + 1 ≡ suc (i + 1) = omega arith in rw next (ap (λ ys. first ∷ ys) (take_at xs i x e))

ends_before : (tree : Tree) (a b : ℕ) (s : Stmt) → a ≤ b → ends_behind tree a s ≡ false → ends_behind tree b s ≡ false
unfolding ends_behind
ends_before tree a b s le h = grind (arith, nat_tests)

-- what ends at or before a place ends at or before a later one
pub moved : (tree : Tree) (c : Cursor) (place : ℕ) → IsCursor tree c → c.place ≤ place → IsCursor tree (record { number = c.number; place = place })
moved tree c place cursor le = record {
  within = cursor.within;
  past = All-weaker (λ s. ends_behind tree c.place s ≡ false) (λ s. ends_behind tree place s ≡ false) (λ s h. ends_before tree c.place place s le h) (take c.number tree.stmts) cursor.past;
}

-- one statement more ends at or before the place
pub passed : (tree : Tree) (number place : ℕ) (s : Stmt) → IsCursor tree (record { number = number; place = place }) → slice_get tree.stmts number ≡ Some s → ends_behind tree place s ≡ false
    → IsCursor tree (record { number = number + 1; place = place })
passed tree number place s cursor at before = record {
  within = let within : number < length tree.stmts = slice_get_within tree.stmts number s at in omega arith;
  past = subst (λ xs. All (λ x. ends_behind tree place x ≡ false) xs) (sym (take_at tree.stmts number s at))
      (All-append (λ x. ends_behind tree place x ≡ false) (take number tree.stmts) (s ∷ []) cursor.past (All-cons (λ x. ends_behind tree place x ≡ false) s [] before (All-nil (λ x. ends_behind tree place x ≡ false))));
}
