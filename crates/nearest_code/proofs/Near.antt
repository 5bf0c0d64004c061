-- The nearest name is the one that is found, where it is near enough.
use Rattle.std.proofs.Common.{◌≡◌, ◌<◌, ◌≤◌, ◌++◌, ◌&&◌, ℕ, Bool, true, false, List, [], ◌∷◌, Some, None, refl, arith, ◌∙◌, sym, subst, ap, le-leb}
use Rattle.std.proofs.lemmas.Bool.{lt-leb}
use Rattle.std.specs.Prelude.{find, nat_le}
use Rattle.std.specs.List.{All, AllByRecursion, list_all}
use Rattle.std.proofs.lemmas.List.Elements.{All-append, All-cons, All-weaker, recursion_from_All}
use Rattle.std.proofs.lemmas.List.Sums.{list_all-from_AllPass}
use Rattle.lint_report.specs.declared.code.Code.{Code}
use Rattle.nearest_code.specs.Nearest.{IsNearest, IsNearestOf, all_codes, edits, near_code}

no_second : (a b : Bool) → b ≡ false → (a && b) ≡ false
no_second true b fails = fails
no_second false b fails = refl

-- one element fails a test of all
fails_all : {X : Type 0} (p : X → Bool) (before after : List X) (x : X) → p x ≡ false → list_all p (before ++ x ∷ after) ≡ false
fails_all p [] after x fails = rw fails refl
fails_all p (y ∷ before) after x fails = no_second (p y) (list_all p (before ++ x ∷ after)) (fails_all p before after x fails)

finds : {X : Type 0} (p : X → Bool) (before after : List X) (x : X) → AllByRecursion (λ y. p y ≡ false) before → p x ≡ true → find p (before ++ x ∷ after) ≡ Some x
finds p [] after x fail passes = rw passes refl
finds p (y ∷ before) after x fail passes = rw (fail.0) (finds p before after x fail.1 passes)

finds_none : {X : Type 0} (p : X → Bool) (xs : List X) → AllByRecursion (λ y. p y ≡ false) xs → find p xs ≡ None
finds_none p [] fail = refl
finds_none p (x ∷ xs) fail = rw (fail.0) (finds_none p xs fail.1)

abbrev passes : ℕ → List ℕ → List Code → Code → Bool
passes most text codes r = nat_le (edits text r) most && list_all (λ q. nat_le (edits text r) (edits text q)) codes

-- none is nearer than the nearest
least : (codes : List Code) (text : List ℕ) (r : Code) → IsNearestOf codes text r → All (λ q. edits text r ≤ edits text q) codes
least codes text r h =
    let P : Code → Type 0 = λ q. edits text r ≤ edits text q in
    let front : All P h.before = All-weaker (λ q. edits text r < edits text q) P (λ q below. omega (arith, below)) h.before h.farther in
    subst (λ (rs : List Code). All P rs) (sym h.split) (All-append P h.before (r ∷ h.after) front (All-cons P r h.after (omega arith) h.not_nearer))

-- what is farther does not pass
farther_fails : (codes : List Code) (text : List ℕ) (r q : Code) (most : ℕ) → IsNearestOf codes text r → edits text r < edits text q → passes most text codes q ≡ false
farther_fails codes text r q most h below =
    let all_fails : list_all (λ p. nat_le (edits text q) (edits text p)) codes ≡ false =
    rw (h.split) (fails_all (λ p. nat_le (edits text q) (edits text p)) h.before h.after r (lt-leb (edits text q) (edits text r) below)) in
    no_second (nat_le (edits text q) most) _ all_fails

found_in : (codes : List Code) (text : List ℕ) (r : Code) (most : ℕ) → IsNearestOf codes text r → edits text r ≤ most → find (passes most text codes) codes ≡ Some r
found_in codes text r most h near =
    let p : Code → Bool = passes most text codes in
    let all_pass : list_all (λ q. nat_le (edits text r) (edits text q)) codes ≡ true =
    list_all-from_AllPass (λ q. nat_le (edits text r) (edits text q)) codes
    (All-weaker (λ q. edits text r ≤ edits text q) (λ q. nat_le (edits text r) (edits text q) ≡ true) (λ q le. le-leb (edits text r) (edits text q) le) codes (least codes text r h)) in
    let here : p r ≡ true = rw (le-leb (edits text r) most near, all_pass) refl in
    let before : All (λ q. p q ≡ false) h.before = All-weaker (λ q. edits text r < edits text q) (λ q. p q ≡ false) (λ q below. farther_fails codes text r q most h below) h.before h.farther in
    ap (find p) h.split ∙ finds p h.before h.after r (recursion_from_All (λ q. p q ≡ false) h.before before) here

none_in : (codes : List Code) (text : List ℕ) (r : Code) (most : ℕ) → IsNearestOf codes text r → most < edits text r → find (passes most text codes) codes ≡ None
none_in codes text r most h far =
    let p : Code → Bool = passes most text codes in
    finds_none p codes (recursion_from_All (λ q. p q ≡ false) codes
    (All-weaker (λ q. edits text r ≤ edits text q) (λ q. p q ≡ false) (λ q le. rw (lt-leb (edits text q) most (omega (arith, le, far))) refl) codes (least codes text r h)))

pub near_found : (text : List ℕ) (r : Code) (most : ℕ) → IsNearest text r → edits text r ≤ most → near_code most text ≡ Some r
unfolding near_code
near_found text r most h near = found_in all_codes text r most h near

pub near_none : (text : List ℕ) (r : Code) (most : ℕ) → IsNearest text r → most < edits text r → near_code most text ≡ None
unfolding near_code
near_none text r most h far = none_in all_codes text r most h far
