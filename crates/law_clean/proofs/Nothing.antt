-- A list of reports is empty only where each part of it is.
use Rattle.std.proofs.Common.{◌≡◌, ◌∙◌, sym, ap, refl, arith, ℕ, zero, suc, ◌<◌, ◌⊎◌, inl, inr, eq-or-lt_of_le}
use Rattle.std.proofs.Common.{Bool, true, false, ◌&&◌, ◌||◌, List, [], ◌∷◌, ◌++◌, length}
use Rattle.std.proofs.lemmas.Bool.{or_parts}
use Rattle.std.specs.List.{AllByRecursion, flat_map, list_any}
use Rattle.std.specs.Prelude.{slice_index_or, if◌then◌else◌}
use Rattle.lock_machine.specs.lint_base.declared.rule.Rule.{Rule}
use Rattle.lock_machine.specs.lint_base.declared.violation.Violation.{Violation}
use Rattle.lock_machine.specs.lint_base.RuleSets.{Rules, has}
use Rattle.lock_machine.specs.lint_pass.RuleTables.{enabled_reports, table_of}
use Rattle.lock_machine.specs.lint_pass.Those.{that, those}
use Rattle.lock_machine.specs.lint_transaction.Earlier.{concat_below}

pub not_both : {A : Type 0} → true ≡ false → A
not_both e = absurd (grind (arith, e))

pub some_is_none : {X A : Type 0} (x : X) (xs : List X) → x ∷ xs ≡ [] → A
some_is_none x xs e = absurd (omega (arith, ap length e))

-- ---- parts of empty lists

pub empty-append : {X : Type 0} (xs ys : List X) → xs ++ ys ≡ [] → (xs ≡ []) × (ys ≡ [])
empty-append [] ys e = (refl, e)
empty-append (x ∷ xs) ys e = some_is_none x (xs ++ ys) e

pub empty-flat_map : {X A : Type 0} (f : X → List A) (xs : List X) → flat_map f xs ≡ [] → AllByRecursion (λ x. f x ≡ []) xs
empty-flat_map f [] e = tt
empty-flat_map f (x ∷ xs) e = let both = empty-append (f x) (flat_map f xs) e in (both.0, empty-flat_map f xs both.1)

pub empty_where : {X : Type 0} (b : Bool) (xs : List X) → b ≡ true → (if b then xs else []) ≡ [] → xs ≡ []
empty_where true xs on e = e
empty_where false xs on e = not_both (sym on)

pub empty_one : {X : Type 0} (b : Bool) (x : X) → (if b then x ∷ [] else []) ≡ [] → b ≡ false
empty_one true x e = some_is_none x [] e
empty_one false x e = refl

pub empty_unless : {X : Type 0} (b : Bool) (x : X) → (if b then [] else x ∷ []) ≡ [] → b ≡ true
empty_unless true x e = refl
empty_unless false x e = some_is_none x [] e

piece_by : {X : Type 0} (f : ℕ → List X) (n i : ℕ) → (i ≡ n) ⊎ (i < n) → f n ≡ [] → ((k : ℕ) → k < n → f k ≡ []) → f i ≡ []
piece_by f n i (inl e) last front = ap f e ∙ last
piece_by f n i (inr l) last front = front i l

pub empty-pieces : {X : Type 0} (f : ℕ → List X) (n : ℕ) → concat_below f n ≡ [] → (i : ℕ) → i < n → f i ≡ []
empty-pieces f zero e i l = absurd (omega (arith, l))
empty-pieces f (suc n) e i l =
    let both = empty-append (concat_below f n) (f n) e in
    piece_by f n i (eq-or-lt_of_le (omega (arith, l))) both.1 (empty-pieces f n both.0)

-- ---- reports

-- where the table of an enabled rule is empty, nothing is reported of statement i
pub nothing_here : (code : Rule) (reports : ℕ → List Violation) (rules : Rules) (n : ℕ) → has rules code ≡ true → table_of code reports rules n ≡ [] → (i : ℕ) → i < n → reports i ≡ []
nothing_here code reports rules n on e i l =
    empty_where (has rules code) (reports i) on (empty-pieces (enabled_reports code reports rules) n e i l)

-- no node of which nothing is reported passes the test
pub empty-those : {N : Type 0} (test : N → Bool) (report : N → Violation) (nodes : List N) → those test report nodes ≡ [] → AllByRecursion (λ n. test n ≡ false) nodes
empty-those test report [] e = tt
empty-those test report (n ∷ nodes) e =
    let both = empty-append (that test report n) (those test report nodes) e in
    (empty_one (test n) (report n) both.0, empty-those test report nodes both.1)

-- ---- each element

pub each_from : {X : Type 0} (P Q : X → Type 0) → ((x : X) → P x → Q x) → (xs : List X) → AllByRecursion P xs → AllByRecursion Q xs
each_from P Q f [] h = tt
each_from P Q f (x ∷ xs) h = (f x h.0, each_from P Q f xs h.1)

pub each-append : {X : Type 0} (P : X → Type 0) (xs ys : List X) → AllByRecursion P xs → AllByRecursion P ys → AllByRecursion P (xs ++ ys)
each-append P [] ys h g = g
each-append P (x ∷ xs) ys h g = (h.0, each-append P xs ys h.1 g)

pub each-pieces : {X : Type 0} (P : X → Type 0) (f : ℕ → List X) (n : ℕ) → ((i : ℕ) → i < n → AllByRecursion P (f i)) → AllByRecursion P (concat_below f n)
each-pieces P f zero h = tt
each-pieces P f (suc n) h =
    each-append P (concat_below f n) (f n) (each-pieces P f n (λ i l. h i (omega (arith, l)))) (h n (omega arith))

pub each-flat_map : {X Y : Type 0} (P : Y → Type 0) (f : X → List Y) (xs : List X) → AllByRecursion (λ x. AllByRecursion P (f x)) xs → AllByRecursion P (flat_map f xs)
each-flat_map P f [] h = tt
each-flat_map P f (x ∷ xs) h = each-append P (f x) (flat_map f xs) h.0 (each-flat_map P f xs h.1)

-- ---- tests

pub none_at : {X : Type 0} (p : X → Bool) (xs : List X) → list_any p xs ≡ false → (i : ℕ) (d : X) → i < length xs → p (slice_index_or xs i d) ≡ false
none_at p [] e i d l = absurd (omega (arith, l))
none_at p (x ∷ xs) e zero d l = (or_parts (p x) (list_any p xs) e).0
none_at p (x ∷ xs) e (suc i) d l = none_at p xs (or_parts (p x) (list_any p xs) e).1 i d (omega (arith, l))

pub each_none : {X : Type 0} (p : X → Bool) (xs : List X) → list_any p xs ≡ false → AllByRecursion (λ x. p x ≡ false) xs
each_none p [] e = tt
each_none p (x ∷ xs) e = let both = or_parts (p x) (list_any p xs) e in (both.0, each_none p xs both.1)

or_and : (a c b : Bool) → (a && b) ≡ false → (c && b) ≡ false → ((a || c) && b) ≡ false
or_and true c b e f = e
or_and false c b e f = f

-- some element passes, and b: not where this is refused of each
pub any_and : {X : Type 0} (p : X → Bool) (b : Bool) (xs : List X) → AllByRecursion (λ x. (p x && b) ≡ false) xs → (list_any p xs && b) ≡ false
any_and p b [] h = refl
any_and p b (x ∷ xs) h = or_and (p x) (list_any p xs) b h.0 (any_and p b xs h.1)
