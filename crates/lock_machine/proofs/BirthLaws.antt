-- The machine goes on from statement to statement as the conditions on earlier statements do.
use Rattle.std.proofs.Common.{◌≡◌, ◌∙◌, sym, ap, refl, arith, ℕ, zero, suc, ◌+◌, ◌<◌, ◌≤◌, Bool, true, false, ◌&&◌, ◌||◌, not, List, Option, Some, None, subst}
use Rattle.std.specs.Prelude.{nat_eq, if◌then◌else◌}
use Rattle.std.proofs.lemmas.Bool.{eq-eqb, ne_eqb}
use Rattle.sql_tree.specs.Statement.{Tree}
use Rattle.lint_pass.specs.lint_transaction.Transaction.{begins, ends_by, chains_by, created_by, ends, chains, created, creates, is_path, stmt_at, ends_at, is_open, is_new}
use Rattle.sql_tree.specs.declared.nodes.Body.{Body}
use Rattle.sql_tree.specs.declared.nodes.Body.TheVariants as body
use Rattle.sql_tree.specs.declared.kinds.StmtKind.{StmtKind}
use Rattle.lint_pass.proofs.of_lint_transaction.EarlierLaws.{and_true}
use Rattle.lint_pass.proofs.of_lint_transaction.TrackingLaws.{is_open-suc, is_new-suc, open_at_start}
use Rattle.lock_machine.proofs.BeginLaws.{begins_alone, not_both}
use Rattle.lock_machine.specs.Laws.{count_below, BeginsAlone, BirthsAreNew, BlocksAreOpen, NumbersCount}
use Rattle.lock_machine.specs.Machine.{before, birth, is_number, is_young, running}
use Rattle.lock_machine.proofs.MachineLaws.{birth_with}

-- ---- ages by values

-- no birth is later than the number
abbrev pub at_most : Option ℕ → ℕ → Type 0
at_most None n = Unit {0}
at_most (Some b) n = b ≤ n

eq_less : (a b : ℕ) → a < b → nat_eq a b ≡ false
eq_less a b l = ne_eqb a b (λ e. omega (arith, e, l))

pub late : (o : Option ℕ) (n r : ℕ) → at_most o n → n < r → is_number r o ≡ false
late None n r h l = refl
late (Some b) n r h l = eq_less b r (omega arith)

pub at_most-up : (o : Option ℕ) (n m : ℕ) → at_most o n → n ≤ m → at_most o m
at_most-up None n m h l = tt
at_most-up (Some b) n m h l = omega arith

-- the number of the running transaction
abbrev pub running_of : Bool → ℕ → ℕ
running_of inside n = if inside then n else n + 1

-- the number after a statement that ends a transaction or not, in a block or not
abbrev pub number_next : Bool → Bool → ℕ → ℕ
number_next e inside n = if inside && not e then n else n + 1

abbrev pub birth_next : Bool → Bool → ℕ → Option ℕ → Option ℕ
birth_next c inside n o = if c then Some (running_of inside n) else o

pub at_most-next : (o : Option ℕ) (n : ℕ) (c e inside : Bool) → at_most o n → at_most (birth_next c inside n o) (number_next e inside n)
at_most-next o n true true true h = omega arith
at_most-next o n true true false h = omega arith
at_most-next o n true false true h = omega arith
at_most-next o n true false false h = omega arith
at_most-next o n false true true h = at_most-up o n (n + 1) h (omega arith)
at_most-next o n false true false h = at_most-up o n (n + 1) h (omega arith)
at_most-next o n false false true h = h
at_most-next o n false false false h = at_most-up o n (n + 1) h (omega arith)

and_false : (a : Bool) → (a && false) ≡ false
and_false true = refl
and_false false = refl

-- whether a path is born under the running number, after a statement that ends, chains, begins or creates the path
pub young_next : (o : Option ℕ) (n : ℕ) (inside e ch b c w : Bool) → at_most o n → (e ≡ true → c ≡ false) → (b ≡ true → c ≡ false) → is_number (running_of inside n) o ≡ w
    → is_number (running_of (if e then ch else b || inside) (number_next e inside n)) (birth_next c inside n o) ≡ ((c && inside) || (w && not e))
young_next o n inside true ch b true w h ec bc y = not_both (ec refl)
young_next o n true true true b false w h ec bc y = late o n (n + 1) h (omega arith) ∙ sym (and_false w)
young_next o n true true false b false w h ec bc y = late o n (n + 1 + 1) h (omega arith) ∙ sym (and_false w)
young_next o n false true true b false w h ec bc y = late o n (n + 1) h (omega arith) ∙ sym (and_false w)
young_next o n false true false b false w h ec bc y = late o n (n + 1 + 1) h (omega arith) ∙ sym (and_false w)
young_next o n true false ch true true w h ec bc y = eq-eqb n n refl
young_next o n true false ch false true w h ec bc y = eq-eqb n n refl
young_next o n true false ch true false w h ec bc y = y ∙ sym (and_true w)
young_next o n true false ch false false w h ec bc y = y ∙ sym (and_true w)
young_next o n false false ch true true w h ec bc y = not_both (bc refl)
young_next o n false false ch true false w h ec bc y = y ∙ sym (and_true w)
young_next o n false false ch false true w h ec bc y =
    eq_less (n + 1) (n + 1 + 1) (omega arith) ∙ (sym (late o n (n + 1) h (omega arith)) ∙ (y ∙ sym (and_true w)))
young_next o n false false ch false false w h ec bc y =
    late o n (n + 1 + 1) h (omega arith) ∙ (sym (late o n (n + 1) h (omega arith)) ∙ (y ∙ sym (and_true w)))

-- ---- the machine

chains_end_by : (x : Body) → ends_by x ≡ false → chains_by x ≡ false
chains_end_by (body.End true chain) h = not_both h
chains_end_by (body.End false chain) h = refl
chains_end_by _ h = refl

ends_make_by : (kind : StmtKind) (x : Body) → ends_by x ≡ true → created_by kind x ≡ None
ends_make_by kind (body.End plain chain) h = refl
ends_make_by kind _ h = not_both (sym h)

inside_next : (e ch b inside : Bool) → (e ≡ false → ch ≡ false) → (b ≡ true → e ≡ false)
    → (if e then ch else b || inside) ≡ ((b || ch) || (inside && not e))
inside_next true ch true inside he hb = not_both (hb refl)
inside_next true true false inside he hb = refl
inside_next true false false inside he hb = sym (and_false inside)
inside_next false true b inside he hb = not_both (he refl)
inside_next false false true inside he hb = refl
inside_next false false false inside he hb = sym (and_true inside)

pub open_here : (assumed : Bool) (tree : Tree) → BeginsAlone tree → (i : ℕ) → (before assumed tree i).in_block ≡ is_open assumed tree i
open_here assumed tree alone zero = sym (open_at_start assumed tree)
open_here assumed tree alone (suc i) =
    let s = stmt_at tree i in
    let m = before assumed tree i in
    inside_next (ends s) (chains s) (begins s) m.in_block (chains_end_by s.body) (λ b. (alone i b).0)
    ∙ ((λ x. (begins s || chains s) || (open_here assumed tree alone i x && not (ends s))) ∙ sym (is_open-suc assumed tree i))

next_number : (e inside : Bool) (n : ℕ) → (if inside && not e then n else n + 1) ≡ (if e || not inside then n + 1 else n)
next_number true true n = refl
next_number true false n = refl
next_number false true n = refl
next_number false false n = refl

numbers_here : (assumed : Bool) (tree : Tree) → BeginsAlone tree → (i : ℕ) → (before assumed tree i).number ≡ count_below (λ j. ends_at tree j || not (is_open assumed tree j)) i
numbers_here assumed tree alone zero = refl
numbers_here assumed tree alone (suc i) =
    let s = stmt_at tree i in
    let m = before assumed tree i in
    next_number (ends s) m.in_block m.number
    ∙ (λ x. if ends s || not (open_here assumed tree alone i x) then numbers_here assumed tree alone i x + 1 else numbers_here assumed tree alone i x)

birth_step : (assumed : Bool) (tree : Tree) (path : List (List ℕ)) (i : ℕ)
    → birth (before assumed tree (suc i)) path
    ≡ birth_next (creates tree path (stmt_at tree i)) (before assumed tree i).in_block (before assumed tree i).number (birth (before assumed tree i) path)
birth_step assumed tree path i =
    birth_with tree path (created (stmt_at tree i)) (running (before assumed tree i)) (before assumed tree i).births

-- no path is born later than the number
pub births_at_most : (assumed : Bool) (tree : Tree) (path : List (List ℕ)) (i : ℕ)
    → at_most (birth (before assumed tree i) path) (before assumed tree i).number
births_at_most assumed tree path zero = tt
births_at_most assumed tree path (suc i) =
    let s = stmt_at tree i in
    let m = before assumed tree i in
    subst (λ o. at_most o (before assumed tree (suc i)).number) (sym (birth_step assumed tree path i))
    (at_most-next (birth m path) m.number (creates tree path s) (ends s) m.in_block (births_at_most assumed tree path i))

births_here : (assumed : Bool) (tree : Tree) → BeginsAlone tree → (path : List (List ℕ)) (i : ℕ) → is_young (before assumed tree i) path ≡ is_new assumed tree path i
births_here assumed tree alone path zero = refl
births_here assumed tree alone path (suc i) =
    let s = stmt_at tree i in
    let m = before assumed tree i in
    let none : created s ≡ None → creates tree path s ≡ false = λ e. ap (λ made. is_path tree made path) e in
    ap (is_number (running (before assumed tree (suc i)))) (birth_step assumed tree path i)
    ∙ (young_next (birth m path) m.number m.in_block (ends s) (chains s) (begins s) (creates tree path s) (is_new assumed tree path i)
    (births_at_most assumed tree path i) (λ e. none (ends_make_by s.kind s.body e)) (λ b. none (alone i b).1) (births_here assumed tree alone path i)
    ∙ ((λ x. (creates tree path s && open_here assumed tree alone i x) || (is_new assumed tree path i && not (ends s)))
    ∙ sym (is_new-suc assumed tree path i)))

-- ---- of a tree that is read from a text

pub blocks_are_open : BlocksAreOpen
blocks_are_open assumed tree is i = open_here assumed tree (begins_alone tree is) i

pub numbers_count : NumbersCount
numbers_count assumed tree is i = numbers_here assumed tree (begins_alone tree is) i

pub births_are_new : BirthsAreNew
births_are_new assumed tree is path i = births_here assumed tree (begins_alone tree is) path i
