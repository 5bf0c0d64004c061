-- The bracket groups [ .. ] that end a list, told in one walk.
use Rattle.std.proofs.Common.{◌≡◌, ◌<◌, ◌≤◌, ◌+◌, ◌==◌, ℕ, suc, nat_lt, Bool, true, false, not, ◌&&◌, ◌||◌, if◌then◌else◌, cond, List, [], ◌∷◌, length, refl, ap, arith, Option, Some, None}
use Rattle.sql_tree.specs.sql_token.declared.terminal.Terminal.{Terminal}
use Rattle.sql_tree.specs.sql_token.Terminal.{is_opener, is_closer}
use Rattle.sql_tree.specs.sql_token.Depth.{one_if}
use Rattle.sql_tree.specs.Groups.{is_open_square_symbol}
use Rattle.sql_tree.specs.Split.{Test, before_from, before, has}
use Rattle.sql_tree.specs.ColumnType.{no_group, only_groups, before_groups}

-- Of n terminals, the first `kept` are no part of the groups that end them. A further one, outside brackets or inside, is
-- no part of such a group where it is present outside and opens none, or where none has begun.
abbrev pub kept_from : ℕ → ℕ → ℕ → ℕ → List Terminal → ℕ
kept_from kept n o c [] = kept
kept_from kept n o c (t ∷ ts) =
    kept_from (if (if o == c then not (is_open_square_symbol t.symbol) else kept == n) then n + 1 else kept) (n + 1)
    (o + one_if (is_opener t)) (c + one_if (is_closer t)) ts

-- Depth is the same where more brackets opened and closed earlier.
same_depth : (o c k : ℕ) → (o + k == c + k) ≡ (o == c)
same_depth o c k = grind arith

shifted : (mark : Test) (e : Option Terminal) (o c k : ℕ) (ts : List Terminal) →
    before_from mark e (o + k) (c + k) ts ≡ before_from mark e o c ts
shifted mark e o c k [] = refl
shifted mark e o c k (t ∷ ts) =
    let opened : o + k + one_if (is_opener t) ≡ o + one_if (is_opener t) + k = omega arith in
    let closed : c + k + one_if (is_closer t) ≡ c + one_if (is_closer t) + k = omega arith in
    rw (same_depth o c k, opened, closed, shifted mark (Some t) (o + one_if (is_opener t)) (c + one_if (is_closer t)) k ts) refl

-- What is kept before t and after it, where x terminals of those after come before the first that is no group, and g
-- before the groups that end them.
abbrev kept_with : Bool → Bool → ℕ → ℕ → ℕ
kept_with b q kept n = if (if b then not q else kept == n) then n + 1 else kept

kept_within : (b q : Bool) (kept n : ℕ) → kept ≤ n → kept_with b q kept n ≤ n + 1
kept_within true true kept n le = omega arith
kept_within true false kept n le = omega arith
kept_within false q kept n le = grind arith

-- outside brackets
same_before : (mark : Test) (t : Terminal) (o c : ℕ) (ts : List Terminal) → (o == c) ≡ true →
    before_from mark (Some t) (0 + one_if (is_opener t)) (0 + one_if (is_closer t)) ts
    ≡ before_from mark (Some t) (o + one_if (is_opener t)) (c + one_if (is_closer t)) ts
same_before mark t o c ts outside =
    let opened : o + one_if (is_opener t) ≡ 0 + one_if (is_opener t) + o = omega arith in
    let closed : c + one_if (is_closer t) ≡ 0 + one_if (is_closer t) + o = grind arith in
    rw (opened, closed, shifted mark (Some t) (0 + one_if (is_opener t)) (0 + one_if (is_closer t)) o ts) refl

step : (b q : Bool) (kept n x x0 len g : ℕ) → kept ≤ n → (b ≡ true → x0 ≡ x) →
    (if kept_with b q kept n == n + 1 || nat_lt x len then n + 1 + g else kept_with b q kept n)
    ≡ (if kept == n || nat_lt (if b && not q then 0 else suc x) (suc len)
    then n + (if b && not (nat_lt (if not q then 0 else suc x0) (suc len)) then 0 else suc g) else kept)
step true true kept n x x0 len g le same = rw (same refl) (grind arith)
step true false kept n x x0 len g le same = grind arith
step false q kept n x x0 len g le same = grind arith

walked : (kept n o c : ℕ) (e : Option Terminal) (ts : List Terminal) → kept ≤ n →
    kept_from kept n o c ts
    ≡ (if kept == n || nat_lt (before_from no_group e o c ts) (length ts) then n + before_from only_groups e o c ts else kept)
unfolding no_group only_groups before
walked kept n o c e [] le = grind arith
walked kept n o c e (t ∷ ts) le =
    rw (walked (kept_with (o == c) (is_open_square_symbol t.symbol) kept n) (n + 1) (o + one_if (is_opener t)) (c + one_if (is_closer t)) (Some t) ts (kept_within (o == c) (is_open_square_symbol t.symbol) kept n le))
    (step (o == c) (is_open_square_symbol t.symbol) kept n
    (before_from no_group (Some t) (o + one_if (is_opener t)) (c + one_if (is_closer t)) ts)
    (before_from no_group (Some t) (0 + one_if (is_opener t)) (0 + one_if (is_closer t)) ts)
    (length ts)
    (before_from only_groups (Some t) (o + one_if (is_opener t)) (c + one_if (is_closer t)) ts)
    le (same_before no_group t o c ts))

groups_walked : (ts : List Terminal) → before_groups ts ≡ kept_from 0 0 0 0 ts
unfolding before_groups before
groups_walked ts = rw (walked 0 0 0 0 None ts (omega arith)) (omega arith)

-- at the end of the walk over the terminals `all`
pub kept_at_end : (kept n o c : ℕ) (ts all : List Terminal) → length ts < 1 → kept_from kept n o c ts ≡ kept_from 0 0 0 0 all → kept ≡ before_groups all
kept_at_end kept n o c [] all none same = rw (groups_walked all) same
kept_at_end kept n o c (t ∷ ts) all none same = absurd (omega arith)
