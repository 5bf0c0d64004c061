-- The statements of a tree are seen alike one by one, or with one more statement at the start.
use Rattle.std.proofs.Common.{◌≡◌, ℕ, zero, suc, Bool, true, false, List, [], ◌∷◌, length, sym, refl, ap, ◌∙◌, subst}
use Rattle.std.proofs.lemmas.List.Elements.{All-nil, All-cons, All-head}
use Rattle.std.specs.Prelude.{◌&&◌, ◌||◌, not}
use Rattle.law_type_fixes.specs.sql_tree.Statement.{Tree}
use Rattle.law_type_fixes.specs.lint_transaction.Earlier.{any_below, concat_below, since}
use Rattle.law_type_fixes.specs.lint_transaction.Transaction.{creates, creates_at, ends_at, is_open, opens_at, stmt_at}
use Rattle.law_type_fixes.specs.pass_session.RequireTimeoutSettings.{sets_at, slow_at}
use Rattle.law_fix_steps.specs.Kept.{Kept}
use Rattle.law_fix_steps.specs.Left.{Left}
use Rattle.law_fix_steps.proofs.Earlier.{any_shifted, since_shifted}
use Rattle.law_fix_steps.proofs.Kept.{pieces_kept, shifted_kept}
use Rattle.law_fix_steps.proofs.Left.{pieces_left, shifted_left}
use Rattle.law_fix_steps.proofs.Like.{Aligned, Like, Quiet}

-- ---- one by one

module _ (exact : Bool) (move : ℕ → ℕ) (gone : ℕ) (assumed : Bool) (tree new : Tree) (likes : (i : ℕ) → Like exact move gone tree new (stmt_at tree i) (stmt_at new i)) (count : length new.stmts ≡ length tree.stmts) where
  ends_same : (j : ℕ) → ends_at new j ≡ ends_at tree j
  ends_same j = (likes j).ends_is

  opens_same : (j : ℕ) → opens_at new j ≡ opens_at tree j
  opens_same j = let p = (likes j).begins_is in let q = (likes j).chains_is in λ i. p i || q i

  open_same : (j : ℕ) → is_open assumed new j ≡ is_open assumed tree j
  open_same j = λ i. since (λ k. opens_same k i) (λ k. ends_same k i) j || (assumed && not (any_below (λ k. ends_same k i) j))

  creates_same : (path : List (List ℕ)) (j : ℕ) → creates_at assumed new path j ≡ creates_at assumed tree path j
  creates_same path j = let p = (likes j).creates_is path in let q = open_same j in λ i. p i && q i

  slow_same : (j : ℕ) → slow_at new j ≡ slow_at tree j
  slow_same j = (likes j).slow_is

  sets_same : (name : List ℕ) (j : ℕ) → sets_at new name j ≡ sets_at tree name j
  sets_same name j = (likes j).sets_is name

  pub one_by_one : Aligned exact move gone assumed tree new
  one_by_one = record {
    at = λ i. i;
    more = [];
    quiet = All-nil (Quiet new);
    like = likes;
    news = λ path j. (λ i. since (λ k. creates_same path k i) (λ k. ends_same k i) j);
    slows = λ j. (let p = slow_same j in λ i. p i && not (any_below (λ k. slow_same k i) j));
    set_is = λ name j h. (λ i. any_below (λ k. sets_same name k i) j) ∙ h;
    pieces = λ F G none h. subst (λ (n : ℕ). Kept move (concat_below F n) (concat_below G (length tree.stmts))) (sym count) (pieces_kept move F G (length tree.stmts) h);
    pieces_left = λ F G none h.
        subst (λ (n : ℕ). Left exact move gone (concat_below F n) (concat_below G (length tree.stmts))) (sym count) (pieces_left exact move gone F G (length tree.stmts) h);
  }

-- ---- with one more in front

-- It neither begins nor ends a transaction, and creates nothing.
pub record Idle (new : Tree) : Type 0 where
  pub begins_not : opens_at new 0 ≡ false
  pub ends_not : ends_at new 0 ≡ false
  pub creates_not : (path : List (List ℕ)) → creates new path (stmt_at new 0) ≡ false
  pub slow_not : slow_at new 0 ≡ false
  pub quiet : Quiet new 0

module _ (exact : Bool) (move : ℕ → ℕ) (gone : ℕ) (assumed : Bool) (tree new : Tree) (idle : Idle new) (likes : (i : ℕ) → Like exact move gone tree new (stmt_at tree i) (stmt_at new (suc i))) (count : length new.stmts ≡ suc (length tree.stmts)) where
  later_ends : (j : ℕ) → ends_at new (suc j) ≡ ends_at tree j
  later_ends j = (likes j).ends_is

  later_opens : (j : ℕ) → opens_at new (suc j) ≡ opens_at tree j
  later_opens j = let p = (likes j).begins_is in let q = (likes j).chains_is in λ i. p i || q i

  later_open : (j : ℕ) → is_open assumed new (suc j) ≡ is_open assumed tree j
  later_open j =
      let p = since_shifted (opens_at tree) (opens_at new) (ends_at tree) (ends_at new) idle.begins_not later_opens idle.ends_not later_ends j in
      let q = any_shifted (ends_at new) (ends_at tree) idle.ends_not later_ends j in
      λ i. p i || (assumed && not (q i))

  later_creates : (path : List (List ℕ)) (j : ℕ) → creates_at assumed new path (suc j) ≡ creates_at assumed tree path j
  later_creates path j = let p = (likes j).creates_is path in let q = later_open j in λ i. p i && q i

  later_slow : (j : ℕ) → slow_at new (suc j) ≡ slow_at tree j
  later_slow j = (likes j).slow_is

  -- what was set before is set then
  set_later : (name : List ℕ) (j : ℕ) → any_below (sets_at tree name) j ≡ true → any_below (sets_at new name) (suc j) ≡ true
  set_later name zero h = absurd (let e = h in cc)
  set_later name (suc j) h = by (any_below (sets_at tree name) j) (sets_at tree name j) refl refl h (set_later name j)
    where
      or_true : (a : Bool) → (a || true) ≡ true
      or_true true = refl
      or_true false = refl

      by : (a b : Bool) → any_below (sets_at tree name) j ≡ a → sets_at tree name j ≡ b → (a || b) ≡ true → (any_below (sets_at tree name) j ≡ true → any_below (sets_at new name) (suc j) ≡ true) →
          (any_below (sets_at new name) (suc j) || sets_at new name (suc j)) ≡ true
      by true b p q e rec = ap (λ (x : Bool). x || sets_at new name (suc j)) (rec p)
      by false true p q e rec = ap (λ (x : Bool). any_below (sets_at new name) (suc j) || x) ((likes j).sets_is name ∙ q) ∙ or_true (any_below (sets_at new name) (suc j))
      by false false p q e rec = cc

  pub one_in_front : Aligned exact move gone assumed tree new
  one_in_front = record {
    at = suc;
    more = 0 ∷ [];
    quiet = All-cons (Quiet new) 0 [] idle.quiet (All-nil (Quiet new));
    like = likes;
    news = λ path j.
        since_shifted (creates_at assumed tree path) (creates_at assumed new path) (ends_at tree) (ends_at new)
        (ap (λ (b : Bool). b && is_open assumed new 0) (idle.creates_not path)) (later_creates path) idle.ends_not later_ends j;
    slows = λ j.
        (let p = later_slow j in let q = any_shifted (slow_at new) (slow_at tree) idle.slow_not later_slow j in λ i. p i && not (q i));
    set_is = set_later;
    pieces = λ F G none h.
        subst (λ (n : ℕ). Kept move (concat_below F n) (concat_below G (length tree.stmts))) (sym count)
        (shifted_kept move F G (length tree.stmts) (All-head (λ k. F k ≡ []) 0 [] none) h);
    pieces_left = λ F G none h.
        subst (λ (n : ℕ). Left exact move gone (concat_below F n) (concat_below G (length tree.stmts))) (sym count)
        (shifted_left exact move gone F G (length tree.stmts) (All-head (λ k. F k ≡ []) 0 [] none) h);
  }
