-- Each statement of the new tree beside the old one.
use Rattle.std.proofs.Common.{◌≡◌, ℕ, zero, suc, ◌+◌, ◌<◌, ◌≤◌, ◌⊎◌, inl, inr, Bool, true, false, cond, List, [], ◌∷◌, ◌++◌, map, length, get_or, sym, refl, ap, ◌∙◌, subst, arith, Option, Some, None}
use Rattle.std.proofs.lemmas.Bool.{true≢false}
use Rattle.std.proofs.lemmas.Bool.Decides.{nat_tests}
use Rattle.std.specs.Prelude.{◌==◌, ◌&&◌, ◌||◌, not}
use Rattle.std.specs.Option.{option_map}
use Rattle.law_edit_inserts.specs.sql_token.declared.token.Span.{Span}
use Rattle.law_edit_inserts.specs.sql_tree.declared.kinds.StmtKind.{StmtKind}
use Rattle.law_edit_inserts.specs.sql_tree.declared.nodes.Body.{Body}
use Rattle.law_edit_inserts.specs.sql_tree.declared.nodes.Body.TheVariants as body
use Rattle.law_edit_inserts.specs.sql_tree.declared.nodes.Stmt.{Stmt}
use Rattle.law_edit_inserts.specs.sql_tree.Path.{path_cuts}
use Rattle.law_edit_inserts.specs.sql_tree.Statement.{Tree, IsTree}
use Rattle.law_edit_inserts.specs.law_renumber.Moved.{span_moved, body_moved, stmt_moved}
use Rattle.law_edit_inserts.specs.Built.{room_after, concurrently_tree}
use Rattle.law_edit_inserts.specs.Apart.{outside, Apart}
use Rattle.law_edit_inserts.proofs.Apart.{statements_apart, stays_within}
use Rattle.pass_concurrent.specs.lint_transaction.Earlier.{any_below, since}
use Rattle.pass_concurrent.specs.lint_transaction.Transaction.{begins, ends_by, ends, chains_by, chains, is_foreign_kind, created_by, created, same_path, is_path, creates, no_stmt, stmt_at, opens_at, ends_at, is_open, creates_at, is_new}
use Rattle.law_fixes.proofs.Tokens.{low_path, high_path}

-- ---- statements under other numbers

pub ends_moved : (g : ℕ → ℕ) (b : Body) → ends_by (body_moved g b) ≡ ends_by b
ends_moved g (body.End plain chain) = refl
ends_moved g b = refl

pub chains_moved : (g : ℕ → ℕ) (b : Body) → chains_by (body_moved g b) ≡ chains_by b
chains_moved g (body.End plain chain) = refl
chains_moved g b = refl

pub created_moved : (g : ℕ → ℕ) (kind : StmtKind) (b : Body) → created_by kind (body_moved g b) ≡ option_map (span_moved g) (created_by kind b)
created_moved g kind (body.Table temp guarded drops word path elems) = by (is_foreign_kind kind)
  where
    by : (b : Bool) → cond b None (Some (span_moved g path)) ≡ option_map (span_moved g) (cond b None (Some path))
    by true = refl
    by false = refl
created_moved g kind b = refl

-- A body that neither ends a transaction nor creates a table.
pub record Idle (kind : StmtKind) (b : Body) : Type 0 where
  pub ends_is : ends_by b ≡ false
  pub chains_is : chains_by b ≡ false
  pub created_is : created_by kind b ≡ None

-- The statement s between these becomes `now`, where the word comes after token n of it: both are idle.
pub record Added (tree : Tree) (before : List Stmt) (s : Stmt) (after : List Stmt) (n : ℕ) (now : Stmt) : Type 0 where
  pub is : IsTree tree
  pub parts : tree.stmts ≡ before ++ s ∷ after
  pub number : outside s.first (s.last + 1) n ≡ n
  pub kind : now.kind ≡ s.kind
  pub old : Idle s.kind s.body
  pub new : Idle s.kind now.body

module _ (tree : Tree) (before : List Stmt) (s : Stmt) (after : List Stmt) (n : ℕ) (now : Stmt) (build : Added tree before s after n now) where
  abbrev pub new : Tree
  new = concurrently_tree tree n before now after

  pub record Inside : Type 0 where
    pub first : s.first < n + 1
    pub last : n < s.last + 1
    pub within : n < length tree.toks

  pub is_apart : Apart tree before s after
  is_apart = statements_apart tree before s after build.is build.parts

  pub inside : Inside
  inside =
      let a = is_apart in
      let bounds = stays_within s.first (s.last + 1) n build.number in
      let within = a.within in let low = bounds.0 in let high = bounds.1 in
      record { first = omega arith; last = omega arith; within = omega arith }

  -- the numbers from lo to before hi are all before the word, or all after it
  abbrev pub Aside : ℕ → ℕ → Type 0
  Aside lo hi = (hi ≤ n + 1) ⊎ ((n + 1 ≤ lo) × (hi ≤ length tree.toks))

  -- It begins before s, or after it; or it is no statement of the text.
  abbrev pub Away : Stmt → Type 0
  Away x = (x.first < s.first) ⊎ (((s.last + 1 ≤ x.first) × (x.first < length tree.toks)) ⊎ (x.body ≡ body.Kept))

  -- The numbers from lo to before hi are those of no token of s; or it is no statement of the text.
  abbrev pub Out : ℕ → ℕ → Stmt → Type 0
  Out lo hi x = (hi ≤ s.first) ⊎ ((s.last + 1 ≤ lo) ⊎ (x.body ≡ body.Kept))

  -- another statement, and what it is now
  pub record Other (x y : Stmt) : Type 0 where
    pub lo : ℕ
    pub hi : ℕ
    pub side : Aside lo hi
    pub fixed : stmt_moved (outside lo hi) x ≡ x
    pub moved : y ≡ stmt_moved (room_after n) x
    pub away : Away x
    pub out : Out lo hi x

  pub path_aside : (lo hi : ℕ) (span : Span) → Aside lo hi → span_moved (outside lo hi) span ≡ span → path_cuts new.text new.toks (span_moved (room_after n) span) ≡ path_cuts tree.text tree.toks span
  path_aside lo hi span side fixed =
      let within = (let i = inside in i.within) in
      by side (stays_within lo hi span.first (ap (λ (x : Span). x.first) fixed)) (stays_within lo hi span.last (ap (λ (x : Span). x.last) fixed)) within
    where
      by : Aside lo hi → (lo ≤ span.first) × (span.first < hi) → (lo ≤ span.last) × (span.last < hi) → n < length tree.toks →
          path_cuts new.text new.toks (span_moved (room_after n) span) ≡ path_cuts tree.text tree.toks span
      by (inl a) p q within = let x = p.1 in let y = q.1 in low_path tree.text tree.toks n build.is.lexed within span (omega arith) (omega arith)
      by (inr a) p q within = let x = p.0 in let y = q.0 in let z = a.0 in high_path tree.text tree.toks n build.is.lexed within span (omega arith) (omega arith)

  -- what a transaction sees of two statements
  pub record Alike (x y : Stmt) : Type 0 where
    pub begins_is : begins y ≡ begins x
    pub ends_is : ends y ≡ ends x
    pub chains_is : chains y ≡ chains x
    pub creates_is : (path : List (List ℕ)) → creates new path y ≡ creates tree path x

  other_alike : (x y : Stmt) → Other x y → Alike x y
  other_alike x y o = record {
    begins_is = ap begins o.moved;
    ends_is = ap ends o.moved ∙ ends_moved (room_after n) x.body;
    chains_is = ap chains o.moved ∙ chains_moved (room_after n) x.body;
    creates_is = λ path. ap (λ (z : Stmt). creates new path z) o.moved
        ∙ ap (λ (z : Option Span). is_path new z path) (created_moved (room_after n) x.kind x.body)
        ∙ by (created x) path (sym (created_moved (outside o.lo o.hi) x.kind x.body) ∙ ap created o.fixed);
  }
    where
      some_span : {p q : Span} → Some p ≡ Some q → p ≡ q
      some_span e = cc

      by : (z : Option Span) (path : List (List ℕ)) → option_map (span_moved (outside o.lo o.hi)) z ≡ z → is_path new (option_map (span_moved (room_after n)) z) path ≡ is_path tree z path
      by None path e = refl
      by (Some span) path e = ap (λ (q : List (List ℕ)). same_path path q) (path_aside o.lo o.hi span o.side (some_span e))

  now_alike : Alike s now
  now_alike =
      let old = build.old in
      let fresh = build.new in
      record {
        begins_is = ap (λ (x : StmtKind). begins (record s { kind = x })) build.kind;
        ends_is = fresh.ends_is ∙ sym old.ends_is;
        chains_is = fresh.chains_is ∙ sym old.chains_is;
        creates_is = λ path. ap (λ (x : StmtKind). is_path new (created_by x now.body) path) build.kind ∙ ap (λ (z : Option Span). is_path new z path) fresh.created_is
            ∙ sym (ap (λ (z : Option Span). is_path tree z path) old.created_is);
      }

  -- ---- statements by their numbers

  none_other : Other no_stmt no_stmt
  none_other = record {
    lo = 0;
    hi = n + 1;
    side = inl (omega arith);
    fixed = ap (λ (x : ℕ). record no_stmt { first = x; last = x }) (zero_stays (n + 1) (omega arith));
    moved = ap (λ (x : ℕ). record no_stmt { first = x; last = x }) (sym (zero_moved n));
    away = inr (inr refl);
    out = inr (inr refl);
  }
    where
      zero_stays : (h : ℕ) → 0 < h → outside 0 h 0 ≡ 0
      zero_stays h p = grind (arith, nat_tests)

      zero_moved : (m : ℕ) → room_after m 0 ≡ 0
      zero_moved m = grind (arith, nat_tests)

  stmts_first : {x y : Stmt} {xs ys : List Stmt} → x ∷ xs ≡ y ∷ ys → x ≡ y
  stmts_first e = cc

  stmts_rest : {x y : Stmt} {xs ys : List Stmt} → x ∷ xs ≡ y ∷ ys → xs ≡ ys
  stmts_rest e = cc

  -- statements aside, and away from s
  record Far (lo hi : ℕ) : Type 0 where
    pub side : Aside lo hi
    pub away : (x : Stmt) → stmt_moved (outside lo hi) x ≡ x → Away x
    pub out : (x : Stmt) → Out lo hi x

  one_other : (lo hi : ℕ) (x : Stmt) → Far lo hi → stmt_moved (outside lo hi) x ≡ x → Other x (stmt_moved (room_after n) x)
  one_other lo hi x far e = record { lo = lo; hi = hi; side = far.side; fixed = e; moved = refl; away = far.away x e; out = far.out x }

  side_others : (lo hi : ℕ) → Far lo hi → (ss : List Stmt) → map (stmt_moved (outside lo hi)) ss ≡ ss → (j : ℕ) → Other (get_or ss j no_stmt) (get_or (map (stmt_moved (room_after n)) ss) j no_stmt)
  side_others lo hi side [] e j = none_other
  side_others lo hi side (x ∷ ss) e zero = one_other lo hi x side (stmts_first e)
  side_others lo hi side (x ∷ ss) e (suc j) = side_others lo hi side ss (stmts_rest e) j

  list_others : (lo hi low high : ℕ) → Far lo hi → Far low high → (xs : List Stmt) (y z : Stmt) (ys : List Stmt) → map (stmt_moved (outside lo hi)) xs ≡ xs → map (stmt_moved (outside low high)) ys ≡ ys →
      (j : ℕ) → (j == length xs) ≡ false → Other (get_or (xs ++ y ∷ ys) j no_stmt) (get_or (map (stmt_moved (room_after n)) xs ++ z ∷ map (stmt_moved (room_after n)) ys) j no_stmt)
  list_others lo hi low high p q [] y z ys e g zero h = absurd (true≢false h)
  list_others lo hi low high p q [] y z ys e g (suc j) h = side_others low high q ys g j
  list_others lo hi low high p q (x ∷ xs) y z ys e g zero h = one_other lo hi x p (stmts_first e)
  list_others lo hi low high p q (x ∷ xs) y z ys e g (suc j) h = list_others lo hi low high p q xs y z ys (stmts_rest e) g j (less j (length xs) h)
    where
      less : (a b : ℕ) → (suc a == suc b) ≡ false → (a == b) ≡ false
      less a b h = grind (arith, nat_tests)

  far_before : Far 0 s.first
  far_before =
      let i = inside in let first = i.first in
      record { side = inl (omega arith); away = λ x e. inl (stays_within 0 s.first x.first (ap (λ (y : Stmt). y.first) e)).1; out = λ x. inl (omega arith) }

  far_after : Far (s.last + 1) (length tree.toks)
  far_after =
      let i = inside in let last = i.last in
      record { side = inr (omega arith, omega arith); away = λ x e. inr (inl (stays_within (s.last + 1) (length tree.toks) x.first (ap (λ (y : Stmt). y.first) e))); out = λ x. inr (inl (omega arith)) }

  list_this : (xs : List Stmt) (y z : Stmt) (ys : List Stmt) → (get_or (xs ++ y ∷ ys) (length xs) no_stmt ≡ y) × (get_or (map (stmt_moved (room_after n)) xs ++ z ∷ map (stmt_moved (room_after n)) ys) (length xs) no_stmt ≡ z)
  list_this [] y z ys = (refl, refl)
  list_this (x ∷ xs) y z ys = list_this xs y z ys

  pub others : (j : ℕ) → (j == length before) ≡ false → Other (stmt_at tree j) (stmt_at new j)
  others j h =
      let a = is_apart in
      let o = list_others 0 s.first (s.last + 1) (length tree.toks) far_before far_after before s now after a.before_is a.after_is j h in
      subst (λ (x : List Stmt). Other (get_or x j no_stmt) (stmt_at new j)) (sym build.parts) o

  number_is : (a b : ℕ) → (a == b) ≡ true → a ≡ b
  number_is a b h = grind (arith, nat_tests)

  pub this_old : (j : ℕ) → (j == length before) ≡ true → stmt_at tree j ≡ s
  this_old j h =
      ap (λ (x : List Stmt). get_or x j no_stmt) build.parts ∙ ap (λ (x : ℕ). get_or (before ++ s ∷ after) x no_stmt) (number_is j (length before) h)
      ∙ (list_this before s now after).0

  pub this_new : (j : ℕ) → (j == length before) ≡ true → stmt_at new j ≡ now
  this_new j h =
      ap (λ (x : ℕ). stmt_at new x) (number_is j (length before) h) ∙ (list_this before s now after).1

  alike : (j : ℕ) → Alike (stmt_at tree j) (stmt_at new j)
  alike j = by (j == length before) refl
    where
      by : (b : Bool) → (j == length before) ≡ b → Alike (stmt_at tree j) (stmt_at new j)
      by true h =
          let p = sym (this_old j h) in let q = sym (this_new j h) in
          subst (λ (y : Stmt). Alike (stmt_at tree j) y) q (subst (λ (x : Stmt). Alike x now) p now_alike)
      by false h = other_alike (stmt_at tree j) (stmt_at new j) (others j h)

  -- ---- transactions

  opens_same : (j : ℕ) → opens_at new j ≡ opens_at tree j
  opens_same j = let a = alike j in let p = a.begins_is in let q = a.chains_is in λ i. p i || q i

  ends_same : (j : ℕ) → ends_at new j ≡ ends_at tree j
  ends_same j = let a = alike j in a.ends_is

  open_same : (assumed : Bool) (j : ℕ) → is_open assumed new j ≡ is_open assumed tree j
  open_same assumed j = λ i. since (λ k. opens_same k i) (λ k. ends_same k i) j || (assumed && not (any_below (λ k. ends_same k i) j))

  creates_same : (assumed : Bool) (path : List (List ℕ)) (j : ℕ) → creates_at assumed new path j ≡ creates_at assumed tree path j
  creates_same assumed path j = let a = alike j in let p = a.creates_is path in let q = open_same assumed j in λ i. p i && q i

  pub new_same : (assumed : Bool) (path : List (List ℕ)) (j : ℕ) → is_new assumed new path j ≡ is_new assumed tree path j
  new_same assumed path j = λ i. since (λ k. creates_same assumed path k i) (λ k. ends_same k i) j
