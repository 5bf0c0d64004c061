-- The fix of a partition that is detached.
use Rattle.std.proofs.Common.{◌≡◌, ◌≢◌, ℕ, ◌+◌, ◌-◌, ◌<◌, ◌≤◌, ◌⊎◌, ◌^◌, inl, inr, Bool, true, false, cond, List, [], ◌∷◌, ◌++◌, map, length, get_or, length-append, append_assoc, sym, refl, ap, ◌∙◌, subst, arith, Option, Some, None}
use Rattle.std.proofs.Common.{rules}
use Rattle.std.proofs.lemmas.Bool.{and_parts, cases_lt, false≢true}
use Rattle.std.proofs.lemmas.Bool.Decides.{nat_tests}
use Rattle.std.proofs.lemmas.List.{get_or_at, map-append}
use Rattle.std.proofs.lemmas.List.Elements.{All-nil, All-cons, All-append, All-head, All-tail}
use Rattle.std.proofs.lemmas.List.Kept.{AllPairs-from_increasing}
use Rattle.std.specs.Prelude.{All, ◌&&◌, ◌==◌, is_none}
use Rattle.std.specs.List.{flat_map, AllPairs}
use Rattle.std.specs.Option.{option_map}
use denote.Enum.Bare.{same_true}
use Rattle.law_edit_inserts.specs.sql_token.Token.{Text}
use Rattle.law_edit_inserts.specs.sql_token.declared.token.Span.{Span}
use Rattle.law_edit_inserts.specs.sql_token.declared.token.Tok.{Tok}
use Rattle.law_edit_inserts.specs.sql_tree.contracts.kinds.ActionKind as actions
use Rattle.law_edit_inserts.specs.sql_tree.contracts.kinds.StmtKind as kinds
use Rattle.law_edit_inserts.specs.sql_tree.declared.kinds.StmtKind.{StmtKind}
use Rattle.law_edit_inserts.specs.sql_tree.declared.kinds.ActionKind.{ActionKind}
use Rattle.law_edit_inserts.specs.sql_tree.declared.kinds.ActionKind.TheVariants as a
use Rattle.law_edit_inserts.specs.sql_tree.declared.kinds.StmtKind.TheVariants as stmt
use Rattle.law_edit_inserts.specs.sql_tree.declared.nodes.Action.{Action}
use Rattle.law_edit_inserts.specs.sql_tree.declared.nodes.Body.{Body}
use Rattle.law_edit_inserts.specs.sql_tree.declared.nodes.Body.TheVariants as body
use Rattle.law_edit_inserts.specs.sql_tree.declared.nodes.Stmt.{Stmt}
use Rattle.law_edit_inserts.specs.sql_tree.Nodes.{actions_in, action_starts}
use Rattle.law_edit_inserts.specs.sql_tree.Range.{token_at}
use Rattle.law_edit_inserts.specs.sql_tree.Statement.{Tree, IsTree}
use Rattle.law_edit_inserts.specs.law_renumber.Moved.{action_moved, body_moved, span_moved, stmt_moved}
use Rattle.law_edit_inserts.proofs.of_law_renumber.NodeOrder.{actions_ascend}
use Rattle.law_edit_inserts.specs.Apart.{outside}
use Rattle.law_edit_inserts.specs.Built.{concurrently_tree, detached_stmt, room_after, DetachTakesConcurrently}
use Rattle.law_edit_inserts.specs.Concurrently.{concurrent_action}
use Rattle.law_edit_inserts.proofs.Apart.{stays_within, statements_apart}
use Rattle.law_edit_inserts.proofs.DetachFields.{detach_begins, detach_has_path, detach_reads}
use Rattle.pass_concurrent.specs.lint_base.declared.rule.Rule.TheVariants as rule
use Rattle.pass_concurrent.specs.lint_base.declared.settings.LinterSettings.{LinterSettings}
use Rattle.pass_concurrent.specs.lint_base.declared.violation.Violation.{Violation}
use Rattle.pass_concurrent.specs.lint_base.RuleSets.{Rules, has}
use Rattle.pass_concurrent.specs.lint_transaction.Transaction.{ends_by, chains_by, created_by, no_stmt, stmt_at}
use Rattle.pass_concurrent.specs.lint_node.Parts.{table_actions}
use Rattle.pass_concurrent.specs.lint_node.Plain.{is_plain_detach}
use Rattle.pass_concurrent.specs.lint_node.Same.{same_action, same_kind}
use Rattle.pass_concurrent.specs.lint_pass.RuleLaws.{one_all, pieces_all, where_all}
use Rattle.pass_concurrent.specs.lint_pass.RuleTables.{enabled_reports}
use Rattle.pass_concurrent.specs.lint_pass.Those.{that, those}
use Rattle.pass_concurrent.specs.Concurrently.{concurrently_after}
use Rattle.pass_concurrent.specs.RequireConcurrentPartitionDetach.{reports_of_require_concurrent_partition_detach, end_of, report}
use Rattle.law_fixes.specs.Mended.{FixMends, FixesMend, detached, detachments_of}
use Rattle.law_fixes.specs.Moved.{start_moved}
use Rattle.law_fixes.specs.Stays.{place_of, inserted}
use Rattle.law_fixes.proofs.Fixed.{At, at_or_none, puts_word, inside_some}
use Rattle.law_fixes.proofs.Statements.{Added, Other, inside, others, this_new}
use Rattle.law_fixes.proofs.Tokens.{low_token, high_token, starts_ascend}
use Rattle.law_edit_inserts.proofs.ActionPlaces.{acts_first, acts_rest}

-- ---- numbers of a list that ascends

below_all : (pre xs : List ℕ) (b : ℕ) (rest : List ℕ) → AllPairs (λ x y. x < y) (pre ++ (xs ++ b ∷ rest)) → All (λ x. x < b) xs
below_all pre [] b rest h = All-nil (λ x. x < b)
below_all pre (x ∷ xs) b rest h =
    let size = length-append pre (x ∷ xs) in
    let whole : pre ++ ((x ∷ xs) ++ b ∷ rest) ≡ (pre ++ x ∷ xs) ++ b ∷ rest = sym (append_assoc pre (x ∷ xs) (b ∷ rest)) in
    let total = ap length whole ∙ length-append (pre ++ x ∷ xs) (b ∷ rest) in
    let here : get_or (pre ++ ((x ∷ xs) ++ b ∷ rest)) (length pre) 0 ≡ x = get_or_at pre x (xs ++ b ∷ rest) 0 (length pre) refl in
    let there : get_or (pre ++ ((x ∷ xs) ++ b ∷ rest)) (length (pre ++ x ∷ xs)) 0 ≡ b =
    ap (λ (l : List ℕ). get_or l (length (pre ++ x ∷ xs)) 0) whole ∙ get_or_at (pre ++ x ∷ xs) b rest 0 (length (pre ++ x ∷ xs)) refl in
    let less = h (length pre) (length (pre ++ x ∷ xs)) 0 (omega arith) (omega arith) in
    All-cons (λ y. y < b) x xs (omega (arith, less, here, there))
    (below_all (pre ++ x ∷ []) xs b rest (subst (λ (l : List ℕ). AllPairs (λ x y. x < y) l) (sym (append_assoc pre (x ∷ []) (xs ++ b ∷ rest))) h))

above_all : (pre : List ℕ) (b : ℕ) (mid ys rest : List ℕ) → AllPairs (λ x y. x < y) (pre ++ b ∷ (mid ++ (ys ++ rest))) → All (λ y. b < y) ys
above_all pre b mid [] rest h = All-nil (λ y. b < y)
above_all pre b mid (y ∷ ys) rest h =
    let whole : pre ++ b ∷ (mid ++ ((y ∷ ys) ++ rest)) ≡ (pre ++ b ∷ mid) ++ y ∷ (ys ++ rest) = sym (append_assoc pre (b ∷ mid) (y ∷ (ys ++ rest))) in
    let size = length-append pre (b ∷ mid) in
    let total = ap length whole ∙ length-append (pre ++ b ∷ mid) (y ∷ (ys ++ rest)) in
    let here : get_or (pre ++ b ∷ (mid ++ ((y ∷ ys) ++ rest))) (length pre) 0 ≡ b = get_or_at pre b (mid ++ ((y ∷ ys) ++ rest)) 0 (length pre) refl in
    let there : get_or (pre ++ b ∷ (mid ++ ((y ∷ ys) ++ rest))) (length (pre ++ b ∷ mid)) 0 ≡ y =
    ap (λ (l : List ℕ). get_or l (length (pre ++ b ∷ mid)) 0) whole ∙ get_or_at (pre ++ b ∷ mid) y (ys ++ rest) 0 (length (pre ++ b ∷ mid)) refl in
    let less = h (length pre) (length (pre ++ b ∷ mid)) 0 (omega arith) (omega arith) in
    All-cons (λ z. b < z) y ys (omega (arith, less, here, there))
    (above_all pre b (mid ++ y ∷ []) ys rest (subst (λ (l : List ℕ). AllPairs (λ x y. x < y) (pre ++ b ∷ l)) (sym (append_assoc mid (y ∷ []) (ys ++ rest))) h))

all_of_map : {X : Type 0} (P : ℕ → Type 0) (g : X → ℕ) (xs : List X) → All P (map g xs) → All (λ x. P (g x)) xs
all_of_map P g [] h = All-nil (λ x. P (g x))
all_of_map P g (x ∷ xs) h = All-cons (λ x. P (g x)) x xs (All-head P (g x) (map g xs) h) (all_of_map P g xs (All-tail P (g x) (map g xs) h))

flat_parts : {X Y : Type 0} (g : X → List Y) (xs : List X) (s : X) (ys : List X) → flat_map g (xs ++ s ∷ ys) ≡ flat_map g xs ++ (g s ++ flat_map g ys)
flat_parts g [] s ys = refl
flat_parts g (x ∷ xs) s ys = ap (λ (l : List _). g x ++ l) (flat_parts g xs s ys) ∙ sym (append_assoc (g x) (flat_map g xs) (g s ++ flat_map g ys))

-- no other action of the statement begins where b does
record OneBegins (earlier : List Action) (b : Action) (later : List Action) : Type 0 where
  pub below : All (λ c. c.first < b.first) earlier
  pub above : All (λ c. b.first < c.first) later

one_begins : (tree : Tree) (before : List Stmt) (s : Stmt) (after : List Stmt) (path : Option Span) (earlier : List Action) (b : Action) (later : List Action) → IsTree tree → tree.stmts ≡ before ++ s ∷ after →
    s.body ≡ body.Alter path (earlier ++ b ∷ later) → OneBegins earlier b later
one_begins tree before s after path earlier b later is parts has =
    let starts : Stmt → List ℕ = λ x. map (λ c. c.first) (actions_in x.body) in
    let pre : List ℕ = flat_map starts before in
    let post : List ℕ = flat_map starts after in
    let xs : List ℕ = map (λ c. c.first) earlier in
    let ys : List ℕ = map (λ c. c.first) later in
    let here : starts s ≡ xs ++ b.first ∷ ys = ap (λ (x : Body). map (λ c. c.first) (actions_in x)) has ∙ map-append (λ c. c.first) earlier (b ∷ later) in
    let list : action_starts tree ≡ pre ++ ((xs ++ b.first ∷ ys) ++ post) =
    ap (λ (x : List Stmt). flat_map starts x) parts ∙ flat_parts starts before s after ∙ ap (λ (l : List ℕ). pre ++ (l ++ post)) here in
    let pairs : AllPairs (λ x y. x < y) (pre ++ ((xs ++ b.first ∷ ys) ++ post)) = subst (λ (l : List ℕ). AllPairs (λ x y. x < y) l) list (AllPairs-from_increasing (action_starts tree) (actions_ascend tree is)) in
    let first : pre ++ ((xs ++ b.first ∷ ys) ++ post) ≡ pre ++ (xs ++ b.first ∷ (ys ++ post)) = ap (λ (l : List ℕ). pre ++ l) (append_assoc xs (b.first ∷ ys) post) in
    let second : pre ++ ((xs ++ b.first ∷ ys) ++ post) ≡ (pre ++ xs) ++ b.first ∷ ([] ++ (ys ++ post)) = first ∙ sym (append_assoc pre xs (b.first ∷ (ys ++ post))) in
    record {
      below = all_of_map (λ x. x < b.first) (λ c. c.first) earlier (below_all pre xs b.first (ys ++ post) (subst (λ (l : List ℕ). AllPairs (λ x y. x < y) l) first pairs));
      above = all_of_map (λ y. b.first < y) (λ c. c.first) later (above_all (pre ++ xs) b.first [] ys post (subst (λ (l : List ℕ). AllPairs (λ x y. x < y) l) second pairs));
    }

-- ---- what does not change of an action

pub actions_of_body : (g : ℕ → ℕ) (b : Body) → actions_in (body_moved g b) ≡ map (action_moved g) (actions_in b)
actions_of_body g (body.Alter path actions) = refl
actions_of_body g b = refl

each_fixed : (g : ℕ → ℕ) (xs : List Action) → map (action_moved g) xs ≡ xs → All (λ c. action_moved g c ≡ c) xs
each_fixed g [] e = All-nil (λ c. action_moved g c ≡ c)
each_fixed g (x ∷ xs) e = All-cons (λ c. action_moved g c ≡ c) x xs (acts_first e) (each_fixed g xs (acts_rest e))

pub stmt_actions_fixed : (g : ℕ → ℕ) (x : Stmt) → stmt_moved g x ≡ x → All (λ c. action_moved g c ≡ c) (actions_in x.body)
stmt_actions_fixed g x e = each_fixed g (actions_in x.body) (sym (actions_of_body g x.body) ∙ ap (λ (y : Stmt). actions_in y.body) e)

all_middle : {X : Type 0} (P : X → Type 0) (xs : List X) (y : X) (ys : List X) → All P (xs ++ y ∷ ys) → P y
all_middle P [] y ys h = All-head P y ys h
all_middle P (x ∷ xs) y ys h = all_middle P xs y ys (All-tail P x (xs ++ y ∷ ys) h)

pub all_before : {X : Type 0} (P : X → Type 0) (xs ys : List X) → All P (xs ++ ys) → All P xs
all_before P [] ys h = All-nil P
all_before P (x ∷ xs) ys h = All-cons P x xs (All-head P x (xs ++ ys) h) (all_before P xs ys (All-tail P x (xs ++ ys) h))

pub all_after : {X : Type 0} (P : X → Type 0) (xs ys : List X) → All P (xs ++ ys) → All P ys
all_after P [] ys h = h
all_after P (x ∷ xs) ys h = all_after P xs ys (All-tail P x (xs ++ ys) h)

pub both_all : {X : Type 0} (P Q R : X → Type 0) → ((x : X) → P x → Q x → R x) → (xs : List X) → All P xs → All Q xs → All R xs
both_all P Q R f [] p q = All-nil R
both_all P Q R f (x ∷ xs) p q = All-cons R x xs (f x (All-head P x xs p) (All-head Q x xs q)) (both_all P Q R f xs (All-tail P x xs p) (All-tail Q x xs q))

-- the reports of those nodes of which each that passes has P
those_each : {N : Type 0} (P : Violation → Type 0) (test : N → Bool) (f : N → Violation) (nodes : List N) → All (λ c. test c ≡ true → P (f c)) nodes → All P (those test f nodes)
those_each P test f [] h = All-nil P
those_each P test f (c ∷ cs) h =
    All-append P (that test f c) (those test f cs)
    (where_all P (test c) (f c ∷ []) (λ e. one_all P (f c) (All-head (λ x. test x ≡ true → P (f x)) c cs h e)))
    (those_each P test f cs (All-tail (λ x. test x ≡ true → P (f x)) c cs h))

pub where_list : {X : Type 0} (P : X → Type 0) (b : Bool) (xs : List X) → All P xs → All P (cond b xs [])
where_list P true xs h = h
where_list P false xs h = All-nil P

-- ---- places

low_differ : (a w x y : ℕ) → (x < y) ⊎ (y < x) → y < a → x ≢ start_moved a w y
low_differ a w x y h p = by (start_low a w y p) h
  where
    start_low : (a w s : ℕ) → s < a → s ≡ start_moved a w s
    start_low a w s h = grind (arith, nat_tests)

    by : y ≡ start_moved a w y → (x < y) ⊎ (y < x) → x ≢ start_moved a w y
    by e (inl h) = λ q. omega (arith, h, e, q)
    by e (inr h) = λ q. omega (arith, h, e, q)

high_differ : (a w x y : ℕ) → a ≤ x → y < a → a + w + (x - a) ≢ start_moved a w y
high_differ a w x y p q = by (start_low a w y q)
  where
    start_low : (a w s : ℕ) → s < a → s ≡ start_moved a w s
    start_low a w s h = grind (arith, nat_tests)

    by : y ≡ start_moved a w y → a + w + (x - a) ≢ start_moved a w y
    by e = λ h. omega (arith, h, e)

module _ (tree : Tree) (before : List Stmt) (s : Stmt) (after : List Stmt) (n : ℕ) (path : Option Span) (earlier : List Action) (b : Action) (later : List Action)
    (is : IsTree tree) (parts : tree.stmts ≡ before ++ s ∷ after) (takes : DetachTakesConcurrently n s path earlier b later) where
  abbrev now : Stmt
  now = detached_stmt n s path earlier b later

  abbrev new : Tree
  new = concurrently_tree tree n before now after

  abbrev f : ℕ → ℕ
  f = room_after n

  pub all_fixed : All (λ c. action_moved (outside s.first (s.last + 1)) c ≡ c) (earlier ++ b ∷ later)
  all_fixed =
      let apart = statements_apart tree before s after is parts in
      subst (λ (x : Body). All (λ c. action_moved (outside s.first (s.last + 1)) c ≡ c) (actions_in x)) takes.has (stmt_actions_fixed (outside s.first (s.last + 1)) s apart.here_is)

  end_fixed : (g : ℕ → ℕ) (p : Option Span) → option_map (λ x. x.last) p ≡ Some n → option_map (span_moved g) p ≡ p → g n ≡ n
  end_fixed g None e h = cc
  end_fixed g (Some p) e h =
      let last = inside_last e in
      ap g (sym last) ∙ ap (λ (x : Span). x.last) (inside_span h) ∙ last
    where
      inside_last : {x y : ℕ} → Some x ≡ Some y → x ≡ y
      inside_last e = cc

      inside_span : {x y : Span} → Some x ≡ Some y → x ≡ y
      inside_span e = cc

  pub build : Added tree before s after n now
  build = record {
    is = is;
    parts = parts;
    number = end_fixed (outside s.first (s.last + 1)) b.path takes.ends (ap (λ (c : Action). c.path) (all_middle (λ c. action_moved (outside s.first (s.last + 1)) c ≡ c) earlier b later all_fixed));
    kind = refl;
    old = record { ends_is = ap ends_by takes.has; chains_is = ap chains_by takes.has; created_is = ap (λ (x : Body). created_by s.kind x) takes.has };
    new = record { ends_is = refl; chains_is = refl; created_is = refl };
  }

  within : n < length tree.toks
  within = let i = inside tree before s after n now build in i.within

  begins : b.first < n
  begins = detach_begins tree before s after n path earlier b later is parts takes

  abbrev Elsewhere : Violation → Type 0
  Elsewhere v = v.text_range.start ≢ start_moved (place_of tree n) inserted (token_at tree.toks b.first).start

  -- a token that is not the first one of b
  differs : (x : ℕ) → x < length tree.toks → (x < b.first) ⊎ (b.first < x) → (token_at new.toks (f x)).start ≢ start_moved (place_of tree n) inserted (token_at tree.toks b.first).start
  differs x low apart = by (cases_lt x (n + 1))
    where
      b_start : (token_at tree.toks b.first).start < place_of tree n
      b_start = (low_token tree.text tree.toks n is.lexed within b.first (let h = begins in omega arith)).start

      ascend : (x < b.first) ⊎ (b.first < x) → ((token_at tree.toks x).start < (token_at tree.toks b.first).start) ⊎ ((token_at tree.toks b.first).start < (token_at tree.toks x).start)
      ascend (inl h) = inl (starts_ascend tree.text tree.toks x b.first is.lexed h (let p = begins in let q = within in omega arith))
      ascend (inr h) = inr (starts_ascend tree.text tree.toks b.first x is.lexed h low)

      by : (x < n + 1) ⊎ (n + 1 ≤ x) → (token_at new.toks (f x)).start ≢ start_moved (place_of tree n) inserted (token_at tree.toks b.first).start
      by (inl h) =
          let t = low_token tree.text tree.toks n is.lexed within x h in
          let token = t.token in
          λ e. low_differ (place_of tree n) inserted (token_at tree.toks x).start (token_at tree.toks b.first).start (ascend apart) b_start (sym (ap (λ (k : Tok). k.start) token) ∙ e)
      by (inr h) =
          let t = high_token tree.text tree.toks n is.lexed within x h low in
          let token = t.token in
          λ e. high_differ (place_of tree n) inserted (token_at tree.toks x).start (token_at tree.toks b.first).start t.start b_start (sym (ap (λ (k : Tok). k.start) token) ∙ e)

  report_starts : (t : Tree) (c : Action) → (report t c).text_range.start ≡ (token_at t.toks c.first).start
  unfolding report
  report_starts t c = refl

  moved_elsewhere : (c : Action) → c.first < length tree.toks → (c.first < b.first) ⊎ (b.first < c.first) → Elsewhere (report new (action_moved f c))
  moved_elsewhere c low apart = λ e. differs c.first low apart (sym (report_starts new (action_moved f c)) ∙ e)

  abbrev Passes : Action → Type 0
  Passes c = is_plain_detach c ≡ true → Elsewhere (report new c)

  all_moved : (xs : List Action) → All (λ c. (c.first < length tree.toks) × ((c.first < b.first) ⊎ (b.first < c.first))) xs → All Passes (map (action_moved f) xs)
  all_moved [] h = All-nil Passes
  all_moved (x ∷ xs) h =
      let here = All-head (λ c. (c.first < length tree.toks) × ((c.first < b.first) ⊎ (b.first < c.first))) x xs h in
      All-cons Passes (action_moved f x) (map (action_moved f) xs) (λ plain. moved_elsewhere x here.0 here.1)
      (all_moved xs (All-tail (λ c. (c.first < length tree.toks) × ((c.first < b.first) ⊎ (b.first < c.first))) x xs h))

  -- the action with the mark is not plain
  concurrent_passes : Passes (concurrent_action (n + 2) (action_moved f b))
  concurrent_passes plain = absurd (none (same_action b.kind a.DetachPartition) plain)
    where
      none : (x : Bool) → (x && false) ≡ true → ⊥
      none true h = false≢true h
      none false h = false≢true h

  here_actions : All Passes (map (action_moved f) earlier ++ concurrent_action (n + 2) (action_moved f b) ∷ map (action_moved f) later)
  here_actions =
      let one = one_begins tree before s after path earlier b later is parts takes.has in
      let apart = statements_apart tree before s after is parts in
      let bounds : (xs : List Action) → All (λ c. action_moved (outside s.first (s.last + 1)) c ≡ c) xs → All (λ c. c.first < length tree.toks) xs = λ xs h. bounded xs apart.within h in
      All-append Passes (map (action_moved f) earlier) (concurrent_action (n + 2) (action_moved f b) ∷ map (action_moved f) later)
      (all_moved earlier (both_all (λ c. c.first < length tree.toks) (λ c. c.first < b.first) (λ c. (c.first < length tree.toks) × ((c.first < b.first) ⊎ (b.first < c.first))) (λ c p q. (p, inl q)) earlier
      (bounds earlier (all_before (λ c. action_moved (outside s.first (s.last + 1)) c ≡ c) earlier (b ∷ later) all_fixed)) one.below))
      (All-cons Passes (concurrent_action (n + 2) (action_moved f b)) (map (action_moved f) later) concurrent_passes
      (all_moved later (both_all (λ c. c.first < length tree.toks) (λ c. b.first < c.first) (λ c. (c.first < length tree.toks) × ((c.first < b.first) ⊎ (b.first < c.first))) (λ c p q. (p, inr q)) later
      (bounds later (All-tail (λ c. action_moved (outside s.first (s.last + 1)) c ≡ c) b later (all_after (λ c. action_moved (outside s.first (s.last + 1)) c ≡ c) earlier (b ∷ later) all_fixed))) one.above)))
    where
      bounded : (xs : List Action) → s.last < length tree.toks → All (λ c. action_moved (outside s.first (s.last + 1)) c ≡ c) xs → All (λ c. c.first < length tree.toks) xs
      bounded [] low h = All-nil (λ c. c.first < length tree.toks)
      bounded (x ∷ xs) low h =
          let range = stays_within s.first (s.last + 1) x.first (ap (λ (c : Action). c.first) (All-head (λ c. action_moved (outside s.first (s.last + 1)) c ≡ c) x xs h)) in
          All-cons (λ c. c.first < length tree.toks) x xs (let top = range.1 in omega arith) (bounded xs low (All-tail (λ c. action_moved (outside s.first (s.last + 1)) c ≡ c) x xs h))

  this_elsewhere : (j : ℕ) → (j == length before) ≡ true → All Elsewhere (reports_of_require_concurrent_partition_detach new (stmt_at new j))
  this_elsewhere j h =
      subst (λ (x : Stmt). All Elsewhere (reports_of_require_concurrent_partition_detach new x)) (sym (this_new tree before s after n now build j h))
      (those_each Elsewhere is_plain_detach (report new) (table_actions now)
      (where_list Passes (same_kind now.kind stmt.AlterTable) (map (action_moved f) earlier ++ concurrent_action (n + 2) (action_moved f b) ∷ map (action_moved f) later) here_actions))

  -- the numbers of an action of another statement
  far_action : (lo hi : ℕ) (x : Stmt) (c : Action) → action_moved (outside lo hi) c ≡ c → (hi ≤ s.first) ⊎ (s.last + 1 ≤ lo) → ((hi ≤ n + 1) ⊎ ((n + 1 ≤ lo) × (hi ≤ length tree.toks))) →
      (c.first < length tree.toks) × ((c.first < b.first) ⊎ (b.first < c.first))
  far_action lo hi x c fixed out side =
      let range = stays_within lo hi c.first (ap (λ (y : Action). y.first) fixed) in
      let own = stays_within s.first (s.last + 1) b.first (ap (λ (y : Action). y.first) (all_middle (λ c. action_moved (outside s.first (s.last + 1)) c ≡ c) earlier b later all_fixed)) in
      by out side range.0 range.1 own.0 own.1 within
    where
      by : (hi ≤ s.first) ⊎ (s.last + 1 ≤ lo) → ((hi ≤ n + 1) ⊎ ((n + 1 ≤ lo) × (hi ≤ length tree.toks))) → lo ≤ c.first → c.first < hi → s.first ≤ b.first → b.first < s.last + 1 → n < length tree.toks →
          (c.first < length tree.toks) × ((c.first < b.first) ⊎ (b.first < c.first))
      by (inl p) (inl q) u v w x y = (omega arith, inl (omega arith))
      by (inl p) (inr q) u v w x y = let r = q.1 in (omega arith, inl (omega arith))
      by (inr p) (inl q) u v w x y = (omega arith, inr (omega arith))
      by (inr p) (inr q) u v w x y = let r = q.1 in (omega arith, inr (omega arith))

  other_actions : (x y : Stmt) → Other tree before s after n now build x y → All Passes (actions_in (body_moved f x.body))
  other_actions x y o = by o.out
    where
      far : (hi : (o.hi ≤ s.first) ⊎ (s.last + 1 ≤ o.lo)) → All Passes (actions_in (body_moved f x.body))
      far out =
          subst (λ (l : List Action). All Passes l) (sym (actions_of_body f x.body))
          (all_moved (actions_in x.body) (each (actions_in x.body) (stmt_actions_fixed (outside o.lo o.hi) x o.fixed)))
        where
          each : (cs : List Action) → All (λ c. action_moved (outside o.lo o.hi) c ≡ c) cs → All (λ c. (c.first < length tree.toks) × ((c.first < b.first) ⊎ (b.first < c.first))) cs
          each [] h = All-nil (λ c. (c.first < length tree.toks) × ((c.first < b.first) ⊎ (b.first < c.first)))
          each (c ∷ cs) h =
              All-cons (λ c. (c.first < length tree.toks) × ((c.first < b.first) ⊎ (b.first < c.first))) c cs
              (far_action o.lo o.hi x c (All-head (λ c. action_moved (outside o.lo o.hi) c ≡ c) c cs h) out o.side) (each cs (All-tail (λ c. action_moved (outside o.lo o.hi) c ≡ c) c cs h))

      by : (o.hi ≤ s.first) ⊎ ((s.last + 1 ≤ o.lo) ⊎ (x.body ≡ body.Kept)) → All Passes (actions_in (body_moved f x.body))
      by (inl p) = far (inl p)
      by (inr (inl p)) = far (inr p)
      by (inr (inr e)) = subst (λ (z : Body). All Passes (actions_in (body_moved f z))) (sym e) (All-nil Passes)

  other_elsewhere : (x y : Stmt) → Other tree before s after n now build x y → All Elsewhere (reports_of_require_concurrent_partition_detach new y)
  other_elsewhere x y o =
      subst (λ (z : Stmt). All Elsewhere (reports_of_require_concurrent_partition_detach new z)) (sym o.moved)
      (those_each Elsewhere is_plain_detach (report new) (table_actions (stmt_moved f x))
      (where_list Passes (same_kind x.kind stmt.AlterTable) (actions_in (body_moved f x.body)) (other_actions x y o)))

  at_elsewhere : (j : ℕ) → All Elsewhere (reports_of_require_concurrent_partition_detach new (stmt_at new j))
  at_elsewhere j = by (j == length before) refl
    where
      by : (b : Bool) → (j == length before) ≡ b → All Elsewhere (reports_of_require_concurrent_partition_detach new (stmt_at new j))
      by true e = this_elsewhere j e
      by false e = other_elsewhere (stmt_at tree j) (stmt_at new j) (others tree before s after n now build j e)

  elsewhere : (rules : Rules) (settings : LinterSettings) → All Elsewhere (detached new rules settings)
  elsewhere rules settings =
      pieces_all Elsewhere (enabled_reports rule.RequireConcurrentPartitionDetach (λ i. detachments_of settings new i (stmt_at new i)) rules) (length new.stmts)
      (λ j. where_all Elsewhere (has rules rule.RequireConcurrentPartitionDetach) (reports_of_require_concurrent_partition_detach new (stmt_at new j)) (λ e. at_elsewhere j))

  mends : (rules : Rules) (settings : LinterSettings) → concurrently_after tree (end_of b.path) ≡ concurrently_after tree n → FixMends detached tree rules settings (report tree b)
  unfolding report
  mends rules settings same v has short =
      let puts = puts_word tree n v is.lexed within (sym same ∙ inside_some has) in
      let text = puts.text in
      let place = puts.place (token_at tree.toks b.first).start in
      let reads = detach_reads tree before s after n path earlier b later is parts takes (subst (λ (x : Text). length x < 2 ^ 32) text short) in
      record {
        new = new;
        text = sym text;
        is = reads.is;
        terms = record { n = n; within = within; put = puts.edits; toks = refl; terms = reads.terms };
        silent = subst (λ (p : ℕ). All (λ w. w.text_range.start ≢ p) (detached new rules settings)) (sym place) (elsewhere rules settings);
      }

-- ---- all reports

-- the reports of the nodes that pass, each in its list
pub those_in : (P : Violation → Type 0) (test : Action → Bool) (f : Action → Violation) (all pre xs : List Action) → all ≡ pre ++ xs →
    ((earlier : List Action) (c : Action) (later : List Action) → all ≡ earlier ++ c ∷ later → test c ≡ true → P (f c)) → All P (those test f xs)
those_in P test f all pre [] e h = All-nil P
those_in P test f all pre (c ∷ cs) e h =
    All-append P (that test f c) (those test f cs) (where_all P (test c) (f c ∷ []) (λ p. one_all P (f c) (h pre c cs e p)))
    (those_in P test f all (pre ++ c ∷ []) cs (e ∙ sym (append_assoc pre (c ∷ []) cs)) h)

pub where_those : (P : Violation → Type 0) (b : Bool) (test : Action → Bool) (f : Action → Violation) (xs : List Action) → (b ≡ true → All P (those test f xs)) → All P (those test f (cond b xs []))
where_those P true test f xs h = h refl
where_those P false test f xs h = All-nil P

pub table_kind : (kind : StmtKind) → same_kind kind stmt.AlterTable ≡ true → kind ≡ stmt.AlterTable
unfolding same_kind
table_kind kind h = same_true kinds.the_type (search rules) kind stmt.AlterTable h

detach_kind : (kind : ActionKind) → same_action kind a.DetachPartition ≡ true → kind ≡ a.DetachPartition
unfolding same_action
detach_kind kind h = same_true actions.the_type (search rules) kind a.DetachPartition h

-- what the test of a plain detach says
pub record IsPlain (c : Action) : Type 0 where
  pub kind : c.kind ≡ a.DetachPartition
  pub none : c.word ≡ None

pub is_plain : (c : Action) → is_plain_detach c ≡ true → IsPlain c
is_plain c h = let both = and_parts (same_action c.kind a.DetachPartition) (is_none c.word) h in record { kind = detach_kind c.kind both.0; none = none c.word both.1 }
  where
    none : (w : Option ℕ) → is_none w ≡ true → w ≡ None
    none None h = refl
    none (Some w) h = absurd (false≢true h)

pub path_end : (path : Option Span) (n : ℕ) → option_map (λ x. x.last) path ≡ Some n → end_of path ≡ n
path_end None n e = cc
path_end (Some p) n e = inside e
  where
    inside : {x y : ℕ} → Some x ≡ Some y → x ≡ y
    inside e = cc

-- an ALTER statement, or another
pub data Alters (x : Body) : Type 0 where
  alter : (path : Option Span) (actions : List Action) → x ≡ body.Alter path actions → Alters x
  other : actions_in x ≡ [] → Alters x

pub alters : (x : Body) → Alters x
alters (body.Alter path actions) = alter path actions refl
alters x = other refl

pub detached_mend : FixesMend detached
detached_mend tree rules settings is =
    pieces_all Mends (enabled_reports rule.RequireConcurrentPartitionDetach (λ i. detachments_of settings tree i (stmt_at tree i)) rules) (length tree.stmts)
    (λ j. where_all Mends (has rules rule.RequireConcurrentPartitionDetach) (reports_of_require_concurrent_partition_detach tree (stmt_at tree j)) (λ e. each j (at_or_none tree.stmts j)))
  where
    Mends : Violation → Type 0
    Mends v = FixMends detached tree rules settings v

    one : (before : List Stmt) (s : Stmt) (after : List Stmt) → tree.stmts ≡ before ++ s ∷ after → s.kind ≡ stmt.AlterTable → (path : Option Span) (actions : List Action) → s.body ≡ body.Alter path actions →
        (earlier : List Action) (c : Action) (later : List Action) → actions ≡ earlier ++ c ∷ later → is_plain_detach c ≡ true → Mends (report tree c)
    one before s after parts kind path actions has earlier c later cut plain =
        let p = is_plain c plain in
        let body_is : s.body ≡ body.Alter path (earlier ++ c ∷ later) = has ∙ ap (λ (l : List Action). body.Alter path l) cut in
        let end = detach_has_path tree before s after path earlier c later is parts kind body_is p.kind p.none in
        mends tree before s after end.0 path earlier c later is parts (record { kind = kind; has = body_is; detaches = p.kind; none = p.none; ends = end.1.0 }) rules settings
        (ap (concurrently_after tree) (path_end c.path end.0 end.1.0))

    by_body : (before : List Stmt) (s : Stmt) (after : List Stmt) → tree.stmts ≡ before ++ s ∷ after → s.kind ≡ stmt.AlterTable → Alters s.body → All Mends (those is_plain_detach (report tree) (actions_in s.body))
    by_body before s after parts kind (alter path actions has) =
        subst (λ (x : Body). All Mends (those is_plain_detach (report tree) (actions_in x))) (sym has)
        (those_in Mends is_plain_detach (report tree) actions [] actions refl (one before s after parts kind path actions has))
    by_body before s after parts kind (other none) = subst (λ (l : List Action). All Mends (those is_plain_detach (report tree) l)) (sym none) (All-nil Mends)

    each : (j : ℕ) → At tree.stmts j ⊎ (stmt_at tree j ≡ no_stmt) → All Mends (reports_of_require_concurrent_partition_detach tree (stmt_at tree j))
    each j (inr e) = subst (λ (x : Stmt). All Mends (reports_of_require_concurrent_partition_detach tree x)) (sym e) (where_those Mends (same_kind no_stmt.kind stmt.AlterTable) is_plain_detach (report tree) [] (λ h. All-nil Mends))
    each j (inl at) =
        where_those Mends (same_kind (stmt_at tree j).kind stmt.AlterTable) is_plain_detach (report tree) (actions_in (stmt_at tree j).body)
        (λ h. by_body at.before (stmt_at tree j) at.after at.parts (table_kind (stmt_at tree j).kind h) (alters (stmt_at tree j).body))
