-- What is reported of a text where the word was put into a DETACH PARTITION.
use Rattle.std.proofs.Common.{◌≡◌, ℕ, ◌+◌, ◌-◌, ◌<◌, ◌≤◌, ◌⊎◌, inl, inr, max, Bool, true, false, cond, List, [], ◌∷◌, ◌++◌, map, length, length-append, append_assoc, sym, refl, ap, ◌∙◌, subst, arith, Option, Some, None}
use Rattle.std.proofs.lemmas.Bool.{cases_lt}
use Rattle.std.proofs.lemmas.List.{length-map, map-append}
use Rattle.std.proofs.lemmas.List.Elements.{All-nil, All-cons, All-head, All-tail}
use Rattle.std.specs.Prelude.{All, ◌&&◌, ◌==◌, is_none, codes}
use Rattle.std.specs.Option.{option_map}
use Rattle.pass_concurrent.specs.text_pos.Range.{Range}
use Rattle.law_edit_inserts.specs.sql_token.declared.token.Span.{Span}
use Rattle.law_edit_inserts.specs.sql_tree.declared.kinds.ActionKind.TheVariants as a
use Rattle.law_edit_inserts.specs.sql_tree.declared.kinds.StmtKind.{StmtKind}
use Rattle.law_edit_inserts.specs.sql_tree.declared.kinds.StmtKind.TheVariants as stmt
use Rattle.law_edit_inserts.specs.sql_tree.declared.nodes.Action.{Action}
use Rattle.law_edit_inserts.specs.sql_tree.declared.nodes.Body.{Body}
use Rattle.law_edit_inserts.specs.sql_tree.declared.nodes.Body.TheVariants as body
use Rattle.law_edit_inserts.specs.sql_tree.declared.nodes.Stmt.{Stmt}
use Rattle.law_edit_inserts.specs.sql_tree.Nodes.{actions_in}
use Rattle.law_edit_inserts.specs.sql_tree.Range.{span_range_of, token_at}
use Rattle.law_edit_inserts.specs.sql_tree.Statement.{Tree, IsTree}
use Rattle.law_edit_inserts.specs.law_renumber.Moved.{action_moved, span_moved, stmt_moved}
use Rattle.law_edit_inserts.specs.Apart.{outside}
use Rattle.law_edit_inserts.specs.Built.{concurrently_tree, detached_stmt, room_after, DetachTakesConcurrently}
use Rattle.law_edit_inserts.specs.Concurrently.{concurrent_action}
use Rattle.law_edit_inserts.proofs.Apart.{stays_within, statements_apart}
use Rattle.law_edit_inserts.proofs.DetachFields.{detach_begins, detach_has_path}
use Rattle.pass_concurrent.specs.lint_base.declared.rule.Rule.TheVariants as rule
use Rattle.pass_concurrent.specs.lint_base.declared.settings.LinterSettings.{LinterSettings}
use Rattle.pass_concurrent.specs.lint_base.declared.violation.Violation.{Violation}
use Rattle.pass_concurrent.specs.lint_base.RuleSets.{Rules, has}
use Rattle.pass_concurrent.specs.lint_transaction.Earlier.{concat_below}
use Rattle.pass_concurrent.specs.lint_transaction.Transaction.{no_stmt, stmt_at}
use Rattle.pass_concurrent.specs.lint_node.Plain.{is_plain_detach}
use Rattle.pass_concurrent.specs.lint_node.Same.{same_action, same_kind}
use Rattle.pass_concurrent.specs.lint_pass.Fixes.{insertion_fix}
use Rattle.pass_concurrent.specs.lint_pass.RuleTables.{enabled_reports}
use Rattle.pass_concurrent.specs.lint_pass.Those.{that, those}
use Rattle.pass_concurrent.specs.RequireConcurrentPartitionDetach.{reports_of_require_concurrent_partition_detach, end_of, report}
use Rattle.law_fixes.specs.Mended.{detachments_of}
use Rattle.law_fixes.specs.Moved.{range_moved, end_moved, violation_moved}
use Rattle.law_fixes.specs.Stays.{place_of, inserted, but_action, DetachesStay}
use Rattle.law_fixes.proofs.Detached.{actions_of_body, stmt_actions_fixed, all_before, all_after, both_all, table_kind, is_plain, path_end, Alters, alters, all_fixed, build}
use Rattle.law_fixes.proofs.Detached.Alters.{alter, other}
use Rattle.law_fixes.proofs.Fixed.{At, at_or_none}
use Rattle.law_fixes.proofs.Statements.{Added, Other, inside, others, this_new}
use Rattle.law_fixes.proofs.Tokens.{low_token, high_token}
use Rattle.law_fixes.proofs.Words.{start_low, start_high, end_low, end_high, max_low, max_high, max_above}

-- ---- the actions that are reported

-- it ends with its path
record Placed (c : Action) : Type 0 where
  pub m : ℕ
  pub ends : option_map (λ x. x.last) c.path ≡ Some m
  pub last : c.last ≡ m
  pub less : c.first < m

-- so it is, where it is reported
abbrev IsPlaced : Action → Type 0
IsPlaced c = is_plain_detach c ≡ true → Placed c

each_of : (P : Action → Type 0) (all pre xs : List Action) → all ≡ pre ++ xs → ((earlier : List Action) (c : Action) (later : List Action) → all ≡ earlier ++ c ∷ later → P c) → All P xs
each_of P all pre [] e h = All-nil P
each_of P all pre (c ∷ cs) e h = All-cons P c cs (h pre c cs e) (each_of P all (pre ++ c ∷ []) cs (e ∙ sym (append_assoc pre (c ∷ []) cs)) h)

placed_in : (tree : Tree) (before : List Stmt) (s : Stmt) (after : List Stmt) → IsTree tree → tree.stmts ≡ before ++ s ∷ after → s.kind ≡ stmt.AlterTable →
    (path : Option Span) (actions : List Action) → s.body ≡ body.Alter path actions → All IsPlaced actions
placed_in tree before s after is parts kind path actions has = each_of IsPlaced actions [] actions refl one
  where
    one : (earlier : List Action) (c : Action) (later : List Action) → actions ≡ earlier ++ c ∷ later → IsPlaced c
    one earlier c later cut plain =
        let p = is_plain c plain in
        let body_is : s.body ≡ body.Alter path (earlier ++ c ∷ later) = has ∙ ap (λ (l : List Action). body.Alter path l) cut in
        let end = detach_has_path tree before s after path earlier c later is parts kind body_is p.kind p.none in
        record {
          m = end.0;
          ends = end.1.0;
          last = end.1.1;
          less = detach_begins tree before s after end.0 path earlier c later is parts (record { kind = kind; has = body_is; detaches = p.kind; none = p.none; ends = end.1.0 });
        }

placed_at : (tree : Tree) → IsTree tree → (j : ℕ) → (stmt_at tree j).kind ≡ stmt.AlterTable → All IsPlaced (actions_in (stmt_at tree j).body)
placed_at tree is j kind = by (at_or_none tree.stmts j)
  where
    here : At tree.stmts j → Alters (stmt_at tree j).body → All IsPlaced (actions_in (stmt_at tree j).body)
    here at (alter path actions has) =
        subst (λ (x : Body). All IsPlaced (actions_in x)) (sym has) (placed_in tree at.before (stmt_at tree j) at.after is at.parts kind path actions has)
    here at (other none) = subst (λ (l : List Action). All IsPlaced l) (sym none) (All-nil IsPlaced)

    by : At tree.stmts j ⊎ (stmt_at tree j ≡ no_stmt) → All IsPlaced (actions_in (stmt_at tree j).body)
    by (inl at) = here at (alters (stmt_at tree j).body)
    by (inr e) = subst (λ (x : Stmt). All IsPlaced (actions_in x.body)) (sym e) (All-nil IsPlaced)

-- ---- lists of reports

those_parts : (test : Action → Bool) (f : Action → Violation) (xs ys : List Action) → those test f (xs ++ ys) ≡ those test f xs ++ those test f ys
those_parts test f [] ys = refl
those_parts test f (x ∷ xs) ys = ap (λ (l : List Violation). that test f x ++ l) (those_parts test f xs ys) ∙ sym (append_assoc (that test f x) (those test f xs) (those test f ys))

pub plain_moved : (f : ℕ → ℕ) (c : Action) → is_plain_detach (action_moved f c) ≡ is_plain_detach c
plain_moved f c = ap (λ (b : Bool). same_action c.kind a.DetachPartition && b) (word c.word)
  where
    word : (w : Option ℕ) → is_none (option_map f w) ≡ is_none w
    word None = refl
    word (Some w) = refl

end_moves : (f : ℕ → ℕ) (n : ℕ) (path : Option Span) → option_map (λ x. x.last) path ≡ Some n → option_map (λ x. x.last) (option_map (span_moved f) path) ≡ Some (f n)
end_moves f n None e = cc
end_moves f n (Some p) e = ap (λ (x : Option ℕ). option_map f x) e

max_mixed : (a w s e : ℕ) → s < a → a < e → max s (a + w + (e - a)) ≡ max s e + w
max_mixed a w s e p q = omega arith

module _ (tree : Tree) (before : List Stmt) (s : Stmt) (after : List Stmt) (n : ℕ) (now : Stmt) (added : Added tree before s after n now) where
  abbrev new : Tree
  new = concurrently_tree tree n before now after

  abbrev place : ℕ
  place = place_of tree n

  abbrev f : ℕ → ℕ
  f = room_after n

  abbrev moved : Violation → Violation
  moved = violation_moved place inserted

  within : n < length tree.toks
  within = let i = inside tree before s after n now added in i.within

  range_is : (first last : ℕ) → first ≤ last → last < length tree.toks → span_range_of new.toks (f first) (f last) ≡ range_moved place inserted (span_range_of tree.toks first last)
  range_is first last less high = by (cases_lt last (n + 1)) (cases_lt first (n + 1))
    where
      by : (last < n + 1) ⊎ (n + 1 ≤ last) → (first < n + 1) ⊎ (n + 1 ≤ first) → span_range_of new.toks (f first) (f last) ≡ range_moved place inserted (span_range_of tree.toks first last)
      by (inl p) q =
          let b = low_token tree.text tree.toks n added.is.lexed within first (omega arith) in
          let c = low_token tree.text tree.toks n added.is.lexed within last p in
          let starts = b.token in let ends = c.token in
          let top = max_low place (token_at tree.toks first).start (token_at tree.toks last).end b.start c.end in
          (λ i. record { start = (starts i).start; end = max (starts i).start (ends i).end })
          ∙ (let j = start_low place inserted (token_at tree.toks first).start b.start in let k = end_low place inserted (max (token_at tree.toks first).start (token_at tree.toks last).end) top in
          λ i. record { start = j i; end = k i })
      by (inr p) (inl q) =
          let b = low_token tree.text tree.toks n added.is.lexed within first q in
          let c = high_token tree.text tree.toks n added.is.lexed within last p high in
          let starts = b.token in let ends = c.token in
          let first_start : ℕ = (token_at tree.toks first).start in
          let last_end : ℕ = (token_at tree.toks last).end in
          let top = max_mixed place inserted first_start last_end b.start c.end ∙ end_high place inserted (max first_start last_end) (max_above place first_start last_end c.end) in
          (λ i. record { start = (starts i).start; end = max (starts i).start (ends i).end })
          ∙ (let j = start_low place inserted first_start b.start in λ i. record { start = j i; end = top i })
      by (inr p) (inr q) =
          let b = high_token tree.text tree.toks n added.is.lexed within first q (omega arith) in
          let c = high_token tree.text tree.toks n added.is.lexed within last p high in
          let starts = b.token in let ends = c.token in
          let first_start : ℕ = (token_at tree.toks first).start in
          let last_end : ℕ = (token_at tree.toks last).end in
          let top = max_high place inserted first_start last_end b.start c.end ∙ end_high place inserted (max first_start last_end) (max_above place first_start last_end c.end) in
          (λ i. record { start = (starts i).start; end = max (starts i).start (ends i).end })
          ∙ (let j = start_high place inserted first_start b.start in λ i. record { start = j i; end = top i })

  -- ---- one report

  report_is : (c : Action) → Placed c → c.last < length tree.toks → report new (action_moved f c) ≡ moved (report tree c)
  unfolding report
  report_is c p high =
      let last = p.last in let less = p.less in
      let range = range_is c.first c.last (omega arith) high in
      let old = path_end c.path p.m p.ends in
      let fresh = path_end (option_map (span_moved f) c.path) (f p.m) (end_moves f p.m c.path p.ends) in
      let edit : (span_range_of new.toks (end_of (option_map (span_moved f) c.path)) (end_of (option_map (span_moved f) c.path))).end
      ≡ end_moved place inserted (span_range_of tree.toks (end_of c.path) (end_of c.path)).end =
      ap (λ (x : ℕ). (span_range_of new.toks x x).end) fresh ∙ ap (λ (r : Range). r.end) (range_is p.m p.m (omega arith) (omega arith))
      ∙ ap (λ (x : ℕ). end_moved place inserted (span_range_of tree.toks x x).end) (sym old) in
      λ i. record (report tree c) { text_range = range i; fix = Some (insertion_fix (codes "Add `concurrently`") (codes " concurrently") (edit i)) }

  that_moved : (c : Action) → (is_plain_detach c ≡ true → report new (action_moved f c) ≡ moved (report tree c)) →
      that is_plain_detach (report new) (action_moved f c) ≡ map moved (that is_plain_detach (report tree) c)
  that_moved c h = ap (λ (b : Bool). cond b (report new (action_moved f c) ∷ []) []) (plain_moved f c) ∙ by (is_plain_detach c) h
    where
      by : (b : Bool) → (b ≡ true → report new (action_moved f c) ≡ moved (report tree c)) → cond b (report new (action_moved f c) ∷ []) [] ≡ map moved (cond b (report tree c ∷ []) [])
      by true h = ap (λ (v : Violation). v ∷ []) (h refl)
      by false h = refl

  -- an action that is reported is moved
  abbrev Moves : Action → Type 0
  Moves c = is_plain_detach c ≡ true → report new (action_moved f c) ≡ moved (report tree c)

  those_moved : (xs : List Action) → All Moves xs → those is_plain_detach (report new) (map (action_moved f) xs) ≡ map moved (those is_plain_detach (report tree) xs)
  those_moved [] h = refl
  those_moved (x ∷ xs) h =
      (let p = that_moved x (All-head Moves x xs h) in let q = those_moved xs (All-tail Moves x xs h) in λ i. p i ++ q i)
      ∙ sym (map-append moved (that is_plain_detach (report tree) x) (those is_plain_detach (report tree) xs))

  moves : (xs : List Action) (lo hi : ℕ) → hi ≤ length tree.toks → All IsPlaced xs → All (λ c. action_moved (outside lo hi) c ≡ c) xs → All Moves xs
  moves xs lo hi high p q = both_all IsPlaced (λ c. action_moved (outside lo hi) c ≡ c) Moves one xs p q
    where
      one : (c : Action) → IsPlaced c → action_moved (outside lo hi) c ≡ c → Moves c
      one c p e plain = report_is c (p plain) (let r = stays_within lo hi c.last (ap (λ (y : Action). y.last) e) in let top = r.1 in omega arith)

  -- ---- one statement

  other_moved : (x y : Stmt) → Other tree before s after n now added x y → (x.kind ≡ stmt.AlterTable → All IsPlaced (actions_in x.body)) → reports_of_require_concurrent_partition_detach new y ≡ map moved (reports_of_require_concurrent_partition_detach tree x)
  other_moved x y o placed =
      ap (λ (z : Stmt). reports_of_require_concurrent_partition_detach new z) o.moved
      ∙ ap (λ (l : List Action). those is_plain_detach (report new) (cond (same_kind x.kind stmt.AlterTable) l [])) (actions_of_body f x.body)
      ∙ by (same_kind x.kind stmt.AlterTable) refl
    where
      top : (o.hi ≤ n + 1) ⊎ ((n + 1 ≤ o.lo) × (o.hi ≤ length tree.toks)) → n < length tree.toks → o.hi ≤ length tree.toks
      top (inl h) i = omega arith
      top (inr h) i = h.1

      by : (b : Bool) → same_kind x.kind stmt.AlterTable ≡ b →
          those is_plain_detach (report new) (cond b (map (action_moved f) (actions_in x.body)) []) ≡ map moved (those is_plain_detach (report tree) (cond b (actions_in x.body) []))
      by true e =
          those_moved (actions_in x.body)
          (moves (actions_in x.body) o.lo o.hi (top o.side within) (placed (table_kind x.kind e)) (stmt_actions_fixed (outside o.lo o.hi) x o.fixed))
      by false e = refl

  count_same : length new.stmts ≡ length tree.stmts
  count_same =
      omega (
        arith,
        length-append (map (stmt_moved f) before) (now ∷ map (stmt_moved f) after),
        length-map before (stmt_moved f),
        length-map after (stmt_moved f),
        length-append before (s ∷ after),
        ap length added.parts,
      )

-- ---- all statements

concurrent_silent : (f : ℕ → ℕ) (n : ℕ) (c : Action) (report : Action → Violation) → that is_plain_detach report (concurrent_action n (action_moved f c)) ≡ []
concurrent_silent f n c report = by (same_action c.kind a.DetachPartition)
  where
    by : (b : Bool) → cond (b && false) (report (concurrent_action n (action_moved f c)) ∷ []) [] ≡ []
    by true = refl
    by false = refl

module _ (tree : Tree) (before : List Stmt) (s : Stmt) (after : List Stmt) (n : ℕ) (path : Option Span) (earlier : List Action) (b : Action) (later : List Action)
    (is : IsTree tree) (parts : tree.stmts ≡ before ++ s ∷ after) (takes : DetachTakesConcurrently n s path earlier b later) where
  abbrev this : Stmt
  this = detached_stmt n s path earlier b later

  abbrev fresh : Tree
  fresh = concurrently_tree tree n before this after

  one_added : Added tree before s after n this
  one_added = build tree before s after n path earlier b later is parts takes

  abbrev shifted : Violation → Violation
  shifted = violation_moved (place_of tree n) inserted

  this_moved : (j : ℕ) → (j == length before) ≡ true → reports_of_require_concurrent_partition_detach fresh (stmt_at fresh j) ≡ map shifted (those is_plain_detach (report tree) (earlier ++ later))
  unfolding same_kind
  this_moved j h =
      ap (λ (x : Stmt). reports_of_require_concurrent_partition_detach fresh x) (this_new tree before s after n this one_added j h)
      ∙ ap (λ (k : StmtKind). those is_plain_detach (report fresh) (cond (same_kind k stmt.AlterTable) new_actions [])) takes.kind
      ∙ those_parts is_plain_detach (report fresh) (map (action_moved (room_after n)) earlier) (concurrent_action (n + 2) (action_moved (room_after n) b) ∷ map (action_moved (room_after n)) later)
      ∙ ap (λ (l : List Violation). those is_plain_detach (report fresh) (map (action_moved (room_after n)) earlier) ++ (l ++ those is_plain_detach (report fresh) (map (action_moved (room_after n)) later)))
      (concurrent_silent (room_after n) (n + 2) b (report fresh))
      ∙ (let p = those_moved tree before s after n this one_added earlier front in let q = those_moved tree before s after n this one_added later back in λ i. p i ++ q i)
      ∙ sym (map-append shifted (those is_plain_detach (report tree) earlier) (those is_plain_detach (report tree) later))
      ∙ ap (λ (l : List Violation). map shifted l) (sym (those_parts is_plain_detach (report tree) earlier later))
    where
      new_actions : List Action
      new_actions = map (action_moved (room_after n)) earlier ++ concurrent_action (n + 2) (action_moved (room_after n) b) ∷ map (action_moved (room_after n)) later

      top : s.last + 1 ≤ length tree.toks
      top = let apart = statements_apart tree before s after is parts in let h = apart.within in omega arith

      all : All (Moves tree before s after n this one_added) (earlier ++ b ∷ later)
      all =
          moves tree before s after n this one_added (earlier ++ b ∷ later) s.first (s.last + 1) top (placed_in tree before s after is parts takes.kind path (earlier ++ b ∷ later) takes.has)
          (all_fixed tree before s after n path earlier b later is parts takes)

      front : All (Moves tree before s after n this one_added) earlier
      front = all_before (Moves tree before s after n this one_added) earlier (b ∷ later) all

      back : All (Moves tree before s after n this one_added) later
      back = All-tail (Moves tree before s after n this one_added) b later (all_after (Moves tree before s after n this one_added) earlier (b ∷ later) all)

  piece_moved : (rules : Rules) (settings : LinterSettings) (j : ℕ) →
      enabled_reports rule.RequireConcurrentPartitionDetach (λ i. detachments_of settings fresh i (stmt_at fresh i)) rules j
      ≡ map shifted (enabled_reports rule.RequireConcurrentPartitionDetach (but_action (length before) (earlier ++ later) tree) rules j)
  piece_moved rules settings j = by (has rules rule.RequireConcurrentPartitionDetach) (j == length before) refl
    where
      by : (h k : Bool) → (j == length before) ≡ k →
          cond h (reports_of_require_concurrent_partition_detach fresh (stmt_at fresh j)) [] ≡ map shifted (cond h (cond k (those is_plain_detach (report tree) (earlier ++ later)) (reports_of_require_concurrent_partition_detach tree (stmt_at tree j))) [])
      by false k e = refl
      by true true e = this_moved j e
      by true false e = other_moved tree before s after n this one_added (stmt_at tree j) (stmt_at fresh j) (others tree before s after n this one_added j e) (placed_at tree is j)

pub detaches_stay : DetachesStay
detaches_stay tree before s after n path earlier b later is parts takes rules settings =
    let count = count_same tree before s after n (detached_stmt n s path earlier b later) (one_added tree before s after n path earlier b later is parts takes) in
    λ i. concat_below (λ j. piece_moved tree before s after n path earlier b later is parts takes rules settings j i) (count i)
