-- Tokens of a column type became a word: what is reported then by all listed rules.
use Rattle.std.proofs.Common.{◌≡◌, ℕ, suc, ◌+◌, ◌<◌, ◌≤◌, ◌⊎◌, inl, Bool, true, false, cond, List, [], ◌∷◌, ◌++◌, map, length, sym, refl, ap, ◌∙◌, subst, arith, Option, None}
use Rattle.std.proofs.lemmas.List.Elements.{All-nil, All-cons, All-head, All-tail, All-weaker}
use Rattle.std.specs.Prelude.{All, ◌&&◌}
use Rattle.std.specs.List.{list_any}
use Rattle.std.specs.Option.{option_map}
use Rattle.law_type_fixes.specs.sql_name.Name.{full_name}
use Rattle.law_type_fixes.specs.sql_token.declared.token.Span.{Span}
use Rattle.law_type_fixes.specs.sql_token.Token.{Text}
use Rattle.law_type_fixes.specs.sql_tree.declared.kinds.StmtKind.{StmtKind}
use Rattle.law_type_fixes.specs.sql_tree.declared.kinds.StmtKind.TheVariants as stmt
use Rattle.law_type_fixes.specs.sql_tree.declared.nodes.Action.{Action}
use Rattle.law_type_fixes.specs.sql_tree.declared.nodes.Body.{Body}
use Rattle.law_type_fixes.specs.sql_tree.declared.nodes.Body.TheVariants as body
use Rattle.law_type_fixes.specs.sql_tree.declared.nodes.ColType.{ColType}
use Rattle.law_type_fixes.specs.sql_tree.declared.nodes.Elem.{Elem}
use Rattle.law_type_fixes.specs.sql_tree.declared.nodes.Stmt.{Stmt}
use Rattle.law_type_fixes.specs.sql_tree.Nodes.{actions_in}
use Rattle.law_type_fixes.specs.sql_tree.Path.{path_cuts}
use Rattle.law_type_fixes.specs.sql_tree.Range.{token_at}
use Rattle.law_type_fixes.specs.sql_tree.Statement.{Tree, IsTree}
use Rattle.law_type_fixes.specs.law_renumber.Moved.{action_moved, span_moved, stmt_moved, type_moved}
use Rattle.law_type_fixes.specs.law_edit_inserts.Apart.{outside}
use Rattle.law_type_fixes.proofs.of_law_edit_inserts.Apart.{stays_within, statements_apart}
use Rattle.law_type_fixes.specs.law_edit_types.Runs.{fused, worded_tree}
use Rattle.law_type_fixes.specs.law_edit_types.Created.{TableHead, head_moved, table_of}
use Rattle.law_type_fixes.specs.lint_base.declared.settings.LinterSettings.{LinterSettings}
use Rattle.law_type_fixes.specs.lint_base.declared.violation.Violation.{Violation}
use Rattle.law_type_fixes.specs.lint_lock.Slow.{has_reference, is_slow, refers}
use Rattle.law_type_fixes.specs.lint_node.ColumnTypes.{column_types}
use Rattle.law_type_fixes.specs.lint_node.Plain.{drops_plainly, is_plain_detach, rebuilds_plainly}
use Rattle.law_type_fixes.specs.lint_node.Same.{same_kind}
use Rattle.law_type_fixes.specs.lint_pass.Those.{that, those}
use Rattle.law_type_fixes.specs.lint_transaction.Names.{name_at}
use Rattle.law_type_fixes.specs.lint_transaction.Transaction.{begins, chains_by, created_by, creates, ends_by, is_path, same_path}
use Rattle.law_type_fixes.specs.pass_concurrent.RequireConcurrentIndexCreation as build
use Rattle.law_type_fixes.specs.pass_concurrent.RequireConcurrentIndexDeletion as drops
use Rattle.law_type_fixes.specs.pass_concurrent.RequireConcurrentPartitionDetach as detaches
use Rattle.law_type_fixes.specs.pass_concurrent.RequireConcurrentReindex as reindexes
use Rattle.law_type_fixes.specs.pass_session.RequireTimeoutSettings.{is_parameter, parameter_by}
use Rattle.law_type_fixes.proofs.of_law_fixes.Detached.{all_after, all_before, both_all}
use Rattle.law_type_fixes.specs.Rules.{TypeRule, reports_on}
use Rattle.law_type_fixes.proofs.Tokens.{word_number, word_text, fused_low}
use Rattle.law_type_fixes.proofs.Homes.{flat_append}
use Rattle.law_type_fixes.proofs.of_law_fixes.DetachStays.{plain_moved}
use Rattle.law_fix_steps.specs.Kept.{Kept}
use Rattle.law_fix_steps.specs.Left.{Left}
use Rattle.law_fix_steps.proofs.Kept.{NodeKept, kept_append, that_kept, those_kept}
use Rattle.law_fix_steps.proofs.Left.{BeginsAt, left_after, left_append, nil_left}
use Rattle.law_fix_steps.proofs.Like.{Like, type_rules}
use Rattle.law_fix_steps.proofs.Concurrently as concurrently
use Rattle.law_fix_steps.proofs.Moved.{Follows, TypeFollows, fixed_types, slow_same, type_near, types_left}
use Rattle.law_fix_steps.proofs.Near.{Shifts}
use Rattle.law_fix_steps.proofs.Paths.{path_follows}
use Rattle.law_fix_steps.proofs.TypeNames.{SeesNames, all_see}
use Rattle.law_fix_steps.proofs.CreatedPaths.{Below}
use Rattle.law_fix_steps.proofs.Worded as worded

-- ---- tables and alterations: bodies in which the other rules see nothing

record Inert (b : Body) : Type 0 where
  pub parameter : parameter_by b ≡ None
  pub ends_not : ends_by b ≡ false
  pub chains_not : chains_by b ≡ false
  pub builds_none : (settings : LinterSettings) (tree : Tree) (i : ℕ) (s : Stmt) → build.reports_by settings tree i s b ≡ []
  pub drops_not : drops_plainly b ≡ false
  pub rebuilds_not : rebuilds_plainly b ≡ false

table_inert : (head : TableHead) (elems : List Elem) → Inert (table_of head elems)
table_inert head elems = record { parameter = refl; ends_not = refl; chains_not = refl; builds_none = λ settings tree i s. refl; drops_not = refl; rebuilds_not = refl }

alter_inert : (path : Option Span) (actions : List Action) → Inert (body.Alter path actions)
alter_inert path actions = record { parameter = refl; ends_not = refl; chains_not = refl; builds_none = λ settings tree i s. refl; drops_not = refl; rebuilds_not = refl }

nil_kept : (move : ℕ → ℕ) (ws vs : List Violation) → ws ≡ [] → Kept move ws vs
nil_kept move ws vs e = subst (λ (l : List Violation). Kept move l vs) (sym e) tt

and_false : (b : Bool) → (b && false) ≡ false
and_false true = refl
and_false false = refl

no_drops : (t : Tree) (x : Stmt) → Inert x.body → drops.reports_of_require_concurrent_index_deletion t x ≡ []
no_drops t x p =
    (λ i. cond (same_kind x.kind stmt.DropIndex && p.drops_not i) (drops.report t x ∷ []) [] ++ [])
    ∙ (λ i. cond (and_false (same_kind x.kind stmt.DropIndex) i) (drops.report t x ∷ []) [] ++ [])

no_rebuilds : (t : Tree) (x : Stmt) → Inert x.body → reindexes.reports_of_require_concurrent_reindex t x ≡ []
no_rebuilds t x p = λ i. cond (p.rebuilds_not i) (reindexes.report t x ∷ []) [] ++ []

inert_like : (exact : Bool) (move : ℕ → ℕ) (gone : ℕ) (tree new : Tree) (x y : Stmt) → y.kind ≡ x.kind → Inert x.body → Inert y.body → ((path : List (List ℕ)) → creates new path y ≡ creates tree path x) → has_reference y.body ≡ has_reference x.body →
    (token_at new.toks y.first).start ≡ move (token_at tree.toks x.first).start → Kept move (detaches.reports_of_require_concurrent_partition_detach new y) (detaches.reports_of_require_concurrent_partition_detach tree x) →
    All (λ r. Left exact move gone (reports_on r new (column_types y)) (reports_on r tree (column_types x))) type_rules → Like exact move gone tree new x y
inert_like exact move gone tree new x y kind p q makes reference place acts types = record {
  begins_is = ap (λ (k : StmtKind). begins (record y { kind = k })) kind;
  ends_is = q.ends_not ∙ sym p.ends_not;
  chains_is = q.chains_not ∙ sym p.chains_not;
  creates_is = makes;
  slow_is = ap (λ (k : StmtKind). is_slow (record y { kind = k })) kind ∙ slow_same x.kind y.body x.body reference;
  sets_is = λ name. ap (λ (o : Option Span). is_parameter new name o) q.parameter ∙ sym (ap (λ (o : Option Span). is_parameter tree name o) p.parameter);
  place = λ slow. place;
  builds_are = λ settings i j news. nil_left exact move gone _ _ (q.builds_none settings new j y) (p.builds_none settings tree i x);
  drops_are = λ settings i j. nil_left exact move gone _ _ (no_drops new y q) (no_drops tree x p);
  rebuilds_are = λ settings i j. nil_left exact move gone _ _ (no_rebuilds new y q) (no_rebuilds tree x p);
  detaches_are = acts;
  types_are = types;
}

none_that : (test : ColType → Bool) (report : ColType → Violation) (tys : List ColType) → All (λ t. test t ≡ false) tys → those test report tys ≡ []
none_that test report [] h = refl
none_that test report (t ∷ tys) h =
    let here = All-head (λ t. test t ≡ false) t tys h in let rest = none_that test report tys (All-tail (λ t. test t ≡ false) t tys h) in
    λ i. cond (here i) (report t ∷ []) [] ++ rest i

-- ---- one statement

module _ (tree : Tree) (before : List Stmt) (st : Stmt) (after : List Stmt) (now : Stmt) (n m : ℕ) (w : Text) (is : IsTree tree) (parts : tree.stmts ≡ before ++ st ∷ after)
    (order : n ≤ m) (within : m < length tree.toks) where
  abbrev pub new : Tree
  new = worded_tree tree n m w before now after

  abbrev pub f : ℕ → ℕ
  f = fused n m

  abbrev pub move : ℕ → ℕ
  move = worded.move tree before st after now n m w is parts order within

  pub low_follows : (x : ℕ) → x < n → Follows move f tree new x
  low_follows = worded.low_follows tree before st after now n m w is parts order within

  pub high_follows : (x : ℕ) → m + 1 ≤ x → x < length tree.toks → Follows move f tree new x
  high_follows = worded.high_follows tree before st after now n m w is parts order within

  pub starts_follow : (x : ℕ) → (x ≤ n) ⊎ (m + 1 ≤ x) → x < length tree.toks → (token_at new.toks (f x)).start ≡ move (token_at tree.toks x).start
  starts_follow = worded.starts_follow tree before st after now n m w is parts order within

  -- ---- the types

  -- Types of these numbers follow, all as many bytes further on or back.
  pub side_types : (exact : Bool) (gone lo hi down up : ℕ) → ((x : ℕ) → lo ≤ x → x < hi → Follows move f tree new x) → ((x : ℕ) → lo ≤ x → x < hi → Shifts f down up tree new x) →
      (tys : List ColType) → map (type_moved (outside lo hi)) tys ≡ tys → All (TypeFollows exact move f gone tree new) tys
  side_types exact gone lo hi down up each shifts tys e =
      fixed_types (TypeFollows exact move f gone tree new) (outside lo hi)
      (λ ty g. (let u = stays_within lo hi ty.name (ap (λ (t : ColType). t.name) g) in let v = stays_within lo hi ty.whole.first (ap (λ (t : ColType). t.whole.first) g) in
      record { name = each ty.name u.0 u.1; first = each ty.whole.first v.0 v.1; close = λ on. type_near f down up lo hi tree new shifts ty g })) tys e

  pub low_shifts : (x : ℕ) → x < n → Shifts f 0 0 tree new x
  low_shifts = worded.low_shifts tree before st after now n m w is parts order within

  abbrev pub down : ℕ
  down = worded.until tree before st after now n m w is parts order within

  abbrev pub up : ℕ
  up = worded.from tree before st after now n m w is parts order within + worded.size tree before st after now n m w is parts order within

  pub high_shifts : (x : ℕ) → m + 1 ≤ x → x < length tree.toks → Shifts f down up tree new x
  high_shifts = worded.high_shifts tree before st after now n m w is parts order within

  abbrev pub LeftOn : Bool → ℕ → List ColType → List ColType → TypeRule → Type 0
  LeftOn exact gone now_types old_types r = Left exact move gone (reports_on r new now_types) (reports_on r tree old_types)

  -- what is reported on a type begins with it
  that_begins : (gone : ℕ) (r : TypeRule) → SeesNames r → (ty : ColType) → (token_at tree.toks ty.whole.first).start ≡ gone → All (BeginsAt gone) (that (r.test tree) (r.report tree) ty)
  that_begins gone r sees ty at = by (r.test tree ty)
    where
      by : (b : Bool) → All (BeginsAt gone) (cond b (r.report tree ty ∷ []) [])
      by true = All-cons (BeginsAt gone) (r.report tree ty) [] (sees.place tree ty ∙ at) (All-nil (BeginsAt gone))
      by false = All-nil (BeginsAt gone)

  -- with other types in the place of one, which no rule reports
  pub types_now : (exact : Bool) (gone : ℕ) (earlier : List ColType) (ty : ColType) (later types : List ColType) → (token_at tree.toks ty.whole.first).start ≡ gone →
      All (TypeFollows exact move f gone tree new) earlier → All (TypeFollows exact move f gone tree new) later → All (λ t. All (λ r. r.test new t ≡ false) type_rules) types →
      All (LeftOn exact gone (map (type_moved f) earlier ++ (types ++ map (type_moved f) later)) (earlier ++ ty ∷ later)) type_rules
  types_now exact gone earlier ty later types at low high silent =
      by type_rules (types_left exact move f gone tree new earlier low type_rules all_see) (types_left exact move f gone tree new later high type_rules all_see) all_see silent
    where
      of_rule : (r : TypeRule) (rs : List TypeRule) (tys : List ColType) → All (λ t. All (λ q. q.test new t ≡ false) (r ∷ rs)) tys → All (λ t. r.test new t ≡ false) tys
      of_rule r rs tys h = All-weaker (λ t. All (λ q. q.test new t ≡ false) (r ∷ rs)) (λ t. r.test new t ≡ false) (λ t k. All-head (λ q. q.test new t ≡ false) r rs k) tys h

      of_rest : (r : TypeRule) (rs : List TypeRule) (tys : List ColType) → All (λ t. All (λ q. q.test new t ≡ false) (r ∷ rs)) tys → All (λ t. All (λ q. q.test new t ≡ false) rs) tys
      of_rest r rs tys h = All-weaker (λ t. All (λ q. q.test new t ≡ false) (r ∷ rs)) (λ t. All (λ q. q.test new t ≡ false) rs) (λ t k. All-tail (λ q. q.test new t ≡ false) r rs k) tys h

      one : (r : TypeRule) → SeesNames r → LeftOn exact gone (map (type_moved f) earlier) earlier r → LeftOn exact gone (map (type_moved f) later) later r → All (λ t. r.test new t ≡ false) types →
          LeftOn exact gone (map (type_moved f) earlier ++ (types ++ map (type_moved f) later)) (earlier ++ ty ∷ later) r
      one r sees p q none =
          subst (λ (l : List Violation). Left exact move gone l (reports_on r tree (earlier ++ ty ∷ later)))
          (sym (flat_append (that (r.test new) (r.report new)) (map (type_moved f) earlier) (types ++ map (type_moved f) later)
          ∙ ap (λ (l : List Violation). reports_on r new (map (type_moved f) earlier) ++ l)
          (flat_append (that (r.test new) (r.report new)) types (map (type_moved f) later) ∙ ap (λ (l : List Violation). l ++ reports_on r new (map (type_moved f) later)) (none_that (r.test new) (r.report new) types none))))
          (subst (λ (l : List Violation). Left exact move gone (reports_on r new (map (type_moved f) earlier) ++ reports_on r new (map (type_moved f) later)) l)
          (sym (flat_append (that (r.test tree) (r.report tree)) earlier (ty ∷ later)))
          (left_append exact move gone (reports_on r new (map (type_moved f) earlier)) (reports_on r tree earlier) (reports_on r new (map (type_moved f) later)) (that (r.test tree) (r.report tree) ty ++ reports_on r tree later) p
          (left_after exact move gone (that (r.test tree) (r.report tree) ty) (reports_on r new (map (type_moved f) later)) (reports_on r tree later) (that_begins gone r sees ty at) q)))

      by : (rs : List TypeRule) → All (LeftOn exact gone (map (type_moved f) earlier) earlier) rs → All (LeftOn exact gone (map (type_moved f) later) later) rs → All SeesNames rs → All (λ t. All (λ r. r.test new t ≡ false) rs) types →
          All (LeftOn exact gone (map (type_moved f) earlier ++ (types ++ map (type_moved f) later)) (earlier ++ ty ∷ later)) rs
      by [] p q sees h = All-nil (LeftOn exact gone (map (type_moved f) earlier ++ (types ++ map (type_moved f) later)) (earlier ++ ty ∷ later))
      by (r ∷ rs) p q sees h =
          All-cons (LeftOn exact gone (map (type_moved f) earlier ++ (types ++ map (type_moved f) later)) (earlier ++ ty ∷ later)) r rs
          (one r (All-head SeesNames r rs sees) (All-head (LeftOn exact gone (map (type_moved f) earlier) earlier) r rs p) (All-head (LeftOn exact gone (map (type_moved f) later) later) r rs q) (of_rule r rs types h))
          (by rs (All-tail (LeftOn exact gone (map (type_moved f) earlier) earlier) r rs p) (All-tail (LeftOn exact gone (map (type_moved f) later) later) r rs q) (All-tail SeesNames r rs sees) (of_rest r rs types h))

  -- the name of the new word
  pub word_name : name_at new (f n) ≡ full_name w
  word_name =
      ap (name_at new) (word_number tree.text tree.toks n m w is.lexed order within) ∙ ap full_name (word_text tree.text tree.toks n m w is.lexed order within)

  pub word_name_at : name_at new n ≡ full_name w
  word_name_at = ap full_name (word_text tree.text tree.toks n m w is.lexed order within)

  -- ---- the actions

  node : (c : Action) → c.first < length tree.toks → (is_plain_detach c ≡ true → (c.first ≤ n) ⊎ (m + 1 ≤ c.first)) →
      NodeKept move is_plain_detach is_plain_detach (detaches.report tree) (detaches.report new) (action_moved f c) c
  unfolding detaches.report
  node c low side = record {
    passed = λ h. sym (plain_moved f c) ∙ h;
    same = λ h. record { code = refl; place = starts_follow c.first (side (sym (plain_moved f c) ∙ h)) low };
  }

  abbrev pub Node : Action → Type 0
  Node c = NodeKept move is_plain_detach is_plain_detach (detaches.report tree) (detaches.report new) (action_moved f c) c

  -- with another action in the place of one, which detaches only if that one did
  pub actions_now : (earlier : List Action) (b a : Action) (later : List Action) → All Node (earlier ++ b ∷ later) → NodeKept move is_plain_detach is_plain_detach (detaches.report tree) (detaches.report new) a b →
      Kept move (those is_plain_detach (detaches.report new) (map (action_moved f) earlier ++ a ∷ map (action_moved f) later)) (those is_plain_detach (detaches.report tree) (earlier ++ b ∷ later))
  actions_now earlier b a later all one =
      subst (λ (l : List Violation). Kept move l (those is_plain_detach (detaches.report tree) (earlier ++ b ∷ later))) (sym (flat_append (that is_plain_detach (detaches.report new)) (map (action_moved f) earlier) (a ∷ map (action_moved f) later)))
      (subst (λ (l : List Violation). Kept move (those is_plain_detach (detaches.report new) (map (action_moved f) earlier) ++ (that is_plain_detach (detaches.report new) a ++ those is_plain_detach (detaches.report new) (map (action_moved f) later))) l)
      (sym (flat_append (that is_plain_detach (detaches.report tree)) earlier (b ∷ later)))
      (kept_append move (those is_plain_detach (detaches.report new) (map (action_moved f) earlier)) (those is_plain_detach (detaches.report tree) earlier)
      (that is_plain_detach (detaches.report new) a ++ those is_plain_detach (detaches.report new) (map (action_moved f) later)) (that is_plain_detach (detaches.report tree) b ++ those is_plain_detach (detaches.report tree) later)
      (those_kept move is_plain_detach is_plain_detach (detaches.report tree) (detaches.report new) (action_moved f) earlier (all_before Node earlier (b ∷ later) all))
      (kept_append move (that is_plain_detach (detaches.report new) a) (that is_plain_detach (detaches.report tree) b) (those is_plain_detach (detaches.report new) (map (action_moved f) later)) (those is_plain_detach (detaches.report tree) later)
      (that_kept move is_plain_detach is_plain_detach (detaches.report tree) (detaches.report new) a b one)
      (those_kept move is_plain_detach is_plain_detach (detaches.report tree) (detaches.report new) (action_moved f) later (All-tail Node b later (all_after Node earlier (b ∷ later) all))))))

  -- the actions of the statement, where those that detach do not begin in the run
  pub nodes : (xs : List Action) → All (λ c. action_moved (outside st.first (st.last + 1)) c ≡ c) xs → All (λ c. is_plain_detach c ≡ true → (c.first ≤ n) ⊎ (m + 1 ≤ c.first)) xs → All Node xs
  nodes xs p q =
      both_all (λ c. action_moved (outside st.first (st.last + 1)) c ≡ c) (λ c. is_plain_detach c ≡ true → (c.first ≤ n) ⊎ (m + 1 ≤ c.first)) Node
      (λ c e side. node c (let r = stays_within st.first (st.last + 1) c.first (ap (λ (x : Action). x.first) e) in let a = statements_apart tree before st after is parts in let high = r.1 in let top = a.within in omega (arith, high, top)) side) xs p q

  fixed : stmt_moved (outside st.first (st.last + 1)) st ≡ st
  fixed = let a = statements_apart tree before st after is parts in a.here_is

  -- ---- the path of a table

  path_same : (path : Span) → Below path n → path_cuts new.text new.toks (span_moved f path) ≡ path_cuts tree.text tree.toks path
  path_same path b =
      path_follows move f tree new 0 n (omega (arith, order, within)) (λ x p q. low_follows x q)
      (λ x p q. fused_low n m (suc x) q ∙ ap suc (sym (fused_low n m x (omega (arith, q)))))
      (λ x p q. (let l = fused_low n m x q in let c = worded.new_count tree before st after now n m w is parts order within in omega (arith, l, c, q)))
      path (omega arith) b.first (omega arith) b.last

  -- ---- the statement

  module _ (exact : Bool) (gone : ℕ) (first : st.first ≤ n) (types : All (λ r. Left exact move gone (reports_on r new (column_types now)) (reports_on r tree (column_types st))) type_rules) where
    begins_there : now.first ≡ f st.first → (token_at new.toks now.first).start ≡ move (token_at tree.toks st.first).start
    begins_there e =
        ap (λ (x : ℕ). (token_at new.toks x).start) e ∙ starts_follow st.first (inl first) (omega (arith, first, order, within))

    no_actions : now.body ≡ now.body → actions_in now.body ≡ [] → Kept move (detaches.reports_of_require_concurrent_partition_detach new now) (detaches.reports_of_require_concurrent_partition_detach tree st)
    no_actions e none = nil_kept move _ _ (concurrently.no_detaches new now none)

    -- CREATE TABLE with other elements, of which the same refer to other tables
    pub table_like : (head : TableHead) (elems elems' : List Elem) → st.kind ≡ stmt.CreateTable → st.body ≡ table_of head elems → now ≡ record (stmt_moved f st) { body = table_of (head_moved f head) elems' } →
        list_any refers elems' ≡ list_any refers elems → Below head.path n → Like exact move gone tree new st now
    table_like head elems elems' kind has is_now reference below =
        let body_is : now.body ≡ table_of (head_moved f head) elems' = ap (λ (x : Stmt). x.body) is_now in
        let kind_is : now.kind ≡ st.kind = ap (λ (x : Stmt). x.kind) is_now in
        let cuts = path_same head.path below in
        inert_like exact move gone tree new st now kind_is (subst Inert (sym has) (table_inert head elems)) (subst Inert (sym body_is) (table_inert (head_moved f head) elems'))
        (λ path.
        (λ i. is_path new (created_by ((kind_is ∙ kind) i) (body_is i)) path) ∙ ap (λ (q : List (List ℕ)). same_path path q) cuts ∙ sym (λ i. is_path tree (created_by (kind i) (has i)) path))
        (ap has_reference body_is ∙ reference ∙ sym (ap has_reference has)) (begins_there (ap (λ (x : Stmt). x.first) is_now)) (no_actions refl (ap actions_in body_is)) types

    -- ALTER TABLE with other actions
    pub alter_like : (path : Option Span) (actions actions' : List Action) → st.kind ≡ stmt.AlterTable → st.body ≡ body.Alter path actions → now ≡ record (stmt_moved f st) { body = body.Alter (option_map (span_moved f) path) actions' } →
        Kept move (those is_plain_detach (detaches.report new) actions') (those is_plain_detach (detaches.report tree) actions) → Like exact move gone tree new st now
    unfolding same_kind
    alter_like path actions actions' kind has is_now acts =
        let body_is : now.body ≡ body.Alter (option_map (span_moved f) path) actions' = ap (λ (x : Stmt). x.body) is_now in
        let kind_is : now.kind ≡ st.kind = ap (λ (x : Stmt). x.kind) is_now in
        let old : detaches.reports_of_require_concurrent_partition_detach tree st ≡ those is_plain_detach (detaches.report tree) actions = λ i. those is_plain_detach (detaches.report tree) (cond (same_kind (kind i) stmt.AlterTable) (actions_in (has i)) []) in
        let fresh : detaches.reports_of_require_concurrent_partition_detach new now ≡ those is_plain_detach (detaches.report new) actions' =
        λ i. those is_plain_detach (detaches.report new) (cond (same_kind ((kind_is ∙ kind) i) stmt.AlterTable) (actions_in (body_is i)) []) in
        inert_like exact move gone tree new st now kind_is (subst Inert (sym has) (alter_inert path actions)) (subst Inert (sym body_is) (alter_inert (option_map (span_moved f) path) actions'))
        (λ q. (λ i. is_path new (created_by now.kind (body_is i)) q) ∙ sym (λ i. is_path tree (created_by st.kind (has i)) q))
        (ap has_reference body_is ∙ sym (ap has_reference has)) (begins_there (ap (λ (x : Stmt). x.first) is_now))
        (subst (λ (l : List Violation). Kept move l (detaches.reports_of_require_concurrent_partition_detach tree st)) (sym fresh) (subst (λ (l : List Violation). Kept move (those is_plain_detach (detaches.report new) actions') l) (sym old) acts)) types
