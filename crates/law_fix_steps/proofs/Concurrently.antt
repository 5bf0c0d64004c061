-- The word CONCURRENTLY was put into a text: what is reported then by all listed rules.
use Rattle.std.proofs.Common.{◌≡◌, ℕ, ◌+◌, ◌<◌, ◌≤◌, ◌⊎◌, inl, inr, Bool, true, false, cond, List, [], ◌∷◌, ◌++◌, map, length, length-append, sym, refl, ap, ◌∙◌, subst, arith, Option, None}
use Rattle.std.proofs.lemmas.Bool.{cases_lt, false≢true}
use Rattle.std.proofs.lemmas.Bool.Decides.{nat_tests}
use Rattle.std.proofs.lemmas.List.{length-map, map-append}
use Rattle.std.proofs.lemmas.List.Elements.{All-nil, All-cons, All-tail, All-weaker}
use Rattle.std.specs.Prelude.{All, ◌==◌, ◌&&◌}
use Rattle.std.specs.List.{flat_map}
use Rattle.law_type_fixes.specs.sql_token.declared.token.Span.{Span}
use Rattle.law_type_fixes.specs.sql_token.declared.token.Tok.{Tok}
use Rattle.law_type_fixes.specs.sql_token.Token.{text_of}
use Rattle.law_type_fixes.specs.sql_tree.declared.kinds.ActionKind.TheVariants as action
use Rattle.law_type_fixes.specs.sql_tree.declared.kinds.StmtKind.{StmtKind}
use Rattle.law_type_fixes.specs.sql_tree.declared.kinds.StmtKind.TheVariants as stmt
use Rattle.law_type_fixes.specs.sql_tree.declared.nodes.Action.{Action}
use Rattle.law_type_fixes.specs.sql_tree.declared.nodes.Body.{Body}
use Rattle.law_type_fixes.specs.sql_tree.declared.nodes.Body.TheVariants as body
use Rattle.law_type_fixes.specs.sql_tree.declared.nodes.ColType.{ColType}
use Rattle.law_type_fixes.specs.sql_tree.declared.nodes.Stmt.{Stmt}
use Rattle.law_type_fixes.specs.sql_tree.Nodes.{actions_in, elements_in}
use Rattle.law_type_fixes.specs.sql_tree.Range.{token_at}
use Rattle.law_type_fixes.specs.sql_tree.Statement.{Tree, IsTree}
use Rattle.law_type_fixes.specs.law_renumber.Moved.{action_moved, body_moved, stmt_moved, type_moved}
use Rattle.law_type_fixes.specs.law_edit_tokens.Edits.{concurrently_made}
use Rattle.law_type_fixes.specs.law_edit_tokens.Exchange.{made_text}
use Rattle.law_type_fixes.proofs.of_law_edit_tokens.After.{exchanged_after, exchanged_agrees}
use Rattle.law_type_fixes.specs.law_edit_inserts.Apart.{outside}
use Rattle.law_type_fixes.specs.law_edit_inserts.Built.{concurrently_tree, detached_stmt, concurrent_stmt, room_after, DetachTakesConcurrently, TakesConcurrently}
use Rattle.law_type_fixes.specs.law_edit_inserts.Built.TakesConcurrently.{index, dropped, rebuilt}
use Rattle.law_type_fixes.specs.law_edit_inserts.Concurrently.{concurrent_action, concurrent_body}
use Rattle.law_type_fixes.proofs.of_law_edit_inserts.Apart.{stays_within, statements_apart}
use Rattle.law_type_fixes.specs.lint_base.declared.settings.LinterSettings.{LinterSettings}
use Rattle.law_type_fixes.specs.lint_base.declared.violation.Violation.{Violation}
use Rattle.law_type_fixes.specs.lint_lock.Slow.{has_reference, is_slow}
use Rattle.law_type_fixes.specs.lint_node.ColumnTypes.{action_types, column_types, element_types}
use Rattle.law_type_fixes.specs.lint_node.Plain.{drops_plainly, is_plain_detach, rebuilds_plainly}
use Rattle.law_type_fixes.specs.lint_node.Same.{same_action, same_kind}
use Rattle.law_type_fixes.specs.lint_pass.Those.{that, those}
use Rattle.law_type_fixes.specs.lint_transaction.Transaction.{begins, created_by, is_path, stmt_at}
use Rattle.law_type_fixes.specs.pass_concurrent.RequireConcurrentIndexCreation as build
use Rattle.law_type_fixes.specs.pass_concurrent.RequireConcurrentIndexDeletion as drops
use Rattle.law_type_fixes.specs.pass_concurrent.RequireConcurrentPartitionDetach as detaches
use Rattle.law_type_fixes.specs.pass_concurrent.RequireConcurrentReindex as reindexes
use Rattle.law_type_fixes.specs.pass_session.RequireTimeoutSettings.{is_parameter, parameter_by}
use Rattle.law_type_fixes.specs.law_fixes.Mended.{builds_of}
use Rattle.law_type_fixes.specs.law_fixes.Moved.{start_moved}
use Rattle.law_type_fixes.specs.law_fixes.Stays.{place_of, inserted}
use Rattle.law_type_fixes.proofs.of_law_fixes.Detached.{all_after, all_before, stmt_actions_fixed}
use Rattle.law_type_fixes.proofs.of_law_fixes.Detached as detached
use Rattle.law_type_fixes.proofs.of_law_fixes.Statements.{Added, Aside, Other, inside, others, path_aside, this_new, this_old}
use Rattle.law_type_fixes.proofs.of_law_fixes.Tokens.{high_token, low_token, placed, text_after, text_prefix}
use Rattle.law_type_fixes.proofs.of_law_fixes.WordRules.{added}
use Rattle.law_type_fixes.proofs.of_law_fixes.Words.{start_low, start_high}
use Rattle.law_type_fixes.specs.Rules.{TypeRule, reports_on}
use Rattle.law_type_fixes.proofs.ColumnTypes.{types_moved}
use Rattle.law_type_fixes.proofs.Homes.{flat_append}
use Rattle.law_fix_steps.specs.Kept.{Kept}
use Rattle.law_fix_steps.specs.Left.{Left}
use Rattle.law_fix_steps.proofs.Alignments.{one_by_one}
use Rattle.law_fix_steps.proofs.Begins.{builds_begin, drops_begin, rebuilds_begin}
use Rattle.law_fix_steps.proofs.Kept.{NodeKept, kept_after, kept_append, those_kept}
use Rattle.law_fix_steps.proofs.Left.{BeginsAt, none_left}
use Rattle.law_fix_steps.proofs.Like.{Aligned, Like, type_rules}
use Rattle.law_fix_steps.proofs.Moved.{Follows, Moves, TypeFollows, detach_node, fixed_types, moved_like, slow_same, types_left}
use Rattle.law_fix_steps.proofs.Near.{Shifts, same_shifts, tok_shifts}
use Rattle.law_fix_steps.proofs.TypeNames.{all_see}

room_low : (n x : ℕ) → x < n + 1 → room_after n x ≡ x
room_low n x h = grind (arith, nat_tests)

room_high : (n x : ℕ) → n + 1 ≤ x → room_after n x ≡ x + 2
room_high n x h = grind (arith, nat_tests)

room_apart : (n x y : ℕ) → (room_after n x == room_after n y) ≡ (x == y)
room_apart n x y = grind (arith, nat_tests)

-- ---- a statement of the text has the word now

module _ (tree : Tree) (before : List Stmt) (s : Stmt) (after : List Stmt) (n : ℕ) (now : Stmt) (adds : Added tree before s after n now) where
  abbrev pub new : Tree
  new = concurrently_tree tree n before now after

  abbrev pub f : ℕ → ℕ
  f = room_after n

  abbrev pub move : ℕ → ℕ
  move = start_moved (place_of tree n) inserted

  within : n < length tree.toks
  within = let i = inside tree before s after n now adds in i.within

  low_end : place_of tree n ≤ length tree.text
  low_end = (placed tree.text 0 (length tree.text) tree.toks n adds.is.lexed within).high

  -- all tokens of the old text
  pub follows : (x : ℕ) → x < length tree.toks → Follows move f tree new x
  follows x h = by (cases_lt x (n + 1))
    where
      by : (x < n + 1) ⊎ (n + 1 ≤ x) → Follows move f tree new x
      by (inl p) =
          let t = low_token tree.text tree.toks n adds.is.lexed within x p in
          let some = (placed tree.text 0 (length tree.text) tree.toks x adds.is.lexed h).some in
          let end = t.end in
          record {
            kind = ap (λ (k : Tok). k.kind) t.token;
            start = ap (λ (k : Tok). k.start) t.token ∙ start_low (place_of tree n) inserted (token_at tree.toks x).start t.start;
            text = ap (λ (k : Tok). text_of new.text k) t.token
                ∙ sym (text_prefix tree.text new.text (place_of tree n) (token_at tree.toks x)
                (exchanged_agrees tree.text (made_text concurrently_made) (place_of tree n) (place_of tree n) low_end) (omega (arith, some)) end);
          }
      by (inr p) =
          let t = high_token tree.text tree.toks n adds.is.lexed within x p h in
          let some = (placed tree.text 0 (length tree.text) tree.toks x adds.is.lexed h).some in
          record {
            kind = ap (λ (k : Tok). k.kind) t.token;
            start = ap (λ (k : Tok). k.start) t.token ∙ start_high (place_of tree n) inserted (token_at tree.toks x).start t.start;
            text = ap (λ (k : Tok). text_of new.text k) t.token
                ∙ sym (text_after tree.text new.text (place_of tree n) (place_of tree n + length (made_text concurrently_made)) (token_at tree.toks x)
                (sym (exchanged_after tree.text (made_text concurrently_made) (place_of tree n) (place_of tree n) low_end)) t.start (omega (arith, some)));
          }

  low_shifts : (x : ℕ) → x < n + 1 → Shifts f 0 0 tree new x
  low_shifts x h = same_shifts f tree new x (low_token tree.text tree.toks n adds.is.lexed within x h).token

  high_shifts : (x : ℕ) → n + 1 ≤ x → x < length tree.toks → Shifts f (place_of tree n) (place_of tree n + length (made_text concurrently_made)) tree new x
  high_shifts x p h =
      let t = high_token tree.text tree.toks n adds.is.lexed within x p h in
      let end = t.end in
      tok_shifts f tree new (place_of tree n) (place_of tree n + length (made_text concurrently_made)) x t.token t.start (omega (arith, end))

  aside_moves : (lo hi : ℕ) → Aside tree before s after n now adds lo hi → Moves move f lo hi tree new
  aside_moves lo hi (inl a) = record {
    tokens = λ x p q. follows x (let w = within in omega (arith, a, q, w));
    down = 0;
    up = 0;
    shifts = λ x p q. low_shifts x (omega (arith, a, q));
    paths = λ span e. path_aside tree before s after n now adds lo hi span (inl a) e;
    apart = λ x y p q p' q'. room_apart n x y;
  }
  aside_moves lo hi (inr a) = record {
    tokens = λ x p q. follows x (let b = a.1 in omega (arith, b, q));
    down = place_of tree n;
    up = place_of tree n + length (made_text concurrently_made);
    shifts = λ x p q. high_shifts x (let b = a.0 in omega (arith, b, p)) (let b = a.1 in omega (arith, b, q));
    paths = λ span e. path_aside tree before s after n now adds lo hi span (inr a) e;
    apart = λ x y p q p' q'. room_apart n x y;
  }

  other_like : (exact : Bool) (gone : ℕ) (x y : Stmt) → Other tree before s after n now adds x y → Like exact move gone tree new x y
  other_like exact gone x y o =
      subst (λ (z : Stmt). Like exact move gone tree new x z) (sym o.moved) (moved_like exact move f gone o.lo o.hi tree new (aside_moves o.lo o.hi o.side) x o.fixed)

  count : length new.stmts ≡ length tree.stmts
  count =
      omega (
        arith,
        length-append (map (stmt_moved f) before) (now ∷ map (stmt_moved f) after),
        length-map before (stmt_moved f),
        length-map after (stmt_moved f),
        length-append before (s ∷ after),
        ap length adds.parts,
      )

  -- Where the statement is seen alike, all are.
  pub concurrent_aligned : (exact : Bool) (gone : ℕ) (assumed : Bool) → Like exact move gone tree new s now → Aligned exact move gone assumed tree new
  concurrent_aligned exact gone assumed this = one_by_one exact move gone assumed tree new likes count
    where
      likes : (j : ℕ) → Like exact move gone tree new (stmt_at tree j) (stmt_at new j)
      likes j = by (j == length before) refl
        where
          by : (b : Bool) → (j == length before) ≡ b → Like exact move gone tree new (stmt_at tree j) (stmt_at new j)
          by true h =
              let p = sym (this_old tree before s after n now adds j h) in let q = sym (this_new tree before s after n now adds j h) in
              subst (λ (y : Stmt). Like exact move gone tree new (stmt_at tree j) y) q (subst (λ (x : Stmt). Like exact move gone tree new x now) p this)
          by false h = other_like exact gone (stmt_at tree j) (stmt_at new j) (others tree before s after n now adds j h)

  -- ---- what is the same of two statements of that place

  -- bodies that set no parameter, and refer to no table
  pub record Plain (b : Body) : Type 0 where
    pub parameter : parameter_by b ≡ None
    pub reference : has_reference b ≡ false

  -- what is reported on the new one
  pub record NoneNew : Type 0 where
    pub builds_none : (settings : LinterSettings) (j : ℕ) → build.reports_by settings new j now now.body ≡ []
    pub drops_none : drops_plainly now.body ≡ false
    pub rebuilds_none : rebuilds_plainly now.body ≡ false

  -- what is reported on the old one begins at one place
  pub record OldBegins (gone : ℕ) : Type 0 where
    pub builds_at : (settings : LinterSettings) (i : ℕ) → All (BeginsAt gone) (builds_of settings tree i s)
    pub drops_at : All (BeginsAt gone) (drops.reports_of_require_concurrent_index_deletion tree s)
    pub rebuilds_at : All (BeginsAt gone) (reindexes.reports_of_require_concurrent_reindex tree s)

  and_false : (b : Bool) → (b && false) ≡ false
  and_false true = refl
  and_false false = refl

  first_in : s.first < length tree.toks
  first_in = let i = inside tree before s after n now adds in let a = i.first in let b = i.within in omega (arith, a, b)

  pub this_like : (exact : Bool) (gone : ℕ) → now.first ≡ f s.first → Plain s.body → Plain now.body → NoneNew → OldBegins gone →
      Kept move (detaches.reports_of_require_concurrent_partition_detach new now) (detaches.reports_of_require_concurrent_partition_detach tree s) →
      All (λ r. Left exact move gone (reports_on r new (column_types now)) (reports_on r tree (column_types s))) type_rules → Like exact move gone tree new s now
  this_like exact gone first old fresh none begin acts types = record {
    begins_is = ap (λ (k : StmtKind). begins (record now { kind = k })) adds.kind;
    ends_is = (let a = adds.new in let b = adds.old in a.ends_is ∙ sym b.ends_is);
    chains_is = (let a = adds.new in let b = adds.old in a.chains_is ∙ sym b.chains_is);
    creates_is = λ path.
        (let a = adds.new in let b = adds.old in
        ap (λ (k : StmtKind). is_path new (created_by k now.body) path) adds.kind ∙ ap (λ (o : Option Span). is_path new o path) a.created_is
        ∙ sym (ap (λ (o : Option Span). is_path tree o path) b.created_is));
    slow_is = ap (λ (k : StmtKind). is_slow (record now { kind = k })) adds.kind ∙ slow_same s.kind now.body s.body (fresh.reference ∙ sym old.reference);
    sets_is = λ name. ap (λ (o : Option Span). is_parameter new name o) fresh.parameter ∙ sym (ap (λ (o : Option Span). is_parameter tree name o) old.parameter);
    place = λ slow. ap (λ (x : ℕ). (token_at new.toks x).start) first ∙ (follows s.first first_in).start;
    builds_are = λ settings i j news. none_left exact move gone _ _ (none.builds_none settings j) (begin.builds_at settings i);
    drops_are = λ settings i j.
        none_left exact move gone _ _ ((λ i. cond (same_kind now.kind stmt.DropIndex && none.drops_none i) (drops.report new now ∷ []) [] ++ [])
        ∙ (λ i. cond (and_false (same_kind now.kind stmt.DropIndex) i) (drops.report new now ∷ []) [] ++ [])) begin.drops_at;
    rebuilds_are = λ settings i j. none_left exact move gone _ _ (λ i. cond (none.rebuilds_none i) (reindexes.report new now ∷ []) [] ++ []) begin.rebuilds_at;
    detaches_are = acts;
    types_are = types;
  }

-- ---- CREATE INDEX, DROP INDEX and REINDEX

cond_nil : {X : Type 0} (b : Bool) (xs : List X) → xs ≡ [] → cond b xs [] ≡ []
cond_nil true xs e = e
cond_nil false xs e = refl

pub no_types : (x : Stmt) → elements_in x.body ≡ [] → actions_in x.body ≡ [] → column_types x ≡ []
unfolding column_types
no_types x p q =
    let a = cond_nil (same_kind x.kind stmt.CreateTable) (elements_in x.body) p in
    let b = cond_nil (same_kind x.kind stmt.AlterTable) (actions_in x.body) q in
    λ i. element_types (a i) ++ flat_map action_types (b i)

pub no_detaches : (t : Tree) (x : Stmt) → actions_in x.body ≡ [] → detaches.reports_of_require_concurrent_partition_detach t x ≡ []
no_detaches t x q = ap (λ (l : List Action). those is_plain_detach (detaches.report t) l) (cond_nil (same_kind x.kind stmt.AlterTable) (actions_in x.body) q)

module _ (tree : Tree) (before : List Stmt) (s : Stmt) (after : List Stmt) (n : ℕ) (is : IsTree tree) (parts : tree.stmts ≡ before ++ s ∷ after) (takes : TakesConcurrently n s) where
  abbrev this : Stmt
  this = concurrent_stmt n s

  adds : Added tree before s after n this
  adds = added tree before s after n is parts takes

  abbrev fresh : Tree
  fresh = new tree before s after n this adds

  -- what is known of the two bodies
  record Bodies : Type 0 where
    pub old : Plain tree before s after n this adds s.body
    pub now : Plain tree before s after n this adds this.body
    pub none : NoneNew tree before s after n this adds
    pub elements_none : elements_in this.body ≡ []
    pub actions_none : actions_in this.body ≡ []
    pub old_elements : elements_in s.body ≡ []
    pub old_actions : actions_in s.body ≡ []

  known : (old now : Body) → s.body ≡ old → this.body ≡ now → parameter_by old ≡ None → has_reference old ≡ false → parameter_by now ≡ None → has_reference now ≡ false →
      ((settings : LinterSettings) (j : ℕ) → build.reports_by settings fresh j this now ≡ []) → drops_plainly now ≡ false → rebuilds_plainly now ≡ false →
      elements_in now ≡ [] → actions_in now ≡ [] → elements_in old ≡ [] → actions_in old ≡ [] → Bodies
  known old now p q a b c d e g h k l k' l' = record {
    old = record { parameter = ap parameter_by p ∙ a; reference = ap has_reference p ∙ b };
    now = record { parameter = ap parameter_by q ∙ c; reference = ap has_reference q ∙ d };
    none = record {
      builds_none = λ settings j. ap (build.reports_by settings fresh j this) q ∙ e settings j;
      drops_none = ap drops_plainly q ∙ g;
      rebuilds_none = ap rebuilds_plainly q ∙ h;
    };
    elements_none = ap elements_in q ∙ k;
    actions_none = ap actions_in q ∙ l;
    old_elements = ap elements_in p ∙ k';
    old_actions = ap actions_in p ∙ l';
  }

  bodies : Bodies
  bodies = by takes
    where
      by : TakesConcurrently n s → Bodies
      by (index u g name path has) =
          known (body.Index n u None g name path) _ has (ap (λ (b : Body). concurrent_body (n + 2) (body_moved (room_after n) b)) has) refl refl refl refl (λ settings j. refl) refl refl refl refl refl refl
      by (dropped g paths kind has) =
          known (body.Drop n false g paths) _ has (ap (λ (b : Body). concurrent_body (n + 2) (body_moved (room_after n) b)) has) refl refl refl refl (λ settings j. refl) refl refl refl refl refl refl
      by (rebuilt found valued path has) =
          known (body.Reindex found n false valued path) _ has (ap (λ (b : Body). concurrent_body (n + 2) (body_moved (room_after n) b)) has) refl refl refl refl (λ settings j. refl) refl refl refl refl refl refl

  abbrev at : ℕ
  at = (token_at tree.toks s.first).start

  abbrev by_this : ℕ → ℕ
  by_this = start_moved (place_of tree n) inserted

  pub word_aligned : (exact assumed : Bool) → Aligned exact by_this at assumed tree (concurrently_tree tree n before (concurrent_stmt n s) after)
  word_aligned exact assumed =
      let b = bodies in
      concurrent_aligned tree before s after n this adds exact at assumed
      (this_like tree before s after n this adds exact at refl b.old b.now b.none
      (record { builds_at = λ settings i. builds_begin settings tree i s; drops_at = drops_begin tree s; rebuilds_at = rebuilds_begin tree s })
      (subst (λ (l : List Violation). Kept by_this l (detaches.reports_of_require_concurrent_partition_detach tree s)) (sym (no_detaches fresh this b.actions_none)) tt)
      (subst (λ (l : List ColType). All (λ r. Left exact by_this at (reports_on r fresh l) (reports_on r tree (column_types s))) type_rules) (sym (no_types this b.elements_none b.actions_none))
      (subst (λ (l : List ColType). All (λ r. Left exact by_this at (reports_on r fresh []) (reports_on r tree l)) type_rules) (sym (no_types s b.old_elements b.old_actions)) (all_nil type_rules))))
    where
      all_nil : (rs : List TypeRule) → All (λ r. Left exact by_this at (reports_on r fresh []) (reports_on r tree [])) rs
      all_nil [] = All-nil (λ r. Left exact by_this at (reports_on r fresh []) (reports_on r tree []))
      all_nil (r ∷ rs) = All-cons (λ r. Left exact by_this at (reports_on r fresh []) (reports_on r tree [])) r rs tt (all_nil rs)

-- ---- DETACH PARTITION

false_and : (b : Bool) → (b && false) ≡ false
false_and true = refl
false_and false = refl

nil_begins : (place : ℕ) (vs : List Violation) → vs ≡ [] → All (BeginsAt place) vs
nil_begins place vs e = subst (λ (l : List Violation). All (BeginsAt place) l) (sym e) (All-nil (BeginsAt place))

module _ (tree : Tree) (before : List Stmt) (s : Stmt) (after : List Stmt) (n : ℕ) (path : Option Span) (earlier : List Action) (b : Action) (later : List Action)
    (is : IsTree tree) (parts : tree.stmts ≡ before ++ s ∷ after) (takes : DetachTakesConcurrently n s path earlier b later) where
  abbrev that_now : Stmt
  that_now = detached_stmt n s path earlier b later

  that_adds : Added tree before s after n that_now
  that_adds = detached.build tree before s after n path earlier b later is parts takes

  abbrev next : Tree
  next = new tree before s after n that_now that_adds

  abbrev by_word : ℕ → ℕ
  by_word = start_moved (place_of tree n) inserted

  abbrev g : ℕ → ℕ
  g = room_after n

  -- the numbers of the statement
  in_text : (x : ℕ) → outside s.first (s.last + 1) x ≡ x → Follows by_word g tree next x
  in_text x e =
      let a = statements_apart tree before s after is parts in
      let w = stays_within s.first (s.last + 1) x e in
      let high = w.1 in let top = a.within in
      follows tree before s after n that_now that_adds x (omega (arith, high, top))

  fixed : stmt_moved (outside s.first (s.last + 1)) s ≡ s
  fixed = let a = statements_apart tree before s after is parts in a.here_is

  abbrev Node : Action → Type 0
  Node c = NodeKept by_word is_plain_detach is_plain_detach (detaches.report tree) (detaches.report next) (action_moved g c) c

  nodes : All Node (earlier ++ b ∷ later)
  nodes =
      All-weaker (λ c. action_moved (outside s.first (s.last + 1)) c ≡ c) Node
      (λ c e. detach_node by_word g tree next c (in_text c.first (ap (λ (x : Action). x.first) e)).start) (earlier ++ b ∷ later)
      (subst (λ (x : Body). All (λ c. action_moved (outside s.first (s.last + 1)) c ≡ c) (actions_in x)) takes.has (stmt_actions_fixed (outside s.first (s.last + 1)) s fixed))

  abbrev fresh_report : Action → Violation
  fresh_report = detaches.report next

  abbrev old_report : Action → Violation
  old_report = detaches.report tree

  those_of : (report : Action → Violation) (xs ys : List Action) → those is_plain_detach report (xs ++ ys) ≡ those is_plain_detach report xs ++ those is_plain_detach report ys
  those_of report xs ys = flat_append (that is_plain_detach report) xs ys

  concurrent_none : that is_plain_detach fresh_report (concurrent_action (n + 2) (action_moved g b)) ≡ []
  concurrent_none = by (same_action b.kind action.DetachPartition)
    where
      by : (x : Bool) → cond (x && false) (fresh_report (concurrent_action (n + 2) (action_moved g b)) ∷ []) [] ≡ []
      by true = refl
      by false = refl

  list_kept : Kept by_word (those is_plain_detach fresh_report (map (action_moved g) earlier ++ concurrent_action (n + 2) (action_moved g b) ∷ map (action_moved g) later))
      (those is_plain_detach old_report (earlier ++ b ∷ later))
  list_kept =
      subst (λ (l : List Violation). Kept by_word l (those is_plain_detach old_report (earlier ++ b ∷ later)))
      (sym (those_of fresh_report (map (action_moved g) earlier) (concurrent_action (n + 2) (action_moved g b) ∷ map (action_moved g) later)
      ∙ ap (λ (l : List Violation). those is_plain_detach fresh_report (map (action_moved g) earlier) ++ (l ++ those is_plain_detach fresh_report (map (action_moved g) later))) concurrent_none))
      (subst (λ (l : List Violation). Kept by_word (those is_plain_detach fresh_report (map (action_moved g) earlier) ++ those is_plain_detach fresh_report (map (action_moved g) later)) l)
      (sym (those_of old_report earlier (b ∷ later)))
      (kept_append by_word (those is_plain_detach fresh_report (map (action_moved g) earlier)) (those is_plain_detach old_report earlier) (those is_plain_detach fresh_report (map (action_moved g) later))
      (that is_plain_detach old_report b ++ those is_plain_detach old_report later)
      (those_kept by_word is_plain_detach is_plain_detach old_report fresh_report (action_moved g) earlier (all_before Node earlier (b ∷ later) nodes))
      (kept_after by_word (that is_plain_detach old_report b) (those is_plain_detach fresh_report (map (action_moved g) later)) (those is_plain_detach old_report later)
      (those_kept by_word is_plain_detach is_plain_detach old_report fresh_report (action_moved g) later (All-tail Node b later (all_after Node earlier (b ∷ later) nodes))))))

  acts_kept : Kept by_word (detaches.reports_of_require_concurrent_partition_detach next that_now) (detaches.reports_of_require_concurrent_partition_detach tree s)
  unfolding same_kind
  acts_kept =
      subst (λ (x : Stmt). Kept by_word (detaches.reports_of_require_concurrent_partition_detach next that_now) (detaches.reports_of_require_concurrent_partition_detach tree x)) (λ i. record s { kind = sym takes.kind i; body = sym takes.has i })
      (subst (λ (k : StmtKind). Kept by_word (those is_plain_detach fresh_report (cond (same_kind k stmt.AlterTable) new_actions [])) (those is_plain_detach old_report (earlier ++ b ∷ later))) (sym takes.kind) list_kept)
    where
      new_actions : List Action
      new_actions = map (action_moved g) earlier ++ concurrent_action (n + 2) (action_moved g b) ∷ map (action_moved g) later

  -- the types are the old ones, under other numbers
  types_are : column_types that_now ≡ map (type_moved g) (column_types s)
  unfolding column_types
  types_are = now_is ∙ types_moved g s
    where
      acts : flat_map action_types (map (action_moved g) earlier ++ concurrent_action (n + 2) (action_moved g b) ∷ map (action_moved g) later) ≡ flat_map action_types (map (action_moved g) (earlier ++ b ∷ later))
      acts =
          flat_append action_types (map (action_moved g) earlier) (concurrent_action (n + 2) (action_moved g b) ∷ map (action_moved g) later)
          ∙ sym (flat_append action_types (map (action_moved g) earlier) (action_moved g b ∷ map (action_moved g) later))
          ∙ ap (λ (l : List Action). flat_map action_types l) (sym (map-append (action_moved g) earlier (b ∷ later)))

      where_acts : (x : Bool) →
          flat_map action_types (cond x (map (action_moved g) earlier ++ concurrent_action (n + 2) (action_moved g b) ∷ map (action_moved g) later) []) ≡ flat_map action_types (cond x (map (action_moved g) (earlier ++ b ∷ later)) [])
      where_acts true = acts
      where_acts false = refl

      now_is : column_types that_now ≡ column_types (stmt_moved g s)
      now_is =
          (let e = where_acts (same_kind s.kind stmt.AlterTable) in λ i. element_types (cond (same_kind s.kind stmt.CreateTable) [] []) ++ e i)
          ∙ (λ i. element_types (cond (same_kind s.kind stmt.CreateTable) (elements_in (body_moved g (sym takes.has i))) []) ++ flat_map action_types (cond (same_kind s.kind stmt.AlterTable) (actions_in (body_moved g (sym takes.has i))) []))

  drops_none : drops.reports_of_require_concurrent_index_deletion tree s ≡ []
  drops_none =
      (let e = ap drops_plainly takes.has in λ i. cond (same_kind s.kind stmt.DropIndex && e i) (drops.report tree s ∷ []) [] ++ [])
      ∙ (λ i. cond (false_and (same_kind s.kind stmt.DropIndex) i) (drops.report tree s ∷ []) [] ++ [])

  rebuilds_none : reindexes.reports_of_require_concurrent_reindex tree s ≡ []
  rebuilds_none = let e = ap rebuilds_plainly takes.has in λ i. cond (e i) (reindexes.report tree s ∷ []) [] ++ []

  pub detach_aligned : (gone : ℕ) (assumed : Bool) → Aligned false by_word gone assumed tree (concurrently_tree tree n before (detached_stmt n s path earlier b later) after)
  detach_aligned gone assumed =
      concurrent_aligned tree before s after n that_now that_adds false gone assumed
      (this_like tree before s after n that_now that_adds false gone refl
      (record { parameter = ap parameter_by takes.has; reference = ap has_reference takes.has }) (record { parameter = refl; reference = refl })
      (record { builds_none = λ settings j. refl; drops_none = refl; rebuilds_none = refl })
      (record {
        builds_at = λ settings i. nil_begins gone _ (ap (build.reports_by settings tree i s) takes.has);
        drops_at = nil_begins gone _ drops_none;
        rebuilds_at = nil_begins gone _ rebuilds_none;
      }) acts_kept
      (subst (λ (l : List ColType). All (λ r. Left false by_word gone (reports_on r next l) (reports_on r tree (column_types s))) type_rules) (sym types_are)
      (types_left false by_word g gone tree next (column_types s)
      (fixed_types (TypeFollows false by_word g gone tree next) (outside s.first (s.last + 1))
      (λ ty e. record {
        name = in_text ty.name (ap (λ (t : ColType). t.name) e);
        first = in_text ty.whole.first (ap (λ (t : ColType). t.whole.first) e);
        close = λ on. absurd (false≢true on);
      })
      (column_types s) (sym (types_moved (outside s.first (s.last + 1)) s) ∙ ap column_types fixed)) type_rules all_see)))
