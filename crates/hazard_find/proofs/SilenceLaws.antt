-- Where a hazard is enabled and not found, nothing is found of it at any place.
use Rattle.std.proofs.Common.{◌≡◌, ◌≢◌, ◌∙◌, refl, sym, ap, subst, ℕ, zero, suc, ◌+◌, ◌<◌, Bool, true, false, ◌&&◌, ◌||◌, not, cond, List, [], ◌∷◌, ◌++◌, length, Option, Some, None, Contains, inl, inr, arith}
use Rattle.std.specs.Prelude.{nat_eq, if◌then◌else◌}
use Rattle.std.specs.List.{flat_map, list_any}
use Rattle.std.specs.Option.{option_map}
use Rattle.std.proofs.lemmas.Bool.{cases_Bool, eqb-true, eqb-false, false≢true}
use Rattle.std.proofs.lemmas.List.Folds.{list_any-append}
use Rattle.lint_ignore.specs.sql_tree.declared.nodes.Action.{Action}
use Rattle.lint_ignore.specs.sql_tree.declared.nodes.Constraint.{Constraint}
use Rattle.lint_ignore.specs.sql_tree.declared.nodes.Stmt.{Stmt}
use Rattle.lint_ignore.specs.sql_tree.Statement.{Tree}
use Rattle.hazard_base.specs.lint_base.declared.settings.LinterSettings.{LinterSettings}
use Rattle.lint_node.specs.Parts.{new_constraints, table_actions}
use Rattle.lint_transaction.specs.Earlier.{concat_below}
use Rattle.lint_transaction.specs.Transaction.{is_open, stmt_at}
use Rattle.hazard_base.specs.declared.finding.Finding.{Finding}
use Rattle.hazard_base.specs.declared.hazard.Hazard.{Hazard}
use Rattle.hazard_base.specs.declared.hazard.Hazard.TheVariants as hazard
use Rattle.hazard_base.specs.declared.hazard_set.HazardSet.{HazardSet}
use Rattle.hazard_base.specs.Hazards.{same_hazard}
use Rattle.hazard_base.specs.HazardSets.{has}
use Rattle.hazard_find.specs.declared.here.Here.{Here}
use Rattle.hazard_find.specs.Columns.{added_json, is_scanned}
use Rattle.hazard_find.specs.Earlier.{is_assumed, is_dropped_index, is_made_view, is_old, is_under_timeout, refreshed_view}
use Rattle.hazard_find.specs.Findings.{action_findings, action_range, action_rewrite_finding, built_under_timeout, builds, check_added, check_finding, check_findings, detach_finding, enabled_of, findings_at, findings_by, findings_of, in_transaction, index_kept, json_added, json_at, json_finding, kept_finding, refresh_blocks, refresh_finding, refreshes, refused_finding, refused_in, rewrite_finding, rewritten, serial_added, serial_finding, some_if, statement_findings, timeout_finding}
use Rattle.lint_ignore.specs.sql_tree.Range.{stmt_range_of}
use Rattle.hazard_find.specs.Guards.{is_guarded, keeps}
use Rattle.hazard_find.specs.Here.{has_more, index_of, known_at, table_of}
use Rattle.hazard_find.specs.Laws.{BuildsAreUnlimited, ColumnsAreNoJson, ColumnsAreUnchecked, IndexesAreDroppedOrGuarded, IsSilent, TablesAreKept, TransactionsAreKept, ViewsAreMadeFirst, is_of}
use Rattle.hazard_find.specs.Refused.{detaches, refused}
use Rattle.hazard_find.specs.Rewrites.{action_rewrites, adds_serial}

-- ---- lists

or_first : (a b : Bool) → (a || b) ≡ false → a ≡ false
or_first true b h = h
or_first false b h = refl

or_second : (a b : Bool) → (a || b) ≡ false → b ≡ false
or_second true b h = absurd (cc)
or_second false b h = h

front : {X : Type 0} (p : X → Bool) (xs ys : List X) → list_any p (xs ++ ys) ≡ false → list_any p xs ≡ false
front p xs ys h = or_first (list_any p xs) (list_any p ys) (sym (list_any-append p xs ys) ∙ h)

rest : {X : Type 0} (p : X → Bool) (xs ys : List X) → list_any p (xs ++ ys) ≡ false → list_any p ys ≡ false
rest p xs ys h = or_second (list_any p xs) (list_any p ys) (sym (list_any-append p xs ys) ∙ h)

below : {X : Type 0} (p : X → Bool) (f : ℕ → List X) (n i : ℕ) → i < n → list_any p (concat_below f n) ≡ false → list_any p (f i) ≡ false
below p f zero i l h = absurd (omega (arith, l))
below p f (suc n) i l h =
    elim (cases_Bool (nat_eq i n)) [
      | inl same ↦ ap (λ k. list_any p (f k)) (eqb-true i n same) ∙ rest p (concat_below f n) (f n) h
      | inr other ↦
          let apart : i ≢ n = eqb-false i n other in
          below p f n i (omega (arith, l, apart)) (front p (concat_below f n) (f n) h)
    ]

within : {X Y : Type 0} (p : Y → Bool) (f : X → List Y) (xs : List X) (x : X) → Contains xs x → list_any p (flat_map f xs) ≡ false → list_any p (f x) ≡ false
within p f [] x (k, l, e) h = absurd (omega (arith, l))
within p f (y ∷ ys) x (zero, l, e) h = ap (λ z. list_any p (f z)) (sym e) ∙ front p (f y) (flat_map f ys) h
within p f (y ∷ ys) x (suc k, l, e) h = within p f ys x (k, (omega (arith, l)), e) (rest p (f y) (flat_map f ys) h)

-- ---- one finding

itself : (h : Hazard) → same_hazard h h ≡ true
unfolding same_hazard
itself hazard.StatementInTransaction = refl
itself hazard.TableRewrite = refl
itself hazard.ColumnWithCheck = refl
itself hazard.BuildUnderTimeout = refl
itself hazard.InvalidIndexKept = refl
itself hazard.RefreshBlocksReads = refl
itself hazard.JsonColumn = refl

-- a finding of an enabled hazard that is not found is not there
listed : (h : Hazard) (enabled : HazardSet) (f : Finding) → has enabled h ≡ true → f.hazard ≡ h → list_any (is_of h) (enabled_of enabled (Some f)) ≡ false → ⊥
listed h enabled f on of quiet =
    let here : has enabled f.hazard ≡ true = ap (has enabled) of ∙ on in
    let own : is_of h f ≡ true = ap (λ (k : Hazard). same_hazard k h) of ∙ itself h in
    let one : list_any (is_of h) (f ∷ []) ≡ false = ap (λ (b : Bool). list_any (is_of h) (cond b (f ∷ []) [])) (sym here) ∙ quiet in
    let first : is_of h f ≡ false = or_first (is_of h f) false one in
    false≢true (sym first ∙ own)

no_one : (h : Hazard) (enabled : HazardSet) (b : Bool) (f : Finding) → has enabled h ≡ true → f.hazard ≡ h → list_any (is_of h) (enabled_of enabled (some_if b f)) ≡ false → b ≡ false
no_one h enabled true f on of quiet = absurd (listed h enabled f on of quiet)
no_one h enabled false f on of quiet = refl

no_message : {X : Type 0} (h : Hazard) (enabled : HazardSet) (f : X → Finding) (o : Option X) → has enabled h ≡ true → ((x : X) → (f x).hazard ≡ h)
    → list_any (is_of h) (enabled_of enabled (option_map f o)) ≡ false → o ≡ None
no_message h enabled f None on of quiet = refl
no_message h enabled f (Some x) on of quiet = absurd (listed h enabled (f x) on (of x) quiet)

second_off : (a b : Bool) → a ≡ true → (a && b) ≡ false → b ≡ false
second_off true b e h = h
second_off false b e h = absurd (cc)

first_on : (a b : Bool) → b ≡ true → (not a && b) ≡ false → a ≡ true
first_on true b e h = refl
first_on false b e h = absurd (cc)

-- ---- statements and actions

-- the findings of a statement
at_statement : (h : Hazard) (enabled : HazardSet) (settings : LinterSettings) (tree : Tree) → IsSilent h enabled settings tree → (i : ℕ) → i < length tree.stmts
    → list_any (is_of h) (statement_findings enabled (known_at settings tree i) tree (stmt_at tree i)) ≡ false
unfolding findings_by
at_statement h enabled settings tree silent i l =
    front (is_of h) (statement_findings enabled (known_at settings tree i) tree (stmt_at tree i)) (flat_map (action_findings enabled (known_at settings tree i) tree) (table_actions (stmt_at tree i)))
    (below (is_of h) (findings_at enabled settings tree) (length tree.stmts) i l silent.none_found)

-- the findings of an action
at_action : (h : Hazard) (enabled : HazardSet) (settings : LinterSettings) (tree : Tree) → IsSilent h enabled settings tree → (i : ℕ) → i < length tree.stmts
    → (a : Action) → Contains (table_actions (stmt_at tree i)) a → list_any (is_of h) (action_findings enabled (known_at settings tree i) tree a) ≡ false
unfolding findings_by
at_action h enabled settings tree silent i l a is =
    within (is_of h) (action_findings enabled (known_at settings tree i) tree) (table_actions (stmt_at tree i)) a is
    (rest (is_of h) (statement_findings enabled (known_at settings tree i) tree (stmt_at tree i)) (flat_map (action_findings enabled (known_at settings tree i) tree) (table_actions (stmt_at tree i)))
    (below (is_of h) (findings_at enabled settings tree) (length tree.stmts) i l silent.none_found))

-- no element of five lists, one after another, passes
record Five {X : Type 0} (p : X → Bool) (a b c d e : List X) : Type 0 where
  first : list_any p a ≡ false
  second : list_any p b ≡ false
  third : list_any p c ≡ false
  fourth : list_any p d ≡ false
  fifth : list_any p e ≡ false

five : {X : Type 0} (p : X → Bool) (a b c d e : List X) → list_any p (a ++ b ++ c ++ d ++ e) ≡ false → Five p a b c d e
five p a b c d e h =
    let abcd = front p (a ++ b ++ c ++ d) e h in
    let abc = front p (a ++ b ++ c) d abcd in
    let ab = front p (a ++ b) c abc in
    record {
      first = front p a b ab;
      second = rest p a b ab;
      third = rest p (a ++ b) c abc;
      fourth = rest p (a ++ b ++ c) d abcd;
      fifth = rest p (a ++ b ++ c ++ d) e h;
    }

module _ (h : Hazard) (enabled : HazardSet) (known : Here) (tree : Tree) (s : Stmt) where
  refused_quiet : list_any (is_of h) (statement_findings enabled known tree s) ≡ false → list_any (is_of h) (enabled_of enabled (refused_finding known tree s)) ≡ false
  unfolding statement_findings
  refused_quiet e =
      (five (is_of h) (enabled_of enabled (refused_finding known tree s)) (enabled_of enabled (rewrite_finding known tree s)) (enabled_of enabled (timeout_finding known tree s))
      (enabled_of enabled (kept_finding known tree s)) (enabled_of enabled (refresh_finding known tree s)) e).first

  timeout_quiet : list_any (is_of h) (statement_findings enabled known tree s) ≡ false → list_any (is_of h) (enabled_of enabled (timeout_finding known tree s)) ≡ false
  unfolding statement_findings
  timeout_quiet e =
      (five (is_of h) (enabled_of enabled (refused_finding known tree s)) (enabled_of enabled (rewrite_finding known tree s)) (enabled_of enabled (timeout_finding known tree s))
      (enabled_of enabled (kept_finding known tree s)) (enabled_of enabled (refresh_finding known tree s)) e).third

  kept_quiet : list_any (is_of h) (statement_findings enabled known tree s) ≡ false → list_any (is_of h) (enabled_of enabled (kept_finding known tree s)) ≡ false
  unfolding statement_findings
  kept_quiet e =
      (five (is_of h) (enabled_of enabled (refused_finding known tree s)) (enabled_of enabled (rewrite_finding known tree s)) (enabled_of enabled (timeout_finding known tree s))
      (enabled_of enabled (kept_finding known tree s)) (enabled_of enabled (refresh_finding known tree s)) e).fourth

  refresh_quiet : list_any (is_of h) (statement_findings enabled known tree s) ≡ false → list_any (is_of h) (enabled_of enabled (refresh_finding known tree s)) ≡ false
  unfolding statement_findings
  refresh_quiet e =
      (five (is_of h) (enabled_of enabled (refused_finding known tree s)) (enabled_of enabled (rewrite_finding known tree s)) (enabled_of enabled (timeout_finding known tree s))
      (enabled_of enabled (kept_finding known tree s)) (enabled_of enabled (refresh_finding known tree s)) e).fifth

module _ (h : Hazard) (enabled : HazardSet) (known : Here) (tree : Tree) (a : Action) where
  detach_quiet : list_any (is_of h) (action_findings enabled known tree a) ≡ false → list_any (is_of h) (enabled_of enabled (detach_finding known tree a)) ≡ false
  unfolding action_findings
  detach_quiet e =
      (five (is_of h) (enabled_of enabled (detach_finding known tree a)) (enabled_of enabled (action_rewrite_finding known tree a)) (enabled_of enabled (serial_finding known tree a))
      (enabled_of enabled (json_finding known tree a)) (check_findings enabled known tree (new_constraints a)) e).first

  rewrite_quiet : list_any (is_of h) (action_findings enabled known tree a) ≡ false → list_any (is_of h) (enabled_of enabled (action_rewrite_finding known tree a)) ≡ false
  unfolding action_findings
  rewrite_quiet e =
      (five (is_of h) (enabled_of enabled (detach_finding known tree a)) (enabled_of enabled (action_rewrite_finding known tree a)) (enabled_of enabled (serial_finding known tree a))
      (enabled_of enabled (json_finding known tree a)) (check_findings enabled known tree (new_constraints a)) e).second

  serial_quiet : list_any (is_of h) (action_findings enabled known tree a) ≡ false → list_any (is_of h) (enabled_of enabled (serial_finding known tree a)) ≡ false
  unfolding action_findings
  serial_quiet e =
      (five (is_of h) (enabled_of enabled (detach_finding known tree a)) (enabled_of enabled (action_rewrite_finding known tree a)) (enabled_of enabled (serial_finding known tree a))
      (enabled_of enabled (json_finding known tree a)) (check_findings enabled known tree (new_constraints a)) e).third

  json_quiet : list_any (is_of h) (action_findings enabled known tree a) ≡ false → list_any (is_of h) (enabled_of enabled (json_finding known tree a)) ≡ false
  unfolding action_findings
  json_quiet e =
      (five (is_of h) (enabled_of enabled (detach_finding known tree a)) (enabled_of enabled (action_rewrite_finding known tree a)) (enabled_of enabled (serial_finding known tree a))
      (enabled_of enabled (json_finding known tree a)) (check_findings enabled known tree (new_constraints a)) e).fourth

  checks_quiet : list_any (is_of h) (action_findings enabled known tree a) ≡ false → list_any (is_of h) (check_findings enabled known tree (new_constraints a)) ≡ false
  unfolding action_findings
  checks_quiet e =
      (five (is_of h) (enabled_of enabled (detach_finding known tree a)) (enabled_of enabled (action_rewrite_finding known tree a)) (enabled_of enabled (serial_finding known tree a))
      (enabled_of enabled (json_finding known tree a)) (check_findings enabled known tree (new_constraints a)) e).fifth

  check_quiet : list_any (is_of h) (action_findings enabled known tree a) ≡ false → (c : Constraint) → Contains (new_constraints a) c → list_any (is_of h) (enabled_of enabled (check_finding known tree c)) ≡ false
  unfolding check_findings
  check_quiet e c is = within (is_of h) (λ x. enabled_of enabled (check_finding known tree x)) (new_constraints a) c is (checks_quiet e)

-- ---- what is known there

module _ (settings : LinterSettings) (tree : Tree) (i : ℕ) where
  old_known : (known_at settings tree i).is_old ≡ is_old (is_assumed settings tree) tree i (table_of (stmt_at tree i))
  unfolding known_at
  old_known = refl

  inside_known : (known_at settings tree i).is_inside ≡ is_open (is_assumed settings tree) tree i
  unfolding known_at
  inside_known = refl

  more_known : (known_at settings tree i).has_more ≡ has_more tree
  unfolding known_at
  more_known = refl

  timeout_known : (known_at settings tree i).is_under_timeout ≡ is_under_timeout tree i
  unfolding known_at
  timeout_known = refl

  index_known : ((known_at settings tree i).is_dropped_index || (known_at settings tree i).is_guarded)
      ≡ (is_dropped_index tree i (index_of (stmt_at tree i)) || is_guarded tree i (index_of (stmt_at tree i)))
  unfolding known_at
  index_known = refl

  view_known : (known_at settings tree i).is_made_view ≡ is_made_view tree i (refreshed_view tree (stmt_at tree i))
  unfolding known_at
  view_known = refl

-- ---- the laws

both : (a b : Bool) → a ≡ true → b ≡ true → (a && b) ≡ true
both a b e f = λ i. e i && f i

and_not : (a b c : Bool) → a ≡ true → b ≡ false → (a && not b && c) ≡ false → c ≡ false
and_not true false c e f h = h
and_not false b c e f h = absurd (cc)
and_not true true c e f h = absurd (cc)

refused_none : (enabled : HazardSet) (known : Here) (tree : Tree) (s : Stmt) → has enabled hazard.StatementInTransaction ≡ true → in_transaction known ≡ true
    → list_any (is_of hazard.StatementInTransaction) (enabled_of enabled (refused_finding known tree s)) ≡ false → refused tree s ≡ None
unfolding refused_finding refused_in
refused_none enabled known tree s on inside quiet =
    no_message hazard.StatementInTransaction enabled (refused_in (stmt_range_of tree.toks s)) (refused tree s) on (λ m. refl)
    (subst (λ (b : Bool). list_any (is_of hazard.StatementInTransaction) (enabled_of enabled (cond b (option_map (refused_in (stmt_range_of tree.toks s)) (refused tree s)) None)) ≡ false) inside quiet)

detaches_none : (enabled : HazardSet) (known : Here) (tree : Tree) (a : Action) → has enabled hazard.StatementInTransaction ≡ true → in_transaction known ≡ true
    → list_any (is_of hazard.StatementInTransaction) (enabled_of enabled (detach_finding known tree a)) ≡ false → detaches tree a ≡ false
unfolding detach_finding refused_in
detaches_none enabled known tree a on inside quiet =
    second_off (in_transaction known) (detaches tree a) inside (no_one hazard.StatementInTransaction enabled (in_transaction known && detaches tree a) _ on refl quiet)

rewrites_none : (enabled : HazardSet) (known : Here) (tree : Tree) (a : Action) → has enabled hazard.TableRewrite ≡ true → known.is_old ≡ true
    → list_any (is_of hazard.TableRewrite) (enabled_of enabled (action_rewrite_finding known tree a)) ≡ false → action_rewrites tree a ≡ None
unfolding action_rewrite_finding rewritten
rewrites_none enabled known tree a on old quiet =
    no_message hazard.TableRewrite enabled (rewritten (action_range tree a)) (action_rewrites tree a) on (λ m. refl)
    (subst (λ (b : Bool). list_any (is_of hazard.TableRewrite) (enabled_of enabled (cond b (option_map (rewritten (action_range tree a)) (action_rewrites tree a)) None)) ≡ false) old quiet)

serial_none : (enabled : HazardSet) (known : Here) (tree : Tree) (a : Action) → has enabled hazard.TableRewrite ≡ true → known.is_old ≡ true
    → list_any (is_of hazard.TableRewrite) (enabled_of enabled (serial_finding known tree a)) ≡ false → adds_serial tree a ≡ false
unfolding serial_finding serial_added
serial_none enabled known tree a on old quiet =
    second_off known.is_old (adds_serial tree a) old (no_one hazard.TableRewrite enabled (known.is_old && adds_serial tree a) _ on refl quiet)

check_none : (enabled : HazardSet) (known : Here) (tree : Tree) (c : Constraint) → has enabled hazard.ColumnWithCheck ≡ true → known.is_old ≡ true
    → list_any (is_of hazard.ColumnWithCheck) (enabled_of enabled (check_finding known tree c)) ≡ false → is_scanned tree c ≡ false
unfolding check_finding check_added
check_none enabled known tree c on old quiet =
    second_off known.is_old (is_scanned tree c) old (no_one hazard.ColumnWithCheck enabled (known.is_old && is_scanned tree c) _ on refl quiet)

builds_none : (enabled : HazardSet) (known : Here) (tree : Tree) (s : Stmt) → has enabled hazard.BuildUnderTimeout ≡ true → known.is_under_timeout ≡ true → known.is_inside ≡ false
    → list_any (is_of hazard.BuildUnderTimeout) (enabled_of enabled (timeout_finding known tree s)) ≡ false → builds s ≡ false
unfolding timeout_finding built_under_timeout
builds_none enabled known tree s on limited outside quiet =
    and_not known.is_under_timeout known.is_inside (builds s) limited outside
    (no_one hazard.BuildUnderTimeout enabled (known.is_under_timeout && not known.is_inside && builds s) _ on refl quiet)

keeps_none : (enabled : HazardSet) (known : Here) (tree : Tree) (s : Stmt) → has enabled hazard.InvalidIndexKept ≡ true → keeps s ≡ true
    → list_any (is_of hazard.InvalidIndexKept) (enabled_of enabled (kept_finding known tree s)) ≡ false → (known.is_dropped_index || known.is_guarded) ≡ true
unfolding kept_finding index_kept
keeps_none enabled known tree s on kept quiet =
    first_on (known.is_dropped_index || known.is_guarded) (keeps s) kept
    (no_one hazard.InvalidIndexKept enabled (not (known.is_dropped_index || known.is_guarded) && keeps s) _ on refl quiet)

refreshes_none : (enabled : HazardSet) (known : Here) (tree : Tree) (s : Stmt) → has enabled hazard.RefreshBlocksReads ≡ true → refreshes s ≡ true
    → list_any (is_of hazard.RefreshBlocksReads) (enabled_of enabled (refresh_finding known tree s)) ≡ false → known.is_made_view ≡ true
unfolding refresh_finding refresh_blocks
refreshes_none enabled known tree s on filled quiet =
    first_on known.is_made_view (refreshes s) filled (no_one hazard.RefreshBlocksReads enabled (not known.is_made_view && refreshes s) _ on refl quiet)

json_none : (enabled : HazardSet) (known : Here) (tree : Tree) (a : Action) → has enabled hazard.JsonColumn ≡ true → known.is_old ≡ true
    → list_any (is_of hazard.JsonColumn) (enabled_of enabled (json_finding known tree a)) ≡ false → added_json tree a ≡ None
unfolding json_finding json_added
json_none enabled known tree a on old quiet =
    no_message hazard.JsonColumn enabled (json_at tree) (added_json tree a) on (λ t. refl)
    (subst (λ (b : Bool). list_any (is_of hazard.JsonColumn) (enabled_of enabled (cond b (option_map (json_at tree) (added_json tree a)) None)) ≡ false) old quiet)

pub transactions_are_kept : TransactionsAreKept
transactions_are_kept enabled settings tree silent more i l inside =
    let h = hazard.StatementInTransaction in
    let known : Here = known_at settings tree i in
    let on : in_transaction known ≡ true = both known.is_inside known.has_more (inside_known settings tree i ∙ inside) (more_known settings tree i ∙ more) in (
      refused_none enabled known tree (stmt_at tree i) silent.enabled_here on
          (refused_quiet h enabled known tree (stmt_at tree i) (at_statement h enabled settings tree silent i l)),
      (λ a is. detaches_none enabled known tree a silent.enabled_here on (detach_quiet h enabled known tree a (at_action h enabled settings tree silent i l a is))),
    )

pub tables_are_kept : TablesAreKept
tables_are_kept enabled settings tree silent i l old a is =
    let h = hazard.TableRewrite in
    let known : Here = known_at settings tree i in
    let there : known.is_old ≡ true = old_known settings tree i ∙ old in
    let here = at_action h enabled settings tree silent i l a is in (
      rewrites_none enabled known tree a silent.enabled_here there (rewrite_quiet h enabled known tree a here),
      serial_none enabled known tree a silent.enabled_here there (serial_quiet h enabled known tree a here),
    )

pub columns_are_unchecked : ColumnsAreUnchecked
columns_are_unchecked enabled settings tree silent i l old a is c in_a =
    let h = hazard.ColumnWithCheck in
    let known : Here = known_at settings tree i in
    check_none enabled known tree c silent.enabled_here (old_known settings tree i ∙ old)
    (check_quiet h enabled known tree a (at_action h enabled settings tree silent i l a is) c in_a)

pub builds_are_unlimited : BuildsAreUnlimited
builds_are_unlimited enabled settings tree silent i l limited outside =
    let h = hazard.BuildUnderTimeout in
    let known : Here = known_at settings tree i in
    builds_none enabled known tree (stmt_at tree i) silent.enabled_here (timeout_known settings tree i ∙ limited) (inside_known settings tree i ∙ outside)
    (timeout_quiet h enabled known tree (stmt_at tree i) (at_statement h enabled settings tree silent i l))

pub indexes_are_dropped_or_guarded : IndexesAreDroppedOrGuarded
indexes_are_dropped_or_guarded enabled settings tree silent i l kept =
    let h = hazard.InvalidIndexKept in
    let known : Here = known_at settings tree i in
    sym (index_known settings tree i)
    ∙ keeps_none enabled known tree (stmt_at tree i) silent.enabled_here kept
    (kept_quiet h enabled known tree (stmt_at tree i) (at_statement h enabled settings tree silent i l))

pub views_are_made_first : ViewsAreMadeFirst
views_are_made_first enabled settings tree silent i l filled =
    let h = hazard.RefreshBlocksReads in
    let known : Here = known_at settings tree i in
    sym (view_known settings tree i)
    ∙ refreshes_none enabled known tree (stmt_at tree i) silent.enabled_here filled
    (refresh_quiet h enabled known tree (stmt_at tree i) (at_statement h enabled settings tree silent i l))

pub columns_are_no_json : ColumnsAreNoJson
columns_are_no_json enabled settings tree silent i l old a is =
    let h = hazard.JsonColumn in
    let known : Here = known_at settings tree i in
    json_none enabled known tree a silent.enabled_here (old_known settings tree i ∙ old)
    (json_quiet h enabled known tree a (at_action h enabled settings tree silent i l a is))
