-- A statement under other numbers is seen alike.
use Rattle.std.proofs.Common.{◌≡◌, ℕ, ◌<◌, ◌≤◌, Bool, true, false, cond, List, [], ◌∷◌, map, sym, refl, ap, ◌∙◌, subst, Option, Some, None}
use Rattle.std.proofs.lemmas.List.Elements.{All-nil, All-cons, All-head, All-tail, All-weaker}
use Rattle.std.specs.Prelude.{All, ◌&&◌, ◌||◌, ◌==◌, codes}
use Rattle.std.specs.List.{list_any}
use Rattle.std.specs.Option.{option_map}
use Rattle.std.specs.Str.{bytes_eq}
use Rattle.law_type_fixes.specs.sql_name.Name.{full_name}
use Rattle.law_type_fixes.specs.sql_token.declared.token.Span.{Span}
use Rattle.law_type_fixes.specs.sql_token.Token.{text_of}
use Rattle.law_type_fixes.specs.sql_tree.declared.kinds.StmtKind.{StmtKind}
use Rattle.law_type_fixes.specs.sql_tree.declared.kinds.StmtKind.TheVariants as stmt
use Rattle.law_type_fixes.specs.sql_tree.declared.nodes.Action.{Action}
use Rattle.law_type_fixes.specs.sql_tree.declared.nodes.Body.{Body}
use Rattle.law_type_fixes.specs.sql_tree.declared.nodes.Body.TheVariants as body
use Rattle.law_type_fixes.specs.sql_tree.declared.nodes.ColType.{ColType}
use Rattle.law_type_fixes.specs.sql_tree.declared.nodes.Elem.{Elem}
use Rattle.law_type_fixes.specs.sql_tree.declared.nodes.Elem.TheVariants as elem
use Rattle.law_type_fixes.specs.sql_tree.declared.nodes.Stmt.{Stmt}
use Rattle.law_type_fixes.specs.sql_tree.Nodes.{actions_in}
use Rattle.law_type_fixes.specs.sql_tree.Path.{path_cuts}
use Rattle.law_type_fixes.specs.sql_tree.Range.{span_range_of, token_at}
use Rattle.law_type_fixes.specs.sql_tree.Statement.{Tree}
use Rattle.law_type_fixes.specs.law_renumber.Moved.{action_moved, body_moved, constraint_moved, elem_moved, span_moved, stmt_moved, type_moved}
use Rattle.law_type_fixes.specs.law_edit_inserts.Apart.{outside}
use Rattle.law_type_fixes.proofs.of_law_edit_inserts.Apart.{stays_within}
use Rattle.law_type_fixes.specs.lint_base.declared.settings.LinterSettings.{LinterSettings}
use Rattle.law_type_fixes.specs.lint_base.declared.violation.Violation.{Violation}
use Rattle.law_type_fixes.specs.lint_base.Edits.{insertion}
use Rattle.law_type_fixes.specs.lint_lock.Slow.{has_reference, is_reference, refers, slow_by}
use Rattle.law_type_fixes.specs.lint_node.ColumnTypes.{column_types}
use Rattle.law_type_fixes.specs.lint_node.Plain.{drops_plainly, is_plain_detach, is_plain_drop, is_plain_reindex, rebuilds_plainly}
use Rattle.law_type_fixes.specs.lint_node.Same.{same_kind}
use Rattle.law_type_fixes.specs.lint_pass.Those.{those}
use Rattle.law_type_fixes.specs.lint_transaction.Transaction.{ends, chains, created, creates, is_new, is_path, same_path}
use Rattle.law_type_fixes.specs.pass_concurrent.RequireConcurrentIndexCreation as build
use Rattle.law_type_fixes.specs.pass_concurrent.RequireConcurrentIndexDeletion as drops
use Rattle.law_type_fixes.specs.pass_concurrent.RequireConcurrentPartitionDetach as detaches
use Rattle.law_type_fixes.specs.pass_concurrent.RequireConcurrentReindex as reindexes
use Rattle.law_type_fixes.specs.pass_session.RequireTimeoutSettings.{is_parameter, parameter_by, sets}
use Rattle.law_type_fixes.specs.law_fixes.Mended.{builds_of}
use Rattle.law_type_fixes.proofs.of_law_fixes.Detached.{actions_of_body, stmt_actions_fixed}
use Rattle.law_type_fixes.specs.Rules.{TypeRule, reports_on}
use Rattle.law_type_fixes.proofs.ColumnTypes.{types_moved}
use Rattle.law_type_fixes.proofs.of_law_fixes.DetachStays.{plain_moved}
use Rattle.law_type_fixes.proofs.of_law_fixes.Statements.{created_moved}
use Rattle.law_fix_steps.specs.Kept.{Kept}
use Rattle.law_fix_steps.specs.Left.{Carried, EditsFollow, FixFollows, Left}
use Rattle.law_fix_steps.proofs.Kept.{NodeKept, those_kept}
use Rattle.law_fix_steps.proofs.Left.{NodeLeft, left_one, those_left}
use Rattle.law_fix_steps.proofs.Like.{Like, type_rules}
use Rattle.law_fix_steps.proofs.Near.{Near, Shifts, insertion_follows, near}
use Rattle.law_fix_steps.proofs.TypeNames.{SeesNames, TypeNear, all_see}

-- ---- what tests see of bodies under other numbers

pub any_same : {X : Type 0} (p : X → Bool) (g : X → X) → ((x : X) → p (g x) ≡ p x) → (xs : List X) → list_any p (map g xs) ≡ list_any p xs
any_same p g one [] = refl
any_same p g one (x ∷ xs) = let a = one x in let b = any_same p g one xs in λ i. a i || b i

pub refers_same : (f : ℕ → ℕ) (e : Elem) → refers (elem_moved f e) ≡ refers e
refers_same f (elem.Constraint c) = refl
refers_same f (elem.Column c) = any_same is_reference (constraint_moved f) (λ x. refl) c.constraints
refers_same f elem.Like = refl
refers_same f elem.Other = refl

pub reference_same : (f : ℕ → ℕ) (b : Body) → has_reference (body_moved f b) ≡ has_reference b
reference_same f (body.Table temp guarded drops word path elems) = any_same refers (elem_moved f) (refers_same f) elems
reference_same f b = refl

-- Only that sees a body.
pub slow_same : (kind : StmtKind) (b c : Body) → has_reference b ≡ has_reference c → slow_by kind b ≡ slow_by kind c
slow_same stmt.CreateTable b c e = e
slow_same kind b c e = refl

drops_same : (f : ℕ → ℕ) (b : Body) → drops_plainly (body_moved f b) ≡ drops_plainly b
drops_same f (body.Drop word c g paths) = refl
drops_same f b = refl

rebuilds_same : (f : ℕ → ℕ) (b : Body) → rebuilds_plainly (body_moved f b) ≡ rebuilds_plainly b
rebuilds_same f (body.Reindex t word c v path) = refl
rebuilds_same f b = refl

parameter_moved : (f : ℕ → ℕ) (b : Body) → parameter_by (body_moved f b) ≡ option_map (span_moved f) (parameter_by b)
parameter_moved f (body.Setting name) = refl
parameter_moved f b = refl

ends_moved : (f : ℕ → ℕ) (x : Stmt) (b : Body) → ends (record x { body = body_moved f b }) ≡ ends (record x { body = b })
ends_moved f x (body.End plain chain) = refl
ends_moved f x b = refl

chains_moved : (f : ℕ → ℕ) (x : Stmt) (b : Body) → chains (record x { body = body_moved f b }) ≡ chains (record x { body = b })
chains_moved f x (body.End plain chain) = refl
chains_moved f x b = refl

-- ---- tokens that stay

-- It is of the old kind, begins at the old place, moved, and has the old text.
pub record Follows (move f : ℕ → ℕ) (tree new : Tree) (x : ℕ) : Type 0 where
  pub kind : (token_at new.toks (f x)).kind ≡ (token_at tree.toks x).kind
  pub start : (token_at new.toks (f x)).start ≡ move (token_at tree.toks x).start
  pub text : text_of new.text (token_at new.toks (f x)) ≡ text_of tree.text (token_at tree.toks x)

-- So it is of the numbers from lo to before hi, all as many bytes further on or back, and of the paths of such numbers.
pub record Moves (move f : ℕ → ℕ) (lo hi : ℕ) (tree new : Tree) : Type 0 where
  pub tokens : (x : ℕ) → lo ≤ x → x < hi → Follows move f tree new x
  pub down : ℕ
  pub up : ℕ
  pub shifts : (x : ℕ) → lo ≤ x → x < hi → Shifts f down up tree new x
  pub paths : (span : Span) → span_moved (outside lo hi) span ≡ span → path_cuts new.text new.toks (span_moved f span) ≡ path_cuts tree.text tree.toks span
  pub apart : (x y : ℕ) → lo ≤ x → x < hi → lo ≤ y → y < hi → (f x == f y) ≡ (x == y)

some_span : {p q : Span} → Some p ≡ Some q → p ≡ q
some_span e = cc

-- ---- actions and types

module _ (move f : ℕ → ℕ) (tree new : Tree) where
  -- the actions that begin at the old place, moved
  pub detach_node : (c : Action) → (token_at new.toks (f c.first)).start ≡ move (token_at tree.toks c.first).start →
      NodeKept move is_plain_detach is_plain_detach (detaches.report tree) (detaches.report new) (action_moved f c) c
  unfolding detaches.report
  detach_node c e = record { passed = λ h. sym (plain_moved f c) ∙ h; same = λ h. record { code = refl; place = e } }

module _ (exact : Bool) (move f : ℕ → ℕ) (gone : ℕ) (tree new : Tree) where
  abbrev L : List Violation → List Violation → Type 0
  L ws vs = Left exact move gone ws vs

  abbrev TypeNode : TypeRule → ColType → Type 0
  TypeNode r ty = NodeLeft exact move gone (r.test tree) (r.test new) (r.report tree) (r.report new) (type_moved f ty) ty

  pub type_node : (r : TypeRule) → SeesNames r → (ty : ColType) → Follows move f tree new ty.name → (token_at new.toks (f ty.whole.first)).start ≡ move (token_at tree.toks ty.whole.first).start →
      (exact ≡ true → TypeNear f tree new ty) → TypeNode r ty
  type_node r sees ty name start close = record {
    passed = sees.test tree new f ty (ap full_name name.text);
    carried = λ passes. record {
      same = record {
        code = sees.code new (type_moved f ty) ∙ sym (sees.code tree ty);
        place = sees.place new (type_moved f ty) ∙ start ∙ ap move (sym (sees.place tree ty));
      };
      fix = λ on.
          subst (λ (p : ℕ). FixFollows p (r.report tree ty).text_range.start (r.report new (type_moved f ty)).fix (r.report tree ty).fix) (sym (sees.place new (type_moved f ty)))
          (subst (λ (q : ℕ). FixFollows (token_at new.toks (f ty.whole.first)).start q (r.report new (type_moved f ty)).fix (r.report tree ty).fix) (sym (sees.place tree ty))
          (sees.fix tree new f ty (ap full_name name.text) (close on)));
    };
  }

  -- a type whose tokens follow
  pub record TypeFollows (ty : ColType) : Type 0 where
    pub name : Follows move f tree new ty.name
    pub first : Follows move f tree new ty.whole.first
    pub close : exact ≡ true → TypeNear f tree new ty

  pub types_left : (tys : List ColType) → All TypeFollows tys → (rs : List TypeRule) → All SeesNames rs → All (λ r. L (reports_on r new (map (type_moved f) tys)) (reports_on r tree tys)) rs
  types_left tys h [] sees = All-nil (λ r. L (reports_on r new (map (type_moved f) tys)) (reports_on r tree tys))
  types_left tys h (r ∷ rs) sees =
      All-cons (λ r. L (reports_on r new (map (type_moved f) tys)) (reports_on r tree tys)) r rs
      (those_left exact move gone (r.test tree) (r.test new) (r.report tree) (r.report new) (type_moved f) tys
      (All-weaker TypeFollows (TypeNode r) (λ ty t. type_node r (All-head SeesNames r rs sees) ty t.name t.first.start t.close) tys h))
      (types_left tys h rs (All-tail SeesNames r rs sees))

-- a type whose tokens are as many bytes further on or back
pub type_near : (f : ℕ → ℕ) (down up lo hi : ℕ) (tree new : Tree) → ((x : ℕ) → lo ≤ x → x < hi → Shifts f down up tree new x) → (ty : ColType) → type_moved (outside lo hi) ty ≡ ty → TypeNear f tree new ty
type_near f down up lo hi tree new shifts ty e = record {
  inner_first = near_one ty.inner.first (ap (λ (t : ColType). t.inner.first) e);
  inner_last = near_one ty.inner.last (ap (λ (t : ColType). t.inner.last) e);
  name = near_one ty.name (ap (λ (t : ColType). t.name) e);
}
  where
    at : (x : ℕ) → outside lo hi x ≡ x → Shifts f down up tree new x
    at x h = let w = stays_within lo hi x h in shifts x w.0 w.1

    near_one : (x : ℕ) → outside lo hi x ≡ x → Near f tree new ty.whole.first x
    near_one x h = near f tree new ty.whole.first down up x (at ty.whole.first (ap (λ (t : ColType). t.whole.first) e)) (at x h)

-- the types of a statement that is fixed
pub fixed_types : (P : ColType → Type 0) (g : ℕ → ℕ) → ((ty : ColType) → type_moved g ty ≡ ty → P ty) → (tys : List ColType) → map (type_moved g) tys ≡ tys → All P tys
fixed_types P g one [] e = All-nil P
fixed_types P g one (ty ∷ tys) e = All-cons P ty tys (one ty (first e)) (fixed_types P g one tys (rest e))
  where
    first : {x y : ColType} {xs ys : List ColType} → x ∷ xs ≡ y ∷ ys → x ≡ y
    first e = cc

    rest : {x y : ColType} {xs ys : List ColType} → x ∷ xs ≡ y ∷ ys → xs ≡ ys
    rest e = cc

-- the path of the table of an index that is built
abbrev build_path : Body → Span
build_path (body.Index word unique concurrently guarded name path) = path
build_path _ = record { first = 0; last = 0 }

second_true : (a b : Bool) → (a && b) ≡ true → b ≡ true
second_true true b h = h
second_true false b h = absurd (cc)

-- the word of an index that is built, and the words of one that is dropped or rebuilt
abbrev build_word : Body → ℕ
build_word (body.Index word unique concurrently guarded name path) = word
build_word _ = 0

dropped_word : (f : ℕ → ℕ) (b : Body) → drops_plainly b ≡ true → drops.index_word (body_moved f b) ≡ f (drops.index_word b)
dropped_word f (body.Drop word c g paths) h = refl
dropped_word f b h = absurd (cc)

rebuilt_word : (f : ℕ → ℕ) (b : Body) → rebuilds_plainly b ≡ true → reindexes.target_word (body_moved f b) ≡ f (reindexes.target_word b)
rebuilt_word f (body.Reindex t word c v path) h = refl
rebuilt_word f b h = absurd (cc)

module _ (exact : Bool) (move f : ℕ → ℕ) (gone lo hi : ℕ) (tree new : Tree) (m : Moves move f lo hi tree new) where
  starts_at : (g : ℕ) → outside lo hi g ≡ g → Follows move f tree new g
  starts_at g e = let w = stays_within lo hi g e in m.tokens g w.0 w.1

  near_at : (a x : ℕ) → outside lo hi a ≡ a → outside lo hi x ≡ x → Near f tree new a x
  near_at a x d e =
      let u = stays_within lo hi a d in let v = stays_within lo hi x e in
      near f tree new a m.down m.up x (m.shifts a u.0 u.1) (m.shifts x v.0 v.1)

  module _ (x : Stmt) (e : stmt_moved (outside lo hi) x ≡ x) where
    abbrev y : Stmt
    y = stmt_moved f x

    first_back : outside lo hi x.first ≡ x.first
    first_back = ap (λ (s : Stmt). s.first) e

    first : Follows move f tree new x.first
    first = starts_at x.first first_back

    path_same : (o : Option Span) → option_map (span_moved (outside lo hi)) o ≡ o → (path : List (List ℕ)) → is_path new (option_map (span_moved f) o) path ≡ is_path tree o path
    path_same None g path = refl
    path_same (Some span) g path = ap (λ (q : List (List ℕ)). same_path path q) (m.paths span (some_span g))

    creates_same : (path : List (List ℕ)) → creates new path y ≡ creates tree path x
    creates_same path =
        ap (λ (o : Option Span). is_path new o path) (created_moved f x.kind x.body)
        ∙ path_same (created x) (sym (created_moved (outside lo hi) x.kind x.body) ∙ ap created e) path

    sets_same : (name : List ℕ) → sets new name y ≡ sets tree name x
    sets_same name =
        ap (λ (o : Option Span). is_parameter new name o) (parameter_moved f x.body)
        ∙ by (parameter_by x.body) (sym (parameter_moved (outside lo hi) x.body) ∙ ap (λ (s : Stmt). parameter_by s.body) e)
      where
        by : (o : Option Span) → option_map (span_moved (outside lo hi)) o ≡ o → is_parameter new name (option_map (span_moved f) o) ≡ is_parameter tree name o
        by None g = refl
        by (Some span) g =
            let p = ap (λ (s : Span). s.first) (some_span g) in
            let q = ap (λ (s : Span). s.last) (some_span g) in
            let u = stays_within lo hi span.first p in
            let v = stays_within lo hi span.last q in
            let same = m.apart span.first span.last u.0 u.1 v.0 v.1 in
            let text = ap full_name (m.tokens span.first u.0 u.1).text in
            λ i. same i && bytes_eq (text i) name

    builds_same : (settings : LinterSettings) (i j : ℕ) → ((path : List (List ℕ)) → is_new settings.assume_in_transaction new path j ≡ is_new settings.assume_in_transaction tree path i) →
        Left exact move gone (builds_of settings new j y) (builds_of settings tree i x)
    unfolding build.report
    builds_same settings i j news = by x.body refl
      where
        by : (b : Body) → x.body ≡ b → Left exact move gone (build.reports_by settings new j y (body_moved f b)) (build.reports_by settings tree i x b)
        by (body.Index word unique None guarded name path) h =
            let fixed = ap (λ (s : Stmt). build_path s.body) e in
            let back : span_moved (outside lo hi) path ≡ path = sym (ap (λ (b : Body). build_path (body_moved (outside lo hi) b)) h) ∙ fixed ∙ ap build_path h in
            let word_back : outside lo hi word ≡ word = sym (ap (λ (b : Body). build_word (body_moved (outside lo hi) b)) h) ∙ ap (λ (s : Stmt). build_word s.body) e ∙ ap build_word h in
            let cuts = m.paths path back in
            let new_is = ap (λ (q : List (List ℕ)). is_new settings.assume_in_transaction new q j) cuts ∙ news (path_cuts tree.text tree.toks path) in
            one (is_new settings.assume_in_transaction tree (path_cuts tree.text tree.toks path) i) _ new_is _ _
            (record { same = record { code = refl; place = (let t = first in t.start) }; fix = λ on. insertion_follows f tree new x.first (codes " concurrently") word (near_at x.first word first_back word_back) })
          where
            one : (p q : Bool) → q ≡ p → (v w : Violation) → Carried exact move w v → Left exact move gone (cond q [] (w ∷ [])) (cond p [] (v ∷ []))
            one p q g v w same = subst (λ (b : Bool). Left exact move gone (cond b [] (w ∷ [])) (cond p [] (v ∷ []))) (sym g) (both p)
              where
                both : (b : Bool) → Left exact move gone (cond b [] (w ∷ [])) (cond b [] (v ∷ []))
                both true = tt
                both false = left_one exact move gone w v same
        by (body.Index word unique (Some c) guarded name path) h = tt
        by b h = tt

    -- what is put after a word of the statement
    word_follows : (k word : ℕ) → k ≡ f word → outside lo hi word ≡ word →
        EditsFollow (token_at new.toks (f x.first)).start (token_at tree.toks x.first).start
        (insertion (codes " concurrently") (span_range_of new.toks k k).end ∷ []) (insertion (codes " concurrently") (span_range_of tree.toks word word).end ∷ [])
    word_follows k word same back =
        subst
        (λ (n : ℕ). EditsFollow (token_at new.toks (f x.first)).start (token_at tree.toks x.first).start
        (insertion (codes " concurrently") (span_range_of new.toks n n).end ∷ []) (insertion (codes " concurrently") (span_range_of tree.toks word word).end ∷ []))
        (sym same) (insertion_follows f tree new x.first (codes " concurrently") word (near_at x.first word first_back back))

    deletions_same : Left exact move gone (drops.reports_of_require_concurrent_index_deletion new y) (drops.reports_of_require_concurrent_index_deletion tree x)
    unfolding drops.report
    deletions_same =
        those_left exact move gone is_plain_drop is_plain_drop (drops.report tree) (drops.report new) (stmt_moved f) (x ∷ [])
        (All-cons (λ s. NodeLeft exact move gone is_plain_drop is_plain_drop (drops.report tree) (drops.report new) (stmt_moved f s) s) x []
        (record {
          passed = ap (λ (b : Bool). same_kind x.kind stmt.DropIndex && b) (drops_same f x.body);
          carried = λ passes.
              (let plain = second_true (same_kind x.kind stmt.DropIndex) (drops_plainly x.body) passes in
              record {
                same = record { code = refl; place = (let t = first in t.start) };
                fix = λ on. word_follows (drops.index_word (body_moved f x.body)) (drops.index_word x.body) (dropped_word f x.body plain) (sym (dropped_word (outside lo hi) x.body plain) ∙ ap (λ (s : Stmt). drops.index_word s.body) e);
              });
        }) (All-nil _))

    rebuilt_same : Left exact move gone (reindexes.reports_of_require_concurrent_reindex new y) (reindexes.reports_of_require_concurrent_reindex tree x)
    unfolding reindexes.report
    rebuilt_same =
        those_left exact move gone is_plain_reindex is_plain_reindex (reindexes.report tree) (reindexes.report new) (stmt_moved f) (x ∷ [])
        (All-cons (λ s. NodeLeft exact move gone is_plain_reindex is_plain_reindex (reindexes.report tree) (reindexes.report new) (stmt_moved f s) s) x []
        (record {
          passed = rebuilds_same f x.body;
          carried = λ plain. record {
            same = record { code = refl; place = (let t = first in t.start) };
            fix = λ on. word_follows (reindexes.target_word (body_moved f x.body)) (reindexes.target_word x.body) (rebuilt_word f x.body plain) (sym (rebuilt_word (outside lo hi) x.body plain) ∙ ap (λ (s : Stmt). reindexes.target_word s.body) e);
          };
        }) (All-nil _))

    actions_kept : (xs : List Action) → All (λ c. action_moved (outside lo hi) c ≡ c) xs →
        Kept move (those is_plain_detach (detaches.report new) (map (action_moved f) xs)) (those is_plain_detach (detaches.report tree) xs)
    actions_kept xs h =
        those_kept move is_plain_detach is_plain_detach (detaches.report tree) (detaches.report new) (action_moved f) xs
        (All-weaker (λ c. action_moved (outside lo hi) c ≡ c) (λ c. NodeKept move is_plain_detach is_plain_detach (detaches.report tree) (detaches.report new) (action_moved f c) c)
        (λ c g. detach_node move f tree new c (starts_at c.first (ap (λ (b : Action). b.first) g)).start) xs h)

    detaches_same : Kept move (detaches.reports_of_require_concurrent_partition_detach new y) (detaches.reports_of_require_concurrent_partition_detach tree x)
    detaches_same =
        subst (λ (l : List Action). Kept move (those is_plain_detach (detaches.report new) (cond (same_kind x.kind stmt.AlterTable) l [])) (detaches.reports_of_require_concurrent_partition_detach tree x)) (sym (actions_of_body f x.body))
        (by (same_kind x.kind stmt.AlterTable))
      where
        by : (b : Bool) → Kept move (those is_plain_detach (detaches.report new) (cond b (map (action_moved f) (actions_in x.body)) [])) (those is_plain_detach (detaches.report tree) (cond b (actions_in x.body) []))
        by true = actions_kept (actions_in x.body) (stmt_actions_fixed (outside lo hi) x e)
        by false = tt

    types_same : All (λ r. Left exact move gone (reports_on r new (column_types y)) (reports_on r tree (column_types x))) type_rules
    types_same =
        subst (λ (l : List ColType). All (λ r. Left exact move gone (reports_on r new l) (reports_on r tree (column_types x))) type_rules) (sym (types_moved f x))
        (types_left exact move f gone tree new (column_types x)
        (fixed_types (TypeFollows exact move f gone tree new) (outside lo hi)
        (λ ty g. record {
          name = starts_at ty.name (ap (λ (t : ColType). t.name) g);
          first = starts_at ty.whole.first (ap (λ (t : ColType). t.whole.first) g);
          close = λ on. type_near f m.down m.up lo hi tree new m.shifts ty g;
        })
        (column_types x) (sym (types_moved (outside lo hi) x) ∙ ap column_types e)) type_rules all_see)

    pub moved_like : Like exact move gone tree new x y
    moved_like = record {
      begins_is = refl;
      ends_is = ends_moved f y x.body;
      chains_is = chains_moved f y x.body;
      creates_is = creates_same;
      slow_is = slow_same x.kind (body_moved f x.body) x.body (reference_same f x.body);
      sets_is = sets_same;
      place = λ slow. (let t = first in t.start);
      builds_are = builds_same;
      drops_are = λ settings i j. deletions_same;
      rebuilds_are = λ settings i j. rebuilt_same;
      detaches_are = detaches_same;
      types_are = types_same;
    }
