-- The fixes of column types: the tree that each makes is seen alike.
use Rattle.std.proofs.Common.{◌≡◌, ℕ, ◌+◌, ◌<◌, ◌≤◌, ◌⊎◌, inl, inr, ◌^◌, Bool, true, false, List, [], ◌∷◌, ◌++◌, map, length, sym, refl, ap, ◌∙◌, subst, arith, Option}
use Rattle.std.proofs.lemmas.Bool.{cases_lt}
use Rattle.std.proofs.lemmas.List.{map-append}
use Rattle.std.proofs.lemmas.List.Elements.{All-nil, All-cons, All-head, All-tail, All-weaker}
use Rattle.std.specs.Prelude.{All, ◌&&◌, ◌||◌, is_none}
use Rattle.std.specs.List.{flat_map, list_any}
use Rattle.std.specs.Option.{option_map}
use Rattle.law_type_fixes.specs.sql_token.declared.token.Span.{Span}
use Rattle.law_type_fixes.specs.sql_token.Token.{Text}
use Rattle.law_type_fixes.specs.sql_tree.declared.kinds.ActionKind.TheVariants as action
use Rattle.law_type_fixes.specs.sql_tree.declared.kinds.StmtKind.TheVariants as stmt
use Rattle.law_type_fixes.specs.sql_tree.declared.nodes.Action.{Action}
use Rattle.law_type_fixes.specs.sql_tree.declared.nodes.Body.{Body}
use Rattle.law_type_fixes.specs.sql_tree.declared.nodes.Body.TheVariants as body
use Rattle.law_type_fixes.specs.sql_tree.declared.nodes.ColType.{ColType}
use Rattle.law_type_fixes.specs.sql_tree.declared.nodes.Column.{Column}
use Rattle.law_type_fixes.specs.sql_tree.declared.nodes.Elem.{Elem}
use Rattle.law_type_fixes.specs.sql_tree.declared.nodes.Elem.TheVariants as elem
use Rattle.law_type_fixes.specs.sql_tree.declared.nodes.Stmt.{Stmt}
use Rattle.law_type_fixes.specs.sql_tree.declared.nodes.TyKind.TheVariants as kind
use Rattle.law_type_fixes.specs.sql_tree.Nodes.{actions_in}
use Rattle.law_type_fixes.specs.sql_tree.Range.{token_at}
use Rattle.law_type_fixes.specs.sql_tree.Statement.{Tree, IsTree}
use Rattle.law_type_fixes.specs.law_renumber.Moved.{action_moved, body_moved, column_moved, elem_moved, span_moved, stmt_moved, type_moved}
use Rattle.law_type_fixes.specs.law_edit_inserts.Apart.{outside}
use Rattle.law_type_fixes.proofs.of_law_edit_inserts.Apart.{stays_within, statements_apart}
use Rattle.law_type_fixes.specs.law_edit_types.Runs.{fused, worded_text, worded_tree, IsApart, IsTypeName, Worded}
use Rattle.law_type_fixes.specs.law_edit_types.Types.{is_replaced, retyped_column}
use Rattle.law_type_fixes.specs.law_edit_types.Altered.{ActionNow, IsRetyped, retyped_action, retyped_in}
use Rattle.law_type_fixes.specs.law_edit_types.Altered.IsRetyped.{column, constraint}
use Rattle.law_type_fixes.specs.law_edit_types.Created.{TableHead, head_moved, retyped_table, table_of}
use Rattle.law_type_fixes.specs.law_edit_types.Named.{HasType}
use Rattle.law_type_fixes.specs.law_edit_types.Named.HasType.{created, added, altered}
use Rattle.law_type_fixes.proofs.of_law_edit_types.Added.{added_type_reads}
use Rattle.law_type_fixes.proofs.of_law_edit_types.Altered.{set_type_reads}
use Rattle.law_type_fixes.proofs.of_law_edit_types.Created.{created_type_reads}
use Rattle.law_type_fixes.specs.lint_lock.Slow.{refers}
use Rattle.law_type_fixes.specs.lint_node.ColumnTypes.{action_types, column_types}
use Rattle.law_type_fixes.specs.lint_node.Plain.{is_plain_detach}
use Rattle.law_type_fixes.specs.lint_node.Same.{same_action}
use Rattle.law_type_fixes.specs.lint_pass.Those.{those}
use Rattle.law_type_fixes.specs.lint_transaction.Names.{name_at}
use Rattle.law_type_fixes.specs.pass_concurrent.RequireConcurrentPartitionDetach as detaches
use Rattle.law_type_fixes.proofs.of_law_fixes.Detached.{is_plain, stmt_actions_fixed}
use Rattle.law_type_fixes.specs.Apart.{TypeApart}
use Rattle.law_type_fixes.specs.Rules.{reports_on}
use Rattle.law_type_fixes.specs.Words.{AddsConstraint, AreWord, WordNow}
use Rattle.law_type_fixes.specs.Words.AreWord.{path as named, none as gone}
use Rattle.law_type_fixes.proofs.ColumnTypes.{types_moved}
use Rattle.law_type_fixes.proofs.Homes.{home}
use Rattle.law_type_fixes.proofs.Inners.{altered_types}
use Rattle.law_type_fixes.proofs.TypesApart.{types_apart}
use Rattle.law_type_fixes.proofs.of_sql_tree.TreeLaws.{one_tree}
use Rattle.law_type_fixes.proofs.Tables.{one_of}
use Rattle.law_fix_steps.specs.Kept.{Kept}
use Rattle.law_fix_steps.specs.Left.{Left}
use Rattle.law_fix_steps.proofs.ActionsAside.{Aside, actions_aside}
use Rattle.law_fix_steps.proofs.CreatedPaths.{Below, path_below}
use Rattle.law_fix_steps.proofs.Kept.{NodeKept, those_kept}
use Rattle.law_fix_steps.proofs.Like.{Aligned, Like, type_rules}
use Rattle.law_fix_steps.proofs.Moved.{any_same, fixed_types, refers_same}
use Rattle.law_fix_steps.proofs.Retyped as retyped
use Rattle.law_type_fixes.proofs.LastNames.{has_type}
use Rattle.law_fix_steps.proofs.TypeNames.{IsNewName, all_silent}
use Rattle.law_fix_steps.proofs.Worded.{worded_aligned}

-- ---- where the run is

-- the run from n to m, in a type of the statement st
pub record Place (tree : Tree) (st : Stmt) (ty : ColType) (until n m : ℕ) : Type 0 where
  pub begins : st.first ≤ n
  pub ends : m < st.last + 1
  pub low : ty.whole.first ≤ n
  pub high : m < until
  pub within : m < length tree.toks

abbrev body_types : Body → List ColType
body_types b = flat_map action_types (actions_in b)

any_parts : {X : Type 0} (p : X → Bool) (g : X → X) → ((x : X) → p (g x) ≡ p x) → (xs : List X) (y z : X) (ys : List X) → p z ≡ p y → list_any p (map g xs ++ z ∷ map g ys) ≡ list_any p (xs ++ y ∷ ys)
any_parts p g one [] y z ys e = let rest = any_same p g one ys in λ i. e i || rest i
any_parts p g one (x ∷ xs) y z ys e = let here = one x in let rest = any_parts p g one xs y z ys e in λ i. here i || rest i

module _ (tree : Tree) (before : List Stmt) (st : Stmt) (after : List Stmt) (earlier : List ColType) (ty : ColType) (later : List ColType) (is : IsTree tree) (parts : tree.stmts ≡ before ++ st ∷ after)
    (cut : column_types st ≡ earlier ++ ty ∷ later) where
  pub apart : TypeApart tree earlier ty later
  apart = types_apart tree before st after earlier ty later is parts cut

  fixed : stmt_moved (outside st.first (st.last + 1)) st ≡ st
  fixed = let a = statements_apart tree before st after is parts in a.here_is

  type_fixed : type_moved (outside st.first (st.last + 1)) ty ≡ ty
  type_fixed =
      let g : ℕ → ℕ = outside st.first (st.last + 1) in
      one_of (λ (x : ColType). type_moved g x ≡ x) earlier ty later
      (subst (λ (l : List ColType). All (λ (x : ColType). type_moved g x ≡ x) l) cut
      (fixed_types (λ (x : ColType). type_moved g x ≡ x) g (λ x e. e) (column_types st) (sym (types_moved g st) ∙ ap column_types fixed)))

  place_of : (n m : ℕ) → ((g : ℕ → ℕ) → type_moved g ty ≡ ty → (g n ≡ n) × (g m ≡ m)) → Place tree st ty apart.until n m
  place_of n m held =
      let a = apart in
      let in_stmt = held (outside st.first (st.last + 1)) type_fixed in
      let in_type = held (outside ty.whole.first a.until) a.here_is in
      let p = stays_within st.first (st.last + 1) n in_stmt.0 in
      let q = stays_within st.first (st.last + 1) m in_stmt.1 in
      let u = stays_within ty.whole.first a.until n in_type.0 in
      let v = stays_within ty.whole.first a.until m in_type.1 in
      let high = v.1 in let top = a.within in
      record { begins = p.0; ends = q.1; low = u.0; high = high; within = omega (arith, high, top) }

  abbrev pub type_start : ℕ
  type_start = (token_at tree.toks ty.whole.first).start

  -- ---- with the tree that has the word

  module _ (n m : ℕ) (w : Text) (order : n ≤ m) (place : Place tree st ty apart.until n m) (now : Stmt) where
    abbrev pub new : Tree
    new = worded_tree tree n m w before now after

    abbrev pub f : ℕ → ℕ
    f = fused n m

    abbrev pub move : ℕ → ℕ
    move = retyped.move tree before st after now n m w is parts order place.within

    -- The types are the old ones, and in the place of one are those that no rule reports.
    types_kept : (types : List ColType) → column_types now ≡ map (type_moved f) earlier ++ (types ++ map (type_moved f) later) → All (λ t. All (λ r. r.test new t ≡ false) type_rules) types →
        All (λ r. Left true move type_start (reports_on r new (column_types now)) (reports_on r tree (column_types st))) type_rules
    types_kept types e silent =
        let a = apart in
        let low = place.low in let high = place.high in
        subst (λ (l : List ColType). All (λ r. Left true move type_start (reports_on r new l) (reports_on r tree (column_types st))) type_rules) (sym e)
        (subst (λ (l : List ColType). All (λ r. Left true move type_start (reports_on r new (map (type_moved f) earlier ++ (types ++ map (type_moved f) later))) (reports_on r tree l)) type_rules) (sym cut)
        (retyped.types_now tree before st after now n m w is parts order place.within true type_start earlier ty later types refl
        (retyped.side_types tree before st after now n m w is parts order place.within true type_start 0 ty.whole.first 0 0
        (λ x p q. retyped.low_follows tree before st after now n m w is parts order place.within x (omega (arith, q, low)))
        (λ x p q. retyped.low_shifts tree before st after now n m w is parts order place.within x (omega (arith, q, low))) earlier a.earlier_is)
        (retyped.side_types tree before st after now n m w is parts order place.within true type_start a.until (length tree.toks)
        (retyped.down tree before st after now n m w is parts order place.within) (retyped.up tree before st after now n m w is parts order place.within)
        (λ x p q. retyped.high_follows tree before st after now n m w is parts order place.within x (omega (arith, p, high)) q)
        (λ x p q. retyped.high_shifts tree before st after now n m w is parts order place.within x (omega (arith, p, high)) q) later a.later_is) silent))

    below : (head : TableHead) (elems : List Elem) → st.kind ≡ stmt.CreateTable → st.body ≡ table_of head elems → Below head.path n
    below head elems kind has =
        let b = path_below tree before st after head elems earlier ty later is parts kind has cut in
        let first = b.first in let last = b.last in let low = place.low in
        record { first = omega (arith, first, low); last = omega (arith, last, low) }

    aligned : (assumed : Bool) → Like true move type_start tree new st now → Aligned true move type_start assumed tree new
    aligned assumed like = worded_aligned tree before st after now n m w is parts order place.within true type_start place.begins place.ends assumed like

    -- the actions, of which none that detaches begins in the run
    nodes : (path : Option Span) (actions : List Action) → st.body ≡ body.Alter path actions → All (λ c. is_plain_detach c ≡ true → (c.first ≤ n) ⊎ (m + 1 ≤ c.first)) actions →
        All (retyped.Node tree before st after now n m w is parts order place.within) actions
    nodes path actions has side =
        retyped.nodes tree before st after now n m w is parts order place.within actions
        (subst (λ (b : Body). All (λ c. action_moved (outside st.first (st.last + 1)) c ≡ c) (actions_in b)) has (stmt_actions_fixed (outside st.first (st.last + 1)) st fixed)) side

    table_like : (types : All (λ r. Left true move type_start (reports_on r new (column_types now)) (reports_on r tree (column_types st))) type_rules) (head : TableHead) (elems elems' : List Elem) →
        st.kind ≡ stmt.CreateTable → st.body ≡ table_of head elems → now ≡ record (stmt_moved f st) { body = table_of (head_moved f head) elems' } → list_any refers elems' ≡ list_any refers elems → Like true move type_start tree new st now
    table_like types head elems elems' kind has is_now reference =
        retyped.table_like tree before st after now n m w is parts order place.within true type_start place.begins types head elems elems' kind has is_now reference (below head elems kind has)

    alter_like : (types : All (λ r. Left true move type_start (reports_on r new (column_types now)) (reports_on r tree (column_types st))) type_rules) (path : Option Span) (actions actions' : List Action) →
        st.kind ≡ stmt.AlterTable → st.body ≡ body.Alter path actions → now ≡ record (stmt_moved f st) { body = body.Alter (option_map (span_moved f) path) actions' } →
        Kept move (those is_plain_detach (detaches.report new) actions') (those is_plain_detach (detaches.report tree) actions) → Like true move type_start tree new st now
    alter_like types path actions actions' kind has is_now acts =
        retyped.alter_like tree before st after now n m w is parts order place.within true type_start place.begins types path actions actions' kind has is_now acts

  -- ---- the last name becomes the word

  pub name_place : Place tree st ty apart.until ty.name ty.name
  name_place = place_of ty.name ty.name (λ g e. (ap (λ (t : ColType). t.name) e, ap (λ (t : ColType). t.name) e))

  pub same_order : ty.name ≤ ty.name
  same_order = omega arith

  module _ (w : Text) (is_new : IsNewName w) (path : ty.kind ≡ kind.Path) (now : Stmt) (is_now : now ≡ stmt_moved (fused ty.name ty.name) st) where
    abbrev pub g : ℕ → ℕ
    g = fused ty.name ty.name

    abbrev pub renamed : Tree
    renamed = worded_tree tree ty.name ty.name w before now after

    renamed_types : All (λ r. Left true (move ty.name ty.name w same_order name_place now) type_start (reports_on r renamed (column_types now)) (reports_on r tree (column_types st))) type_rules
    renamed_types =
        types_kept ty.name ty.name w same_order name_place now (type_moved g ty ∷ [])
        (ap column_types is_now ∙ types_moved g st ∙ ap (λ (l : List ColType). map (type_moved g) l) cut ∙ map-append (type_moved g) earlier (ty ∷ later))
        (All-cons (λ t. All (λ r. r.test renamed t ≡ false) type_rules) (type_moved g ty) []
        (all_silent w is_new renamed (type_moved g ty) path (retyped.word_name tree before st after now ty.name ty.name w is parts same_order name_place.within)) (All-nil (λ t. All (λ r. r.test renamed t ≡ false) type_rules)))

    each_side : (xs : List Action) → All (λ c. is_plain_detach c ≡ true → (c.first ≤ ty.name) ⊎ (ty.name + 1 ≤ c.first)) xs
    each_side [] = All-nil (λ c. is_plain_detach c ≡ true → (c.first ≤ ty.name) ⊎ (ty.name + 1 ≤ c.first))
    each_side (x ∷ xs) = All-cons (λ c. is_plain_detach c ≡ true → (c.first ≤ ty.name) ⊎ (ty.name + 1 ≤ c.first)) x xs (λ plain. by (cases_lt ty.name x.first)) (each_side xs)
      where
        by : (ty.name < x.first) ⊎ (x.first ≤ ty.name) → (x.first ≤ ty.name) ⊎ (ty.name + 1 ≤ x.first)
        by (inl h) = inr (omega (arith, h))
        by (inr h) = inl h

    by_actions : (path : Option Span) (actions : List Action) → st.kind ≡ stmt.AlterTable → st.body ≡ body.Alter path actions → Like true (move ty.name ty.name w same_order name_place now) type_start tree renamed st now
    by_actions path actions kind has =
        alter_like ty.name ty.name w same_order name_place now renamed_types path actions (map (action_moved g) actions) kind has (is_now ∙ (λ i. record (stmt_moved g st) { body = body_moved g (has i) }))
        (those_kept (move ty.name ty.name w same_order name_place now) is_plain_detach is_plain_detach (detaches.report tree) (detaches.report renamed) (action_moved g) actions
        (nodes ty.name ty.name w same_order name_place now path actions has (each_side actions)))

    renamed_like : Like true (move ty.name ty.name w same_order name_place now) type_start tree renamed st now
    renamed_like = by (has_type st earlier ty later cut)
      where
        by : HasType st ty → Like true (move ty.name ty.name w same_order name_place now) type_start tree renamed st now
        by (created head front c back kind has typed) =
            table_like ty.name ty.name w same_order name_place now renamed_types head (front ++ elem.Column c ∷ back) (map (elem_moved g) (front ++ elem.Column c ∷ back)) kind has
            (is_now ∙ (λ i. record (stmt_moved g st) { body = body_moved g (has i) })) (any_same refers (elem_moved g) (refers_same g) (front ++ elem.Column c ∷ back))
        by (added path front b back c kind has p q) = by_actions path (front ++ b ∷ back) kind has
        by (altered path front b back first p others kind has q r s) = by_actions path (front ++ b ∷ back) kind has

    pub renamed_aligned : (assumed : Bool) → Aligned true (move ty.name ty.name w same_order name_place now) type_start assumed tree renamed
    renamed_aligned assumed = aligned ty.name ty.name w same_order name_place now assumed renamed_like

  -- ---- the inner tokens become the word

  pub inner_place : Place tree st ty apart.until ty.inner.first ty.inner.last
  inner_place = place_of ty.inner.first ty.inner.last (λ g e. (ap (λ (t : ColType). t.inner.first) e, ap (λ (t : ColType). t.inner.last) e))

  pub inner_order : ty.inner.first ≤ ty.inner.last
  inner_order = let a = apart in a.inner

  module _ (w : Text) (is_new : IsNewName w) (replaced : is_replaced ty ≡ true) (name : IsTypeName w) (joins : IsApart tree ty.inner.first ty.inner.last) (short : length (worded_text tree ty.inner.first ty.inner.last w) < 2 ^ 32)
      (now : Stmt) (now_is : IsTree (worded_tree tree ty.inner.first ty.inner.last w before now after))
      (now_types : WordNow tree st earlier ty later now) where
    abbrev pub h : ℕ → ℕ
    h = fused ty.inner.first ty.inner.last

    abbrev pub next : Tree
    next = worded_tree tree ty.inner.first ty.inner.last w before now after

    abbrev pub by_word : ℕ → ℕ
    by_word = move ty.inner.first ty.inner.last w inner_order inner_place now

    word_silent : (types : List ColType) → AreWord ty.inner.first (AddsConstraint tree st ty now) types → All (λ t. All (λ r. r.test next t ≡ false) type_rules) types
    word_silent types (named t e kind at args) =
        subst (λ (l : List ColType). All (λ t. All (λ r. r.test next t ≡ false) type_rules) l) (sym e)
        (All-cons (λ t. All (λ r. r.test next t ≡ false) type_rules) t []
        (all_silent w is_new next t kind (ap (name_at next) at ∙ retyped.word_name_at tree before st after now ty.inner.first ty.inner.last w is parts inner_order inner_place.within)) (All-nil (λ t. All (λ r. r.test next t ≡ false) type_rules)))
    word_silent types (gone e why) = subst (λ (l : List ColType). All (λ t. All (λ r. r.test next t ≡ false) type_rules) l) (sym e) (All-nil (λ t. All (λ r. r.test next t ≡ false) type_rules))

    next_types : All (λ r. Left true by_word type_start (reports_on r next (column_types now)) (reports_on r tree (column_types st))) type_rules
    next_types = types_kept ty.inner.first ty.inner.last w inner_order inner_place now now_types.types now_types.is (word_silent now_types.types now_types.are)

    -- a tree of the same text has the same statement
    stmts_first : {x y : Stmt} {xs ys : List Stmt} → x ∷ xs ≡ y ∷ ys → x ≡ y
    stmts_first e = cc

    stmts_rest : {x y : Stmt} {xs ys : List Stmt} → x ∷ xs ≡ y ∷ ys → xs ≡ ys
    stmts_rest e = cc

    middle : (xs : List Stmt) (x y : Stmt) (us vs : List Stmt) → xs ++ x ∷ us ≡ xs ++ y ∷ vs → x ≡ y
    middle [] x y us vs e = stmts_first e
    middle (z ∷ xs) x y us vs e = middle xs x y us vs (stmts_rest e)

    same_now : (P : Stmt → Type 0) → Worded tree ty.inner.first ty.inner.last w before P after → P now
    same_now P x =
        subst P (middle (map (stmt_moved h) before) x.now now (map (stmt_moved h) after) (map (stmt_moved h) after) (ap (λ (t : Tree). t.stmts) (one_tree (worded_tree tree ty.inner.first ty.inner.last w before x.now after) next refl x.is now_is))) x.has

    -- ---- the three places of a type

    sides : (path : Option Span) (actions : List Action) → st.kind ≡ stmt.AlterTable → st.body ≡ body.Alter path actions → All (λ c. is_plain_detach c ≡ true → (c.first ≤ ty.inner.first) ⊎ (ty.inner.last + 1 ≤ c.first)) actions
    sides path actions kind has =
        let low = inner_place.low in
        All-weaker (Aside ty) (λ c. is_plain_detach c ≡ true → (c.first ≤ ty.inner.first) ⊎ (ty.inner.last + 1 ≤ c.first)) (λ c a plain. by c low (a plain)) actions
        (actions_aside tree before st after path actions earlier ty later is parts kind has (home action_types actions earlier ty later (sym (ap (λ (b : Body). body_types b) has) ∙ sym (altered_types st kind) ∙ cut)))
      where
        by : (c : Action) → ty.whole.first ≤ ty.inner.first → (c.first ≤ ty.whole.first) ⊎ (ty.inner.last < c.first) → (c.first ≤ ty.inner.first) ⊎ (ty.inner.last + 1 ≤ c.first)
        by c low (inl p) = inl (omega (arith, low, p))
        by c low (inr p) = inr (omega (arith, p))

    all_nodes : (path : Option Span) (actions : List Action) → st.kind ≡ stmt.AlterTable → st.body ≡ body.Alter path actions →
        All (retyped.Node tree before st after now ty.inner.first ty.inner.last w is parts inner_order inner_place.within) actions
    all_nodes path actions kind has = nodes ty.inner.first ty.inner.last w inner_order inner_place now path actions has (sides path actions kind has)

    -- an action in the place of one, of the same kind, word and first token
    abbrev OneNode : Action → Action → Type 0
    OneNode a b = NodeKept by_word is_plain_detach is_plain_detach (detaches.report tree) (detaches.report next) a b

    like_action : (a b : Action) → a.kind ≡ b.kind → a.word ≡ (action_moved h b).word → a.first ≡ h b.first → OneNode (action_moved h b) b → OneNode a b
    unfolding detaches.report
    like_action a b kind word first node = record {
      passed = λ p. node.passed (plain p);
      same = λ p. (let s = node.same (plain p) in record { code = refl; place = ap (λ (x : ℕ). (token_at next.toks x).start) first ∙ s.place });
    }
      where
        plain : is_plain_detach a ≡ true → is_plain_detach (action_moved h b) ≡ true
        plain p = sym (λ i. same_action (kind i) action.DetachPartition && is_none (word i)) ∙ p

    -- an action that adds a constraint detaches nothing
    constraint_node : (a b : Action) → a.kind ≡ action.AddConstraint → OneNode a b
    constraint_node a b kind = record { passed = λ p. absurd (none p); same = λ p. absurd (none p) }
      where
        other : action.AddConstraint ≡ action.DetachPartition → ⊥
        other e = cc

        none : is_plain_detach a ≡ true → ⊥
        none p = other (sym kind ∙ (is_plain a p).kind)

    by_action : (path : Option Span) (front : List Action) (b : Action) (back : List Action) (Is : Action → Type 0) → st.kind ≡ stmt.AlterTable → st.body ≡ body.Alter path (front ++ b ∷ back) →
        ((a : Action) → Is a → OneNode (action_moved h b) b → OneNode a b) → ActionNow h st path front Is back now → Like true by_word type_start tree next st now
    by_action path front b back Is kind has one act =
        let all = all_nodes path (front ++ b ∷ back) kind has in
        alter_like ty.inner.first ty.inner.last w inner_order inner_place now next_types path (front ++ b ∷ back) (map (action_moved h) front ++ act.action ∷ map (action_moved h) back) kind has act.is
        (retyped.actions_now tree before st after now ty.inner.first ty.inner.last w is parts inner_order inner_place.within front b act.action back all (one act.action act.has (node_of front all)))
      where
        node_of : (xs : List Action) → All (retyped.Node tree before st after now ty.inner.first ty.inner.last w is parts inner_order inner_place.within) (xs ++ b ∷ back) → OneNode (action_moved h b) b
        node_of [] k = All-head (retyped.Node tree before st after now ty.inner.first ty.inner.last w is parts inner_order inner_place.within) b back k
        node_of (x ∷ xs) k = node_of xs (All-tail (retyped.Node tree before st after now ty.inner.first ty.inner.last w is parts inner_order inner_place.within) x (xs ++ b ∷ back) k)

    retyped_one : (c : Column) (b a : Action) → IsRetyped tree c ty.inner.first (action_moved h b) a → OneNode (action_moved h b) b → OneNode a b
    retyped_one c b a (column e) node = subst (λ (x : Action). OneNode x b) (sym e) (like_action (retyped_action ty.inner.first (action_moved h b)) b refl refl refl node)
    retyped_one c b a (constraint i) node = constraint_node a b (ap (λ (x : Action). x.kind) i.is)

    next_like : Like true by_word type_start tree next st now
    next_like = by (has_type st earlier ty later cut)
      where
        by : HasType st ty → Like true by_word type_start tree next st now
        by (created head front c back kind has typed) =
            let e = same_now (λ x. x ≡ retyped_table h ty.inner.first st head front c back)
            (created_type_reads tree before st after head front c back ty w is parts kind has typed replaced name joins short) in
            table_like ty.inner.first ty.inner.last w inner_order inner_place now next_types head (front ++ elem.Column c ∷ back)
            (map (elem_moved h) front ++ elem.Column (retyped_column ty.inner.first (column_moved h c)) ∷ map (elem_moved h) back) kind has e
            (any_parts refers (elem_moved h) (refers_same h) front (elem.Column c) (elem.Column (retyped_column ty.inner.first (column_moved h c))) back (refers_same h (elem.Column c)))
        by (added path front b back c kind has p q) =
            by_action path front b back (IsRetyped tree c ty.inner.first (action_moved h b)) kind has (retyped_one c b)
            (same_now (ActionNow h st path front (IsRetyped tree c ty.inner.first (action_moved h b)) back)
            (added_type_reads tree before st after path front b back c ty w is parts kind has p q replaced name joins short))
        by (altered path front b back first p others kind has q r s) =
            by_action path front b back (λ x. x ≡ retyped_in h ty.inner.first b first p others) kind has
            (λ a e node. subst (λ (x : Action). OneNode x b) (sym e) (like_action (retyped_in h ty.inner.first b first p others) b refl refl refl node))
            (same_now (ActionNow h st path front (λ x. x ≡ retyped_in h ty.inner.first b first p others) back)
            (set_type_reads tree before st after path front b back first p others ty w is parts kind has q r s replaced name joins short))

    pub retyped_aligned : (assumed : Bool) → Aligned true by_word type_start assumed tree next
    retyped_aligned assumed = aligned ty.inner.first ty.inner.last w inner_order inner_place now assumed next_like
