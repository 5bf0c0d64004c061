-- The column types of a statement come after its first token.
use Rattle.std.proofs.Common.{◌≡◌, ℕ, suc, ◌+◌, ◌-◌, ◌<◌, ◌≤◌, Bool, true, false, List, [], ◌∷◌, ◌++◌, length, take, Option, Some, None, Ok, arith, sym, refl, ap, ◌∙◌, subst}
use Rattle.std.specs.Prelude.{if◌then◌else◌, is_some}
use Rattle.std.specs.List.{flat_map}
use Rattle.std.specs.Option.{option_and_then}
use Rattle.law_answers.specs.sql_keyword.declared.words.TheConstants.Keyword as keyword
use Rattle.law_answers.specs.sql_token.declared.terminal.Terminal.{Terminal}
use Rattle.law_answers.specs.sql_token.declared.token.Span.{Span}
use Rattle.law_answers.specs.sql_token.Depth.{span_of}
use Rattle.law_answers.specs.sql_token.Sound.{is_sound}
use Rattle.law_answers.specs.sql_token.Terminal.{is_semicolon}
use Rattle.law_answers.specs.sql_tree.declared.forms.BodyShape.{BodyShape}
use Rattle.law_answers.specs.sql_tree.declared.forms.BodyShape.TheVariants as shape
use Rattle.law_answers.specs.sql_tree.declared.kinds.StmtKind.{StmtKind}
use Rattle.law_answers.specs.sql_tree.declared.nodes.Action.{Action}
use Rattle.law_answers.specs.sql_tree.declared.nodes.Body.{Body}
use Rattle.law_answers.specs.sql_tree.declared.nodes.Body.TheVariants as body
use Rattle.law_answers.specs.sql_tree.declared.nodes.ColType.{ColType}
use Rattle.law_answers.specs.sql_tree.declared.nodes.Stmt.{Stmt}
use Rattle.law_answers.specs.sql_tree.Action.{actions_of}
use Rattle.law_answers.specs.sql_tree.Column.{domain_constraints, drops_on_commit, elements}
use Rattle.law_answers.specs.sql_tree.Forms.{State}
use Rattle.law_answers.specs.sql_tree.Groups.{inside_list}
use Rattle.law_answers.specs.sql_tree.Nodes.{element_types, action_types, types_in}
use Rattle.law_answers.specs.sql_tree.Statement.{final_kind, body_shape_of, body_by, kind_and_body, front_by, from_verb, form_from, form_of, last_of, without_semicolon, stmt_in, statement}
use Rattle.law_answers.specs.sql_tree.Tails.{after_flag, after_options, paths_from, reindex, reindex_body, reindex_object, target_symbol, whole_path}
use Rattle.law_answers.specs.sql_tree.Write.{targets, table_write}
use Rattle.law_answers.proofs.of_law_renumber.There.{IfThere, from_there, if_there}
use Rattle.law_answers.proofs.of_law_renumber.Ordered.{Numbered, numbered_le, numbered_lower, LeftOf, front_left, verb_left}
use Rattle.law_answers.proofs.of_law_renumber.NodeOrder.{take_numbered}
use Rattle.law_answers.proofs.of_law_type_fixes.Walk.{Walks, table_walk, actions_walk}
use Rattle.law_answers.specs.sql_token.Depth.{statements}
use Rattle.law_answers.specs.sql_token.Terminal.{terminals}
use Rattle.law_answers.specs.sql_tree.Statement.{Tree, IsTree}
use Rattle.law_answers.specs.lint_node.ColumnTypes.{column_types}
use Rattle.law_answers.proofs.of_law_renumber.Ordered.{numbered_raise}
use Rattle.law_answers.specs.law_edit_cuts.Exchanges.{joined}
use Rattle.law_answers.proofs.of_law_edit_inserts.Statements.{of_read, statements_join, joined_append, stmt_at_place}
use Rattle.law_answers.proofs.of_law_type_fixes.ColumnTypes.{types_ranged}
use Rattle.law_answers.proofs.of_law_type_fixes.Ranged.{Ranged, walk_ranged, ranged_le, ranged_parts}
use Rattle.law_answers.proofs.of_law_type_fixes.TypesApart.{all_numbered, numbered_parts}

module _ (T : ℕ → ℕ → List ColType → Type 0) (walk : Walks T) (lo hi : ℕ) where
  abbrev InBody : Body → Type 0
  InBody b = T lo hi (types_in b)

  with_actions : (path : Option Span) (o : Option (List Action)) → IfThere (λ xs. T lo hi (flat_map action_types xs)) o → IfThere InBody (option_and_then (λ actions. Some (body.Alter path actions)) o)
  with_actions path None h = tt
  with_actions path (Some actions) h = h

  some_body : {X : Type 0} (f : X → Body) → ((x : X) → InBody (f x)) → (o : Option X) → IfThere InBody (option_and_then (λ x. Some (f x)) o)
  some_body f h None = tt
  some_body f h (Some x) = h x

  two_body : {X Y : Type 0} (f : X → Y → Body) → ((x : X) (y : Y) → InBody (f x y)) → (o : Option X) (r : Option Y) → IfThere InBody (option_and_then (λ x. option_and_then (λ y. Some (f x y)) r) o)
  two_body f h None r = tt
  two_body f h (Some x) None = tt
  two_body f h (Some x) (Some y) = h x y

  table : (ts : List Terminal) → Numbered lo ts hi → T lo hi (flat_map element_types (elements ts) ++ [])
  table ts h = walk.both lo hi hi (flat_map element_types (elements ts)) [] (table_walk T walk lo hi ts h) (walk.none hi hi (omega arith))

  reindex_walk : (inside ts : List Terminal) → lo ≤ hi → IfThere InBody (reindex_object inside ts)
  unfolding reindex_object
  reindex_walk inside [] le = tt
  reindex_walk inside (t ∷ ts) le =
      two_body (λ found path. reindex_body inside t ts found path) (λ found path. walk.none lo hi le) (target_symbol t.symbol) (whole_path (after_flag keyword.CONCURRENTLY ts))

  body_walk : (sh : BodyShape) (kind : StmtKind) (x : State) (ts : List Terminal) → lo ≤ hi → Numbered lo x.left hi → IfThere InBody (body_by sh kind x ts)
  unfolding body_by reindex
  body_walk shape.Alter kind x ts le left = with_actions x.kept.path (actions_of kind x.left) (actions_walk T walk kind lo x.left hi left)
  body_walk shape.Table kind x ts le left =
      two_body (λ word path. body.Table x.kept.temp x.kept.guarded (drops_on_commit x.left) word path (elements x.left)) (λ word path. table x.left left) x.kept.word x.kept.path
  body_walk shape.Into kind x ts le left = some_body (λ path. body.Into path (targets ts)) (λ path. walk.none lo hi le) x.kept.path
  body_walk shape.Index kind x ts le left =
      two_body (λ word path. body.Index word x.kept.unique x.kept.concurrently x.kept.guarded x.kept.name path) (λ word path. walk.none lo hi le) x.kept.word x.kept.path
  body_walk shape.Drop kind x ts le left =
      two_body (λ (word : ℕ) (path : Span). body.Drop word (is_some x.kept.concurrently) x.kept.guarded (paths_from path.first path.last x.left)) (λ word path. walk.none lo hi le) x.kept.word x.kept.path
  body_walk shape.Reindex kind x ts le left = reindex_walk (inside_list x.left) (after_options x.left) le
  body_walk shape.Domain kind x ts le left = some_body (λ constraints. body.Domain constraints) (λ constraints. walk.none lo hi le) (domain_constraints x.left)
  body_walk shape.Made kind x ts le left = some_body (λ path. body.Made path x.kept.guarded) (λ path. walk.none lo hi le) x.kept.path
  body_walk shape.Write kind x ts le left = some_body (λ path. body.Write (table_write kind path x.left)) (λ path. walk.none lo hi le) x.kept.path
  body_walk _ kind x ts le left = walk.none lo hi le

  abbrev InForm : StmtKind × Body → Type 0
  InForm f = InBody f.1

  with_kind : (kind : StmtKind) (o : Option Body) → IfThere InBody o → IfThere InForm (option_and_then (λ b. Some (kind, b)) o)
  with_kind kind None h = tt
  with_kind kind (Some b) h = h

  told_walk : (ts : List Terminal) → lo ≤ hi → (f : StmtKind × State) → LeftOf lo hi f → IfThere InForm (kind_and_body ts f)
  unfolding kind_and_body
  told_walk ts le f left = with_kind (final_kind f.0 f.1) (body_by (body_shape_of f.0) f.0 f.1 ts) (body_walk (body_shape_of f.0) f.0 f.1 ts le left)

-- ---- after the first token

module _ (hi : ℕ) (some : 1 ≤ hi) where
  abbrev Late : StmtKind × Body → Type 0
  Late f = Ranged 1 hi (types_in f.1)

  late_from : (ts : List Terminal) → Numbered 0 ts hi → IfThere Late (form_from ts)
  unfolding form_from
  late_from [] h = walk_ranged.none 1 hi some
  late_from (t ∷ ts) h =
      from_there (LeftOf 1 hi) Late (kind_and_body ts) (told_walk Ranged walk_ranged 1 hi ts some) (front_by t.symbol ts)
      (front_left 1 hi t.symbol ts (numbered_lower 1 (suc t.number) ts hi (omega arith) h.1))

  late_form : (ts : List Terminal) → Numbered 0 ts hi → IfThere Late (form_of ts)
  unfolding form_of
  late_form [] h = walk_ranged.none 1 hi some
  late_form (t ∷ ts) h = late_from (from_verb (t ∷ ts)) (verb_left 0 hi (t ∷ ts) h)

  without_numbered : (ts : List Terminal) → Numbered 0 ts hi → Numbered 0 (without_semicolon ts) hi
  without_numbered ts h = by (is_semicolon (last_of ts))
    where
      by : (b : Bool) → Numbered 0 (if b then take (length ts - 1) ts else ts) hi
      by true = take_numbered (length ts - 1) 0 ts hi h
      by false = h

  with_span : (span : Span) (o : Option (StmtKind × Body)) → IfThere Late o → IfThere (λ (s : Stmt). Ranged 1 hi (types_in s.body)) (option_and_then (λ f. Some (stmt_in span f)) o)
  with_span span None h = tt
  with_span span (Some f) h = h

  late_types : (ts : List Terminal) → Numbered 0 ts hi → IfThere (λ (s : Stmt). Ranged 1 hi (types_in s.body)) (statement ts)
  unfolding statement
  late_types ts h =
      if_there (λ (s : Stmt). Ranged 1 hi (types_in s.body)) (is_sound ts) _ None
      (with_span (span_of ts) (form_of (without_semicolon ts)) (late_form (without_semicolon ts) (without_numbered ts h))) tt

-- ---- no column type begins a text

pub type_behind : (tree : Tree) (before : List Stmt) (st : Stmt) (after : List Stmt) (earlier : List ColType) (ty : ColType) (later : List ColType) →
    IsTree tree → tree.stmts ≡ before ++ st ∷ after → column_types st ≡ earlier ++ ty ∷ later → 1 ≤ length tree.toks → 0 < ty.whole.first
type_behind tree before st after earlier ty later is parts cut some =
    let ts = terminals tree.text tree.toks in
    let hi = length tree.toks in
    let place = stmt_at_place (statements ts) before st after (of_read tree.text tree.toks ts tree.stmts refl is.read ∙ ap (λ (x : List Stmt). Ok x) parts) in
    let whole : ts ≡ joined place.earlier ++ (place.here ++ joined place.later) =
    sym (statements_join ts) ∙ ap joined place.parts ∙ joined_append place.earlier (place.here ∷ place.later) in
    let numbers = subst (λ (x : List Terminal). Numbered 0 x (0 + hi)) whole (all_numbered tree.text tree.toks) in
    let a = numbered_parts 0 (0 + hi) (joined place.earlier) (place.here ++ joined place.later) numbers in
    let b = numbered_parts a.mid (0 + hi) place.here (joined place.later) a.right in
    let top = numbered_le b.mid (joined place.later) (0 + hi) b.right in
    let here = numbered_raise 0 place.here b.mid hi (omega (arith, top)) (numbered_lower 0 a.mid place.here b.mid (omega arith) b.left) in
    let late : Ranged 1 hi (types_in st.body) =
    subst (λ (x : Option Stmt). IfThere (λ (s : Stmt). Ranged 1 hi (types_in s.body)) x) place.here_is (late_types hi some place.here here) in
    let typed = ranged_parts 1 hi earlier (ty ∷ later) (subst (λ (x : List ColType). Ranged 1 hi x) cut (types_ranged 1 hi st late)) in
    let first = typed.right.1.0.low in
    let le = ranged_le 1 typed.mid earlier typed.left in
    omega (arith, first, le)
