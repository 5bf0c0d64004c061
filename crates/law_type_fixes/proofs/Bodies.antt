-- What holds of the column types of a table's list and of actions holds of those of a statement.
use Rattle.std.proofs.Common.{ℕ, suc, ◌-◌, ◌≤◌, Bool, true, false, List, [], ◌∷◌, ◌++◌, length, take, Option, Some, None, arith}
use Rattle.std.specs.Prelude.{if◌then◌else◌, is_some}
use Rattle.std.specs.List.{flat_map}
use Rattle.std.specs.Option.{option_and_then}
use Rattle.pass_data_type.specs.sql_keyword.declared.words.TheConstants.Keyword as keyword
use Rattle.pass_data_type.specs.sql_token.declared.terminal.Terminal.{Terminal}
use Rattle.pass_data_type.specs.sql_token.declared.token.Span.{Span}
use Rattle.pass_data_type.specs.sql_token.Depth.{span_of}
use Rattle.pass_data_type.specs.sql_token.Sound.{is_sound}
use Rattle.pass_data_type.specs.sql_token.Terminal.{is_semicolon}
use Rattle.pass_data_type.specs.sql_tree.declared.forms.BodyShape.{BodyShape}
use Rattle.pass_data_type.specs.sql_tree.declared.forms.BodyShape.TheVariants as shape
use Rattle.pass_data_type.specs.sql_tree.declared.kinds.StmtKind.{StmtKind}
use Rattle.pass_data_type.specs.sql_tree.declared.nodes.Action.{Action}
use Rattle.pass_data_type.specs.sql_tree.declared.nodes.Body.{Body}
use Rattle.pass_data_type.specs.sql_tree.declared.nodes.Body.TheVariants as body
use Rattle.pass_data_type.specs.sql_tree.declared.nodes.ColType.{ColType}
use Rattle.pass_data_type.specs.sql_tree.declared.nodes.Stmt.{Stmt}
use Rattle.pass_data_type.specs.sql_tree.Action.{actions_of}
use Rattle.pass_data_type.specs.sql_tree.Column.{domain_constraints, drops_on_commit, elements}
use Rattle.pass_data_type.specs.sql_tree.Forms.{State}
use Rattle.pass_data_type.specs.sql_tree.Groups.{inside_list}
use Rattle.pass_data_type.specs.sql_tree.Nodes.{element_types, action_types, types_in}
use Rattle.pass_data_type.specs.sql_tree.Statement.{final_kind, body_shape_of, body_by, kind_and_body, front_by, from_verb, form_from, form_of, last_of, without_semicolon, stmt_in, statement}
use Rattle.pass_data_type.specs.sql_tree.Tails.{after_flag, after_options, paths_from, reindex, reindex_body, reindex_object, target_symbol, whole_path}
use Rattle.pass_data_type.specs.sql_tree.Write.{targets, table_write}
use Rattle.law_edit_types.proofs.of_law_renumber.There.{IfThere, from_there, if_there}
use Rattle.law_edit_types.proofs.of_law_renumber.Ordered.{Numbered, numbered_le, numbered_lower, LeftOf, front_left, verb_left}
use Rattle.law_edit_types.proofs.of_law_renumber.NodeOrder.{take_numbered}
use Rattle.law_type_fixes.proofs.Walk.{Walks, table_walk, actions_walk}

module _ (T : ℕ → ℕ → List ColType → Type 0) (walk : Walks T) (lo hi : ℕ) where
  abbrev InBody : Body → Type 0
  InBody b = T lo hi (types_in b)

  with_actions : (path : Option Span) (o : Option (List Action)) → IfThere (λ xs. T lo hi (flat_map action_types xs)) o → IfThere InBody (option_and_then (λ actions. Some (body.Alter path actions)) o)
  with_actions path None h = tt
  with_actions path (Some actions) h = h

  some_body : {X : Type 0} (f : X → Body) → ((x : X) → InBody (f x)) → (o : Option X) → IfThere InBody (option_and_then (λ x. Some (f x)) o)
  some_body f h None = tt
  some_body f h (Some x) = h x

  two_body : {X Y : Type 0} (f : X → Y → Body) → ((x : X) (y : Y) → InBody (f x y)) → (o : Option X) (r : Option Y) → IfThere InBody (option_and_then (λ x. option_and_then (λ y. Some (f x y)) r) o)
  two_body f h None r = tt
  two_body f h (Some x) None = tt
  two_body f h (Some x) (Some y) = h x y

  table : (ts : List Terminal) → Numbered lo ts hi → T lo hi (flat_map element_types (elements ts) ++ [])
  table ts h = walk.both lo hi hi (flat_map element_types (elements ts)) [] (table_walk T walk lo hi ts h) (walk.none hi hi (omega arith))

  reindex_walk : (inside ts : List Terminal) → lo ≤ hi → IfThere InBody (reindex_object inside ts)
  unfolding reindex_object
  reindex_walk inside [] le = tt
  reindex_walk inside (t ∷ ts) le =
      two_body (λ found path. reindex_body inside t ts found path) (λ found path. walk.none lo hi le) (target_symbol t.symbol) (whole_path (after_flag keyword.CONCURRENTLY ts))

  body_walk : (sh : BodyShape) (kind : StmtKind) (x : State) (ts : List Terminal) → lo ≤ hi → Numbered lo x.left hi → IfThere InBody (body_by sh kind x ts)
  unfolding body_by reindex
  body_walk shape.Alter kind x ts le left = with_actions x.kept.path (actions_of kind x.left) (actions_walk T walk kind lo x.left hi left)
  body_walk shape.Table kind x ts le left =
      two_body (λ word path. body.Table x.kept.temp x.kept.guarded (drops_on_commit x.left) word path (elements x.left)) (λ word path. table x.left left) x.kept.word x.kept.path
  body_walk shape.Into kind x ts le left = some_body (λ path. body.Into path (targets ts)) (λ path. walk.none lo hi le) x.kept.path
  body_walk shape.Index kind x ts le left =
      two_body (λ word path. body.Index word x.kept.unique x.kept.concurrently x.kept.guarded x.kept.name path) (λ word path. walk.none lo hi le) x.kept.word x.kept.path
  body_walk shape.Drop kind x ts le left =
      two_body (λ (word : ℕ) (path : Span). body.Drop word (is_some x.kept.concurrently) x.kept.guarded (paths_from path.first path.last x.left)) (λ word path. walk.none lo hi le) x.kept.word x.kept.path
  body_walk shape.Reindex kind x ts le left = reindex_walk (inside_list x.left) (after_options x.left) le
  body_walk shape.Domain kind x ts le left = some_body (λ constraints. body.Domain constraints) (λ constraints. walk.none lo hi le) (domain_constraints x.left)
  body_walk shape.Made kind x ts le left = some_body (λ path. body.Made path x.kept.guarded) (λ path. walk.none lo hi le) x.kept.path
  body_walk shape.Write kind x ts le left = some_body (λ path. body.Write (table_write kind path x.left)) (λ path. walk.none lo hi le) x.kept.path
  body_walk _ kind x ts le left = walk.none lo hi le

  abbrev InForm : StmtKind × Body → Type 0
  InForm f = InBody f.1

  with_kind : (kind : StmtKind) (o : Option Body) → IfThere InBody o → IfThere InForm (option_and_then (λ b. Some (kind, b)) o)
  with_kind kind None h = tt
  with_kind kind (Some b) h = h

  told_walk : (ts : List Terminal) → lo ≤ hi → (f : StmtKind × State) → LeftOf lo hi f → IfThere InForm (kind_and_body ts f)
  unfolding kind_and_body
  told_walk ts le f left = with_kind (final_kind f.0 f.1) (body_by (body_shape_of f.0) f.0 f.1 ts) (body_walk (body_shape_of f.0) f.0 f.1 ts le left)

  form_from_walk : (ts : List Terminal) → Numbered lo ts hi → IfThere InForm (form_from ts)
  unfolding form_from
  form_from_walk [] h = walk.none lo hi h
  form_from_walk (t ∷ ts) h =
      from_there (LeftOf lo hi) InForm (kind_and_body ts) (told_walk ts (numbered_le lo (t ∷ ts) hi h)) (front_by t.symbol ts)
      (front_left lo hi t.symbol ts (numbered_lower lo (suc t.number) ts hi (omega (arith, h.0)) h.1))

  form_walk : (ts : List Terminal) → Numbered lo ts hi → IfThere InForm (form_of ts)
  unfolding form_of
  form_walk [] h = walk.none lo hi h
  form_walk (t ∷ ts) h = form_from_walk (from_verb (t ∷ ts)) (verb_left lo hi (t ∷ ts) h)

  without_numbered : (ts : List Terminal) → Numbered lo ts hi → Numbered lo (without_semicolon ts) hi
  without_numbered ts h = by (is_semicolon (last_of ts))
    where
      by : (b : Bool) → Numbered lo (if b then take (length ts - 1) ts else ts) hi
      by true = take_numbered (length ts - 1) lo ts hi h
      by false = h

  with_span : (span : Span) (o : Option (StmtKind × Body)) → IfThere InForm o → IfThere (λ (s : Stmt). InBody s.body) (option_and_then (λ f. Some (stmt_in span f)) o)
  with_span span None h = tt
  with_span span (Some f) h = h

  pub statement_walk : (ts : List Terminal) → Numbered lo ts hi → IfThere (λ (s : Stmt). InBody s.body) (statement ts)
  unfolding statement
  statement_walk ts h =
      if_there (λ (s : Stmt). InBody s.body) (is_sound ts) _ None
      (with_span (span_of ts) (form_of (without_semicolon ts)) (form_walk (without_semicolon ts) (without_numbered ts h))) tt
