-- The lists of SET clauses of a statement begin at tokens that ascend, and so do the parts of each.
use Rattle.std.proofs.Common.{◌≤◌, ℕ, suc, ◌+◌, ◌-◌, ◌≡◌, Bool, true, false, Option, Some, None, List, [], ◌∷◌, ◌++◌, length, drop, map, take, refl, sym, subst, inl, inr, arith}
use Rattle.std.proofs.lemmas.Bool.{cases_lt}
use Rattle.std.proofs.lemmas.List.{get_or_past}
use Rattle.std.proofs.lemmas.List.Elements.{All-cons, All-nil}
use Rattle.std.specs.List.{filter_map, flat_map}
use Rattle.std.specs.Option.{option_and_then}
use Rattle.std.specs.Prelude.{All, if◌then◌else◌, is_some}
use Rattle.lint_pass.specs.sql_keyword.declared.words.TheConstants.Keyword as keyword
use Rattle.sql_token.specs.declared.terminal.Terminal.{Terminal}
use Rattle.sql_token.specs.Depth.{span_of}
use Rattle.sql_token.specs.Sound.{is_sound}
use Rattle.sql_token.specs.Terminal.{is_semicolon}
use Rattle.lint_pass.specs.sql_tree.declared.forms.BodyShape.{BodyShape}
use Rattle.lint_pass.specs.sql_tree.declared.forms.BodyShape.TheVariants as shape
use Rattle.lint_pass.specs.sql_tree.declared.kinds.StmtKind.{StmtKind}
use Rattle.lint_pass.specs.sql_tree.declared.kinds.StmtKind.TheVariants as stmt
use Rattle.lint_pass.specs.sql_tree.declared.nodes.Body.{Body}
use Rattle.lint_pass.specs.sql_tree.declared.nodes.Body.TheVariants as body
use Rattle.lint_pass.specs.sql_tree.declared.nodes.SetPart.{SetPart}
use Rattle.lint_pass.specs.sql_tree.declared.nodes.Stmt.{Stmt}
use Rattle.lint_pass.specs.sql_tree.declared.nodes.Target.{Target}
use Rattle.lint_pass.specs.sql_tree.Action.{actions_of}
use Rattle.lint_pass.specs.sql_tree.Column.{domain_constraints, drops_on_commit, elements}
use Rattle.lint_pass.specs.sql_tree.Forms.{State}
use Rattle.lint_pass.specs.sql_tree.Groups.{inside_list}
use Rattle.lint_pass.specs.sql_tree.Split.{Test, before, clause_end, comma, do_update_set, from_mark, has, merge_clause_end, split, then_update_set, until, word}
use Rattle.lint_pass.specs.sql_tree.Statement.{IsTree, Tree, body_by, body_shape_of, final_kind, form_from, form_of, front_by, from_verb, last_of, statement, stmt_in, kind_and_body, without_semicolon}
use Rattle.lint_pass.specs.sql_tree.Tails.{after_flag, after_options, paths_from, reindex, reindex_body, reindex_object, target_symbol, whole_path}
use Rattle.lint_pass.specs.sql_tree.Write.{assigned, others, set_clause, set_clauses, set_part, set_part_of, sets_of, table_write, target, targets, update_clause}
use Rattle.law_renumber.proofs.NodeOrder.{Sliced, split_sliced, take_numbered, tree_up}
use Rattle.law_renumber.proofs.Ordered.{LeftOf, Numbered, Up, drop_left, front_left, numbered_le, numbered_lower, up-append, up_le, up_lower, verb_left}
use Rattle.law_renumber.proofs.There.{IfThere, from_there, if_there}
use Rattle.lint_pass.specs.lint_transaction.Transaction.{no_stmt, stmt_at}
use Rattle.pass_name.specs.SetOrder.{sets_in, part_starts, set_starts, InBody, InForm, InStmt, HaveOrder}

-- ---- a clause

part_first : (ts left : List Terminal) (o : Option Target) (t : Terminal) → (set_part_of (t ∷ ts) left o).first ≡ t.number
part_first ts left (Some x) t = refl
part_first ts left None t = refl

parts_up : (lo : ℕ) (ps : List (List Terminal)) (hi : ℕ) → Sliced lo ps hi → Up lo (part_starts (filter_map set_part ps)) hi
unfolding set_part
parts_up lo [] hi h = h
parts_up lo ([] ∷ ps) hi h = up_lower lo h.0 (part_starts (filter_map set_part ps)) hi (numbered_le lo [] h.0 h.1.0) (parts_up h.0 ps hi h.1.1)
parts_up lo ((t ∷ ts) ∷ ps) hi h =
    let left : List Terminal = assigned (t ∷ ts) in
    let later : Up (suc t.number) (part_starts (filter_map set_part ps)) hi =
    up_lower (suc t.number) h.0 (part_starts (filter_map set_part ps)) hi (numbered_le (suc t.number) ts h.0 h.1.0.1) (parts_up h.0 ps hi h.1.1)
    in
    subst (λ (n : ℕ). Up lo (n ∷ part_starts (filter_map set_part ps)) hi) (sym (part_first ts left (target left) t)) (h.1.0.0, later)

clause_up : (end : Test) (lo : ℕ) (ts : List Terminal) (hi : ℕ) → Numbered lo ts hi → Up lo (part_starts (set_clause end ts)) hi
unfolding set_clause split
clause_up end lo ts hi h = parts_up lo (split comma (until end ts)) hi (split_sliced comma None 0 0 lo (until end ts) hi (take_numbered (before end ts) lo ts hi h))

clauses_up : (end : Test) (lo : ℕ) (ps : List (List Terminal)) (hi : ℕ) → Sliced lo ps hi → Up lo (flat_map part_starts (map (λ part. set_clause end (drop 2 part)) ps)) hi
clauses_up end lo [] hi h = h
clauses_up end lo (p ∷ ps) hi h =
    up-append lo (part_starts (set_clause end (drop 2 p))) h.0 (flat_map part_starts (map (λ part. set_clause end (drop 2 part)) ps)) hi
    (clause_up end lo (drop 2 p) h.0 (drop_left lo h.0 2 p h.1.0)) (clauses_up end h.0 ps hi h.1.1)

sliced_lower : (low lo : ℕ) (ps : List (List Terminal)) (hi : ℕ) → low ≤ lo → Sliced lo ps hi → Sliced low ps hi
sliced_lower low lo [] hi le h = omega (arith, le, h)
sliced_lower low lo (p ∷ ps) hi le h = (h.0, (numbered_lower low lo p h.0 le h.1.0, h.1.1))

others_sliced : (lo : ℕ) (ps : List (List Terminal)) (hi : ℕ) → Sliced lo ps hi → Sliced lo (others ps) hi
others_sliced lo [] hi h = h
others_sliced lo (p ∷ ps) hi h = sliced_lower lo h.0 ps hi (numbered_le lo p h.0 h.1.0) h.1.1

several_up : (mark end : Test) (lo : ℕ) (tail : List Terminal) (hi : ℕ) → Numbered lo tail hi → Up lo (flat_map part_starts (set_clauses mark end tail)) hi
unfolding set_clauses split
several_up mark end lo tail hi h = clauses_up end lo (others (split mark tail)) hi (others_sliced lo (split mark tail) hi (split_sliced mark None 0 0 lo tail hi h))

one_up : (b : Bool) (clause : List SetPart) (lo hi : ℕ) → lo ≤ hi → Up lo (part_starts clause) hi → Up lo (flat_map part_starts (if b then clause ∷ [] else [])) hi
one_up true clause lo hi le h = up-append lo (part_starts clause) hi [] hi h (omega arith)
one_up false clause lo hi le h = le

update_up : (lo : ℕ) (tail : List Terminal) (hi : ℕ) → Numbered lo tail hi → Up lo (flat_map part_starts (update_clause tail)) hi
unfolding update_clause
update_up lo tail hi h =
    let rest : List Terminal = from_mark (word keyword.SET) tail in
    one_up (has (word keyword.SET) tail) (set_clause clause_end (drop 1 rest)) lo hi (numbered_le lo tail hi h)
    (clause_up clause_end lo (drop 1 rest) hi (drop_left lo hi 1 rest (drop_left lo hi (before (word keyword.SET) tail) tail h)))

sets_up : (kind : StmtKind) (lo : ℕ) (tail : List Terminal) (hi : ℕ) → Numbered lo tail hi → Up lo (flat_map part_starts (sets_of kind tail)) hi
unfolding sets_of
sets_up stmt.Update lo tail hi h = update_up lo tail hi h
sets_up stmt.Insert lo tail hi h = several_up do_update_set clause_end lo tail hi h
sets_up stmt.Merge lo tail hi h = several_up then_update_set merge_clause_end lo tail hi h
sets_up kind lo tail hi h = numbered_le lo tail hi h

-- ---- a statement

module _ (lo hi : ℕ) where
  some_body : {X : Type 0} (f : X → Body) → ((x : X) → InBody lo hi (f x)) → (o : Option X) → IfThere (InBody lo hi) (option_and_then (λ x. Some (f x)) o)
  some_body f h None = tt
  some_body f h (Some x) = h x

  two_body : {X Y : Type 0} (f : X → Y → Body) → ((x : X) (y : Y) → InBody lo hi (f x y)) → (o : Option X) (r : Option Y) → IfThere (InBody lo hi) (option_and_then (λ x. option_and_then (λ y. Some (f x y)) r) o)
  two_body f h None r = tt
  two_body f h (Some x) None = tt
  two_body f h (Some x) (Some y) = h x y

  reindex_up : (inside ts : List Terminal) → lo ≤ hi → IfThere (InBody lo hi) (reindex_object inside ts)
  unfolding reindex_object
  reindex_up inside [] le = tt
  reindex_up inside (t ∷ ts) le =
      two_body (λ found path. reindex_body inside t ts found path) (λ found path. le) (target_symbol t.symbol) (whole_path (after_flag keyword.CONCURRENTLY ts))

  body_up : (sh : BodyShape) (kind : StmtKind) (x : State) (ts : List Terminal) → Numbered lo x.left hi → lo ≤ hi → IfThere (InBody lo hi) (body_by sh kind x ts)
  unfolding body_by reindex table_write
  body_up shape.Write kind x ts left le = some_body (λ path. body.Write (table_write kind path x.left)) (λ path. sets_up kind lo x.left hi left) x.kept.path
  body_up shape.Alter kind x ts left le = some_body (λ actions. body.Alter x.kept.path actions) (λ actions. le) (actions_of kind x.left)
  body_up shape.Table kind x ts left le =
      two_body (λ word path. body.Table x.kept.temp x.kept.guarded (drops_on_commit x.left) word path (elements x.left)) (λ word path. le) x.kept.word x.kept.path
  body_up shape.Into kind x ts left le = some_body (λ path. body.Into path (targets ts)) (λ path. le) x.kept.path
  body_up shape.Index kind x ts left le =
      two_body (λ word path. body.Index word x.kept.unique x.kept.concurrently x.kept.guarded x.kept.name path) (λ word path. le) x.kept.word x.kept.path
  body_up shape.Drop kind x ts left le =
      two_body (λ word path. body.Drop word (is_some x.kept.concurrently) x.kept.guarded (paths_from path.first path.last x.left)) (λ word path. le) x.kept.word x.kept.path
  body_up shape.Reindex kind x ts left le = reindex_up (inside_list x.left) (after_options x.left) le
  body_up shape.Domain kind x ts left le = some_body (λ constraints. body.Domain constraints) (λ constraints. le) (domain_constraints x.left)
  body_up shape.Made kind x ts left le = some_body (λ path. body.Made path x.kept.guarded) (λ path. le) x.kept.path
  body_up _ kind x ts left le = le

  with_kind : (kind : StmtKind) (o : Option Body) → IfThere (InBody lo hi) o → IfThere (InForm lo hi) (option_and_then (λ b. Some (kind, b)) o)
  with_kind kind None h = tt
  with_kind kind (Some b) h = h

  state_up : (ts : List Terminal) → lo ≤ hi → (f : StmtKind × State) → LeftOf lo hi f → IfThere (InForm lo hi) (kind_and_body ts f)
  unfolding kind_and_body
  state_up ts le f left = with_kind (final_kind f.0 f.1) (body_by (body_shape_of f.0) f.0 f.1 ts) (body_up (body_shape_of f.0) f.0 f.1 ts left le)

  form_from_up : (ts : List Terminal) → Numbered lo ts hi → IfThere (InForm lo hi) (form_from ts)
  unfolding form_from
  form_from_up [] h = h
  form_from_up (t ∷ ts) h =
      from_there (LeftOf lo hi) (InForm lo hi) (kind_and_body ts) (state_up ts (numbered_le lo (t ∷ ts) hi h)) (front_by t.symbol ts)
      (front_left lo hi t.symbol ts (numbered_lower lo (suc t.number) ts hi (omega (arith, h.0)) h.1))

  form_up : (ts : List Terminal) → Numbered lo ts hi → IfThere (InForm lo hi) (form_of ts)
  unfolding form_of
  form_up [] h = h
  form_up (t ∷ ts) h = form_from_up (from_verb (t ∷ ts)) (verb_left lo hi (t ∷ ts) h)

  with_span : (ts : List Terminal) (o : Option (StmtKind × Body)) → IfThere (InForm lo hi) o → IfThere (InStmt lo hi) (option_and_then (λ f. Some (stmt_in (span_of ts) f)) o)
  with_span ts None h = tt
  with_span ts (Some f) h = h

  without_numbered : (b : Bool) (ts : List Terminal) → Numbered lo ts hi → Numbered lo (if b then take (length ts - 1) ts else ts) hi
  without_numbered true ts h = take_numbered (length ts - 1) lo ts hi h
  without_numbered false ts h = h

  statement_up : (ts : List Terminal) → Numbered lo ts hi → IfThere (InStmt lo hi) (statement ts)
  unfolding statement
  statement_up ts h =
      if_there (InStmt lo hi) (is_sound ts) _ None
      (with_span ts (form_of (without_semicolon ts)) (form_up (without_semicolon ts) (without_numbered (is_semicolon (last_of ts)) ts h))) tt

-- ---- a tree

up_left : (lo : ℕ) (xs ys : List ℕ) (hi : ℕ) → Up lo (xs ++ ys) hi → Up lo xs hi
up_left lo [] ys hi h = up_le lo ys hi h
up_left lo (x ∷ xs) ys hi h = (h.0, up_left (suc x) xs ys hi h.1)

up_right : (lo : ℕ) (xs ys : List ℕ) (hi : ℕ) → Up lo (xs ++ ys) hi → Up lo ys hi
up_right lo [] ys hi h = h
up_right lo (x ∷ xs) ys hi h = up_lower lo (suc x) ys hi (omega (arith, h.0)) (up_right (suc x) xs ys hi h.1)

-- where joined lists ascend, each of them does
each_up : {X : Type 0} (f : X → List ℕ) (lo : ℕ) (xs : List X) (hi : ℕ) → Up lo (flat_map f xs) hi → All (λ x. Up lo (f x) hi) xs
each_up f lo [] hi h = All-nil (λ x. Up lo (f x) hi)
each_up f lo (x ∷ xs) hi h =
    All-cons (λ x. Up lo (f x) hi) x xs (up_left lo (f x) (flat_map f xs) hi h) (each_up f lo xs hi (up_right lo (f x) (flat_map f xs) hi h))

pub sets_ascend : (tree : Tree) → IsTree tree → (i : ℕ) → HaveOrder tree (stmt_at tree i)
sets_ascend tree is i =
    elim (cases_lt i (length tree.stmts)) [
      | inl lt ↦
          let count : ℕ = length tree.toks in
          let end : 0 + count ≡ count = omega arith in
          let whole : Up 0 (flat_map (λ (s : Stmt). set_starts s.body) tree.stmts) count =
          subst (λ (n : ℕ). Up 0 (flat_map (λ (s : Stmt). set_starts s.body) tree.stmts) n) end (tree_up (λ s. set_starts s.body) (λ lo t ts hi h. statement_up lo hi (t ∷ ts) h) tree is)
          in
          let all = each_up (λ (s : Stmt). set_starts s.body) 0 tree.stmts count whole in
          each_up part_starts 0 (sets_in (stmt_at tree i).body) count (all i no_stmt lt)
      | inr past ↦
          subst (λ (s : Stmt). HaveOrder tree s) (sym (get_or_past tree.stmts i no_stmt past)) (All-nil (λ (parts : List SetPart). Up 0 (part_starts parts) (length tree.toks)))
    ]
