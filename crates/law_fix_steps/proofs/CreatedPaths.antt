-- The path of a table that is created comes before the types of its columns.
use Rattle.std.proofs.Common.{◌≡◌, ℕ, suc, ◌-◌, ◌<◌, ◌≤◌, Bool, true, false, cond, List, [], ◌∷◌, ◌++◌, map, take, sym, refl, ap, ◌∙◌, subst, arith, Option, Some, None}
use Rattle.std.specs.List.{flat_map}
use Rattle.std.specs.Option.{option_map, option_to_list}
use Rattle.law_type_fixes.specs.sql_keyword.declared.words.TheConstants.Keyword as keyword
use Rattle.law_type_fixes.specs.sql_token.declared.terminal.Terminal.{Terminal}
use Rattle.law_type_fixes.specs.sql_token.declared.token.Span.{Span}
use Rattle.law_type_fixes.specs.sql_token.Depth.{has_keyword}
use Rattle.law_type_fixes.specs.sql_token.declared.terminal.Symbol.{Symbol}
use Rattle.law_type_fixes.specs.sql_token.declared.terminal.Symbol.TheVariants as s
use Rattle.law_type_fixes.specs.sql_token.Terminal.{is_keyword, is_semicolon, is_semicolon_symbol}
use Rattle.law_type_fixes.specs.sql_tree.declared.kinds.StmtKind.{StmtKind}
use Rattle.law_type_fixes.specs.sql_tree.declared.kinds.StmtKind.TheVariants as stmt
use Rattle.law_type_fixes.specs.sql_tree.declared.nodes.Body.{Body}
use Rattle.law_type_fixes.specs.sql_tree.declared.nodes.Body.TheVariants as body
use Rattle.law_type_fixes.specs.sql_tree.declared.nodes.ColType.{ColType}
use Rattle.law_type_fixes.specs.sql_tree.declared.nodes.Elem.{Elem}
use Rattle.law_type_fixes.specs.sql_tree.declared.nodes.Elem.TheVariants as elem
use Rattle.law_type_fixes.specs.sql_tree.declared.nodes.Stmt.{Stmt}
use Rattle.law_type_fixes.specs.sql_tree.Column.{element, elements, listed, type_in}
use Rattle.law_type_fixes.specs.sql_tree.ColumnType.{type_len}
use Rattle.law_type_fixes.specs.sql_tree.Groups.{inside_list, is_empty}
use Rattle.law_type_fixes.specs.sql_tree.Nodes as node
use Rattle.law_type_fixes.specs.sql_tree.Nodes.{elements_in}
use Rattle.law_type_fixes.specs.sql_tree.Split.{begins_list, closing, comma, is_open_round_symbol, split}
use Rattle.law_type_fixes.specs.sql_tree.Statement.{Tree, IsTree, form_of, without_semicolon}
use Rattle.law_type_fixes.specs.law_renumber.Moved.{form_moved, span_moved}
use Rattle.law_type_fixes.specs.law_renumber.Renumber.{renumber}
use Rattle.law_type_fixes.proofs.of_law_renumber.ElementOrder.{element_is}
use Rattle.law_type_fixes.proofs.of_law_renumber.NodeOrder.{Sliced, fixed, split_sliced, take_numbered}
use Rattle.law_type_fixes.proofs.of_law_renumber.Ordered.{Numbered, numbered_le, numbered_lower}
use Rattle.law_type_fixes.proofs.of_law_renumber.Seen.{numbers}
use Rattle.law_type_fixes.proofs.of_law_renumber.Statements.{form_renumbers, numbers_kept}
use Rattle.law_type_fixes.specs.law_renumber.Options.{FormKept}
use Rattle.law_type_fixes.specs.law_edit_inserts.Apart.{outside}
use Rattle.law_type_fixes.proofs.of_law_edit_inserts.Apart.{stays_within}
use Rattle.law_type_fixes.proofs.of_law_edit_inserts.TakenConcurrently.{bare_one}
use Rattle.law_type_fixes.specs.law_edit_types.Created.{TableHead, table_of}
use Rattle.law_type_fixes.proofs.of_law_edit_types.Created.{begun, round_break}
use Rattle.law_type_fixes.proofs.of_law_edit_types.CreateFronts.{create_table_shows}
use Rattle.law_type_fixes.specs.lint_node.ColumnTypes.{column_types, element_type, element_types}
use Rattle.law_type_fixes.proofs.Inners.{made_types, none_of}
use Rattle.law_type_fixes.proofs.Ranged.{Ranged, ranged_le, ranged_parts, walk_ranged}
use Rattle.law_type_fixes.proofs.TypesApart.{numbered_parts}
use Rattle.law_type_fixes.proofs.of_law_edit_inserts.Apart.{stays}
use Rattle.law_fix_steps.proofs.Ascending.{ascends, numbered_one}

-- ---- the types of elements

type_in_ranged : (lo : ℕ) (ts : List Terminal) (hi : ℕ) → Numbered lo ts hi → Ranged lo hi (option_to_list (type_in ts))
type_in_ranged lo ts hi h = walk_ranged.one lo (take (type_len ts) ts) hi (take_numbered (type_len ts) lo ts hi h)

element_ranged : (lo : ℕ) (ts : List Terminal) (hi : ℕ) → Numbered lo ts hi → Ranged lo hi (node.element_types (element ts))
unfolding element
element_ranged lo [] hi h = walk_ranged.none lo hi h
element_ranged lo (t ∷ ts) hi h =
    let no : Ranged lo hi [] = numbered_le lo (t ∷ ts) hi h in
    element_is (λ e. Ranged lo hi (node.element_types e)) no no t ts (λ c is. no)
    (λ constraints. type_in_ranged lo ts hi (numbered_lower lo (suc t.number) ts hi (omega (arith, h.0)) h.1))

listed_ranged : (lo hi : ℕ) (ps : List (List Terminal)) → Sliced lo ps hi → Ranged lo hi (flat_map node.element_types (map element ps))
listed_ranged lo hi [] h = walk_ranged.none lo hi h
listed_ranged lo hi (p ∷ ps) h =
    walk_ranged.both lo h.0 hi (node.element_types (element p)) (flat_map node.element_types (map element ps)) (element_ranged lo p h.0 h.1.0) (listed_ranged h.0 hi ps h.1.1)

-- those of a list in brackets are after the opening one
inside_ranged : (t : Terminal) (rest : List Terminal) (hi : ℕ) → Numbered (suc t.number) rest hi → Ranged (suc t.number) hi (flat_map node.element_types (elements (t ∷ rest)))
unfolding elements inside_list split
inside_ranged t rest hi h = by (is_empty (inside_list (t ∷ rest)))
  where
    numbered : (b : Bool) → Numbered (suc t.number) (cond b (take (closing 0 0 (t ∷ rest) - 2) rest) []) hi
    numbered true = take_numbered (closing 0 0 (t ∷ rest) - 2) (suc t.number) rest hi h
    numbered false = numbered_le (suc t.number) rest hi h

    by : (b : Bool) → Ranged (suc t.number) hi (flat_map node.element_types (cond b [] (listed (inside_list (t ∷ rest)))))
    by true = numbered_le (suc t.number) rest hi h
    by false = listed_ranged (suc t.number) hi (split comma (inside_list (t ∷ rest))) (split_sliced comma None 0 0 (suc t.number) (inside_list (t ∷ rest)) hi (numbered (begins_list (t ∷ rest))))

same_types : (es : List Elem) → flat_map node.element_types es ≡ element_types es
same_types [] = refl
same_types (e ∷ es) = let p = one e in let q = same_types es in λ i. p i ++ q i
  where
    one : (e : Elem) → node.element_types e ≡ option_to_list (element_type e)
    one (elem.Column c) = refl
    one e = refl

low_of : (lo hi : ℕ) (earlier : List ColType) (ty : ColType) (later : List ColType) → Ranged lo hi (earlier ++ ty ∷ later) → lo ≤ ty.whole.first
low_of lo hi earlier ty later h =
    let p = ranged_parts lo hi earlier (ty ∷ later) h in
    let first = p.right.1.0.low in
    let le = ranged_le lo p.mid earlier p.left in
    omega (arith, first, le)

-- ---- the path

-- before this number
pub record Below (path : Span) (n : ℕ) : Type 0 where
  pub first : path.first < n
  pub last : path.last < n

no_as : (t : Terminal) → is_keyword keyword.AS t ≡ false → has_keyword keyword.AS (t ∷ []) ≡ false
unfolding has_keyword
no_as t h = λ i. cond (h i) true false

abbrev path_in : Body → Span
path_in (body.Table temp guarded on_commit_drop word path elems) = path
path_in _ = record { first = 0; last = 0 }

abbrev path_of : Option (StmtKind × Body) → Span
path_of (Some f) = path_in f.1
path_of None = record { first = 0; last = 0 }

no_semicolon : (t : Terminal) → is_open_round_symbol t.symbol ≡ true → is_semicolon t ≡ false
unfolding is_semicolon
no_semicolon t h = by t.symbol h
  where
    by : (x : Symbol) → is_open_round_symbol x ≡ true → is_semicolon_symbol x ≡ false
    by s.OpenRound h = refl
    by x h = cc

bare_last : (xs : List Terminal) (t : Terminal) → is_open_round_symbol t.symbol ≡ true → without_semicolon (xs ++ t ∷ []) ≡ xs ++ t ∷ []
unfolding is_semicolon
bare_last xs t h = bare_one xs t [] (no_semicolon t h)

some_of : (elems : List Elem) (earlier : List ColType) (ty : ColType) (later : List ColType) → element_types elems ≡ earlier ++ ty ∷ later → (x : Elem) × ((xs : List Elem) × (elems ≡ x ∷ xs))
some_of [] earlier ty later e = absurd (none_of earlier ty later e)
some_of (x ∷ xs) earlier ty later e = (x, (xs, refl))

pub path_below : (tree : Tree) (before : List Stmt) (st : Stmt) (after : List Stmt) (head : TableHead) (elems : List Elem) (earlier : List ColType) (ty : ColType) (later : List ColType) →
    IsTree tree → tree.stmts ≡ before ++ st ∷ after → st.kind ≡ stmt.CreateTable → st.body ≡ table_of head elems → column_types st ≡ earlier ++ ty ∷ later → Below head.path ty.whole.first
path_below tree before st after head elems earlier ty later is parts kind has cut =
    let a = ascends tree before st after is parts in
    let read = a.read in
    let bare : List Terminal = without_semicolon a.us in
    let types : element_types elems ≡ earlier ++ ty ∷ later = ap (λ (b : Body). element_types (elements_in b)) (sym has) ∙ sym (made_types st kind) ∙ cut in
    let some = some_of elems earlier ty later types in
    let shape = create_table_shows bare head.temp head.guarded head.on_commit_drop head.word head.path elems (read.form ∙ (λ i. Some (kind i, has i))) in
    let list = begun shape.left [] some.0 some.1.0 (shape.elems_are ∙ some.1.1) in
    let none = round_break list.begin.symbol list.begin.number list.round in
    let front = shape.fronts list.begin list.rest list.parts none in
    let p = numbered_parts a.lo a.hi (front.first ∷ front.front) (list.begin ∷ list.rest) (subst (λ (x : List Terminal). Numbered a.lo x a.hi) front.parts a.up) in
    let right : (p.mid ≤ list.begin.number) × Numbered (suc list.begin.number) list.rest a.hi = p.right in
    let hi : ℕ = suc list.begin.number in
    let g : ℕ → ℕ = outside 0 hi in
    let xs : List Terminal = (front.first ∷ front.front) ++ list.begin ∷ [] in
    let up : Numbered 0 xs hi = numbered_lower 0 a.lo xs hi (omega arith) (numbered_one a.lo p.mid (front.first ∷ front.front) list.begin p.left right.0) in
    let same : map (renumber g) xs ≡ xs = fixed 0 hi g (λ n le lt. stays 0 hi n le lt) xs up in
    let form = front.reads [] (no_as list.begin (none.word keyword.AS)) in
    let bare_is : without_semicolon xs ≡ xs = bare_last (front.first ∷ front.front) list.begin list.round in
    let kept : FormKept (renumber g) xs = subst (FormKept (renumber g)) bare_is (numbers_kept g xs) in
    let moved : form_of xs ≡ option_map (form_moved g) (form_of xs) = sym (ap form_of same) ∙ form_renumbers (numbers g) xs kept in
    let path : head.path ≡ span_moved g head.path = ap path_of (sym form ∙ moved ∙ ap (λ (o : Option (StmtKind × Body)). option_map (form_moved g) o) form) in
    let u = stays_within 0 hi head.path.first (sym (ap (λ (s : Span). s.first) path)) in
    let v = stays_within 0 hi head.path.last (sym (ap (λ (s : Span). s.last) path)) in
    let ranged = inside_ranged list.begin list.rest a.hi right.1 in
    let low = low_of hi a.hi earlier ty later
    (subst (λ (l : List ColType). Ranged hi a.hi l) ((same_types (elements (list.begin ∷ list.rest)) ∙ ap element_types (ap elements (sym list.parts) ∙ shape.elems_are)) ∙ types) ranged) in
    record { first = omega (arith, u.1, low); last = omega (arith, v.1, low) }
