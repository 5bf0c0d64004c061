-- The column types of a statement under other numbers, and in ascending terminals.
use Rattle.std.proofs.Common.{◌≡◌, ℕ, Bool, true, false, cond, List, [], ◌∷◌, ◌++◌, map, refl, Option, Some, None, sym, ap, ◌∙◌, subst}
use Rattle.std.proofs.lemmas.List.{map-append}
use Rattle.std.specs.List.{flat_map}
use Rattle.std.specs.Option.{option_and_then, option_map, option_to_list}
use Rattle.pass_data_type.specs.sql_tree.declared.kinds.ActionKind.TheVariants as action
use Rattle.pass_data_type.specs.sql_tree.declared.kinds.PieceKind.TheVariants as piece
use Rattle.pass_data_type.specs.sql_tree.declared.kinds.StmtKind.TheVariants as stmt
use Rattle.pass_data_type.specs.sql_tree.declared.nodes.Action.{Action}
use Rattle.pass_data_type.specs.sql_tree.declared.nodes.Body.{Body}
use Rattle.pass_data_type.specs.sql_tree.declared.nodes.Body.TheVariants as body
use Rattle.pass_data_type.specs.sql_tree.declared.nodes.ColType.{ColType}
use Rattle.pass_data_type.specs.sql_tree.declared.nodes.Column.{Column}
use Rattle.pass_data_type.specs.sql_tree.declared.nodes.Elem.{Elem}
use Rattle.pass_data_type.specs.sql_tree.declared.nodes.Elem.TheVariants as elem
use Rattle.pass_data_type.specs.sql_tree.declared.nodes.Piece.{Piece}
use Rattle.pass_data_type.specs.sql_tree.declared.nodes.Stmt.{Stmt}
use Rattle.pass_data_type.specs.sql_tree.Nodes as node
use Rattle.pass_data_type.specs.sql_tree.Nodes.{actions_in, elements_in, types_in}
use Rattle.law_edit_types.specs.law_renumber.Moved.{type_moved, column_moved, elem_moved, piece_moved, action_moved, body_moved, stmt_moved}
use Rattle.pass_data_type.specs.lint_node.ColumnTypes.{element_type, added_type, set_type, element_types, piece_types, action_types, column_types}
use Rattle.pass_data_type.specs.lint_node.Same.{same_action, same_kind, same_piece}
use Rattle.pass_data_type.specs.lint_transaction.Transaction.{no_stmt}
use Rattle.law_type_fixes.proofs.Ranged.{Ranged, ranged_both, ranged_le, ranged_parts}

-- ---- under other numbers

flat_moved : {X : Type 0} (f : ℕ → ℕ) (g : X → X) (types : X → List ColType) → ((x : X) → types (g x) ≡ map (type_moved f) (types x)) → (xs : List X) →
    flat_map types (map g xs) ≡ map (type_moved f) (flat_map types xs)
flat_moved f g types one [] = refl
flat_moved f g types one (x ∷ xs) =
    (let p = one x in let q = flat_moved f g types one xs in λ i. p i ++ q i) ∙ sym (map-append (type_moved f) (types x) (flat_map types xs))

listed_moved : (f : ℕ → ℕ) (o : Option ColType) → option_to_list (option_map (type_moved f) o) ≡ map (type_moved f) (option_to_list o)
listed_moved f None = refl
listed_moved f (Some ty) = refl

pub element_moved : (f : ℕ → ℕ) (e : Elem) → option_to_list (element_type (elem_moved f e)) ≡ map (type_moved f) (option_to_list (element_type e))
element_moved f (elem.Column c) = listed_moved f c.ty
element_moved f e = refl

pub piece_types_moved : (f : ℕ → ℕ) (ps : List Piece) → piece_types (map (piece_moved f) ps) ≡ map (type_moved f) (piece_types ps)
piece_types_moved f ps = flat_moved f (piece_moved f) (λ p. option_to_list (set_type p)) (λ p. by (same_piece p.kind piece.SetType) p.ty) ps
  where
    by : (b : Bool) (o : Option ColType) → option_to_list (cond b (option_map (type_moved f) o) None) ≡ map (type_moved f) (option_to_list (cond b o None))
    by true o = listed_moved f o
    by false o = refl

pub added_type_moved : (f : ℕ → ℕ) (a : Action) → option_to_list (added_type (action_moved f a)) ≡ map (type_moved f) (option_to_list (added_type a))
added_type_moved f a = by (same_action a.kind action.AddColumn) a.column
  where
    by : (b : Bool) (o : Option Column) → option_to_list (option_and_then (λ c. c.ty) (cond b (option_map (column_moved f) o) None)) ≡ map (type_moved f) (option_to_list (option_and_then (λ c. c.ty) (cond b o None)))
    by true None = refl
    by true (Some c) = listed_moved f c.ty
    by false o = refl

pub action_types_moved : (f : ℕ → ℕ) (a : Action) → action_types (action_moved f a) ≡ map (type_moved f) (action_types a)
action_types_moved f a =
    (let p = added_type_moved f a in let q = piece_types_moved f a.pieces in λ i. p i ++ q i)
    ∙ sym (map-append (type_moved f) (option_to_list (added_type a)) (piece_types a.pieces))

elements_moved : (f : ℕ → ℕ) (b : Body) → elements_in (body_moved f b) ≡ map (elem_moved f) (elements_in b)
elements_moved f (body.Table temp guarded on_commit_drop word path elems) = refl
elements_moved f b = refl

actions_moved : (f : ℕ → ℕ) (b : Body) → actions_in (body_moved f b) ≡ map (action_moved f) (actions_in b)
actions_moved f (body.Alter path actions) = refl
actions_moved f b = refl

pub types_moved : (f : ℕ → ℕ) (s : Stmt) → column_types (stmt_moved f s) ≡ map (type_moved f) (column_types s)
unfolding column_types
types_moved f s =
    (let p = made (same_kind s.kind stmt.CreateTable) in let q = altered (same_kind s.kind stmt.AlterTable) in λ i. p i ++ q i)
    ∙ sym (map-append (type_moved f) (element_types (cond (same_kind s.kind stmt.CreateTable) (elements_in s.body) [])) (flat_map action_types (cond (same_kind s.kind stmt.AlterTable) (actions_in s.body) [])))
  where
    made : (b : Bool) → element_types (cond b (elements_in (body_moved f s.body)) []) ≡ map (type_moved f) (element_types (cond b (elements_in s.body) []))
    made true = ap element_types (elements_moved f s.body) ∙ flat_moved f (elem_moved f) (λ e. option_to_list (element_type e)) (element_moved f) (elements_in s.body)
    made false = refl

    altered : (b : Bool) → flat_map action_types (cond b (actions_in (body_moved f s.body)) []) ≡ map (type_moved f) (flat_map action_types (cond b (actions_in s.body) []))
    altered true = ap (λ (x : List Action). flat_map action_types x) (actions_moved f s.body) ∙ flat_moved f (action_moved f) action_types (action_types_moved f) (actions_in s.body)
    altered false = refl

-- a statement that is only kept has none
pub no_types : column_types no_stmt ≡ []
unfolding column_types
no_types = (let p = none_made (same_kind no_stmt.kind stmt.CreateTable) in let q = none_altered (same_kind no_stmt.kind stmt.AlterTable) in λ i. p i ++ q i)
  where
    none_made : (b : Bool) → element_types (cond b [] []) ≡ []
    none_made true = refl
    none_made false = refl

    none_altered : (b : Bool) → flat_map action_types (cond b [] []) ≡ []
    none_altered true = refl
    none_altered false = refl

-- ---- in ascending terminals

element_same : (e : Elem) → node.element_types e ≡ option_to_list (element_type e)
element_same (elem.Column c) = refl
element_same e = refl

elements_same : (es : List Elem) → flat_map node.element_types es ≡ element_types es
elements_same [] = refl
elements_same (e ∷ es) = let p = element_same e in let q = elements_same es in λ i. p i ++ q i

option_ranged : (lo hi : ℕ) (b : Bool) (o : Option ColType) → Ranged lo hi (option_to_list o) → Ranged lo hi (option_to_list (cond b o None))
option_ranged lo hi true o h = h
option_ranged lo hi false o h = ranged_le lo hi (option_to_list o) h

pieces_ranged : (lo hi : ℕ) (ps : List Piece) → Ranged lo hi (flat_map (λ p. option_to_list p.ty) ps) → Ranged lo hi (piece_types ps)
pieces_ranged lo hi [] h = h
pieces_ranged lo hi (p ∷ ps) h =
    let parts = ranged_parts lo hi (option_to_list p.ty) (flat_map (λ p. option_to_list p.ty) ps) h in
    ranged_both lo parts.mid hi (option_to_list (set_type p)) (piece_types ps) (option_ranged lo parts.mid (same_piece p.kind piece.SetType) p.ty parts.left) (pieces_ranged parts.mid hi ps parts.right)

added_ranged : (lo hi : ℕ) (b : Bool) (o : Option Column) → Ranged lo hi (node.added_types o) → Ranged lo hi (option_to_list (option_and_then (λ c. c.ty) (cond b o None)))
added_ranged lo hi true None h = h
added_ranged lo hi true (Some c) h = h
added_ranged lo hi false o h = ranged_le lo hi (node.added_types o) h

action_ranged : (lo hi : ℕ) (a : Action) → Ranged lo hi (node.action_types a) → Ranged lo hi (action_types a)
action_ranged lo hi a h =
    let parts = ranged_parts lo hi (node.added_types a.column) (flat_map (λ p. option_to_list p.ty) a.pieces) h in
    ranged_both lo parts.mid hi (option_to_list (added_type a)) (piece_types a.pieces) (added_ranged lo parts.mid (same_action a.kind action.AddColumn) a.column parts.left) (pieces_ranged parts.mid hi a.pieces parts.right)

actions_ranged : (lo hi : ℕ) (xs : List Action) → Ranged lo hi (flat_map node.action_types xs) → Ranged lo hi (flat_map action_types xs)
actions_ranged lo hi [] h = h
actions_ranged lo hi (x ∷ xs) h =
    let parts = ranged_parts lo hi (node.action_types x) (flat_map node.action_types xs) h in
    ranged_both lo parts.mid hi (action_types x) (flat_map action_types xs) (action_ranged lo parts.mid x parts.left) (actions_ranged parts.mid hi xs parts.right)

pub types_ranged : (lo hi : ℕ) (s : Stmt) → Ranged lo hi (types_in s.body) → Ranged lo hi (column_types s)
unfolding column_types
types_ranged lo hi s h =
    let parts = ranged_parts lo hi (flat_map node.element_types (elements_in s.body)) (flat_map node.action_types (actions_in s.body)) h in
    ranged_both lo parts.mid hi (element_types (cond (same_kind s.kind stmt.CreateTable) (elements_in s.body) [])) (flat_map action_types (cond (same_kind s.kind stmt.AlterTable) (actions_in s.body) []))
    (made lo parts.mid (same_kind s.kind stmt.CreateTable) parts.left) (altered parts.mid hi (same_kind s.kind stmt.AlterTable) parts.right)
  where
    made : (lo hi : ℕ) (b : Bool) → Ranged lo hi (flat_map node.element_types (elements_in s.body)) → Ranged lo hi (element_types (cond b (elements_in s.body) []))
    made lo hi true h = subst (λ (x : List ColType). Ranged lo hi x) (elements_same (elements_in s.body)) h
    made lo hi false h = ranged_le lo hi _ h

    altered : (lo hi : ℕ) (b : Bool) → Ranged lo hi (flat_map node.action_types (actions_in s.body)) → Ranged lo hi (flat_map action_types (cond b (actions_in s.body) []))
    altered lo hi true h = actions_ranged lo hi (actions_in s.body) h
    altered lo hi false h = ranged_le lo hi _ h
