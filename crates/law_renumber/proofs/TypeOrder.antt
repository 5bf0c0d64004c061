-- The types of columns begin at tokens that ascend.
use Rattle.std.proofs.Common.{◌≡◌, ℕ, zero, suc, ◌+◌, ◌-◌, ◌<◌, ◌≤◌, Bool, true, false, List, [], ◌∷◌, ◌++◌, length, map, max, take, Option, Some, None, sym, ap, subst, arith, ◌∙◌}
use Rattle.std.specs.Prelude.{if◌then◌else◌, min}
use Rattle.std.specs.List.{flat_map}
use Rattle.std.specs.Option.{option_and_then, option_map, option_to_list}
use Rattle.sql_tree.specs.sql_keyword.declared.words.TheConstants.Keyword as keyword
use Rattle.sql_token.specs.declared.terminal.Terminal.{Terminal}
use Rattle.sql_token.specs.Terminal.{is_name}
use Rattle.sql_tree.specs.declared.actions.PieceList.{PieceList}
use Rattle.sql_tree.specs.declared.actions.PieceList.TheVariants as lists
use Rattle.sql_tree.specs.declared.actions.TheConstants.{OPTIONS, OTHER, COLUMN_OPTION, OTHER_OPTION, ATTRIBUTE}
use Rattle.sql_tree.specs.declared.kinds.ActionKind.{ActionKind}
use Rattle.sql_tree.specs.declared.kinds.ActionKind.TheVariants as a
use Rattle.sql_tree.specs.declared.kinds.PieceKind.{PieceKind}
use Rattle.sql_tree.specs.declared.kinds.PieceKind.TheVariants as p
use Rattle.sql_tree.specs.declared.kinds.StmtKind.{StmtKind}
use Rattle.sql_tree.specs.declared.kinds.StmtKind.TheVariants as stmt
use Rattle.sql_tree.specs.declared.nodes.Action.{Action}
use Rattle.sql_tree.specs.declared.nodes.ColType.{ColType}
use Rattle.sql_tree.specs.declared.nodes.Constraint.{Constraint}
use Rattle.sql_tree.specs.declared.nodes.Piece.{Piece}
use Rattle.sql_tree.specs.Action as act
use Rattle.sql_tree.specs.ActionPieces as piece
use Rattle.sql_tree.specs.ActionRows.{first_rows_at, own_rows, general_rows_at}
use Rattle.sql_tree.specs.Column.{type_in, column_with, column, element, elements}
use Rattle.sql_tree.specs.ColumnType.{type_len, column_type}
use Rattle.sql_tree.specs.Constraint.{after_two, table_constraint, column_constraints}
use Rattle.sql_tree.specs.Forms.{State, ActionRow, after_word, first_whole}
use Rattle.sql_tree.specs.Nodes.{element_types, action_types, types_in, type_starts}
use Rattle.sql_tree.specs.Split.{all_of, and_others, chunks, chunks_after, comma, split}
use Rattle.law_renumber.specs.Moved.{type_moved}
use Rattle.law_renumber.specs.Order.{TypesAscend}
use Rattle.law_renumber.proofs.Types.{no_type, type_numbers}
use Rattle.law_renumber.proofs.There.{IfThere, then_there, from_there, either_there, if_there}
use Rattle.law_renumber.proofs.Ordered.{Up, up_lower, Numbered, numbered_le, numbered_lower, LeftOf, word_left, whole_left}
use Rattle.law_renumber.proofs.NodeOrder.{Fixes, fixed, Sliced, split_sliced, take_numbered, statement_up, tree_up, increasing}
use Rattle.law_renumber.proofs.ElementOrder.{element_is, elements_are}

-- ---- types

abbrev starts : List ColType → List ℕ
starts tys = map (λ ty. ty.whole.first) tys

-- the types ascend from lo on, and begin below hi
abbrev TypesUp : ℕ → ℕ → List ColType → Type 0
TypesUp lo hi tys = Up lo (starts tys) hi

types_append : (lo : ℕ) (xs : List ColType) (mid : ℕ) (ys : List ColType) (hi : ℕ) → TypesUp lo mid xs → TypesUp mid hi ys → TypesUp lo hi (xs ++ ys)
types_append lo [] mid ys hi h k = up_lower lo mid (starts ys) hi h k
types_append lo (x ∷ xs) mid ys hi h k = (h.0, types_append (suc x.whole.first) xs mid ys hi h.1 k)

abbrev first_or : Option ColType → ℕ
first_or None = 0
first_or (Some ty) = ty.whole.first

in_range : (lo hi : ℕ) → lo < hi → (o : Option ColType) → ((f : ℕ → ℕ) → Fixes lo hi f → option_map (type_moved f) o ≡ o) → TypesUp lo hi (option_to_list o)
in_range lo hi some None h = omega (arith, some)
in_range lo hi some (Some ty) h =
    let low : max lo ty.whole.first ≡ ty.whole.first = ap first_or (h (λ n. max lo n) (λ n le lt. omega (arith, le))) in
    let high : min (hi - 1) ty.whole.first ≡ ty.whole.first = ap first_or (h (λ n. min (hi - 1) n) (λ n le lt. omega (arith, lt))) in
    (omega (arith, low), omega (arith, high, some))

type_up : (lo : ℕ) (ts : List Terminal) (hi : ℕ) → Numbered lo ts hi → TypesUp lo hi (option_to_list (column_type ts))
type_up lo [] hi h = subst (λ o. TypesUp lo hi (option_to_list o)) (sym no_type) h
type_up lo (t ∷ ts) hi h =
    let rest = numbered_le (suc t.number) ts hi h.1 in
    in_range lo hi (omega (arith, h.0, rest)) (column_type (t ∷ ts))
    (λ f fix. sym (type_numbers f (t ∷ ts)) ∙ ap column_type (fixed lo hi f fix (t ∷ ts) h))

type_in_up : (lo : ℕ) (ts : List Terminal) (hi : ℕ) → Numbered lo ts hi → TypesUp lo hi (option_to_list (type_in ts))
type_in_up lo ts hi h = type_up lo (take (type_len ts) ts) hi (take_numbered (type_len ts) lo ts hi h)

-- ---- of elements

element_up : (lo : ℕ) (ts : List Terminal) (hi : ℕ) → Numbered lo ts hi → TypesUp lo hi (element_types (element ts))
unfolding element
element_up lo [] hi h = h
element_up lo (t ∷ ts) hi h =
    let le : lo ≤ hi = numbered_le lo (t ∷ ts) hi h in
    element_is (λ e. TypesUp lo hi (element_types e)) le le t ts (λ c is. le)
    (λ constraints. type_in_up lo ts hi (numbered_lower lo (suc t.number) ts hi (omega (arith, h.0)) h.1))

listed_up : (lo hi : ℕ) (ps : List (List Terminal)) → Sliced lo ps hi → TypesUp lo hi (flat_map element_types (map element ps))
listed_up lo hi [] h = h
listed_up lo hi (p ∷ ps) h =
    types_append lo (element_types (element p)) h.0 (flat_map element_types (map element ps)) hi (element_up lo p h.0 h.1.0) (listed_up h.0 hi ps h.1.1)

-- ---- of lists that are read slice by slice

module _ {X : Type 0} (types : X → List ColType) (read : List Terminal → Option X)
    (each : (lo : ℕ) (ts : List Terminal) (hi : ℕ) → Numbered lo ts hi → IfThere (λ x. TypesUp lo hi (types x)) (read ts)) where
  others_up : (lo mid hi : ℕ) (o : Option X) (r : Option (List X))
      → IfThere (λ x. TypesUp lo mid (types x)) o → IfThere (λ xs. TypesUp mid hi (flat_map types xs)) r → IfThere (λ xs. TypesUp lo hi (flat_map types xs)) (and_others o r)
  others_up lo mid hi None r h k = tt
  others_up lo mid hi (Some x) None h k = tt
  others_up lo mid hi (Some x) (Some xs) h k = types_append lo (types x) mid (flat_map types xs) hi h k

  all_up : (lo : ℕ) (ps : List (List Terminal)) (hi : ℕ) → Sliced lo ps hi → IfThere (λ xs. TypesUp lo hi (flat_map types xs)) (all_of read ps)
  all_up lo [] hi h = h
  all_up lo (p ∷ ps) hi h = others_up lo h.0 hi (read p) (all_of read ps) (each lo p h.0 h.1.0) (all_up h.0 ps hi h.1.1)

-- ---- chunks

module _ (len : List Terminal → ℕ) where
  abbrev Cut : ℕ → ℕ → List Terminal → ℕ → Type 0
  Cut n lo ts hi = (mid : ℕ) × (Numbered lo (take n ts) mid × Sliced mid (chunks_after len n ts) hi)

  chunk : (n lo : ℕ) (t : Terminal) (ts : List Terminal) (hi : ℕ) → lo ≤ t.number → ((k : ℕ) → Cut k (suc t.number) ts hi)
      → Sliced lo (take n (t ∷ ts) ∷ chunks_after len (n - 1) ts) hi
  chunk zero lo t ts hi le cut =
      let none = numbered_le (suc t.number) [] (cut 0).0 (cut 0).1.0 in
      ((cut 0).0, (omega (arith, le, none), (cut 0).1.1))
  chunk (suc n) lo t ts hi le cut =
      let same : n ≡ suc n - 1 = omega arith in
      ((cut n).0, ((le, (cut n).1.0), subst (λ k. Sliced (cut n).0 (chunks_after len k ts) hi) same (cut n).1.1))

  cut : (n lo : ℕ) (ts : List Terminal) (hi : ℕ) → Numbered lo ts hi → Cut n lo ts hi
  cut zero lo [] hi h = (lo, (omega arith, h))
  cut (suc n) lo [] hi h = (lo, (omega arith, h))
  cut zero lo (t ∷ ts) hi h = (lo, (omega arith, chunk (len (t ∷ ts)) lo t ts hi h.0 (λ k. cut k (suc t.number) ts hi h.1)))
  cut (suc n) lo (t ∷ ts) hi h =
      let rest : Cut n (suc t.number) ts hi = cut n (suc t.number) ts hi h.1 in
      (rest.0, ((h.0, rest.1.0), rest.1.1))

  after_sliced : (lo : ℕ) (ts : List Terminal) (hi : ℕ) → Numbered lo ts hi → Sliced lo (chunks_after len 0 ts) hi
  after_sliced lo [] hi h = h
  after_sliced lo (t ∷ ts) hi h = chunk (len (t ∷ ts)) lo t ts hi h.0 (λ k. cut k (suc t.number) ts hi h.1)

-- ---- of pieces

abbrev piece_types : Piece → List ColType
piece_types x = option_to_list x.ty

kind_up : (kind : PieceKind) (lo : ℕ) (ts : List Terminal) (hi : ℕ) → Numbered lo ts hi → TypesUp lo hi (option_to_list (piece.type_in kind ts))
unfolding piece.type_in
kind_up p.SetType lo ts hi h = type_in_up lo ts hi h
kind_up _ lo ts hi h = numbered_le lo ts hi h

piece_up : (rows : List piece.PieceRow) (lo : ℕ) (ts : List Terminal) (hi : ℕ) → Numbered lo ts hi → IfThere (λ x. TypesUp lo hi (piece_types x)) (piece.piece_by rows ts)
unfolding piece.piece_by
piece_up rows lo ts hi h =
    from_there (LeftOf lo hi) (λ x. TypesUp lo hi (piece_types x)) (λ f. Some (piece.piece_in ts f.0 f.1.left))
    (λ f left. kind_up f.0 lo f.1.left hi left) (first_whole rows ts) (whole_left lo hi rows ts h)

abbrev PiecesUp : ℕ → ℕ → List Piece → Type 0
PiecesUp lo hi xs = TypesUp lo hi (flat_map piece_types xs)

pieces_up : (list : PieceList) (lo : ℕ) (ts : List Terminal) (hi : ℕ) → Numbered lo ts hi → IfThere (PiecesUp lo hi) (piece.pieces_of list ts)
unfolding piece.pieces_of chunks
pieces_up list lo ts hi h =
    all_up piece_types (piece.piece_by (piece.piece_rows list)) (piece_up (piece.piece_rows list)) lo (chunks_after (piece.piece_len list) 0 ts) hi (after_sliced (piece.piece_len list) lo ts hi h)

attributes_up : (lo : ℕ) (ts : List Terminal) (hi : ℕ) → Numbered lo ts hi → IfThere (PiecesUp lo hi) (piece.attributes ts)
unfolding piece.attributes split
attributes_up lo ts hi h =
    all_up piece_types (piece.piece_by (map (λ r. (r.0, r.1.now)) ATTRIBUTE)) (piece_up (map (λ r. (r.0, r.1.now)) ATTRIBUTE)) lo (split comma ts) hi (split_sliced comma None 0 0 lo ts hi h)

alone_up : (lo hi : ℕ) (o : Option Piece) → IfThere (λ x. TypesUp lo hi (piece_types x)) o → lo ≤ hi → IfThere (PiecesUp lo hi) (piece.alone o)
alone_up lo hi None h le = tt
alone_up lo hi (Some x) h le = types_append lo (piece_types x) hi [] hi h (omega arith)

option_up : (lo : ℕ) (ts : List Terminal) (hi : ℕ) → Numbered lo ts hi → IfThere (PiecesUp lo hi) (piece.column_option ts)
unfolding piece.column_option piece.one_option piece.other_option
option_up lo ts hi h =
    either_there (PiecesUp lo hi) (piece.one_option ts) _ (alone_up lo hi (piece.piece_by (map (λ r. (r.0, r.1.now)) COLUMN_OPTION) ts) (piece_up _ lo ts hi h) (numbered_le lo ts hi h))
    (either_there (PiecesUp lo hi) (piece.pieces_of lists.IdentityOptions ts) _ (pieces_up lists.IdentityOptions lo ts hi h)
    (alone_up lo hi (piece.piece_by (map (λ r. (r.0, r.1.now)) OTHER_OPTION) ts) (piece_up _ lo ts hi h) (numbered_le lo ts hi h)))

-- ---- of actions

module _ (lo hi : ℕ) where
  abbrev ActionUp : Action → Type 0
  ActionUp x = TypesUp lo hi (action_types x)

  -- an action without a column
  by_pieces : (ts : List Terminal) (kind : ActionKind) (s : State) (o : Option (List Piece)) → IfThere (PiecesUp lo hi) o
      → IfThere ActionUp (option_and_then (λ pieces. Some (act.action_in ts kind s.kept None pieces)) o)
  by_pieces ts kind s None h = tt
  by_pieces ts kind s (Some pieces) h = h

  column_up : (ts : List Terminal) (kind : ActionKind) (s : State) (left : List Terminal) → Numbered lo left hi
      → IfThere ActionUp (option_and_then (λ c. Some (act.action_in ts kind s.kept c [])) (option_and_then (λ c. Some (Some c)) (column left)))
  unfolding column
  column_up ts kind s [] h = tt
  column_up ts kind s (t ∷ left) h = by (is_name t) (column_constraints (Some t) left)
    where
      by : (b : Bool) (o : Option (List Constraint))
          → IfThere ActionUp (option_and_then (λ c. Some (act.action_in ts kind s.kept c [])) (option_and_then (λ c. Some (Some c)) (if b then option_and_then (λ constraints. Some (column_with t left constraints)) o else None)))
      by false o = tt
      by true None = tt
      by true (Some constraints) =
          types_append lo (option_to_list (type_in left)) hi [] hi
          (type_in_up lo left hi (numbered_lower lo (suc t.number) left hi (omega (arith, h.0)) h.1)) (omega arith)

  built_up : (ts : List Terminal) (kind : ActionKind) (s : State) → Numbered lo s.left hi → IfThere ActionUp (act.built ts kind s)
  unfolding act.built act.column_in act.pieces_in
  built_up ts a.AddColumn s h = column_up ts a.AddColumn s s.left h
  built_up ts a.AlterConstraint s h = by_pieces ts a.AlterConstraint s (piece.pieces_of lists.ConstraintOptions s.left) (pieces_up lists.ConstraintOptions lo s.left hi h)
  built_up ts a.AlterColumn s h = by_pieces ts a.AlterColumn s (piece.column_option s.left) (option_up lo s.left hi h)
  built_up ts a.SequenceOptions s h = by_pieces ts a.SequenceOptions s (piece.pieces_of lists.SequenceOptions s.left) (pieces_up lists.SequenceOptions lo s.left hi h)
  built_up ts a.PolicyChange s h = by_pieces ts a.PolicyChange s (piece.pieces_of lists.PolicyParts s.left) (pieces_up lists.PolicyParts lo s.left hi h)
  built_up ts a.Attributes s h = by_pieces ts a.Attributes s (piece.attributes s.left) (attributes_up lo s.left hi h)
  built_up ts _ s h = numbered_le lo s.left hi h

  rows_up : (rows : List ActionRow) (ts : List Terminal) → Numbered lo ts hi → IfThere ActionUp (act.by_rows rows ts)
  unfolding act.by_rows
  rows_up rows ts h =
      from_there (LeftOf lo hi) ActionUp (λ f. act.built ts f.0 f.1) (λ f left. built_up ts f.0 f.1 left) (first_whole rows ts) (whole_left lo hi rows ts h)

  -- ADD and a table constraint
  added_up : (kind : StmtKind) (ts : List Terminal) → lo ≤ hi → IfThere ActionUp (act.added_constraint kind ts)
  unfolding act.added_constraint act.add_constraint
  added_up kind ts le =
      if_there ActionUp (act.takes_constraint kind ts) (act.add_constraint ts) None
      (then_there ActionUp (act.adding_after ts) (λ rest. then_there ActionUp (λ c. Some (act.adding ts c)) (λ c. le) (table_constraint rest)) (after_word keyword.ADD ts)) tt

  -- ---- what is left after the words that come first

  abbrev Fits : List Terminal → Type 0
  Fits ts = Numbered lo ts hi

  name_left : (ts : List Terminal) → Fits ts → IfThere Fits (act.after_name ts)
  unfolding act.after_name
  name_left [] h = tt
  name_left (t ∷ ts) h = if_there Fits (is_name t) (Some ts) None (numbered_lower lo (suc t.number) ts hi (omega (arith, h.0)) h.1) tt

  list_left : (o : Option (List Terminal)) (ts : List Terminal) → IfThere Fits o → Fits ts → Fits (act.list_or o ts)
  list_left None ts h k = k
  list_left (Some rest) ts h k = h

  column_left : (ts : List Terminal) → Fits ts → IfThere Fits (act.after_column ts)
  unfolding act.after_column
  column_left ts h =
      from_there Fits Fits (λ rest. act.after_name (act.list_or (after_word keyword.COLUMN rest) rest))
      (λ rest k. name_left (act.list_or (after_word keyword.COLUMN rest) rest) (list_left (after_word keyword.COLUMN rest) rest (word_left lo hi keyword.COLUMN rest k) k))
      (after_word keyword.ALTER ts) (word_left lo hi keyword.ALTER ts h)

  database_left : (ts : List Terminal) → Fits ts → Fits (act.after_database ts)
  unfolding act.after_database after_two
  database_left ts h =
      list_left (act.after_in_database ts) ts
      (from_there Fits Fits act.after_name name_left (after_two keyword.IN keyword.DATABASE ts)
      (from_there Fits Fits (after_word keyword.DATABASE) (word_left lo hi keyword.DATABASE) (after_word keyword.IN ts) (word_left lo hi keyword.IN ts h))) h

  own_left : (kind : StmtKind) (ts : List Terminal) → Fits ts → IfThere Fits (act.own_part kind ts)
  unfolding act.own_part
  own_left stmt.AlterView ts h = column_left ts h
  own_left stmt.AlterRole ts h = database_left ts h
  own_left stmt.AlterUser ts h = database_left ts h
  own_left stmt.AlterDatabase ts h = database_left ts h
  own_left stmt.AlterSystem ts h = database_left ts h
  own_left _ ts h = h

  -- ---- whole actions

  listed_action_up : (kind : StmtKind) (ts : List Terminal) → Fits ts → IfThere ActionUp (act.listed_action kind ts)
  unfolding act.listed_action act.own_action act.general_action
  listed_action_up kind ts h =
      either_there ActionUp (act.by_rows (first_rows_at (act.first_symbol ts)) ts) _ (rows_up (first_rows_at (act.first_symbol ts)) ts h)
      (either_there ActionUp (act.own_action kind ts) _ (from_there Fits ActionUp (act.by_rows (own_rows kind)) (rows_up (own_rows kind)) (act.own_part kind ts) (own_left kind ts h))
      (either_there ActionUp (act.added_constraint kind ts) _ (added_up kind ts (numbered_le lo ts hi h)) (rows_up (general_rows_at (act.first_symbol ts)) ts h)))

  unlisted_action_up : (kind : StmtKind) (ts : List Terminal) → Fits ts → IfThere ActionUp (act.unlisted_action kind ts)
  unfolding act.unlisted_action act.options
  unlisted_action_up kind ts h =
      either_there ActionUp (act.options kind ts) _
      (if_there ActionUp (act.takes_options kind) _ None (rows_up (map (λ r. (r.0, r.1.now)) OPTIONS) (act.list_or (after_word keyword.WITH ts) ts) (list_left (after_word keyword.WITH ts) ts (word_left lo hi keyword.WITH ts h) h)) tt)
      (rows_up (map (λ r. (r.0, r.1.now)) OTHER) ts h)

action_up : (kind : StmtKind) (lo : ℕ) (ts : List Terminal) (hi : ℕ) → Numbered lo ts hi → IfThere (ActionUp lo hi) (act.action kind ts)
unfolding act.action
action_up kind lo [] hi h = tt
action_up kind lo (t ∷ ts) hi h =
    either_there (ActionUp lo hi) (act.listed_action kind (t ∷ ts)) (act.unlisted_action kind (t ∷ ts)) (listed_action_up lo hi kind (t ∷ ts) h) (unlisted_action_up lo hi kind (t ∷ ts) h)

abbrev ActionsUp : ℕ → ℕ → List Action → Type 0
ActionsUp lo hi xs = TypesUp lo hi (flat_map action_types xs)

actions_up : (kind : StmtKind) (lo : ℕ) (ts : List Terminal) (hi : ℕ) → Numbered lo ts hi → IfThere (ActionsUp lo hi) (act.actions_of kind ts)
unfolding act.actions_of act.several_actions act.one_action split
actions_up kind lo ts hi h =
    if_there (ActionsUp lo hi) (act.has_several kind) (all_of (act.action kind) (split comma ts)) (all_of (act.action kind) (ts ∷ []))
    (all_up action_types (act.action kind) (action_up kind) lo (split comma ts) hi (split_sliced comma None 0 0 lo ts hi h))
    (all_up action_types (act.action kind) (action_up kind) lo (ts ∷ []) hi (hi, (h, omega arith)))

-- ---- of trees

table_up : (lo hi : ℕ) (ts : List Terminal) → Numbered lo ts hi → TypesUp lo hi (flat_map element_types (elements ts) ++ [])
table_up lo hi ts h =
    types_append lo (flat_map element_types (elements ts)) hi [] hi
    (elements_are (λ es. TypesUp lo hi (flat_map element_types es)) lo hi (λ le. le) (listed_up lo hi) ts h) (omega arith)

pub types_ascend : TypesAscend
types_ascend tree is =
    increasing 0 (type_starts tree) (0 + length tree.toks)
    (tree_up (λ s. starts (types_in s.body))
    (λ lo t ts hi h. statement_up (λ es xs. starts (flat_map element_types es ++ flat_map action_types xs)) lo hi (λ le. le)
    (table_up lo hi) (λ kind ts k. actions_up kind lo ts hi k) (t ∷ ts) h) tree is)
