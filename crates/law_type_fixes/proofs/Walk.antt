-- What holds of no type, of two lists where it holds of both, and of each type that ascending terminals are, holds of all column
-- types of a statement.
use Rattle.std.proofs.Common.{ℕ, zero, suc, ◌-◌, ◌≤◌, ◌≡◌, Bool, true, false, List, [], ◌∷◌, ◌++◌, map, take, Option, Some, None, subst, arith}
use Rattle.std.specs.Prelude.{if◌then◌else◌}
use Rattle.std.specs.List.{flat_map}
use Rattle.std.specs.Option.{option_and_then, option_to_list}
use Rattle.pass_data_type.specs.sql_keyword.declared.words.TheConstants.Keyword as keyword
use Rattle.pass_data_type.specs.sql_token.declared.terminal.Terminal.{Terminal}
use Rattle.pass_data_type.specs.sql_token.Terminal.{is_name}
use Rattle.pass_data_type.specs.sql_tree.declared.actions.PieceList.{PieceList}
use Rattle.pass_data_type.specs.sql_tree.declared.actions.PieceList.TheVariants as lists
use Rattle.pass_data_type.specs.sql_tree.declared.actions.TheConstants.{OPTIONS, OTHER, COLUMN_OPTION, OTHER_OPTION, ATTRIBUTE}
use Rattle.pass_data_type.specs.sql_tree.declared.kinds.ActionKind.{ActionKind}
use Rattle.pass_data_type.specs.sql_tree.declared.kinds.ActionKind.TheVariants as a
use Rattle.pass_data_type.specs.sql_tree.declared.kinds.PieceKind.{PieceKind}
use Rattle.pass_data_type.specs.sql_tree.declared.kinds.PieceKind.TheVariants as p
use Rattle.pass_data_type.specs.sql_tree.declared.kinds.StmtKind.{StmtKind}
use Rattle.pass_data_type.specs.sql_tree.declared.kinds.StmtKind.TheVariants as stmt
use Rattle.pass_data_type.specs.sql_tree.declared.nodes.Action.{Action}
use Rattle.pass_data_type.specs.sql_tree.declared.nodes.ColType.{ColType}
use Rattle.pass_data_type.specs.sql_tree.declared.nodes.Constraint.{Constraint}
use Rattle.pass_data_type.specs.sql_tree.declared.nodes.Piece.{Piece}
use Rattle.pass_data_type.specs.sql_tree.Action as act
use Rattle.pass_data_type.specs.sql_tree.ActionPieces as piece
use Rattle.pass_data_type.specs.sql_tree.ActionRows.{first_rows_at, own_rows, general_rows_at}
use Rattle.pass_data_type.specs.sql_tree.Column.{type_in, column_with, column, element, elements}
use Rattle.pass_data_type.specs.sql_tree.ColumnType.{type_len, column_type}
use Rattle.pass_data_type.specs.sql_tree.Constraint.{after_two, table_constraint, column_constraints}
use Rattle.pass_data_type.specs.sql_tree.Forms.{State, ActionRow, after_word, first_whole}
use Rattle.pass_data_type.specs.sql_tree.Nodes.{element_types, action_types}
use Rattle.pass_data_type.specs.sql_tree.Split.{all_of, and_others, chunks, chunks_after, comma, split}
use Rattle.law_edit_types.proofs.of_law_renumber.There.{IfThere, then_there, from_there, either_there, if_there}
use Rattle.law_edit_types.proofs.of_law_renumber.Ordered.{Numbered, numbered_le, numbered_lower, LeftOf, word_left, whole_left}
use Rattle.law_edit_types.proofs.of_law_renumber.NodeOrder.{Sliced, split_sliced, take_numbered}
use Rattle.law_edit_types.proofs.of_law_renumber.ElementOrder.{element_is, elements_are}

-- ---- chunks of ascending terminals

module _ (len : List Terminal → ℕ) where
  abbrev Cut : ℕ → ℕ → List Terminal → ℕ → Type 0
  Cut n lo ts hi = (mid : ℕ) × (Numbered lo (take n ts) mid × Sliced mid (chunks_after len n ts) hi)

  chunk : (n lo : ℕ) (t : Terminal) (ts : List Terminal) (hi : ℕ) → lo ≤ t.number → ((k : ℕ) → Cut k (suc t.number) ts hi)
      → Sliced lo (take n (t ∷ ts) ∷ chunks_after len (n - 1) ts) hi
  chunk zero lo t ts hi le cut =
      let none = numbered_le (suc t.number) [] (cut 0).0 (cut 0).1.0 in
      ((cut 0).0, (omega (arith, le, none), (cut 0).1.1))
  chunk (suc n) lo t ts hi le cut =
      let same : n ≡ suc n - 1 = omega arith in
      ((cut n).0, ((le, (cut n).1.0), subst (λ k. Sliced (cut n).0 (chunks_after len k ts) hi) same (cut n).1.1))

  cut : (n lo : ℕ) (ts : List Terminal) (hi : ℕ) → Numbered lo ts hi → Cut n lo ts hi
  cut zero lo [] hi h = (lo, (omega arith, h))
  cut (suc n) lo [] hi h = (lo, (omega arith, h))
  cut zero lo (t ∷ ts) hi h = (lo, (omega arith, chunk (len (t ∷ ts)) lo t ts hi h.0 (λ k. cut k (suc t.number) ts hi h.1)))
  cut (suc n) lo (t ∷ ts) hi h =
      let rest : Cut n (suc t.number) ts hi = cut n (suc t.number) ts hi h.1 in
      (rest.0, ((h.0, rest.1.0), rest.1.1))

  after_sliced : (lo : ℕ) (ts : List Terminal) (hi : ℕ) → Numbered lo ts hi → Sliced lo (chunks_after len 0 ts) hi
  after_sliced lo [] hi h = h
  after_sliced lo (t ∷ ts) hi h = chunk (len (t ∷ ts)) lo t ts hi h.0 (λ k. cut k (suc t.number) ts hi h.1)

-- ---- what is to hold of types

-- of types whose numbers are from lo to before hi
pub record Walks (T : ℕ → ℕ → List ColType → Type 0) : Type 0 where
  pub none : (lo hi : ℕ) → lo ≤ hi → T lo hi []
  pub both : (lo mid hi : ℕ) (xs ys : List ColType) → T lo mid xs → T mid hi ys → T lo hi (xs ++ ys)
  pub one : (lo : ℕ) (ts : List Terminal) (hi : ℕ) → Numbered lo ts hi → T lo hi (option_to_list (column_type ts))

abbrev piece_types : Piece → List ColType
piece_types x = option_to_list x.ty

module _ (T : ℕ → ℕ → List ColType → Type 0) (walk : Walks T) where
  empty : (lo : ℕ) (ts : List Terminal) (hi : ℕ) → Numbered lo ts hi → T lo hi []
  empty lo ts hi h = walk.none lo hi (numbered_le lo ts hi h)

  type_in_walk : (lo : ℕ) (ts : List Terminal) (hi : ℕ) → Numbered lo ts hi → T lo hi (option_to_list (type_in ts))
  type_in_walk lo ts hi h = walk.one lo (take (type_len ts) ts) hi (take_numbered (type_len ts) lo ts hi h)

  -- ---- of elements

  element_walk : (lo : ℕ) (ts : List Terminal) (hi : ℕ) → Numbered lo ts hi → T lo hi (element_types (element ts))
  unfolding element
  element_walk lo [] hi h = walk.none lo hi h
  element_walk lo (t ∷ ts) hi h =
      let no = empty lo (t ∷ ts) hi h in
      element_is (λ e. T lo hi (element_types e)) no no t ts (λ c is. no)
      (λ constraints. type_in_walk lo ts hi (numbered_lower lo (suc t.number) ts hi (omega (arith, h.0)) h.1))

  listed_walk : (lo hi : ℕ) (ps : List (List Terminal)) → Sliced lo ps hi → T lo hi (flat_map element_types (map element ps))
  listed_walk lo hi [] h = walk.none lo hi h
  listed_walk lo hi (p ∷ ps) h =
      walk.both lo h.0 hi (element_types (element p)) (flat_map element_types (map element ps)) (element_walk lo p h.0 h.1.0) (listed_walk h.0 hi ps h.1.1)

  pub table_walk : (lo hi : ℕ) (ts : List Terminal) → Numbered lo ts hi → T lo hi (flat_map element_types (elements ts))
  table_walk lo hi ts h = elements_are (λ es. T lo hi (flat_map element_types es)) lo hi (walk.none lo hi) (listed_walk lo hi) ts h

  -- ---- of lists that are read slice by slice

  module _ {X : Type 0} (types : X → List ColType) (read : List Terminal → Option X)
      (each : (lo : ℕ) (ts : List Terminal) (hi : ℕ) → Numbered lo ts hi → IfThere (λ x. T lo hi (types x)) (read ts)) where
    others_walk : (lo mid hi : ℕ) (o : Option X) (r : Option (List X))
        → IfThere (λ x. T lo mid (types x)) o → IfThere (λ xs. T mid hi (flat_map types xs)) r → IfThere (λ xs. T lo hi (flat_map types xs)) (and_others o r)
    others_walk lo mid hi None r h k = tt
    others_walk lo mid hi (Some x) None h k = tt
    others_walk lo mid hi (Some x) (Some xs) h k = walk.both lo mid hi (types x) (flat_map types xs) h k

    all_walk : (lo : ℕ) (ps : List (List Terminal)) (hi : ℕ) → Sliced lo ps hi → IfThere (λ xs. T lo hi (flat_map types xs)) (all_of read ps)
    all_walk lo [] hi h = walk.none lo hi h
    all_walk lo (p ∷ ps) hi h = others_walk lo h.0 hi (read p) (all_of read ps) (each lo p h.0 h.1.0) (all_walk h.0 ps hi h.1.1)

  -- ---- of pieces

  abbrev PiecesWalk : ℕ → ℕ → List Piece → Type 0
  PiecesWalk lo hi xs = T lo hi (flat_map piece_types xs)

  kind_walk : (kind : PieceKind) (lo : ℕ) (ts : List Terminal) (hi : ℕ) → Numbered lo ts hi → T lo hi (option_to_list (piece.type_in kind ts))
  unfolding piece.type_in
  kind_walk p.SetType lo ts hi h = type_in_walk lo ts hi h
  kind_walk _ lo ts hi h = empty lo ts hi h

  piece_walk : (rows : List piece.PieceRow) (lo : ℕ) (ts : List Terminal) (hi : ℕ) → Numbered lo ts hi → IfThere (λ x. T lo hi (piece_types x)) (piece.piece_by rows ts)
  unfolding piece.piece_by
  piece_walk rows lo ts hi h =
      from_there (LeftOf lo hi) (λ x. T lo hi (piece_types x)) (λ f. Some (piece.piece_in ts f.0 f.1.left))
      (λ f left. kind_walk f.0 lo f.1.left hi left) (first_whole rows ts) (whole_left lo hi rows ts h)

  pieces_walk : (list : PieceList) (lo : ℕ) (ts : List Terminal) (hi : ℕ) → Numbered lo ts hi → IfThere (PiecesWalk lo hi) (piece.pieces_of list ts)
  unfolding piece.pieces_of chunks
  pieces_walk list lo ts hi h =
      all_walk piece_types (piece.piece_by (piece.piece_rows list)) (piece_walk (piece.piece_rows list)) lo (chunks_after (piece.piece_len list) 0 ts) hi
      (after_sliced (piece.piece_len list) lo ts hi h)

  attributes_walk : (lo : ℕ) (ts : List Terminal) (hi : ℕ) → Numbered lo ts hi → IfThere (PiecesWalk lo hi) (piece.attributes ts)
  unfolding piece.attributes split
  attributes_walk lo ts hi h =
      all_walk piece_types (piece.piece_by (map (λ r. (r.0, r.1.now)) ATTRIBUTE)) (piece_walk (map (λ r. (r.0, r.1.now)) ATTRIBUTE)) lo (split comma ts) hi
      (split_sliced comma None 0 0 lo ts hi h)

  alone_walk : (lo hi : ℕ) (o : Option Piece) → IfThere (λ x. T lo hi (piece_types x)) o → lo ≤ hi → IfThere (PiecesWalk lo hi) (piece.alone o)
  alone_walk lo hi None h le = tt
  alone_walk lo hi (Some x) h le = walk.both lo hi hi (piece_types x) [] h (walk.none hi hi (omega arith))

  option_walk : (lo : ℕ) (ts : List Terminal) (hi : ℕ) → Numbered lo ts hi → IfThere (PiecesWalk lo hi) (piece.column_option ts)
  unfolding piece.column_option piece.one_option piece.other_option
  option_walk lo ts hi h =
      either_there (PiecesWalk lo hi) (piece.one_option ts) _
      (alone_walk lo hi (piece.piece_by (map (λ r. (r.0, r.1.now)) COLUMN_OPTION) ts) (piece_walk _ lo ts hi h) (numbered_le lo ts hi h))
      (either_there (PiecesWalk lo hi) (piece.pieces_of lists.IdentityOptions ts) _ (pieces_walk lists.IdentityOptions lo ts hi h)
      (alone_walk lo hi (piece.piece_by (map (λ r. (r.0, r.1.now)) OTHER_OPTION) ts) (piece_walk _ lo ts hi h) (numbered_le lo ts hi h)))

  -- ---- of actions

  abbrev ActionWalk : ℕ → ℕ → Action → Type 0
  ActionWalk lo hi x = T lo hi (action_types x)

  -- an action without a column
  by_pieces : (lo hi : ℕ) (ts : List Terminal) (kind : ActionKind) (s : State) (o : Option (List Piece)) → IfThere (PiecesWalk lo hi) o
      → IfThere (ActionWalk lo hi) (option_and_then (λ pieces. Some (act.action_in ts kind s.kept None pieces)) o)
  by_pieces lo hi ts kind s None h = tt
  by_pieces lo hi ts kind s (Some pieces) h = h

  column_walk : (lo hi : ℕ) (ts : List Terminal) (kind : ActionKind) (s : State) (left : List Terminal) → Numbered lo left hi
      → IfThere (ActionWalk lo hi) (option_and_then (λ c. Some (act.action_in ts kind s.kept c [])) (option_and_then (λ c. Some (Some c)) (column left)))
  unfolding column
  column_walk lo hi ts kind s [] h = tt
  column_walk lo hi ts kind s (t ∷ left) h = by (is_name t) (column_constraints (Some t) left)
    where
      by : (b : Bool) (o : Option (List Constraint))
          → IfThere (ActionWalk lo hi) (option_and_then (λ c. Some (act.action_in ts kind s.kept c [])) (option_and_then (λ c. Some (Some c)) (if b then option_and_then (λ constraints. Some (column_with t left constraints)) o else None)))
      by false o = tt
      by true None = tt
      by true (Some constraints) =
          walk.both lo hi hi (option_to_list (type_in left)) []
          (type_in_walk lo left hi (numbered_lower lo (suc t.number) left hi (omega (arith, h.0)) h.1)) (walk.none hi hi (omega arith))

  built_walk : (lo hi : ℕ) (ts : List Terminal) (kind : ActionKind) (s : State) → Numbered lo s.left hi → IfThere (ActionWalk lo hi) (act.built ts kind s)
  unfolding act.built act.column_in act.pieces_in
  built_walk lo hi ts a.AddColumn s h = column_walk lo hi ts a.AddColumn s s.left h
  built_walk lo hi ts a.AlterConstraint s h = by_pieces lo hi ts a.AlterConstraint s (piece.pieces_of lists.ConstraintOptions s.left) (pieces_walk lists.ConstraintOptions lo s.left hi h)
  built_walk lo hi ts a.AlterColumn s h = by_pieces lo hi ts a.AlterColumn s (piece.column_option s.left) (option_walk lo s.left hi h)
  built_walk lo hi ts a.SequenceOptions s h = by_pieces lo hi ts a.SequenceOptions s (piece.pieces_of lists.SequenceOptions s.left) (pieces_walk lists.SequenceOptions lo s.left hi h)
  built_walk lo hi ts a.PolicyChange s h = by_pieces lo hi ts a.PolicyChange s (piece.pieces_of lists.PolicyParts s.left) (pieces_walk lists.PolicyParts lo s.left hi h)
  built_walk lo hi ts a.Attributes s h = by_pieces lo hi ts a.Attributes s (piece.attributes s.left) (attributes_walk lo s.left hi h)
  built_walk lo hi ts _ s h = empty lo s.left hi h

  rows_walk : (lo hi : ℕ) (rows : List ActionRow) (ts : List Terminal) → Numbered lo ts hi → IfThere (ActionWalk lo hi) (act.by_rows rows ts)
  unfolding act.by_rows
  rows_walk lo hi rows ts h =
      from_there (LeftOf lo hi) (ActionWalk lo hi) (λ f. act.built ts f.0 f.1) (λ f left. built_walk lo hi ts f.0 f.1 left) (first_whole rows ts) (whole_left lo hi rows ts h)

  -- ADD and a table constraint
  added_walk : (lo hi : ℕ) (kind : StmtKind) (ts : List Terminal) → lo ≤ hi → IfThere (ActionWalk lo hi) (act.added_constraint kind ts)
  unfolding act.added_constraint act.add_constraint
  added_walk lo hi kind ts le =
      if_there (ActionWalk lo hi) (act.takes_constraint kind ts) (act.add_constraint ts) None
      (then_there (ActionWalk lo hi) (act.adding_after ts)
      (λ rest. then_there (ActionWalk lo hi) (λ c. Some (act.adding ts c)) (λ c. walk.none lo hi le) (table_constraint rest)) (after_word keyword.ADD ts)) tt

-- ---- what is left after the words that come first

module _ (lo hi : ℕ) where
  abbrev Fits : List Terminal → Type 0
  Fits ts = Numbered lo ts hi

  name_left : (ts : List Terminal) → Fits ts → IfThere Fits (act.after_name ts)
  unfolding act.after_name
  name_left [] h = tt
  name_left (t ∷ ts) h = if_there Fits (is_name t) (Some ts) None (numbered_lower lo (suc t.number) ts hi (omega (arith, h.0)) h.1) tt

  list_left : (o : Option (List Terminal)) (ts : List Terminal) → IfThere Fits o → Fits ts → Fits (act.list_or o ts)
  list_left None ts h k = k
  list_left (Some rest) ts h k = h

  column_left : (ts : List Terminal) → Fits ts → IfThere Fits (act.after_column ts)
  unfolding act.after_column
  column_left ts h =
      from_there Fits Fits (λ rest. act.after_name (act.list_or (after_word keyword.COLUMN rest) rest))
      (λ rest k. name_left (act.list_or (after_word keyword.COLUMN rest) rest) (list_left (after_word keyword.COLUMN rest) rest (word_left lo hi keyword.COLUMN rest k) k))
      (after_word keyword.ALTER ts) (word_left lo hi keyword.ALTER ts h)

  database_left : (ts : List Terminal) → Fits ts → Fits (act.after_database ts)
  unfolding act.after_database after_two
  database_left ts h =
      list_left (act.after_in_database ts) ts
      (from_there Fits Fits act.after_name name_left (after_two keyword.IN keyword.DATABASE ts)
      (from_there Fits Fits (after_word keyword.DATABASE) (word_left lo hi keyword.DATABASE) (after_word keyword.IN ts) (word_left lo hi keyword.IN ts h))) h

  own_left : (kind : StmtKind) (ts : List Terminal) → Fits ts → IfThere Fits (act.own_part kind ts)
  unfolding act.own_part
  own_left stmt.AlterView ts h = column_left ts h
  own_left stmt.AlterRole ts h = database_left ts h
  own_left stmt.AlterUser ts h = database_left ts h
  own_left stmt.AlterDatabase ts h = database_left ts h
  own_left stmt.AlterSystem ts h = database_left ts h
  own_left _ ts h = h

-- ---- whole actions

module _ (T : ℕ → ℕ → List ColType → Type 0) (walk : Walks T) where
  listed_action_walk : (lo hi : ℕ) (kind : StmtKind) (ts : List Terminal) → Numbered lo ts hi → IfThere (ActionWalk T walk lo hi) (act.listed_action kind ts)
  unfolding act.listed_action act.own_action act.general_action
  listed_action_walk lo hi kind ts h =
      either_there (ActionWalk T walk lo hi) (act.by_rows (first_rows_at (act.first_symbol ts)) ts) _ (rows_walk T walk lo hi (first_rows_at (act.first_symbol ts)) ts h)
      (either_there (ActionWalk T walk lo hi) (act.own_action kind ts) _
      (from_there (Fits lo hi) (ActionWalk T walk lo hi) (act.by_rows (own_rows kind)) (rows_walk T walk lo hi (own_rows kind)) (act.own_part kind ts) (own_left lo hi kind ts h))
      (either_there (ActionWalk T walk lo hi) (act.added_constraint kind ts) _ (added_walk T walk lo hi kind ts (numbered_le lo ts hi h))
      (rows_walk T walk lo hi (general_rows_at (act.first_symbol ts)) ts h)))

  unlisted_action_walk : (lo hi : ℕ) (kind : StmtKind) (ts : List Terminal) → Numbered lo ts hi → IfThere (ActionWalk T walk lo hi) (act.unlisted_action kind ts)
  unfolding act.unlisted_action act.options
  unlisted_action_walk lo hi kind ts h =
      either_there (ActionWalk T walk lo hi) (act.options kind ts) _
      (if_there (ActionWalk T walk lo hi) (act.takes_options kind) _ None
      (rows_walk T walk lo hi (map (λ r. (r.0, r.1.now)) OPTIONS) (act.list_or (after_word keyword.WITH ts) ts) (list_left lo hi (after_word keyword.WITH ts) ts (word_left lo hi keyword.WITH ts h) h)) tt)
      (rows_walk T walk lo hi (map (λ r. (r.0, r.1.now)) OTHER) ts h)

  action_walk : (kind : StmtKind) (lo : ℕ) (ts : List Terminal) (hi : ℕ) → Numbered lo ts hi → IfThere (ActionWalk T walk lo hi) (act.action kind ts)
  unfolding act.action
  action_walk kind lo [] hi h = tt
  action_walk kind lo (t ∷ ts) hi h =
      either_there (ActionWalk T walk lo hi) (act.listed_action kind (t ∷ ts)) (act.unlisted_action kind (t ∷ ts)) (listed_action_walk lo hi kind (t ∷ ts) h) (unlisted_action_walk lo hi kind (t ∷ ts) h)

  pub actions_walk : (kind : StmtKind) (lo : ℕ) (ts : List Terminal) (hi : ℕ) → Numbered lo ts hi → IfThere (λ xs. T lo hi (flat_map action_types xs)) (act.actions_of kind ts)
  unfolding act.actions_of act.several_actions act.one_action split
  actions_walk kind lo ts hi h =
      if_there (λ xs. T lo hi (flat_map action_types xs)) (act.has_several kind) (all_of (act.action kind) (split comma ts)) (all_of (act.action kind) (ts ∷ []))
      (all_walk T walk action_types (act.action kind) (action_walk kind) lo (split comma ts) hi (split_sliced comma None 0 0 lo ts hi h))
      (all_walk T walk action_types (act.action kind) (action_walk kind) lo (ts ∷ []) hi (hi, (h, omega arith)))
