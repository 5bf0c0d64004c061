-- The pieces of ALTER actions of changed terminals.
use Rattle.std.proofs.Common.{◌≡◌, ℕ, zero, suc, ◌+◌, ◌-◌, ◌≤◌, ◌==◌, Bool, true, false, cond, List, [], ◌∷◌, map, take, refl, ap, arith, Option, Some, None}
use Rattle.std.specs.Option.{option_map}
use Rattle.std.proofs.lemmas.List.{length-map, take-map}
use Rattle.sql_tree.specs.sql_keyword.declared.words.TheConstants.Keyword as keyword
use Rattle.sql_token.specs.declared.terminal.Terminal.{Terminal}
use Rattle.sql_token.specs.Terminal.{is_opener, is_closer}
use Rattle.sql_token.specs.Depth.{one_if}
use Rattle.sql_tree.specs.declared.actions.PieceList.{PieceList}
use Rattle.sql_tree.specs.declared.actions.PieceList.TheVariants as lists
use Rattle.sql_tree.specs.declared.actions.TheConstants.{ATTRIBUTE}
use Rattle.sql_tree.specs.declared.kinds.PieceKind.{PieceKind}
use Rattle.sql_tree.specs.declared.kinds.PieceKind.TheVariants as p
use Rattle.sql_tree.specs.declared.nodes.Piece.{Piece}
use Rattle.sql_tree.specs.Forms.{words_of, take_part, first_whole}
use Rattle.sql_tree.specs.Split.{comma, split, chunks_after, chunks, before, closing, all_of}
use Rattle.sql_tree.specs.ActionPieces.{sequence_option, identity_option, policy_part, begins_pair, constraint_option_len, piece_len, type_in, is_always, piece_in, PieceRow, piece_by, piece_rows, pieces_of, attributes, alone, one_option, other_option, column_option}
use Rattle.law_renumber.specs.Moved.{type_moved, piece_moved}
use Rattle.law_renumber.specs.Options.{OptionsKept, ListKept}
use Rattle.law_renumber.specs.Trees.{PiecesRenumber}
use Rattle.law_renumber.proofs.Seen.{class_sees, Change, Changes, Blind, changed}
use Rattle.law_renumber.proofs.Options.{begins_pair_sees, list_tail}
use Rattle.law_renumber.proofs.Basics.{moves, bind_moved, either_moved, others_moved, all_moved, HasEnds, ends}
use Rattle.law_renumber.proofs.Marks.{comma_is_blind, begins_sees, before_renumbers, split_renumbers, closing_renumbers}
use Rattle.law_renumber.proofs.Types.{type_len_renumbers, type_renumbers}
use Rattle.law_renumber.proofs.Fronts.{whole_renumbers}

-- ---- where pieces begin, and how long they are

pub sequence_is_blind : Blind sequence_option
unfolding sequence_option
sequence_is_blind f None t after = refl
sequence_is_blind f (Some earlier) t after = simp (moves, class_sees)

pub identity_is_blind : Blind identity_option
unfolding identity_option
identity_is_blind f None t after = refl
identity_is_blind f (Some earlier) t after = simp moves

pub policy_is_blind : Blind policy_part
unfolding policy_part
policy_is_blind f None t after = refl
policy_is_blind f (Some earlier) t after = simp (moves, begins_sees)

option_len_sees : (f : Change) (ts : List Terminal) → OptionsKept (changed f) ts → constraint_option_len (map (changed f) ts) ≡ constraint_option_len ts
unfolding constraint_option_len
option_len_sees f ts h = simp (begins_pair_sees f ts h, closing_renumbers)

piece_len_sees : (f : Change) (list : PieceList) (ts : List Terminal) → ListKept (changed f) list ts → piece_len list (map (changed f) ts) ≡ piece_len list ts
unfolding piece_len
piece_len_sees f lists.ConstraintOptions ts h = option_len_sees f ts h
piece_len_sees f lists.IdentityOptions ts h = before_renumbers identity_option identity_is_blind f ts
piece_len_sees f lists.SequenceOptions ts h = before_renumbers sequence_option sequence_is_blind f ts
piece_len_sees f lists.PolicyParts ts h = before_renumbers policy_part policy_is_blind f ts

-- A piece has a terminal.
one_or_more : (b : Bool) (n : ℕ) → 1 ≤ cond b 1 (suc n)
one_or_more true n = omega arith
one_or_more false n = omega arith

two_or : (b : Bool) (n : ℕ) → 1 ≤ n → 1 ≤ cond b 2 n
two_or true n h = omega arith
two_or false n h = h

piece_is_some : (list : PieceList) (t : Terminal) (ts : List Terminal) → 1 ≤ piece_len list (t ∷ ts)
unfolding piece_len constraint_option_len before identity_option sequence_option policy_part
piece_is_some lists.ConstraintOptions t ts =
    two_or (begins_pair (t ∷ ts)) (closing 0 0 (t ∷ ts)) (one_or_more (0 + one_if (is_opener t) == 0 + one_if (is_closer t)) _)
piece_is_some lists.IdentityOptions t ts = omega arith
piece_is_some lists.SequenceOptions t ts = omega arith
piece_is_some lists.PolicyParts t ts = omega arith

taken : (f : Change) (n : ℕ) (t : Terminal) (ts : List Terminal) → 1 ≤ n → HasEnds f (take n (t ∷ ts))
taken f zero t ts h = absurd (omega arith)
taken f (suc n) t ts h = ends f t (take n ts)

-- ---- one piece

type_in_moved : (f : Change) (kind : PieceKind) (rest : List Terminal) → type_in kind (map (changed f) rest) ≡ option_map (type_moved f.number) (type_in kind rest)
unfolding type_in
type_in_moved f p.SetType rest = simp (type_len_renumbers, take-map, type_renumbers)
type_in_moved f kind rest = refl

always_sees : (f : Change) (kind : PieceKind) (rest : List Terminal) → is_always kind (map (changed f) rest) ≡ is_always kind rest
unfolding is_always
always_sees f p.SetGenerated rest = begins_sees f keyword.ALWAYS rest
always_sees f kind rest = refl

piece_in_moved : (f : Change) (ts : List Terminal) → HasEnds f ts → (kind : PieceKind) (rest : List Terminal) →
    piece_in (map (changed f) ts) kind (map (changed f) rest) ≡ piece_moved f.number (piece_in ts kind rest)
piece_in_moved f ts e kind rest = rw (type_in_moved f kind rest, always_sees f kind rest) (simp (length-map, e.first, e.last))

piece_by_moved : (f : Change) (rows : List PieceRow) (ts : List Terminal) → HasEnds f ts →
    piece_by rows (map (changed f) ts) ≡ option_map (piece_moved f.number) (piece_by rows ts)
unfolding piece_by
piece_by_moved f rows ts e =
    rw (whole_renumbers f rows ts) (bind_moved _ _ _ _ (λ x. ap Some (piece_in_moved f ts e x.0 x.1.left)) (first_whole rows ts))

-- by rows of which none reads nothing at all
no_piece : (rows : List PieceRow) → first_whole rows [] ≡ None → piece_by rows [] ≡ None
unfolding piece_by
no_piece rows refused = rw refused refl

piece_moved_by : (f : Change) (rows : List PieceRow) → first_whole rows [] ≡ None → (ts : List Terminal) →
    piece_by rows (map (changed f) ts) ≡ option_map (piece_moved f.number) (piece_by rows ts)
piece_moved_by f rows refused [] = rw (no_piece rows refused) refl
piece_moved_by f rows refused (t ∷ ts) = piece_by_moved f rows (t ∷ ts) (ends f t ts)

-- ---- lists of pieces

after_moved : (f : Change) (rows : List PieceRow) (list : PieceList) (n : ℕ) (ts : List Terminal) → ListKept (changed f) list ts →
    all_of (piece_by rows) (chunks_after (piece_len list) n (map (changed f) ts))
    ≡ option_map (map (piece_moved f.number)) (all_of (piece_by rows) (chunks_after (piece_len list) n ts))
after_moved f rows list zero [] h = refl
after_moved f rows list (suc n) [] h = refl
after_moved f rows list zero (t ∷ ts) h =
    rw (
      piece_len_sees f list (t ∷ ts) h,
      take-map (changed f) (piece_len list (t ∷ ts)) (t ∷ ts),
      piece_by_moved f rows (take (piece_len list (t ∷ ts)) (t ∷ ts)) (taken f (piece_len list (t ∷ ts)) t ts (piece_is_some list t ts)),
      after_moved f rows list (piece_len list (t ∷ ts) - 1) ts (list_tail (changed f) list t ts h),
    )
    (others_moved _ (piece_by rows (take (piece_len list (t ∷ ts)) (t ∷ ts))) (all_of (piece_by rows) (chunks_after (piece_len list) (piece_len list (t ∷ ts) - 1) ts)))
after_moved f rows list (suc n) (t ∷ ts) h = after_moved f rows list n ts (list_tail (changed f) list t ts h)

pub pieces_renumber : Changes PiecesRenumber
unfolding pieces_of chunks
pieces_renumber f list ts h = after_moved f (piece_rows list) list 0 ts h

attribute_refuses : first_whole (map (λ r. (r.0, r.1.now)) ATTRIBUTE) [] ≡ None
unfolding take_part
attribute_refuses = refl

pub attributes_moved : (f : Change) (ts : List Terminal) → attributes (map (changed f) ts) ≡ option_map (map (piece_moved f.number)) (attributes ts)
unfolding attributes
attributes_moved f ts =
    rw (split_renumbers comma comma_is_blind f ts)
    (all_moved _ _ _ _ (piece_moved_by f (map (λ r. (r.0, r.1.now)) ATTRIBUTE) attribute_refuses) (split comma ts))

-- ---- options of a column

alone_moved : (f : Change) (r : Option Piece) → alone (option_map (piece_moved f.number) r) ≡ option_map (map (piece_moved f.number)) (alone r)
alone_moved f None = refl
alone_moved f (Some piece) = refl

one_option_moved : (f : Change) (ts : List Terminal) → HasEnds f ts →
    one_option (map (changed f) ts) ≡ option_map (map (piece_moved f.number)) (one_option ts)
unfolding one_option
one_option_moved f ts e = simp (piece_by_moved, alone_moved)

other_option_moved : (f : Change) (ts : List Terminal) → HasEnds f ts →
    other_option (map (changed f) ts) ≡ option_map (map (piece_moved f.number)) (other_option ts)
unfolding other_option
other_option_moved f ts e = simp (piece_by_moved, alone_moved)

some_option_moved : (f : Change) (ts : List Terminal) → HasEnds f ts →
    column_option (map (changed f) ts) ≡ option_map (map (piece_moved f.number)) (column_option ts)
unfolding column_option
some_option_moved f ts e = simp (one_option_moved, pieces_renumber f lists.IdentityOptions ts tt, other_option_moved, either_moved)

no_option : column_option [] ≡ Some []
unfolding column_option one_option piece_by pieces_of chunks take_part words_of
no_option = refl

pub column_option_moved : (f : Change) (ts : List Terminal) →
    column_option (map (changed f) ts) ≡ option_map (map (piece_moved f.number)) (column_option ts)
column_option_moved f [] = rw no_option refl
column_option_moved f (t ∷ ts) = some_option_moved f (t ∷ ts) (ends f t ts)
