-- The piece [SET DATA] TYPE of an ALTER COLUMN: what it is read of, and what is read with another type.
use Rattle.std.proofs.Common.{◌≡◌, ℕ, Bool, true, false, cond, List, [], ◌∷◌, ◌++◌, map, take, drop, sym, refl, ap, ◌∙◌, subst, Option, Some, None}
use Rattle.std.proofs.lemmas.Bool.{false≢true, and_parts}
use Rattle.std.specs.Prelude.{◌&&◌}
use Rattle.std.specs.List.{list_all}
use Rattle.std.specs.Option.{option_and_then}
use Rattle.law_edit_inserts.specs.sql_keyword.declared.words.Keyword.{Keyword}
use Rattle.law_edit_inserts.specs.sql_keyword.declared.words.Keyword.TheVariants as k
use Rattle.law_edit_inserts.specs.sql_keyword.declared.words.Verb.TheVariants as verbs
use Rattle.law_edit_inserts.specs.sql_keyword.declared.words.Object.TheVariants as objects
use Rattle.law_edit_inserts.specs.sql_keyword.declared.words.Other.TheVariants as others
use Rattle.law_edit_inserts.specs.sql_keyword.declared.words.TheConstants.Keyword as keyword
use Rattle.law_edit_inserts.specs.sql_keyword.Same.{same_keyword}
use Rattle.law_edit_inserts.specs.sql_token.declared.terminal.Symbol.{Symbol}
use Rattle.law_edit_inserts.specs.sql_token.declared.terminal.Symbol.TheVariants as s
use Rattle.law_edit_inserts.specs.sql_token.declared.terminal.Terminal.{Terminal}
use Rattle.law_edit_inserts.specs.sql_token.Terminal.{is_keyword, is_keyword_symbol, is_name}
use Rattle.law_edit_inserts.specs.sql_tree.declared.actions.PieceList.TheVariants as lists
use Rattle.law_edit_inserts.specs.sql_tree.declared.actions.TheConstants.{COLUMN_OPTION, OTHER_OPTION}
use Rattle.law_edit_inserts.specs.sql_tree.declared.forms.Fact.TheVariants as m
use Rattle.law_edit_inserts.specs.sql_tree.declared.forms.Part.{Part}
use Rattle.law_edit_inserts.specs.sql_tree.declared.forms.Part.TheVariants as p
use Rattle.law_edit_inserts.specs.sql_tree.declared.forms.Phrase.TheVariants as phrase
use Rattle.law_edit_inserts.specs.sql_tree.declared.kinds.PieceKind.{PieceKind}
use Rattle.law_edit_inserts.specs.sql_tree.declared.kinds.PieceKind.TheVariants as piece
use Rattle.law_edit_inserts.specs.sql_tree.declared.nodes.Piece.{Piece}
use Rattle.law_edit_inserts.specs.sql_tree.ActionPieces.{PieceRow, piece_in, piece_by, piece_rows, piece_len, pieces_of, alone, one_option, other_option, column_option}
use Rattle.law_edit_inserts.specs.sql_tree.Forms.{State, at, one, or_here, nothing_kept, words_of, after_words, fresh, take_part, in_turn, all_taken, finished, first_whole}
use Rattle.law_edit_inserts.specs.sql_tree.Split.{chunks, all_of, and_others}
use Rattle.law_edit_inserts.specs.Concurrently.{key}
use Rattle.law_edit_inserts.proofs.Leading.{Given, given_then, given_more}
use Rattle.law_edit_types.specs.Runs.{last_or}
use Rattle.law_edit_types.proofs.Rows.{either_given, row_given, rows_pass, whole_given}

-- ---- pieces of other kinds

abbrev pub no_type_kind : PieceKind → Bool
no_type_kind piece.SetType = false
no_type_kind _ = true

-- none of these pieces gives a type
abbrev pub no_type : List Piece → Bool
no_type pieces = list_all (λ x. no_type_kind x.kind) pieces

abbrev pub NoType : List Piece → Type 0
NoType pieces = no_type pieces ≡ true

piece_none : (rows : List PieceRow) (ts : List Terminal) → rows_pass no_type_kind rows ≡ true → Given (λ x. no_type_kind x.kind ≡ true) (piece_by rows ts)
unfolding piece_by
piece_none rows ts h = given_then (λ (f : PieceKind × State). no_type_kind f.0 ≡ true) (λ x. no_type_kind x.kind ≡ true) (λ f. Some (piece_in ts f.0 f.1.left)) (first_whole rows ts) (whole_given no_type_kind rows ts h) (λ f g. g)

all_none : (rows : List PieceRow) (ss : List (List Terminal)) → rows_pass no_type_kind rows ≡ true → Given NoType (all_of (piece_by rows) ss)
all_none rows [] h = refl
all_none rows (x ∷ xs) h = by (piece_by rows x) (all_of (piece_by rows) xs) (piece_none rows x h) (all_none rows xs h)
  where
    both : (a b : Bool) → a ≡ true → b ≡ true → (a && b) ≡ true
    both a b p q = λ i. p i && q i

    by : (o : Option Piece) (r : Option (List Piece)) → Given (λ x. no_type_kind x.kind ≡ true) o → Given NoType r → Given NoType (and_others o r)
    by None r g f = tt
    by (Some x) None g f = tt
    by (Some x) (Some xs) g f = both (no_type_kind x.kind) (no_type xs) g f

pub pieces_none : (ts : List Terminal) → Given NoType (pieces_of lists.ConstraintOptions ts)
unfolding pieces_of piece_rows
pieces_none ts = all_none _ (chunks (piece_len lists.ConstraintOptions) ts) refl

identity_none : (ts : List Terminal) → Given NoType (pieces_of lists.IdentityOptions ts)
unfolding pieces_of piece_rows
identity_none ts = all_none _ (chunks (piece_len lists.IdentityOptions) ts) refl

alone_none : (o : Option Piece) → Given (λ x. no_type_kind x.kind ≡ true) o → Given NoType (alone o)
alone_none None g = tt
alone_none (Some x) g = λ i. g i && true

other_piece_none : (ts : List Terminal) → Given NoType (other_option ts)
unfolding other_option
other_piece_none ts = alone_none _ (piece_none (map (λ r. (r.0, r.1.now)) OTHER_OPTION) ts refl)

-- ---- what the piece is read of

-- TYPE, or SET DATA TYPE, and what follows it: with another rest it is the piece of that rest
pub record SetTypeAt (ts : List Terminal) (left : List Terminal) : Type 0 where
  pub first : Terminal
  pub lead : List Terminal
  pub parts : ts ≡ (first ∷ lead) ++ left
  pub names : list_all is_name (first ∷ lead) ≡ true
  pub ends : is_name (last_or first lead) ≡ true
  pub calm : is_keyword keyword.INITIALLY (last_or first lead) ≡ false
  pub stays : (rest : List Terminal) → column_option ((first ∷ lead) ++ rest) ≡ Some (piece_in ((first ∷ lead) ++ rest) piece.SetType rest ∷ [])

type_keyword : (w : Keyword) → same_keyword w keyword.TYPE ≡ true → keyword.TYPE ≡ w
unfolding same_keyword
type_keyword (k.Verb verbs.Set) h = absurd (false≢true h)
type_keyword (k.Object objects.«Type») h = refl
type_keyword (k.Other others.Add) h = absurd (false≢true h)
type_keyword w h = absurd (false≢true h)

set_keyword : (w : Keyword) → same_keyword w keyword.SET ≡ true → keyword.SET ≡ w
unfolding same_keyword
set_keyword (k.Verb verbs.Set) h = refl
set_keyword (k.Object objects.Table) h = absurd (false≢true h)
set_keyword (k.Other others.Add) h = absurd (false≢true h)
set_keyword w h = absurd (false≢true h)

data_keyword : (w : Keyword) → same_keyword w keyword.DATA ≡ true → keyword.DATA ≡ w
unfolding same_keyword
data_keyword (k.Verb verbs.Set) h = absurd (false≢true h)
data_keyword (k.Object objects.Data) h = refl
data_keyword (k.Other others.Add) h = absurd (false≢true h)
data_keyword w h = absurd (false≢true h)

symbol_word : (v : Keyword) → ((w : Keyword) → same_keyword w v ≡ true → v ≡ w) → (x : Symbol) → is_keyword_symbol v x ≡ true → s.Keyword v ≡ x
symbol_word v each (s.Keyword w) h = ap (λ (y : Keyword). s.Keyword y) (each w h)
symbol_word v each x h = absurd (false≢true h)

pub terminal_word : (v : Keyword) → ((w : Keyword) → same_keyword w v ≡ true → v ≡ w) → (t : Terminal) → is_keyword v t ≡ true → key v t.number ≡ t
unfolding is_keyword
terminal_word v each t h = ap (λ (x : Symbol). record { symbol = x; number = t.number }) (symbol_word v each t.symbol h)

type_stays : (n : ℕ) (rest : List Terminal) → column_option (key keyword.TYPE n ∷ rest) ≡ Some (piece_in (key keyword.TYPE n ∷ rest) piece.SetType rest ∷ [])
unfolding column_option one_option piece_by take_part words_of is_keyword same_keyword
type_stays n rest = refl

set_stays : (a b n : ℕ) (rest : List Terminal) → column_option (key keyword.SET a ∷ key keyword.DATA b ∷ key keyword.TYPE n ∷ rest) ≡ Some (piece_in (key keyword.SET a ∷ key keyword.DATA b ∷ key keyword.TYPE n ∷ rest) piece.SetType rest ∷ [])
unfolding column_option one_option piece_by take_part words_of is_keyword same_keyword
set_stays a b n rest = refl

type_calm : (n : ℕ) → is_keyword keyword.INITIALLY (key keyword.TYPE n) ≡ false
unfolding is_keyword same_keyword
type_calm n = refl

type_at : (t : Terminal) (left : List Terminal) → is_keyword keyword.TYPE t ≡ true → SetTypeAt (t ∷ left) left
unfolding is_name
type_at t left h =
    let word = terminal_word keyword.TYPE type_keyword t h in
    subst (λ (x : Terminal). SetTypeAt (x ∷ left) left) word
    (record { first = key keyword.TYPE t.number; lead = []; parts = refl; names = refl; ends = refl; calm = type_calm t.number; stays = λ rest. type_stays t.number rest })

set_at : (x y t : Terminal) (left : List Terminal) → is_keyword keyword.SET x ≡ true → is_keyword keyword.DATA y ≡ true → is_keyword keyword.TYPE t ≡ true → SetTypeAt (x ∷ y ∷ t ∷ left) left
unfolding is_name
set_at x y t left f g h =
    let set = terminal_word keyword.SET set_keyword x f in
    let data_is = terminal_word keyword.DATA data_keyword y g in
    let word = terminal_word keyword.TYPE type_keyword t h in
    subst (λ (l : List Terminal). SetTypeAt l left) (λ i. set i ∷ data_is i ∷ word i ∷ left)
    (record {
      first = key keyword.SET x.number;
      lead = key keyword.DATA y.number ∷ key keyword.TYPE t.number ∷ [];
      parts = refl;
      names = refl;
      ends = refl;
      calm = type_calm t.number;
      stays = λ rest. set_stays x.number y.number t.number rest;
    })

-- ---- back from the piece

abbrev set_type_parts : List Part
set_type_parts = p.Maybe phrase.SetData m.Nothing ∷ p.Word keyword.TYPE ∷ p.Rest ∷ []

-- what the row of the piece shows
abbrev RowShows : List Terminal → PieceKind × State → Type 0
RowShows ts f = no_type_kind f.0 ≡ false → SetTypeAt ts f.1.left

abbrev read_rest : Option State → Option (PieceKind × State)
read_rest r = option_and_then (λ e. option_and_then (λ w. Some (piece.SetType, w)) (all_taken e)) (option_and_then (λ st. in_turn (p.Rest ∷ []) st.kept st.left) r)

-- after the phrase, where it is there
typed_at : (ts : List Terminal) (l : List Terminal) → ((t : Terminal) (left : List Terminal) → l ≡ t ∷ left → is_keyword keyword.TYPE t ≡ true → SetTypeAt ts left) → Given (RowShows ts) (read_rest (one (is_keyword keyword.TYPE) nothing_kept fresh l))
unfolding take_part
typed_at ts [] each = tt
typed_at ts (t ∷ left) each = by (is_keyword keyword.TYPE t) refl
  where
    by : (b : Bool) → is_keyword keyword.TYPE t ≡ b → Given (RowShows ts) (read_rest (cond b (Some (at fresh left)) None))
    by false h = tt
    by true h = λ x. each t left refl h

abbrev read_word : State → Option (PieceKind × State)
read_word st = read_rest (one (is_keyword keyword.TYPE) nothing_kept st.kept st.left)

bare_shows : (ts : List Terminal) → Given (RowShows ts) (read_word (at fresh ts))
bare_shows ts = typed_at ts ts (λ t left same h. subst (λ (l : List Terminal). SetTypeAt l left) (sym same) (type_at t left h))

-- what is left after SET DATA, where the first of these words is there or is not
abbrev after_set : Bool → List Terminal → List Terminal → State
after_set a l ts = or_here (option_and_then (λ rest. Some (at fresh rest)) (option_and_then (after_words (keyword.DATA ∷ [])) (cond a (Some l) None))) fresh ts

abbrev after_data : Bool → List Terminal → List Terminal → State
after_data b rest ts = or_here (option_and_then (λ rest. Some (at fresh rest)) (option_and_then (after_words []) (cond b (Some rest) None))) fresh ts

data_shows : (x y : Terminal) (rest : List Terminal) → is_keyword keyword.SET x ≡ true → (b : Bool) → is_keyword keyword.DATA y ≡ b → Given (RowShows (x ∷ y ∷ rest)) (read_word (after_data b rest (x ∷ y ∷ rest)))
data_shows x y rest f false g = bare_shows (x ∷ y ∷ rest)
data_shows x y rest f true g = typed_at (x ∷ y ∷ rest) rest (λ t left same h. subst (λ (l : List Terminal). SetTypeAt (x ∷ y ∷ l) left) (sym same) (set_at x y t left f g h))

set_shows : (x : Terminal) (l : List Terminal) (a : Bool) → is_keyword keyword.SET x ≡ a → Given (RowShows (x ∷ l)) (read_word (after_set a l (x ∷ l)))
set_shows x l false f = bare_shows (x ∷ l)
set_shows x [] true f = bare_shows (x ∷ [])
set_shows x (y ∷ rest) true f = data_shows x y rest f (is_keyword keyword.DATA y) refl

row_shows : (ts : List Terminal) → Given (RowShows ts) (finished piece.SetType set_type_parts (at fresh ts))
unfolding take_part words_of
row_shows [] = tt
row_shows (x ∷ l) = set_shows x l (is_keyword keyword.SET x) refl

-- the other rows are of other kinds
other_row : (ts : List Terminal) (kind : PieceKind) (parts : List Part) → no_type_kind kind ≡ true → Given (RowShows ts) (finished kind parts (at fresh ts))
other_row ts kind parts h = row_given (RowShows ts) kind parts (at fresh ts) (λ e g. absurd (false≢true (sym g ∙ h)))

rows_show : (ts : List Terminal) (before after : List PieceRow) → rows_pass no_type_kind before ≡ true → rows_pass no_type_kind after ≡ true → Given (RowShows ts) (first_whole (before ++ (piece.SetType, set_type_parts) ∷ after) ts)
rows_show ts [] after h g = either_given (RowShows ts) (finished piece.SetType set_type_parts (at fresh ts)) (first_whole after ts) (row_shows ts) (later after g)
  where
    later : (rows : List PieceRow) → rows_pass no_type_kind rows ≡ true → Given (RowShows ts) (first_whole rows ts)
    later rows h = given_more (λ (f : PieceKind × State). no_type_kind f.0 ≡ true) (RowShows ts) (first_whole rows ts) (λ f x y. absurd (false≢true (sym y ∙ x))) (whole_given no_type_kind rows ts h)
rows_show ts (r ∷ before) after h g =
    let both = and_parts (no_type_kind r.0) (rows_pass no_type_kind before) h in
    either_given (RowShows ts) (finished r.0 r.1 (at fresh ts)) (first_whole (before ++ (piece.SetType, set_type_parts) ∷ after) ts) (other_row ts r.0 r.1 both.0) (rows_show ts before after both.1 g)

-- the rows of an option of a column
abbrev option_rows : List PieceRow
option_rows = map (λ r. (r.0, r.1.now)) COLUMN_OPTION

options_show : (ts : List Terminal) → Given (RowShows ts) (first_whole option_rows ts)
options_show ts = rows_show ts (take 4 option_rows) (drop 5 option_rows) refl refl

-- The pieces of an option of a column: one that gives a type is there alone, and is read of such terminals.
pub record OptionShows (ts : List Terminal) (pieces : List Piece) : Type 0 where
  pub left : List Terminal
  pub at : SetTypeAt ts left
  pub is : pieces ≡ piece_in ts piece.SetType left ∷ []

abbrev pub Shows : List Terminal → List Piece → Type 0
Shows ts pieces = no_type pieces ≡ false → OptionShows ts pieces

quiet_shows : (ts : List Terminal) (o : Option (List Piece)) → Given NoType o → Given (Shows ts) o
quiet_shows ts None g = tt
quiet_shows ts (Some pieces) g = λ h. absurd (false≢true (sym h ∙ g))

kind_is : (kind : PieceKind) → no_type_kind kind ≡ false → kind ≡ piece.SetType
kind_is piece.SetType h = refl
kind_is kind h = absurd (false≢true (sym h))

one_shows : (ts : List Terminal) → Given (Shows ts) (one_option ts)
unfolding one_option piece_by
one_shows ts = by (first_whole option_rows ts) (options_show ts)
  where
    alone_is : (b : Bool) → (b && true) ≡ false → b ≡ false
    alone_is true h = h
    alone_is false h = refl

    by : (o : Option (PieceKind × State)) → Given (RowShows ts) o → Given (Shows ts) (alone (option_and_then (λ (f : PieceKind × State). Some (piece_in ts f.0 f.1.left)) o))
    by None g = tt
    by (Some f) g = λ h.
        let none = alone_is (no_type_kind f.0) h in
        let kind = kind_is f.0 none in
        record { left = f.1.left; at = g none; is = λ i. piece_in ts (kind i) f.1.left ∷ [] }

pub option_shows : (ts : List Terminal) → Given (Shows ts) (column_option ts)
unfolding column_option
option_shows ts =
    either_given (Shows ts) (one_option ts) _ (one_shows ts)
    (either_given (Shows ts) (pieces_of lists.IdentityOptions ts) (other_option ts) (quiet_shows ts (pieces_of lists.IdentityOptions ts) (identity_none ts)) (quiet_shows ts (other_option ts) (other_piece_none ts)))
