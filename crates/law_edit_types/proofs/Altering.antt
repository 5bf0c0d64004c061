-- The action ALTER [COLUMN] name: what it is read of.
use Rattle.std.proofs.Common.{◌≡◌, ◌⊎◌, inl, inr, ℕ, Bool, true, false, cond, List, [], ◌∷◌, ◌++◌, sym, refl, ap, ◌∙◌, subst, Option, Some, None}
use Rattle.std.proofs.lemmas.Bool.{false≢true}
use Rattle.std.specs.Prelude.{◌&&◌}
use Rattle.std.specs.List.{list_all}
use Rattle.std.specs.Option.{option_and_then}
use Rattle.law_edit_inserts.specs.sql_keyword.declared.words.Keyword.{Keyword}
use Rattle.law_edit_inserts.specs.sql_keyword.declared.words.Keyword.TheVariants as k
use Rattle.law_edit_inserts.specs.sql_keyword.declared.words.Verb.TheVariants as verbs
use Rattle.law_edit_inserts.specs.sql_keyword.declared.words.Object.TheVariants as objects
use Rattle.law_edit_inserts.specs.sql_keyword.declared.words.Other.TheVariants as others
use Rattle.law_edit_inserts.specs.sql_keyword.declared.words.TheConstants.Keyword as keyword
use Rattle.law_edit_inserts.specs.sql_keyword.Same.{same_keyword}
use Rattle.law_edit_inserts.specs.sql_token.declared.terminal.Symbol.{Symbol}
use Rattle.law_edit_inserts.specs.sql_token.declared.terminal.Symbol.TheVariants as s
use Rattle.law_edit_inserts.specs.sql_token.declared.terminal.Terminal.{Terminal}
use Rattle.law_edit_inserts.specs.sql_token.Terminal.{is_keyword, is_keyword_symbol, is_name}
use Rattle.law_edit_inserts.specs.sql_tree.declared.actions.PieceList.TheVariants as lists
use Rattle.law_edit_inserts.specs.sql_tree.declared.forms.Captures.{Captures}
use Rattle.law_edit_inserts.specs.sql_tree.declared.forms.Part.{Part}
use Rattle.law_edit_inserts.specs.sql_tree.declared.forms.Part.TheVariants as p
use Rattle.law_edit_inserts.specs.sql_tree.declared.kinds.ActionKind.{ActionKind}
use Rattle.law_edit_inserts.specs.sql_tree.declared.kinds.ActionKind.TheVariants as a
use Rattle.law_edit_inserts.specs.sql_tree.declared.kinds.StmtKind.TheVariants as stmt
use Rattle.law_edit_inserts.specs.sql_tree.declared.nodes.Action.{Action}
use Rattle.law_edit_inserts.specs.sql_tree.declared.nodes.Piece.{Piece}
use Rattle.law_edit_inserts.specs.sql_tree.Forms.{State, at, or_here, word_kept, name_kept, either_of, fresh, opened, take_part, in_turn, all_taken}
use Rattle.law_edit_inserts.specs.sql_tree.ActionPieces.{pieces_of, column_option}
use Rattle.law_edit_inserts.specs.sql_tree.ActionRows.{first_rows, first_rows_at, own_rows, general_rows, general_rows_at}
use Rattle.law_edit_inserts.specs.sql_tree.Action.{add_constraint, takes_constraint, added_constraint, column_in, pieces_in, action_in, built, by_rows, own_part, own_action, general_action, listed_action, unlisted_action, action}
use Rattle.law_edit_inserts.specs.Concurrently.{key}
use Rattle.law_edit_inserts.proofs.Leading.{Given, given_any, given_then}
use Rattle.law_edit_types.proofs.Rows.{either_given, rows_pass, unlisted_given, action_given}
use Rattle.law_edit_types.proofs.SetTypes.{NoType, pieces_none, terminal_word}
use Rattle.law_edit_inserts.proofs.Fields.{key_name}

-- ---- actions without pieces

abbrev no_pieces : ActionKind → Bool
no_pieces a.AlterConstraint = false
no_pieces a.AlterColumn = false
no_pieces a.SequenceOptions = false
no_pieces a.PolicyChange = false
no_pieces a.Attributes = false
no_pieces _ = true

abbrev pub NoPieceType : Action → Type 0
NoPieceType x = NoType x.pieces

pieces_kind_none : (kind : ActionKind) (rest : List Terminal) → no_pieces kind ≡ true → pieces_in kind rest ≡ Some []
unfolding pieces_in
pieces_kind_none a.AlterConstraint rest h = absurd (false≢true h)
pieces_kind_none a.AlterColumn rest h = absurd (false≢true h)
pieces_kind_none a.SequenceOptions rest h = absurd (false≢true h)
pieces_kind_none a.PolicyChange rest h = absurd (false≢true h)
pieces_kind_none a.Attributes rest h = absurd (false≢true h)
pieces_kind_none kind rest h = refl

built_none : (zs : List Terminal) (kind : ActionKind) (e : State) → no_pieces kind ≡ true → Given NoPieceType (built zs kind e)
unfolding built
built_none zs kind e h =
    given_any NoPieceType (λ column. option_and_then (λ pieces. Some (action_in zs kind e.kept column pieces)) (pieces_in kind e.left)) (column_in kind e.left)
    (λ column. subst (λ (o : Option (List Piece)). Given NoPieceType (option_and_then (λ pieces. Some (action_in zs kind e.kept column pieces)) o)) (sym (pieces_kind_none kind e.left h)) refl)

first_quiet : (x : Symbol) → rows_pass no_pieces (first_rows_at x) ≡ true
unfolding first_rows_at first_rows
first_quiet (s.Keyword (k.Verb verbs.Set)) = refl
first_quiet (s.Keyword (k.Verb w)) = refl
first_quiet (s.Keyword (k.Object w)) = refl
first_quiet (s.Keyword (k.Other others.Owner)) = refl
first_quiet (s.Keyword (k.Other others.Rename)) = refl
first_quiet (s.Keyword (k.Other w)) = refl
first_quiet x = refl

general_quiet : (x : Symbol) → is_keyword_symbol keyword.ALTER x ≡ false → rows_pass no_pieces (general_rows_at x) ≡ true
unfolding general_rows_at general_rows same_keyword
general_quiet (s.Keyword (k.Verb verbs.Alter)) h = absurd (false≢true (sym h))
general_quiet (s.Keyword (k.Verb w)) h = refl
general_quiet (s.Keyword (k.Object w)) h = refl
general_quiet (s.Keyword (k.Other others.Add)) h = refl
general_quiet (s.Keyword (k.Other w)) h = refl
general_quiet x h = refl

pub other_none : (zs : List Terminal) → Given NoPieceType (unlisted_action stmt.AlterTable zs)
other_none zs = unlisted_given no_pieces NoPieceType built_none zs refl

-- Only ALTER has a piece that gives a type.
pub others_none : (x : Terminal) (ts : List Terminal) → is_keyword_symbol keyword.ALTER x.symbol ≡ false → Given NoPieceType (action stmt.AlterTable (x ∷ ts))
others_none x ts h = action_given no_pieces NoPieceType built_none (λ zs c. refl) x ts (first_quiet x.symbol) (general_quiet x.symbol h) refl

alter_keyword : (w : Keyword) → same_keyword w keyword.ALTER ≡ true → keyword.ALTER ≡ w
unfolding same_keyword
alter_keyword (k.Verb verbs.Alter) h = refl
alter_keyword (k.Object objects.Table) h = absurd (false≢true h)
alter_keyword (k.Other others.Add) h = absurd (false≢true h)
alter_keyword w h = absurd (false≢true h)

pub alter_symbol : (x : Symbol) → is_keyword_symbol keyword.ALTER x ≡ true → s.Keyword keyword.ALTER ≡ x
alter_symbol (s.Keyword w) h = ap (λ (y : Keyword). s.Keyword y) (alter_keyword w h)
alter_symbol x h = absurd (false≢true h)

column_keyword : (w : Keyword) → same_keyword w keyword.COLUMN ≡ true → keyword.COLUMN ≡ w
unfolding same_keyword
column_keyword (k.Verb verbs.Alter) h = absurd (false≢true h)
column_keyword (k.Object objects.Column) h = refl
column_keyword (k.Other others.Add) h = absurd (false≢true h)
column_keyword w h = absurd (false≢true h)

-- ---- the two rows of ALTER

abbrev constraint_from : List Part → Option State → Option (ActionKind × State)
constraint_from parts r = option_and_then (λ e. option_and_then (λ w. Some (a.AlterConstraint, w)) (all_taken e)) (option_and_then (λ st. in_turn parts st.kept st.left) r)

abbrev column_from : List Part → Option State → Option (ActionKind × State)
column_from parts r = option_and_then (λ e. option_and_then (λ w. Some (a.AlterColumn, w)) (all_taken e)) (option_and_then (λ st. in_turn parts st.kept st.left) r)

-- the action, by what the two rows read
abbrev alter_from : List Terminal → Option (ActionKind × State) → Option (ActionKind × State) → Option Action
alter_from zs x y = either_of (option_and_then (λ (f : ActionKind × State). built zs f.0 f.1) (either_of x (either_of y None))) (unlisted_action stmt.AlterTable zs)

abbrev after_constraint : List Part
after_constraint = p.Name ∷ p.Rest ∷ []

abbrev after_column : List Part
after_column = p.Name ∷ p.Tail ∷ []

alter_is : (n : ℕ) (y : Terminal) (ys : List Terminal) → action stmt.AlterTable (key keyword.ALTER n ∷ y ∷ ys)
    ≡ alter_from (key keyword.ALTER n ∷ y ∷ ys) (constraint_from after_constraint (cond (is_keyword keyword.CONSTRAINT y) (Some (at (word_kept y fresh) ys)) None))
    (column_from after_column (Some (or_here (cond (is_keyword keyword.COLUMN y) (Some (at (word_kept y fresh) ys)) None) fresh (y ∷ ys))))
unfolding action listed_action own_action general_action own_part own_rows first_rows_at first_rows general_rows_at general_rows added_constraint takes_constraint add_constraint is_keyword same_keyword by_rows take_part
alter_is n y ys = refl

-- where it is a column's, that is by what its pieces are
abbrev pub column_action : List Terminal → Captures → Option (List Piece) → Option Action
column_action zs c r = either_of (option_and_then (λ pieces. Some (action_in zs a.AlterColumn (opened c) None pieces)) r) (unlisted_action stmt.AlterTable zs)

column_built : (zs : List Terminal) (c : Captures) (u : Terminal) (us : List Terminal) → alter_from zs None (Some (a.AlterColumn, at (opened c) (u ∷ us))) ≡ column_action zs c (column_option (u ∷ us))
unfolding built column_in pieces_in
column_built zs c u us = refl

-- The front of an ALTER [COLUMN] name: another option of the column may come after it, if it begins with the same terminal.
pub record AlterFront (n : ℕ) (ts : List Terminal) : Type 0 where
  pub front : List Terminal
  pub u : Terminal
  pub us : List Terminal
  pub kept : Captures
  pub parts : ts ≡ front ++ u ∷ us
  pub names : list_all is_name front ≡ true
  pub reads : (vs : List Terminal) → action stmt.AlterTable (key keyword.ALTER n ∷ (front ++ u ∷ vs)) ≡ column_action (key keyword.ALTER n ∷ (front ++ u ∷ vs)) kept (column_option (u ∷ vs))

abbrev pub AlterShows : ℕ → List Terminal → Type 0
AlterShows n ts = AlterFront n ts ⊎ Given NoPieceType (action stmt.AlterTable (key keyword.ALTER n ∷ ts))

-- ---- ALTER COLUMN name

-- where neither row reads
neither : (zs : List Terminal) → Given NoPieceType (alter_from zs None None)
neither zs = other_none zs

column_is : (n m : ℕ) (ys : List Terminal) → action stmt.AlterTable (key keyword.ALTER n ∷ key keyword.COLUMN m ∷ ys)
    ≡ alter_from (key keyword.ALTER n ∷ key keyword.COLUMN m ∷ ys) None (column_from after_column (Some (at (word_kept (key keyword.COLUMN m) fresh) ys)))
unfolding is_keyword same_keyword
column_is n m ys = alter_is n (key keyword.COLUMN m) ys

abbrev named_column : ℕ → Terminal → Captures
named_column m t = name_kept t (word_kept (key keyword.COLUMN m) fresh)

column_named : (n m : ℕ) (t u : Terminal) (us : List Terminal) → is_name t ≡ true →
    action stmt.AlterTable (key keyword.ALTER n ∷ key keyword.COLUMN m ∷ t ∷ u ∷ us) ≡ column_action (key keyword.ALTER n ∷ key keyword.COLUMN m ∷ t ∷ u ∷ us) (named_column m t) (column_option (u ∷ us))
unfolding take_part
column_named n m t u us h =
    let zs : List Terminal = key keyword.ALTER n ∷ key keyword.COLUMN m ∷ t ∷ u ∷ us in
    column_is n m (t ∷ u ∷ us)
    ∙ (λ i. alter_from zs None (column_from (p.Tail ∷ []) (cond (h i) (Some (at (named_column m t) (u ∷ us))) None)))
    ∙ column_built zs (named_column m t) u us

column_shows : (n m : ℕ) (ys : List Terminal) → AlterShows n (key keyword.COLUMN m ∷ ys)
unfolding take_part
column_shows n m [] = inr (subst (Given NoPieceType) (sym (column_is n m [])) (neither (key keyword.ALTER n ∷ key keyword.COLUMN m ∷ [])))
column_shows n m (t ∷ us) = by (is_name t) refl us
  where
    zs : List Terminal → List Terminal
    zs us = key keyword.ALTER n ∷ key keyword.COLUMN m ∷ t ∷ us

    read : Bool → List Terminal → Option Action
    read b us = alter_from (zs us) None (column_from (p.Tail ∷ []) (cond b (Some (at (named_column m t) us)) None))

    by : (b : Bool) → is_name t ≡ b → (us : List Terminal) → AlterShows n (key keyword.COLUMN m ∷ t ∷ us)
    by false h us = inr (subst (Given NoPieceType) (sym (column_is n m (t ∷ us) ∙ (λ i. read (h i) us))) (neither (zs us)))
    by true h [] = inr (subst (Given NoPieceType) (sym (column_is n m (t ∷ []) ∙ (λ i. read (h i) []))) (neither (zs [])))
    by true h (u ∷ us) = inl (record {
      front = key keyword.COLUMN m ∷ t ∷ [];
      u = u;
      us = us;
      kept = named_column m t;
      parts = refl;
      names = (let c = key_name keyword.COLUMN m in λ i. c i && (h i && true));
      reads = λ vs. column_named n m t u vs h;
    })

-- ---- ALTER name

-- the rows where the first terminal is not COLUMN: of a constraint, or of a column of that name
abbrev bare : ℕ → Terminal → List Terminal → Bool → Bool → Option Action
bare n y ys c g = alter_from (key keyword.ALTER n ∷ y ∷ ys) (constraint_from after_constraint (cond c (Some (at (word_kept y fresh) ys)) None)) (column_from (p.Tail ∷ []) (cond g (Some (at (name_kept y fresh) ys)) None))

bare_is : (n : ℕ) (y : Terminal) (ys : List Terminal) → is_keyword keyword.COLUMN y ≡ false → action stmt.AlterTable (key keyword.ALTER n ∷ y ∷ ys) ≡ bare n y ys (is_keyword keyword.CONSTRAINT y) (is_name y)
unfolding take_part
bare_is n y ys h =
    alter_is n y ys
    ∙ (λ i. alter_from (key keyword.ALTER n ∷ y ∷ ys) (constraint_from after_constraint (cond (is_keyword keyword.CONSTRAINT y) (Some (at (word_kept y fresh) ys)) None))
    (column_from after_column (Some (or_here (cond (h i) (Some (at (word_kept y fresh) ys)) None) fresh (y ∷ ys)))))

constraint_none : (zs : List Terminal) (e : State) → Given NoPieceType (built zs a.AlterConstraint e)
unfolding built column_in pieces_in
constraint_none zs e =
    given_then NoType NoPieceType (λ pieces. Some (action_in zs a.AlterConstraint e.kept None pieces)) (pieces_of lists.ConstraintOptions e.left) (pieces_none e.left) (λ pieces h. h)

-- the row of a constraint reads, where a name follows: no type
constraint_reads : (n : ℕ) (y z : Terminal) (ys : List Terminal) (g : Bool) → is_name z ≡ true → Given NoPieceType (bare n y (z ∷ ys) true g)
unfolding take_part
constraint_reads n y z ys g h =
    let zs : List Terminal = key keyword.ALTER n ∷ y ∷ z ∷ ys in
    let old : Option (ActionKind × State) = column_from (p.Tail ∷ []) (cond g (Some (at (name_kept y fresh) (z ∷ ys))) None) in
    subst (Given NoPieceType)
    (λ i. alter_from zs (constraint_from (p.Rest ∷ []) (cond (sym h i) (Some (at (name_kept z (word_kept y fresh)) ys)) None)) old)
    (either_given NoPieceType (built zs a.AlterConstraint (at (opened (name_kept z (word_kept y fresh))) ys)) (unlisted_action stmt.AlterTable zs) (constraint_none zs (at (opened (name_kept z (word_kept y fresh))) ys)) (other_none zs))

-- it does not
constraint_fails : (n : ℕ) (y z : Terminal) (ys : List Terminal) (g : Bool) → is_name z ≡ false → bare n y (z ∷ ys) true g ≡ bare n y (z ∷ ys) false g
unfolding take_part
constraint_fails n y z ys g h =
    λ i. alter_from (key keyword.ALTER n ∷ y ∷ z ∷ ys) (constraint_from (p.Rest ∷ []) (cond (h i) (Some (at (name_kept z (word_kept y fresh)) ys)) None)) (column_from (p.Tail ∷ []) (cond g (Some (at (name_kept y fresh) (z ∷ ys))) None))

bare_named : (n : ℕ) (y u : Terminal) (us : List Terminal) → bare n y (u ∷ us) false true ≡ column_action (key keyword.ALTER n ∷ y ∷ u ∷ us) (name_kept y fresh) (column_option (u ∷ us))
unfolding take_part
bare_named n y u us = column_built (key keyword.ALTER n ∷ y ∷ u ∷ us) (name_kept y fresh) u us

-- no name
bare_none : (n : ℕ) (y : Terminal) (ys : List Terminal) → Given NoPieceType (bare n y ys false false)
bare_none n y ys = neither (key keyword.ALTER n ∷ y ∷ ys)

-- nothing after it
bare_alone : (n : ℕ) (y : Terminal) (c g : Bool) → Given NoPieceType (bare n y [] c g)
unfolding take_part
bare_alone n y true true = neither (key keyword.ALTER n ∷ y ∷ [])
bare_alone n y true false = neither (key keyword.ALTER n ∷ y ∷ [])
bare_alone n y false true = neither (key keyword.ALTER n ∷ y ∷ [])
bare_alone n y false false = neither (key keyword.ALTER n ∷ y ∷ [])

bare_shows : (n : ℕ) (y : Terminal) (ys : List Terminal) → is_keyword keyword.COLUMN y ≡ false → AlterShows n (y ∷ ys)
bare_shows n y [] h = inr (subst (Given NoPieceType) (sym (bare_is n y [] h)) (bare_alone n y (is_keyword keyword.CONSTRAINT y) (is_name y)))
bare_shows n y (u ∷ us) h = by (is_keyword keyword.CONSTRAINT y) (is_name y) (is_name u) refl refl refl
  where
    -- the row of a constraint fails, and the name is one
    front : ((vs : List Terminal) → bare n y (u ∷ vs) (is_keyword keyword.CONSTRAINT y) (is_name y) ≡ bare n y (u ∷ vs) false true) → is_name y ≡ true → AlterFront n (y ∷ u ∷ us)
    front fails g = record {
      front = y ∷ [];
      u = u;
      us = us;
      kept = name_kept y fresh;
      parts = refl;
      names = λ i. g i && true;
      reads = λ vs. bare_is n y (u ∷ vs) h ∙ fails vs ∙ bare_named n y u vs;
    }

    none : (c g : Bool) → is_keyword keyword.CONSTRAINT y ≡ c → is_name y ≡ g → Given NoPieceType (bare n y (u ∷ us) c g) → AlterShows n (y ∷ u ∷ us)
    none c g q r x = inr (subst (Given NoPieceType) (sym (bare_is n y (u ∷ us) h ∙ (λ i. bare n y (u ∷ us) (q i) (r i)))) x)

    by : (c g d : Bool) → is_keyword keyword.CONSTRAINT y ≡ c → is_name y ≡ g → is_name u ≡ d → AlterShows n (y ∷ u ∷ us)
    by false false d q r z = none false false q r (bare_none n y (u ∷ us))
    by false true d q r z = inl (front (λ vs i. bare n y (u ∷ vs) (q i) (r i)) r)
    by true g true q r z = none true g q r (constraint_reads n y u us g z)
    by true false false q r z = none true false q r (subst (Given NoPieceType) (sym (constraint_fails n y u us false z)) (bare_none n y (u ∷ us)))
    by true true false q r z = inl (front (λ vs. (λ i. bare n y (u ∷ vs) (q i) (r i)) ∙ constraint_fails n y u vs true z) r)

-- ---- ALTER

alone_is : (n : ℕ) → action stmt.AlterTable (key keyword.ALTER n ∷ []) ≡ alter_from (key keyword.ALTER n ∷ []) None None
unfolding action listed_action own_action general_action own_part own_rows first_rows_at first_rows general_rows_at general_rows added_constraint takes_constraint add_constraint is_keyword same_keyword by_rows take_part
alone_is n = refl

pub alter_shows : (n : ℕ) (ts : List Terminal) → AlterShows n ts
alter_shows n [] = inr (subst (Given NoPieceType) (sym (alone_is n)) (neither (key keyword.ALTER n ∷ [])))
alter_shows n (y ∷ ys) = by (is_keyword keyword.COLUMN y) refl
  where
    by : (b : Bool) → is_keyword keyword.COLUMN y ≡ b → AlterShows n (y ∷ ys)
    by true h = subst (λ (x : Terminal). AlterShows n (x ∷ ys)) (terminal_word keyword.COLUMN column_keyword y h) (column_shows n y.number ys)
    by false h = bare_shows n y ys h
