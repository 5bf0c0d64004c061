-- Actions of ALTER statements of changed terminals.
use Rattle.std.proofs.Common.{◌≡◌, ℕ, Bool, true, false, List, [], ◌∷◌, map, refl, ap, Option, Some, None}
use Rattle.std.specs.Option.{option_map, option_and_then}
use Rattle.std.proofs.lemmas.List.{length-map}
use Rattle.std.specs.Prelude.{if◌then◌else◌}
use Rattle.std.specs.List.{All}
use Rattle.sql_tree.specs.sql_keyword.Same.{same_keyword}
use Rattle.sql_tree.specs.sql_keyword.declared.words.Keyword.{Keyword}
use Rattle.sql_tree.specs.sql_keyword.declared.words.Keyword.TheVariants as k
use Rattle.sql_tree.specs.sql_keyword.declared.words.Verb.TheVariants as verbs
use Rattle.sql_tree.specs.sql_keyword.declared.words.Other.TheVariants as others
use Rattle.sql_tree.specs.sql_keyword.declared.words.TheConstants.Keyword as keyword
use Rattle.sql_token.specs.declared.terminal.Symbol.{Symbol}
use Rattle.sql_token.specs.declared.terminal.Symbol.TheVariants as s
use Rattle.sql_token.specs.declared.terminal.Terminal.{Terminal}
use Rattle.sql_token.specs.Terminal.{is_keyword, is_keyword_symbol}
use Rattle.sql_tree.specs.declared.actions.PieceList.TheVariants as lists
use Rattle.sql_tree.specs.declared.actions.TheConstants.{OPTIONS, OTHER}
use Rattle.sql_tree.specs.declared.forms.Captures.{Captures}
use Rattle.sql_tree.specs.declared.kinds.ActionKind.{ActionKind}
use Rattle.sql_tree.specs.declared.kinds.ActionKind.TheVariants as a
use Rattle.sql_tree.specs.declared.kinds.StmtKind.{StmtKind}
use Rattle.sql_tree.specs.declared.kinds.StmtKind.TheVariants as stmt
use Rattle.sql_tree.specs.declared.nodes.Column.{Column}
use Rattle.sql_tree.specs.declared.nodes.Constraint.{Constraint}
use Rattle.sql_tree.specs.declared.nodes.Piece.{Piece}
use Rattle.sql_tree.specs.Constraint.{after_two, table_constraint}
use Rattle.sql_tree.specs.Forms.{State, ActionRow, at, either_of, after_word, take_part, words_of, in_turn, all_taken, finished, fresh, first_whole}
use Rattle.sql_tree.specs.Split.{comma, split, all_of, after_list}
use Rattle.sql_tree.specs.ActionRows.{first_rows, first_rows_at, own_rows, general_rows, general_rows_at}
use Rattle.sql_tree.specs.Action.{adding, adding_after, add_constraint, begins_domain_constraint, after_add, takes_constraint, added_constraint, column_in, pieces_in, action_in, built, by_rows, after_name, list_or, after_column, after_in_database, after_database, own_part, first_symbol, own_action, general_action, listed_action, options, unlisted_action, action, has_several, several_actions, one_action, actions_of}
use Rattle.law_renumber.specs.Moved.{constraint_moved, column_moved, piece_moved, action_moved}
use Rattle.law_renumber.specs.Renumber.{renumber, captures_moved, state_moved}
use Rattle.law_renumber.specs.Options.{OptionsKept, ActionKept}
use Rattle.law_renumber.specs.Trees.{ActionRenumbers, ActionsRenumber}
use Rattle.law_renumber.proofs.Seen.{numbers, first_rows_sees, general_rows_sees, Change, Changes, changed}
use Rattle.law_renumber.proofs.Basics.{moves, bind_moved, bind_there, either_moved, all_there, after_word_moved, HasEnds, ends}
use Rattle.law_renumber.proofs.There.{IfThere, then_there, either_there}
use Rattle.law_renumber.proofs.Left.{whole_left}
use Rattle.law_renumber.proofs.Options.{kept_tail, by_words}
use Rattle.law_renumber.proofs.Marks.{comma_is_blind, begins_sees, split_renumbers}
use Rattle.law_renumber.proofs.Constraints.{after_two_moved, constraint_renumbers}
use Rattle.law_renumber.proofs.Columns.{column_renumbers}
use Rattle.law_renumber.proofs.ActionPieces.{pieces_renumber, attributes_moved, column_option_moved}
use Rattle.law_renumber.proofs.Fronts.{whole_renumbers}

-- ---- ADD and a table constraint

adding_moved : (f : Change) (ts : List Terminal) → HasEnds f ts → (constraint : Constraint) →
    adding (map (changed f) ts) (constraint_moved f.number constraint) ≡ action_moved f.number (adding ts constraint)
adding_moved f ts e constraint = simp (length-map, e.first, e.last)

adding_after_moved : (f : Change) (ts : List Terminal) → HasEnds f ts → (rest : List Terminal) →
    adding_after (map (changed f) ts) (map (changed f) rest) ≡ option_map (action_moved f.number) (adding_after ts rest)
adding_after_moved f ts e rest =
    rw (constraint_renumbers f rest) (bind_moved _ _ _ _ (λ constraint. ap Some (adding_moved f ts e constraint)) (table_constraint rest))

add_constraint_moved : (f : Change) (ts : List Terminal) → HasEnds f ts →
    add_constraint (map (changed f) ts) ≡ option_map (action_moved f.number) (add_constraint ts)
unfolding add_constraint
add_constraint_moved f ts e =
    rw (after_word_moved f keyword.ADD ts) (bind_moved _ _ _ _ (adding_after_moved f ts e) (after_word keyword.ADD ts))

domain_sees : (f : Change) (ts : List Terminal) → begins_domain_constraint (map (changed f) ts) ≡ begins_domain_constraint ts
unfolding begins_domain_constraint
domain_sees f ts = simp (begins_sees, after_two_moved, moves)

after_add_sees : (f : Change) (r : Option (List Terminal)) → after_add (option_map (map (changed f)) r) ≡ after_add r
after_add_sees f None = refl
after_add_sees f (Some rest) = domain_sees f rest

takes_sees : (f : Change) (kind : StmtKind) (ts : List Terminal) → takes_constraint kind (map (changed f) ts) ≡ takes_constraint kind ts
unfolding takes_constraint
takes_sees f stmt.AlterDomain ts = simp (after_word_moved, after_add_sees)
takes_sees f kind ts = refl

added_moved : (f : Change) (kind : StmtKind) (ts : List Terminal) → HasEnds f ts →
    added_constraint kind (map (changed f) ts) ≡ option_map (action_moved f.number) (added_constraint kind ts)
unfolding added_constraint
added_moved f kind ts e = simp (takes_sees, add_constraint_moved, moves)

-- ---- an action that a row reads

column_in_moved : (f : Change) (kind : ActionKind) (rest : List Terminal) →
    column_in kind (map (changed f) rest) ≡ option_map (option_map (column_moved f.number)) (column_in kind rest)
unfolding column_in
column_in_moved f a.AddColumn rest = simp (column_renumbers, moves)
column_in_moved f kind rest = refl

-- what an action of this kind leaves
abbrev KindKept : (Terminal → Terminal) → ActionKind → List Terminal → Type 0
KindKept g a.AlterConstraint rest = OptionsKept g rest
KindKept g kind rest = Unit {0}

pieces_in_moved : (f : Change) (kind : ActionKind) (rest : List Terminal) → KindKept (changed f) kind rest →
    pieces_in kind (map (changed f) rest) ≡ option_map (map (piece_moved f.number)) (pieces_in kind rest)
unfolding pieces_in
pieces_in_moved f a.AlterConstraint rest h = pieces_renumber f lists.ConstraintOptions rest h
pieces_in_moved f a.AlterColumn rest h = column_option_moved f rest
pieces_in_moved f a.SequenceOptions rest h = pieces_renumber f lists.SequenceOptions rest tt
pieces_in_moved f a.PolicyChange rest h = pieces_renumber f lists.PolicyParts rest tt
pieces_in_moved f a.Attributes rest h = attributes_moved f rest
pieces_in_moved f kind rest h = refl

action_in_moved : (f : Change) (ts : List Terminal) → HasEnds f ts → (kind : ActionKind) (c : Captures) (column : Option Column) (pieces : List Piece) →
    action_in (map (changed f) ts) kind (captures_moved f.number c) (option_map (column_moved f.number) column) (map (piece_moved f.number) pieces)
    ≡ action_moved f.number (action_in ts kind c column pieces)
action_in_moved f ts e kind c column pieces = simp (length-map, e.first, e.last)

built_moved : (f : Change) (ts : List Terminal) → HasEnds f ts → (kind : ActionKind) (s : State) → KindKept (changed f) kind s.left →
    built (map (changed f) ts) kind (state_moved (changed f) f.number s) ≡ option_map (action_moved f.number) (built ts kind s)
unfolding built
built_moved f ts e kind s h = rw (column_in_moved f kind s.left, pieces_in_moved f kind s.left h) (of (column_in kind s.left) (pieces_in kind s.left))
  where
    of : (x : Option (Option Column)) (y : Option (List Piece)) →
        option_and_then (λ column. option_and_then (λ pieces.
        Some (action_in (map (changed f) ts) kind (captures_moved f.number s.kept) column pieces)) (option_map (map (piece_moved f.number)) y))
        (option_map (option_map (column_moved f.number)) x)
        ≡ option_map (action_moved f.number) (option_and_then (λ column. option_and_then (λ pieces.
        Some (action_in ts kind s.kept column pieces)) y) x)
    of None y = refl
    of (Some column) None = refl
    of (Some column) (Some pieces) = ap Some (action_in_moved f ts e kind s.kept column pieces)

-- what the row that reads an action leaves
abbrev RowKept : (Terminal → Terminal) → ActionKind × State → Type 0
RowKept g x = KindKept g x.0 x.1.left

kind_kept : (g : Terminal → Terminal) (kind : ActionKind) (rest : List Terminal) → OptionsKept g rest → KindKept g kind rest
kind_kept g a.AlterConstraint rest h = h
kind_kept g _ rest h = tt

left_kept : (g : Terminal → Terminal) (r : Option (ActionKind × State)) → IfThere (λ x. OptionsKept g x.1.left) r → IfThere (RowKept g) r
left_kept g None h = tt
left_kept g (Some x) h = kind_kept g x.0 x.1.left h

-- where all of the action is kept
row_left : (g : Terminal → Terminal) (rows : List ActionRow) (ts : List Terminal) → OptionsKept g ts → IfThere (RowKept g) (first_whole rows ts)
row_left g rows ts h = left_kept g (first_whole rows ts) (whole_left (OptionsKept g) (kept_tail g) rows ts h)

abbrev alters_constraint : ActionKind → Bool
alters_constraint a.AlterConstraint = true
alters_constraint kind = false

abbrev none_alters : List ActionRow → Bool
none_alters [] = true
none_alters (r ∷ rs) = if alters_constraint r.0 then false else none_alters rs

kind_free : (g : Terminal → Terminal) (kind : ActionKind) (rest : List Terminal) → alters_constraint kind ≡ false → KindKept g kind rest
kind_free g a.AlterConstraint rest is = cc
kind_free g _ rest is = tt

finished_free : (g : Terminal → Terminal) (r : ActionRow) (x : State) → alters_constraint r.0 ≡ false → IfThere (RowKept g) (finished r.0 r.1 x)
finished_free g r x is =
    then_there (RowKept g) (λ e. option_and_then (λ w. Some (r.0, w)) (all_taken e))
    (λ e. then_there (RowKept g) (λ w. Some (r.0, w)) (λ w. kind_free g r.0 w.left is) (all_taken e)) (in_turn r.1 x.kept x.left)

free_by : (g : Terminal → Terminal) (b : Bool) (r : ActionRow) (rs : List ActionRow) (ts : List Terminal) → alters_constraint r.0 ≡ b → (none_alters rs ≡ true → IfThere (RowKept g) (first_whole rs ts))
    → (if b then false else none_alters rs) ≡ true → IfThere (RowKept g) (either_of (finished r.0 r.1 (at fresh ts)) (first_whole rs ts))
free_by g true r rs ts is next h = cc
free_by g false r rs ts is next h = either_there (RowKept g) (finished r.0 r.1 (at fresh ts)) (first_whole rs ts) (finished_free g r (at fresh ts) is) (next h)

-- where no row is of that kind
row_free : (g : Terminal → Terminal) (rows : List ActionRow) (ts : List Terminal) → none_alters rows ≡ true → IfThere (RowKept g) (first_whole rows ts)
row_free g [] ts h = tt
row_free g (r ∷ rs) ts h = free_by g (alters_constraint r.0) r rs ts refl (row_free g rs ts) h

first_word_free : (w : Keyword) → none_alters (first_rows w) ≡ true
unfolding first_rows
first_word_free (k.Verb verbs.Set) = refl
first_word_free (k.Other others.Owner) = refl
first_word_free w = refl

first_free : (y : Symbol) → none_alters (first_rows_at y) ≡ true
unfolding first_rows_at
first_free (s.Keyword w) = first_word_free w
first_free _ = refl

own_free : (kind : StmtKind) → none_alters (own_rows kind) ≡ true
unfolding own_rows
own_free stmt.AlterType = refl
own_free kind = refl

-- Of the rows of every kind of statement only those of ALTER have it.
general_word_kept : (g : Terminal → Terminal) (w : Keyword) (ts : List Terminal) → (is_keyword_symbol keyword.ALTER (s.Keyword w) ≡ true → OptionsKept g ts) → IfThere (RowKept g) (first_whole (general_rows w) ts)
unfolding general_rows same_keyword
general_word_kept g (k.Verb verbs.Alter) ts h = row_left g (general_rows (k.Verb verbs.Alter)) ts (h refl)
general_word_kept g (k.Verb w) ts h = row_free g (general_rows (k.Verb w)) ts refl
general_word_kept g (k.Other others.Add) ts h = row_free g (general_rows (k.Other others.Add)) ts refl
general_word_kept g w ts h = row_free g (general_rows w) ts refl

general_kept : (g : Terminal → Terminal) (y : Symbol) (ts : List Terminal) → (is_keyword_symbol keyword.ALTER y ≡ true → OptionsKept g ts) → IfThere (RowKept g) (first_whole (general_rows_at y) ts)
unfolding general_rows_at
general_kept g (s.Keyword w) ts h = general_word_kept g w ts h
general_kept g _ ts h = tt

general_row : (g : Terminal → Terminal) (ts : List Terminal) → ActionKept g ts → IfThere (RowKept g) (first_whole (general_rows_at (first_symbol ts)) ts)
unfolding is_keyword
general_row g [] h = general_kept g s.Other [] (λ is. tt)
general_row g (t ∷ ts) h = general_kept g t.symbol (t ∷ ts) h

by_rows_moved : (f : Change) (rows : List ActionRow) (ts : List Terminal) → HasEnds f ts → IfThere (RowKept (changed f)) (first_whole rows ts) →
    by_rows rows (map (changed f) ts) ≡ option_map (action_moved f.number) (by_rows rows ts)
unfolding by_rows
by_rows_moved f rows ts e h =
    rw (whole_renumbers f rows ts) (bind_there (RowKept (changed f)) _ _ _ _ (λ x k. built_moved f ts e x.0 x.1 k) (first_whole rows ts) h)

-- by rows of which none reads nothing at all
no_action : (rows : List ActionRow) → first_whole rows [] ≡ None → by_rows rows [] ≡ None
unfolding by_rows
no_action rows refused = rw refused refl

action_moved_by : (f : Change) (rows : List ActionRow) → none_alters rows ≡ true → first_whole rows [] ≡ None → (ts : List Terminal) →
    by_rows rows (map (changed f) ts) ≡ option_map (action_moved f.number) (by_rows rows ts)
action_moved_by f rows free refused [] = rw (no_action rows refused) refl
action_moved_by f rows free refused (t ∷ ts) = by_rows_moved f rows (t ∷ ts) (ends f t ts) (row_free (changed f) rows (t ∷ ts) free)

-- ---- where an action begins

after_name_moved : (f : Change) (ts : List Terminal) → after_name (map (changed f) ts) ≡ option_map (map (changed f)) (after_name ts)
unfolding after_name
after_name_moved f [] = refl
after_name_moved f (t ∷ ts) = simp moves

list_or_moved : (f : Change) (r : Option (List Terminal)) (other : List Terminal) →
    list_or (option_map (map (changed f)) r) (map (changed f) other) ≡ map (changed f) (list_or r other)
list_or_moved f None other = refl
list_or_moved f (Some rest) other = refl

after_column_moved : (f : Change) (ts : List Terminal) → after_column (map (changed f) ts) ≡ option_map (map (changed f)) (after_column ts)
unfolding after_column
after_column_moved f ts = simp (after_word_moved, list_or_moved, after_name_moved, moves)

after_database_moved : (f : Change) (ts : List Terminal) → after_database (map (changed f) ts) ≡ map (changed f) (after_database ts)
unfolding after_database
after_database_moved f ts =
    rw (after_two_moved f keyword.IN keyword.DATABASE ts, bind_moved (map (changed f)) (map (changed f)) after_name after_name (after_name_moved f) (after_two keyword.IN keyword.DATABASE ts))
    (list_or_moved f (after_in_database ts) ts)

own_part_moved : (f : Change) (kind : StmtKind) (ts : List Terminal) →
    own_part kind (map (changed f) ts) ≡ option_map (map (changed f)) (own_part kind ts)
unfolding own_part
own_part_moved f stmt.AlterView ts = after_column_moved f ts
own_part_moved f stmt.AlterRole ts = ap Some (after_database_moved f ts)
own_part_moved f stmt.AlterUser ts = ap Some (after_database_moved f ts)
own_part_moved f stmt.AlterDatabase ts = ap Some (after_database_moved f ts)
own_part_moved f stmt.AlterSystem ts = ap Some (after_database_moved f ts)
own_part_moved f kind ts = refl

own_rows_refuse : (kind : StmtKind) → first_whole (own_rows kind) [] ≡ None
unfolding own_rows take_part words_of after_list
own_rows_refuse stmt.AlterType = refl
own_rows_refuse stmt.AlterDomain = refl
own_rows_refuse stmt.AlterView = refl
own_rows_refuse stmt.AlterSequence = refl
own_rows_refuse stmt.AlterFunction = refl
own_rows_refuse stmt.AlterProcedure = refl
own_rows_refuse stmt.AlterRoutine = refl
own_rows_refuse stmt.AlterRole = refl
own_rows_refuse stmt.AlterUser = refl
own_rows_refuse stmt.AlterDatabase = refl
own_rows_refuse stmt.AlterSystem = refl
own_rows_refuse stmt.AlterExtension = refl
own_rows_refuse stmt.AlterPolicy = refl
own_rows_refuse stmt.AlterPublication = refl
own_rows_refuse stmt.AlterGroup = refl
own_rows_refuse stmt.AlterDefaultPrivileges = refl
own_rows_refuse _ = refl

options_refuse : first_whole (map (λ r. (r.0, r.1.now)) OPTIONS) [] ≡ None
unfolding take_part
options_refuse = refl

-- ---- actions

own_action_moved : (f : Change) (kind : StmtKind) (ts : List Terminal) →
    own_action kind (map (changed f) ts) ≡ option_map (action_moved f.number) (own_action kind ts)
unfolding own_action
own_action_moved f kind ts =
    rw (own_part_moved f kind ts) (bind_moved _ _ _ _ (action_moved_by f (own_rows kind) (own_free kind) (own_rows_refuse kind)) (own_part kind ts))

first_symbol_sees : (f : Change) (ts : List Terminal) → first_rows_at (first_symbol (map (changed f) ts)) ≡ first_rows_at (first_symbol ts)
first_symbol_sees f [] = refl
first_symbol_sees f (t ∷ ts) = first_rows_sees f t

general_symbol_sees : (f : Change) (ts : List Terminal) → general_rows_at (first_symbol (map (changed f) ts)) ≡ general_rows_at (first_symbol ts)
general_symbol_sees f [] = refl
general_symbol_sees f (t ∷ ts) = general_rows_sees f t

general_action_moved : (f : Change) (kind : StmtKind) (ts : List Terminal) → HasEnds f ts → ActionKept (changed f) ts →
    general_action kind (map (changed f) ts) ≡ option_map (action_moved f.number) (general_action kind ts)
unfolding general_action
general_action_moved f kind ts e h =
    simp (general_symbol_sees, added_moved, by_rows_moved f (general_rows_at (first_symbol ts)) ts e (general_row (changed f) ts h), either_moved)

listed_action_moved : (f : Change) (kind : StmtKind) (ts : List Terminal) → HasEnds f ts → ActionKept (changed f) ts →
    listed_action kind (map (changed f) ts) ≡ option_map (action_moved f.number) (listed_action kind ts)
unfolding listed_action
listed_action_moved f kind ts e h =
    let rows = first_rows_at (first_symbol ts) in
    let first = by_rows_moved f rows ts e (row_free (changed f) rows ts (first_free (first_symbol ts))) in
    let general = general_action_moved f kind ts e h in
    simp (first_symbol_sees, first, own_action_moved, general, either_moved)

options_moved : (f : Change) (kind : StmtKind) (ts : List Terminal) →
    options kind (map (changed f) ts) ≡ option_map (action_moved f.number) (options kind ts)
unfolding options
options_moved f kind ts =
    simp (after_word_moved, list_or_moved, action_moved_by f (map (λ r. (r.0, r.1.now)) OPTIONS) refl options_refuse, moves)

unlisted_action_moved : (f : Change) (kind : StmtKind) (ts : List Terminal) → HasEnds f ts →
    unlisted_action kind (map (changed f) ts) ≡ option_map (action_moved f.number) (unlisted_action kind ts)
unfolding unlisted_action
unlisted_action_moved f kind ts e =
    simp (options_moved, by_rows_moved f (map (λ r. (r.0, r.1.now)) OTHER) ts e (row_free (changed f) (map (λ r. (r.0, r.1.now)) OTHER) ts refl), either_moved)

some_action_moved : (f : Change) (kind : StmtKind) (t : Terminal) (ts : List Terminal) → ActionKept (changed f) (t ∷ ts) →
    action kind (map (changed f) (t ∷ ts)) ≡ option_map (action_moved f.number) (action kind (t ∷ ts))
unfolding action
some_action_moved f kind t ts h =
    rw (listed_action_moved f kind (t ∷ ts) (ends f t ts) h, unlisted_action_moved f kind (t ∷ ts) (ends f t ts))
    (either_moved (action_moved f.number) (listed_action kind (t ∷ ts)) (unlisted_action kind (t ∷ ts)))

pub action_renumbers : Changes ActionRenumbers
unfolding action
action_renumbers f kind [] h = refl
action_renumbers f kind (t ∷ ts) h = some_action_moved f kind t ts h

-- ---- lists of actions

lists_moved : (f : Change) (kind : StmtKind) (lists : List (List Terminal)) → All (ActionKept (changed f)) lists →
    all_of (action kind) (map (map (changed f)) lists) ≡ option_map (map (action_moved f.number)) (all_of (action kind) lists)
lists_moved f kind lists h =
    all_there (ActionKept (changed f)) (map (changed f)) (action_moved f.number) (action kind) (action kind) (λ ts k. action_renumbers f kind ts k) lists h

several_moved : (f : Change) (kind : StmtKind) (tail : List Terminal) → All (ActionKept (changed f)) (split comma tail) →
    several_actions kind (map (changed f) tail) ≡ option_map (map (action_moved f.number)) (several_actions kind tail)
unfolding several_actions
several_moved f kind tail h = rw (split_renumbers comma comma_is_blind f tail) (lists_moved f kind (split comma tail) h)

one_moved : (f : Change) (kind : StmtKind) (tail : List Terminal) → All (ActionKept (changed f)) (tail ∷ []) →
    one_action kind (map (changed f) tail) ≡ option_map (map (action_moved f.number)) (one_action kind tail)
unfolding one_action
one_moved f kind tail h = lists_moved f kind (tail ∷ []) h

actions_by : (f : Change) (kind : StmtKind) (b : Bool) (tail : List Terminal) → All (ActionKept (changed f)) (if b then split comma tail else tail ∷ []) →
    (if b then several_actions kind (map (changed f) tail) else one_action kind (map (changed f) tail))
    ≡ option_map (map (action_moved f.number)) (if b then several_actions kind tail else one_action kind tail)
actions_by f kind true tail h = several_moved f kind tail h
actions_by f kind false tail h = one_moved f kind tail h

pub actions_renumber : Changes ActionsRenumber
unfolding actions_of
actions_renumber f kind tail h = actions_by f kind (has_several kind) tail h

-- ---- other numbers alone

pub action_numbers : (f : ℕ → ℕ) (kind : StmtKind) (ts : List Terminal) → action kind (map (renumber f) ts) ≡ option_map (action_moved f) (action kind ts)
action_numbers f kind ts = action_renumbers (numbers f) kind ts (λ is. by_words (renumber f) (λ t. refl) ts)
