-- An action that adds a column has one, and one that adds a constraint has one.
use Rattle.std.proofs.Common.{◌≡◌, ℕ, Bool, true, false, map, List, [], ◌∷◌, refl, Option, Some, None}
use Rattle.std.specs.Prelude.{if◌then◌else◌, is_some}
use Rattle.std.specs.Option.{option_and_then}
use Rattle.std.specs.List.{All}
use Rattle.sql_tree.specs.sql_keyword.declared.words.Keyword.{Keyword}
use Rattle.sql_tree.specs.sql_keyword.declared.words.Keyword.TheVariants as k
use Rattle.sql_tree.specs.sql_keyword.declared.words.Verb.TheVariants as verbs
use Rattle.sql_tree.specs.sql_keyword.declared.words.Other.TheVariants as others
use Rattle.sql_tree.specs.sql_keyword.declared.words.TheConstants.Keyword as keyword
use Rattle.sql_token.specs.declared.terminal.Symbol.{Symbol}
use Rattle.sql_token.specs.declared.terminal.Symbol.TheVariants as s
use Rattle.sql_token.specs.declared.token.Span.{Span}
use Rattle.sql_token.specs.declared.terminal.Terminal.{Terminal}
use Rattle.sql_tree.specs.declared.kinds.ActionKind.{ActionKind}
use Rattle.sql_tree.specs.declared.kinds.ActionKind.TheVariants as a
use Rattle.sql_tree.specs.declared.actions.TheConstants.{OPTIONS, OTHER}
use Rattle.sql_tree.specs.declared.kinds.StmtKind.{StmtKind}
use Rattle.sql_tree.specs.declared.kinds.StmtKind.TheVariants as stmt
use Rattle.sql_tree.specs.declared.forms.BodyShape.{BodyShape}
use Rattle.sql_tree.specs.declared.forms.BodyShape.TheVariants as shape
use Rattle.sql_tree.specs.declared.forms.Captures.{Captures}
use Rattle.sql_tree.specs.declared.nodes.Action.{Action}
use Rattle.sql_tree.specs.declared.nodes.Body.{Body}
use Rattle.sql_tree.specs.declared.nodes.Body.TheVariants as body
use Rattle.sql_tree.specs.declared.nodes.Column.{Column}
use Rattle.sql_tree.specs.declared.nodes.Piece.{Piece}
use Rattle.sql_tree.specs.Action as act
use Rattle.sql_tree.specs.Column.{column, domain_constraints, drops_on_commit, elements}
use Rattle.sql_tree.specs.ActionRows.{first_rows, first_rows_at, own_rows, general_rows, general_rows_at}
use Rattle.sql_tree.specs.Constraint.{table_constraint}
use Rattle.sql_tree.specs.Forms.{State, ActionRow, at, fresh, in_turn, all_taken, finished, after_word, either_of, first_whole}
use Rattle.sql_tree.specs.Split.{all_of, comma, split}
use Rattle.sql_tree.specs.Groups.{inside_list}
use Rattle.sql_tree.specs.Statement.{final_kind, body_shape_of, body_by, kind_and_body, front_by, from_verb, form_from, form_of}
use Rattle.sql_tree.specs.Tails.{after_flag, after_options, paths_from, reindex, reindex_body, reindex_object, target_symbol, whole_path}
use Rattle.sql_tree.specs.Write.{targets, table_write}
use Rattle.law_renumber.specs.Whole.{HasAdded, ActionsHaveAdded}
use Rattle.law_renumber.proofs.There.{IfThere, then_there, from_there, either_there, if_there, all_there}

-- ---- no row adds a constraint

abbrev is_adding : ActionKind → Bool
is_adding a.AddConstraint = true
is_adding _ = false

abbrev none_adds : List ActionRow → Bool
none_adds [] = true
none_adds (r ∷ rs) = if is_adding r.0 then false else none_adds rs

abbrev IsOther : ActionKind × State → Type 0
IsOther f = is_adding f.0 ≡ false

finished_other : (r : ActionRow) (x : State) → is_adding r.0 ≡ false → IfThere IsOther (finished r.0 r.1 x)
finished_other r x other =
    then_there IsOther (λ e. option_and_then (λ w. Some (r.0, w)) (all_taken e))
    (λ e. then_there IsOther (λ w. Some (r.0, w)) (λ w. other) (all_taken e)) (in_turn r.1 x.kept x.left)

row_by : (b : Bool) (r : ActionRow) (rs : List ActionRow) (ts : List Terminal) → is_adding r.0 ≡ b → (none_adds rs ≡ true → IfThere IsOther (first_whole rs ts))
    → (if b then false else none_adds rs) ≡ true → IfThere IsOther (either_of (finished r.0 r.1 (at fresh ts)) (first_whole rs ts))
row_by true r rs ts is next h = cc
row_by false r rs ts is next h = either_there IsOther (finished r.0 r.1 (at fresh ts)) (first_whole rs ts) (finished_other r (at fresh ts) is) (next h)

rows_other : (rows : List ActionRow) (ts : List Terminal) → none_adds rows ≡ true → IfThere IsOther (first_whole rows ts)
rows_other [] ts h = tt
rows_other (r ∷ rs) ts h = row_by (is_adding r.0) r rs ts refl (rows_other rs ts) h

first_word : (w : Keyword) → none_adds (first_rows w) ≡ true
unfolding first_rows
first_word (k.Verb verbs.Set) = refl
first_word (k.Other others.Owner) = refl
first_word w = refl

first_symbol : (y : Symbol) → none_adds (first_rows_at y) ≡ true
unfolding first_rows_at
first_symbol (s.Keyword w) = first_word w
first_symbol _ = refl

general_word : (w : Keyword) → none_adds (general_rows w) ≡ true
unfolding general_rows
general_word (k.Verb verbs.Set) = refl
general_word (k.Other others.Add) = refl
general_word w = refl

general_symbol : (y : Symbol) → none_adds (general_rows_at y) ≡ true
unfolding general_rows_at
general_symbol (s.Keyword w) = general_word w
general_symbol _ = refl

own_kind : (kind : StmtKind) → none_adds (own_rows kind) ≡ true
unfolding own_rows
own_kind stmt.AlterType = refl
own_kind kind = refl

-- ---- actions

abbrev IsWhole : Action → Type 0
IsWhole x = HasAdded x.kind x

with_column : (ts : List Terminal) (c : Captures) (o : Option Column) (pieces : Option (List Piece))
    → IfThere IsWhole (option_and_then (λ column. option_and_then (λ pieces. Some (act.action_in ts a.AddColumn c column pieces)) pieces) (option_and_then (λ column. Some (Some column)) o))
with_column ts c None pieces = tt
with_column ts c (Some column) None = tt
with_column ts c (Some column) (Some ps) = refl

with_pieces : (ts : List Terminal) (kind : ActionKind) (c : Captures) → ((column : Option Column) (pieces : List Piece) → IsWhole (act.action_in ts kind c column pieces))
    → (o : Option (Option Column)) (r : Option (List Piece)) → IfThere IsWhole (option_and_then (λ column. option_and_then (λ pieces. Some (act.action_in ts kind c column pieces)) r) o)
with_pieces ts kind c h None r = tt
with_pieces ts kind c h (Some column) None = tt
with_pieces ts kind c h (Some column) (Some ps) = h column ps

built_there : (ts : List Terminal) (kind : ActionKind) (x : State) → is_adding kind ≡ false → IfThere IsWhole (act.built ts kind x)
unfolding act.built act.column_in
built_there ts a.AddColumn x other = with_column ts x.kept (column x.left) (act.pieces_in a.AddColumn x.left)
built_there ts a.AddConstraint x other = cc
built_there ts kind x other = with_pieces ts kind x.kept (λ column pieces. tt) (act.column_in kind x.left) (act.pieces_in kind x.left)

rows_there : (rows : List ActionRow) (ts : List Terminal) → none_adds rows ≡ true → IfThere IsWhole (act.by_rows rows ts)
unfolding act.by_rows
rows_there rows ts h =
    from_there IsOther IsWhole (λ f. act.built ts f.0 f.1) (λ f other. built_there ts f.0 f.1 other) (first_whole rows ts) (rows_other rows ts h)

added_there : (kind : StmtKind) (ts : List Terminal) → IfThere IsWhole (act.added_constraint kind ts)
unfolding act.added_constraint act.add_constraint
added_there kind ts =
    if_there IsWhole (act.takes_constraint kind ts) _ None
    (then_there IsWhole (act.adding_after ts) (λ rest. then_there IsWhole (λ constraint. Some (act.adding ts constraint)) (λ constraint. refl) (table_constraint rest)) (after_word keyword.ADD ts)) tt

own_there : (kind : StmtKind) (ts : List Terminal) → IfThere IsWhole (act.own_action kind ts)
unfolding act.own_action
own_there kind ts = then_there IsWhole (act.by_rows (own_rows kind)) (λ rest. rows_there (own_rows kind) rest (own_kind kind)) (act.own_part kind ts)

general_there : (kind : StmtKind) (ts : List Terminal) → IfThere IsWhole (act.general_action kind ts)
unfolding act.general_action
general_there kind ts =
    either_there IsWhole (act.added_constraint kind ts) (act.by_rows (general_rows_at (act.first_symbol ts)) ts) (added_there kind ts)
    (rows_there (general_rows_at (act.first_symbol ts)) ts (general_symbol (act.first_symbol ts)))

listed_there : (kind : StmtKind) (ts : List Terminal) → IfThere IsWhole (act.listed_action kind ts)
unfolding act.listed_action
listed_there kind ts =
    either_there IsWhole (act.by_rows (first_rows_at (act.first_symbol ts)) ts) (either_of (act.own_action kind ts) (act.general_action kind ts))
    (rows_there (first_rows_at (act.first_symbol ts)) ts (first_symbol (act.first_symbol ts)))
    (either_there IsWhole (act.own_action kind ts) (act.general_action kind ts) (own_there kind ts) (general_there kind ts))

options_there : (kind : StmtKind) (ts : List Terminal) → IfThere IsWhole (act.options kind ts)
unfolding act.options
options_there kind ts = if_there IsWhole (act.takes_options kind) _ None (rows_there (map (λ r. (r.0, r.1.now)) OPTIONS) _ refl) tt

unlisted_there : (kind : StmtKind) (ts : List Terminal) → IfThere IsWhole (act.unlisted_action kind ts)
unfolding act.unlisted_action
unlisted_there kind ts =
    either_there IsWhole (act.options kind ts) (act.by_rows (map (λ r. (r.0, r.1.now)) OTHER) ts) (options_there kind ts)
    (rows_there (map (λ r. (r.0, r.1.now)) OTHER) ts refl)

action_there : (kind : StmtKind) (ts : List Terminal) → IfThere IsWhole (act.action kind ts)
unfolding act.action
action_there kind [] = tt
action_there kind (t ∷ ts) =
    either_there IsWhole (act.listed_action kind (t ∷ ts)) (act.unlisted_action kind (t ∷ ts)) (listed_there kind (t ∷ ts)) (unlisted_there kind (t ∷ ts))

actions_there : (kind : StmtKind) (tail : List Terminal) → IfThere (All IsWhole) (act.actions_of kind tail)
unfolding act.actions_of act.several_actions act.one_action
actions_there kind tail =
    if_there (All IsWhole) (act.has_several kind) (all_of (act.action kind) (split comma tail)) (all_of (act.action kind) (tail ∷ []))
    (all_there IsWhole (act.action kind) (action_there kind) (split comma tail))
    (all_there IsWhole (act.action kind) (action_there kind) (tail ∷ []))

-- ---- statements

with_actions : (path : Option Span) (o : Option (List Action)) → IfThere (All IsWhole) o
    → IfThere ActionsHaveAdded (option_and_then (λ actions. Some (body.Alter path actions)) o)
with_actions path None h = tt
with_actions path (Some actions) h = h

some_there : {X : Type 0} (f : X → Body) → ((x : X) → ActionsHaveAdded (f x)) → (o : Option X) → IfThere ActionsHaveAdded (option_and_then (λ x. Some (f x)) o)
some_there f h None = tt
some_there f h (Some x) = h x

two_there : {X Y : Type 0} (f : X → Y → Body) → ((x : X) (y : Y) → ActionsHaveAdded (f x y)) → (o : Option X) (r : Option Y)
    → IfThere ActionsHaveAdded (option_and_then (λ x. option_and_then (λ y. Some (f x y)) r) o)
two_there f h None r = tt
two_there f h (Some x) None = tt
two_there f h (Some x) (Some y) = h x y

reindex_there : (inside ts : List Terminal) → IfThere ActionsHaveAdded (reindex_object inside ts)
unfolding reindex_object
reindex_there inside [] = tt
reindex_there inside (t ∷ ts) =
    two_there (λ found path. reindex_body inside t ts found path) (λ found path. tt) (target_symbol t.symbol) (whole_path (after_flag keyword.CONCURRENTLY ts))

body_there : (sh : BodyShape) (kind : StmtKind) (x : State) (ts : List Terminal) → IfThere ActionsHaveAdded (body_by sh kind x ts)
unfolding body_by reindex
body_there shape.Alter kind x ts = with_actions x.kept.path (act.actions_of kind x.left) (actions_there kind x.left)
body_there shape.Table kind x ts =
    two_there (λ word path. body.Table x.kept.temp x.kept.guarded (drops_on_commit x.left) word path (elements x.left)) (λ word path. tt) x.kept.word x.kept.path
body_there shape.Into kind x ts = some_there (λ path. body.Into path (targets ts)) (λ path. tt) x.kept.path
body_there shape.Index kind x ts =
    two_there (λ word path. body.Index word x.kept.unique x.kept.concurrently x.kept.guarded x.kept.name path) (λ word path. tt) x.kept.word x.kept.path
body_there shape.Drop kind x ts =
    two_there (λ (word : ℕ) (path : Span). body.Drop word (is_some x.kept.concurrently) x.kept.guarded (paths_from path.first path.last x.left)) (λ word path. tt) x.kept.word x.kept.path
body_there shape.Reindex kind x ts = reindex_there (inside_list x.left) (after_options x.left)
body_there shape.Domain kind x ts = some_there (λ constraints. body.Domain constraints) (λ constraints. tt) (domain_constraints x.left)
body_there shape.Made kind x ts = some_there (λ path. body.Made path x.kept.guarded) (λ path. tt) x.kept.path
body_there shape.Write kind x ts = some_there (λ path. body.Write (table_write kind path x.left)) (λ path. tt) x.kept.path
body_there _ kind x ts = tt

abbrev pub FormIsWhole : StmtKind × Body → Type 0
FormIsWhole f = ActionsHaveAdded f.1

with_kind : (kind : StmtKind) (o : Option Body) → IfThere ActionsHaveAdded o → IfThere FormIsWhole (option_and_then (λ b. Some (kind, b)) o)
with_kind kind None h = tt
with_kind kind (Some b) h = h

told_there : (ts : List Terminal) (f : StmtKind × State) → IfThere FormIsWhole (kind_and_body ts f)
unfolding kind_and_body
told_there ts f = with_kind (final_kind f.0 f.1) (body_by (body_shape_of f.0) f.0 f.1 ts) (body_there (body_shape_of f.0) f.0 f.1 ts)

form_from_there : (ts : List Terminal) → IfThere FormIsWhole (form_from ts)
unfolding form_from
form_from_there [] = tt
form_from_there (t ∷ ts) = then_there FormIsWhole (kind_and_body ts) (told_there ts) (front_by t.symbol ts)

pub form_there : (ts : List Terminal) → IfThere FormIsWhole (form_of ts)
unfolding form_of
form_there [] = tt
form_there (t ∷ ts) = form_from_there (from_verb (t ∷ ts))
