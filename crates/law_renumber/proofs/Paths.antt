-- An ALTER TABLE has a path.
use Rattle.std.proofs.Common.{◌≡◌, Bool, true, false, List, [], ◌∷◌, refl, Option, Some, None}
use Rattle.std.specs.Prelude.{if◌then◌else◌, is_some, not}
use Rattle.std.proofs.lemmas.Bool.{not-true}
use Rattle.std.specs.Option.{option_and_then}
use Rattle.sql_tree.specs.sql_keyword.declared.words.Keyword.{Keyword}
use Rattle.sql_tree.specs.sql_keyword.declared.words.Keyword.TheVariants as k
use Rattle.sql_tree.specs.sql_keyword.declared.words.Verb.TheVariants as verbs
use Rattle.sql_tree.specs.sql_keyword.declared.words.Object.TheVariants as objects
use Rattle.sql_tree.specs.sql_keyword.declared.words.Other.TheVariants as others
use Rattle.sql_token.specs.declared.terminal.Symbol.{Symbol}
use Rattle.sql_token.specs.declared.terminal.Symbol.TheVariants as s
use Rattle.sql_token.specs.declared.terminal.Terminal.{Terminal}
use Rattle.sql_token.specs.Terminal.{is_name}
use Rattle.sql_token.specs.Depth.{has_keyword}
use Rattle.sql_tree.specs.sql_keyword.declared.words.TheConstants.Keyword as keyword
use Rattle.sql_tree.specs.declared.kinds.StmtKind.{StmtKind}
use Rattle.sql_tree.specs.declared.kinds.StmtKind.TheVariants as stmt
use Rattle.sql_tree.specs.declared.forms.Captures.{Captures}
use Rattle.sql_tree.specs.declared.forms.Fact.TheVariants as fact
use Rattle.sql_tree.specs.declared.forms.Family.{Family}
use Rattle.sql_tree.specs.declared.forms.Family.TheVariants as family
use Rattle.sql_tree.specs.declared.forms.Part.{Part}
use Rattle.sql_tree.specs.declared.forms.Part.TheVariants as p
use Rattle.sql_tree.specs.declared.forms.Phrase.TheVariants as phrase
use Rattle.sql_token.specs.declared.token.Span.{Span}
use Rattle.sql_tree.specs.declared.nodes.Action.{Action}
use Rattle.sql_tree.specs.declared.nodes.Body.{Body}
use Rattle.sql_tree.specs.declared.nodes.Body.TheVariants as body
use Rattle.sql_tree.specs.Forms.{State, Row, at, one, or_here, nothing_kept, is_star_symbol, some_left, opened, take_path, take_part, in_turn, all_taken, finished, led_or, first_led, fresh, family_first, create_rows, alter_rows, drop_rows, rows_of, one_word_kind, kind_or_row, led_by}
use Rattle.sql_tree.specs.Action.{actions_of}
use Rattle.sql_tree.specs.Statement.{final_kind, body_shape_of, body_by, kind_and_body, front_by, from_verb, form_from, form_of, table_kind}
use Rattle.law_renumber.specs.Whole.{AltersPath}
use Rattle.law_renumber.proofs.There.{IfThere, then_there, from_there, if_there}

abbrev pub is_alter_table : StmtKind → Bool
is_alter_table stmt.AlterTable = true
is_alter_table _ = false

-- ---- the parts of its row

abbrev KeepsPath : State → Type 0
KeepsPath s = is_some s.kept.path ≡ true

star_by : (b : Bool) (c : Captures) (t : Terminal) (ts : List Terminal) → is_some c.path ≡ true
    → KeepsPath (or_here (if b then Some (at c ts) else None) c (t ∷ ts))
star_by true c t ts h = h
star_by false c t ts h = h

star_keeps : (c : Captures) (ts : List Terminal) → is_some c.path ≡ true → KeepsPath (or_here (one (λ t. is_star_symbol t.symbol) nothing_kept c ts) c ts)
star_keeps c [] h = h
star_keeps c (t ∷ ts) h = star_by (is_star_symbol t.symbol) c t ts h

tail_keeps : (c : Captures) (ts : List Terminal) → is_some c.path ≡ true → IfThere KeepsPath (some_left (opened c) ts)
tail_keeps c [] h = tt
tail_keeps c (t ∷ ts) h = h

path_kept : (c : Captures) (ts : List Terminal) → IfThere KeepsPath (take_path c ts)
path_kept c [] = tt
path_kept c (t ∷ ts) = if_there KeepsPath (is_name t) _ None refl tt

one_more : (o : Option State) → IfThere KeepsPath o → IfThere KeepsPath (option_and_then (λ s. in_turn [] s.kept s.left) o)
one_more None h = tt
one_more (Some s) h = h

after_path : (c : Captures) (ts : List Terminal) → is_some c.path ≡ true → IfThere KeepsPath (in_turn (p.Star ∷ p.Tail ∷ []) c ts)
unfolding take_part
after_path c ts h =
    let s = or_here (one (λ t. is_star_symbol t.symbol) nothing_kept c ts) c ts in
    one_more (some_left (opened s.kept) s.left) (tail_keeps s.kept s.left (star_keeps c ts h))

from_path : (c : Captures) (ts : List Terminal) → IfThere KeepsPath (in_turn (p.Path ∷ p.Star ∷ p.Tail ∷ []) c ts)
unfolding take_part
from_path c ts =
    from_there KeepsPath KeepsPath (λ s. in_turn (p.Star ∷ p.Tail ∷ []) s.kept s.left) (λ s h. after_path s.kept s.left h) (take_path c ts) (path_kept c ts)

next_part : (x : Part) (xs : List Part) → ((c : Captures) (ts : List Terminal) → IfThere KeepsPath (in_turn xs c ts))
    → (c : Captures) (ts : List Terminal) → IfThere KeepsPath (in_turn (x ∷ xs) c ts)
next_part x xs h c ts = then_there KeepsPath (λ s. in_turn xs s.kept s.left) (λ s. h s.kept s.left) (take_part x c ts)

abbrev alter_parts : List Part
alter_parts = p.Maybe phrase.IfExists fact.Guarded ∷ p.Flag keyword.ONLY fact.Nothing ∷ p.Path ∷ p.Star ∷ p.Tail ∷ []

parts_keep : (c : Captures) (ts : List Terminal) → IfThere KeepsPath (in_turn alter_parts c ts)
parts_keep =
    next_part (p.Maybe phrase.IfExists fact.Guarded) (p.Flag keyword.ONLY fact.Nothing ∷ p.Path ∷ p.Star ∷ p.Tail ∷ [])
    (next_part (p.Flag keyword.ONLY fact.Nothing) (p.Path ∷ p.Star ∷ p.Tail ∷ []) from_path)

-- ---- rows

abbrev HasPath : StmtKind × State → Type 0
HasPath f = is_alter_table f.0 ≡ true → is_some f.1.kept.path ≡ true

abbrev tables_alone : List Row → List Row
tables_alone [] = []
tables_alone (r ∷ rs) = if is_alter_table r.0 then r ∷ tables_alone rs else tables_alone rs

abbrev RowHas : Row → Type 0
RowHas r = (x : State) → IfThere HasPath (finished r.0 r.2 x)

abbrev RowsHave : List Row → Type 0
RowsHave [] = Unit {0}
RowsHave (r ∷ rs) = RowHas r × RowsHave rs

taken_by : (kind : StmtKind) (b : Bool) (e : State) → HasPath (kind, e) → IfThere HasPath (option_and_then (λ w. Some (kind, w)) (if b then Some e else None))
taken_by kind true e h = h
taken_by kind false e h = tt

alter_row_has : (x : State) → IfThere HasPath (finished stmt.AlterTable alter_parts x)
alter_row_has x =
    from_there KeepsPath HasPath (λ e. option_and_then (λ w. Some (stmt.AlterTable, w)) (all_taken e))
    (λ e h. taken_by stmt.AlterTable _ e (λ is. h)) (in_turn alter_parts x.kept x.left) (parts_keep x.kept x.left)

other_row_has : (r : Row) → is_alter_table r.0 ≡ false → RowHas r
other_row_has r other x =
    then_there HasPath (λ e. option_and_then (λ w. Some (r.0, w)) (all_taken e))
    (λ e. taken_by r.0 _ e (λ is. cc)) (in_turn r.2 x.kept x.left)

led_has : (o : Option State) (r : Row) (other : Option (StmtKind × State)) → RowHas r → IfThere HasPath other → IfThere HasPath (led_or o r other)
led_has None r other h g = g
led_has (Some x) r other h g = h x

row_by : (b : Bool) (r : Row) (rs : List Row) (ts : List Terminal) → is_alter_table r.0 ≡ b → (RowsHave (tables_alone rs) → IfThere HasPath (first_led rs ts))
    → RowsHave (if b then r ∷ tables_alone rs else tables_alone rs) → IfThere HasPath (led_or (in_turn r.1 fresh ts) r (first_led rs ts))
row_by true r rs ts is next h = led_has (in_turn r.1 fresh ts) r (first_led rs ts) h.0 (next h.1)
row_by false r rs ts is next h = led_has (in_turn r.1 fresh ts) r (first_led rs ts) (other_row_has r is) (next h)

rows_have : (rows : List Row) (ts : List Terminal) → RowsHave (tables_alone rows) → IfThere HasPath (first_led rows ts)
rows_have [] ts h = tt
rows_have (r ∷ rs) ts h = row_by (is_alter_table r.0) r rs ts refl (rows_have rs ts) h

-- ---- the first word

create_have : (x : Family) → RowsHave (tables_alone (create_rows x))
unfolding create_rows
create_have family.Relation = tt
create_have x = tt

drop_have : (x : Family) → RowsHave (tables_alone (drop_rows x))
unfolding drop_rows
drop_have family.Relation = tt
drop_have x = tt

alter_have : (x : Family) → RowsHave (tables_alone (alter_rows x))
unfolding alter_rows
alter_have family.Relation = (alter_row_has, tt)
alter_have x = tt

tables_have : (w : Keyword) (ts : List Terminal) → RowsHave (tables_alone (rows_of w ts))
unfolding rows_of
tables_have (k.Verb verbs.Create) ts = create_have (family_first ts)
tables_have (k.Verb verbs.Alter) ts = alter_have (family_first ts)
tables_have (k.Verb verbs.Drop) ts = drop_have (family_first ts)
tables_have (k.Verb w) ts = tt
tables_have (k.Object w) ts = tt
tables_have (k.Other others.Security) ts = tt
tables_have w ts = tt

abbrev is_other : Option StmtKind → Bool
is_other None = true
is_other (Some kind) = not (is_alter_table kind)

one_word_other : (w : Keyword) → is_other (one_word_kind w) ≡ true
unfolding one_word_kind
one_word_other (k.Verb verbs.Create) = refl
one_word_other (k.Object objects.Table) = refl
one_word_other (k.Other others.Security) = refl
one_word_other w = refl

word_by : (o : Option StmtKind) (rows : List Row) (ts : List Terminal) → is_other o ≡ true → IfThere HasPath (first_led rows ts) → IfThere HasPath (kind_or_row o rows ts)
word_by None rows ts other g = g
word_by (Some kind) rows ts other g = λ is. let same = not-true (is_alter_table kind) other in cc

front_has : (x : Symbol) (ts : List Terminal) → IfThere HasPath (front_by x ts)
unfolding front_by led_by
front_has (s.Keyword w) ts = word_by (one_word_kind w) (rows_of w ts) ts (one_word_other w) (rows_have (rows_of w ts) ts (tables_have w ts))
front_has s.OpenRound ts = λ is. cc
front_has _ ts = tt

-- ---- forms

abbrev pub FormHasPath : StmtKind × Body → Type 0
FormHasPath f = is_alter_table f.0 ≡ true → AltersPath f.1

table_other : (b : Bool) → is_alter_table (if b then stmt.CreateTableAs else stmt.CreateTable) ≡ false
table_other true = refl
table_other false = refl

other_form : (kind : StmtKind) → is_alter_table kind ≡ false → (o : Option Body) → IfThere FormHasPath (option_and_then (λ b. Some (kind, b)) o)
other_form kind other None = tt
other_form kind other (Some b) = λ is. cc

alter_told : (path : Option Span) → is_some path ≡ true → (o : Option (List Action))
    → IfThere FormHasPath (option_and_then (λ b. Some (stmt.AlterTable, b)) (option_and_then (λ actions. Some (body.Alter path actions)) o))
alter_told path h None = tt
alter_told path h (Some actions) = λ is. h

told_by : (kind : StmtKind) (x : State) (ts : List Terminal) → (is_alter_table kind ≡ true → is_some x.kept.path ≡ true)
    → IfThere FormHasPath (option_and_then (λ b. Some (final_kind kind x, b)) (body_by (body_shape_of kind) kind x ts))
unfolding final_kind body_shape_of body_by
told_by stmt.AlterTable x ts h = alter_told x.kept.path (h refl) (actions_of stmt.AlterTable x.left)
told_by stmt.CreateTable x ts h = other_form (table_kind x.left) (table_other (has_keyword keyword.AS x.left)) (body_by (body_shape_of stmt.CreateTable) stmt.CreateTable x ts)
told_by kind x ts h = other_form kind refl (body_by (body_shape_of kind) kind x ts)

told_has : (ts : List Terminal) (f : StmtKind × State) → HasPath f → IfThere FormHasPath (kind_and_body ts f)
unfolding kind_and_body
told_has ts f h = told_by f.0 f.1 ts h

form_from_has : (ts : List Terminal) → IfThere FormHasPath (form_from ts)
unfolding form_from
form_from_has [] = λ is. cc
form_from_has (t ∷ ts) = from_there HasPath FormHasPath (kind_and_body ts) (told_has ts) (front_by t.symbol ts) (front_has t.symbol ts)

pub form_has : (ts : List Terminal) → IfThere FormHasPath (form_of ts)
unfolding form_of
form_has [] = λ is. cc
form_has (t ∷ ts) = form_from_has (from_verb (t ∷ ts))
