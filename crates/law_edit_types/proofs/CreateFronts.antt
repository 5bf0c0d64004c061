-- The form of CREATE TABLE: its front, and the tail that its body is read of.
use Rattle.std.proofs.Common.{◌≡◌, ℕ, Bool, true, false, cond, List, [], ◌∷◌, ◌++◌, append_assoc, sym, refl, ap, ◌∙◌, subst, Option, Some, None}
use Rattle.std.proofs.lemmas.Bool.{false≢true}
use Rattle.std.specs.Prelude.{◌&&◌}
use Rattle.std.specs.Option.{option_and_then}
use Rattle.law_edit_inserts.specs.sql_keyword.declared.words.Keyword.{Keyword}
use Rattle.law_edit_inserts.specs.sql_keyword.declared.words.Keyword.TheVariants as k
use Rattle.law_edit_inserts.specs.sql_keyword.declared.words.Verb.TheVariants as verbs
use Rattle.law_edit_inserts.specs.sql_keyword.declared.words.Object.TheVariants as objects
use Rattle.law_edit_inserts.specs.sql_keyword.declared.words.Other.TheVariants as others
use Rattle.law_edit_inserts.specs.sql_keyword.declared.words.TheConstants.Keyword as keyword
use Rattle.law_edit_inserts.specs.sql_keyword.Same.{same_keyword}
use Rattle.law_edit_inserts.specs.sql_token.declared.token.Span.{Span}
use Rattle.law_edit_inserts.specs.sql_token.declared.terminal.Terminal.{Terminal}
use Rattle.law_edit_inserts.specs.sql_token.Terminal.{is_keyword, is_name}
use Rattle.law_edit_inserts.specs.sql_token.Depth.{has_keyword}
use Rattle.law_edit_inserts.specs.sql_tree.declared.kinds.StmtKind.{StmtKind}
use Rattle.law_edit_inserts.specs.sql_tree.declared.kinds.StmtKind.TheVariants as stmt
use Rattle.law_edit_inserts.specs.sql_tree.declared.forms.Captures.{Captures}
use Rattle.law_edit_inserts.specs.sql_tree.declared.forms.Family.{Family}
use Rattle.law_edit_inserts.specs.sql_tree.declared.forms.Family.TheVariants as family
use Rattle.law_edit_inserts.specs.sql_tree.declared.forms.Fact.TheVariants as m
use Rattle.law_edit_inserts.specs.sql_tree.declared.forms.Phrase.TheVariants as phrase
use Rattle.law_edit_inserts.specs.sql_tree.declared.forms.Part.{Part}
use Rattle.law_edit_inserts.specs.sql_tree.declared.forms.Part.TheVariants as p
use Rattle.law_edit_inserts.specs.sql_tree.declared.nodes.Body.{Body}
use Rattle.law_edit_inserts.specs.sql_tree.declared.nodes.Body.TheVariants as body
use Rattle.law_edit_inserts.specs.sql_tree.declared.nodes.Elem.{Elem}
use Rattle.law_edit_inserts.specs.sql_tree.Column.{elements, drops_on_commit}
use Rattle.law_edit_inserts.specs.sql_tree.Forms.{State, Row, at, one, word_kept, take_mods, opened, take_part, in_turn, all_taken, finished, led_or, first_led, fresh, family_first, create_rows, alter_rows, drop_rows, rows_of, one_word_kind, led_by}
use Rattle.law_edit_inserts.specs.sql_tree.Split.{is_verb_word}
use Rattle.law_edit_inserts.specs.sql_tree.Statement.{table_kind, final_kind, body_shape_of, body_by, kind_and_body, front_by, from_verb, form_from, form_of}
use Rattle.law_edit_inserts.specs.Concurrently.{key}
use Rattle.law_edit_inserts.proofs.Leading.{Given, given_then, given_any, given_is, listed_rows, RowShows, RowsShow, rows_show, families_show, is_relation, FrontShows, is_quiet, Leading, form_shows}
use Rattle.law_edit_types.proofs.CreateShapes.{IsBreak, is_path_part, all_parts, word_part, parts_append, take_table, table_front, mods_front}

-- ---- what a CREATE TABLE shows

-- the front, before a tail that begins with a terminal that is no key word and no dot: another tail may come after that terminal
pub record CreateFront (ts : List Terminal) (temp guarded : Bool) (word : ℕ) (path : Span) (t : Terminal) (rest : List Terminal) : Type 0 where
  pub first : Terminal
  pub front : List Terminal
  pub parts : ts ≡ (first ∷ front) ++ t ∷ rest
  pub names : all_parts (first ∷ front) ≡ true
  pub reads : (us : List Terminal) → has_keyword keyword.AS (t ∷ us) ≡ false →
      form_of ((first ∷ front) ++ t ∷ us) ≡ Some (stmt.CreateTable, body.Table temp guarded (drops_on_commit (t ∷ us)) word path (elements (t ∷ us)))

pub record CreateShape (ts : List Terminal) (temp guarded drops : Bool) (word : ℕ) (path : Span) (elems : List Elem) : Type 0 where
  pub left : List Terminal
  pub elems_are : elements left ≡ elems
  pub drops_is : drops_on_commit left ≡ drops
  pub no_query : has_keyword keyword.AS left ≡ false
  pub fronts : (t : Terminal) (rest : List Terminal) → left ≡ t ∷ rest → IsBreak t → CreateFront ts temp guarded word path t rest

abbrev pub is_create : StmtKind → Bool
is_create stmt.CreateTable = true
is_create _ = false

abbrev CreateSaid : List Terminal → Body → Type 0
CreateSaid ts (body.Table temp guarded drops word path elems) = CreateShape ts temp guarded drops word path elems
CreateSaid ts _ = Unit {0}

abbrev CreateShows : List Terminal → StmtKind × Body → Type 0
CreateShows ts f = is_create f.0 ≡ true → CreateSaid ts f.1

pub kind_stays : (kind : StmtKind) (st : State) → is_create kind ≡ false → is_create (final_kind kind st) ≡ false
unfolding final_kind
kind_stays stmt.CreateTable st h = absurd (false≢true (sym h))
kind_stays kind st h = h

unlisted_front : (ts us : List Terminal) (kind : StmtKind) (st : State) → is_create kind ≡ false → FrontShows CreateShows ts us (kind, st)
unfolding kind_and_body
unlisted_front ts us kind st h =
    given_any (CreateShows ts) (λ b. Some (final_kind kind st, b)) (body_by (body_shape_of kind) kind st us) (λ b e. absurd (false≢true (sym (kind_stays kind st h) ∙ e)))

-- ---- the row

abbrev lead_parts : List Part
lead_parts = p.Mods ∷ p.Object keyword.TABLE ∷ []

abbrev table_parts : List Part
table_parts = p.Maybe phrase.IfNotExists m.Guarded ∷ p.Path ∷ p.Rest ∷ []

abbrev create_row : Row
create_row = (stmt.CreateTable, lead_parts, table_parts)

one_row : listed_rows is_create (create_rows family.Relation) ≡ create_row ∷ []
unfolding create_rows
one_row = refl

-- what the row finds, where it reads so much after the word TABLE
abbrev found : Option State → Option (StmtKind × State)
found o = option_and_then (λ e. option_and_then (λ w. Some (stmt.CreateTable, w)) (all_taken e)) (option_and_then (λ st. Some (at (opened st.kept) st.left)) o)

finished_is : (st : State) → finished stmt.CreateTable table_parts st ≡ found (take_table st.kept st.left)
unfolding take_part
finished_is st = refl

-- the statement of what is kept and left
abbrev said : Captures → List Terminal → Option (StmtKind × Body)
said c left =
    option_and_then (λ b. Some (table_kind left, b))
    (option_and_then (λ word. option_and_then (λ path. Some (body.Table c.temp c.guarded (drops_on_commit left) word path (elements left))) c.path) c.word)

told_is : (xs : List Terminal) (c : Captures) (left : List Terminal) → kind_and_body xs (stmt.CreateTable, at (opened c) left) ≡ said c left
unfolding kind_and_body final_kind body_shape_of body_by
told_is xs c left = refl

create_form : (n : ℕ) (xs : List Terminal) → form_of (key keyword.CREATE n ∷ xs) ≡ option_and_then (kind_and_body xs) (first_led (create_rows (family_first xs)) xs)
unfolding form_of from_verb form_from front_by led_by one_word_kind rows_of is_keyword same_keyword
create_form n xs = refl

-- the first row of its family
abbrev by_row : List Terminal → Option State → Option (StmtKind × State) → Option (StmtKind × Body)
by_row xs lead other = option_and_then (kind_and_body xs) (led_or lead create_row other)

relation_row : (xs : List Terminal) → (other : Option (StmtKind × State)) × (first_led (create_rows family.Relation) xs ≡ led_or (in_turn lead_parts fresh xs) create_row other)
unfolding create_rows
relation_row xs = (_, refl)

table_after : Captures → Terminal → List Terminal → Bool → Option State
table_after c y ys b = cond b (Some (at (word_kept y c) ys)) None

lead_is : (xs : List Terminal) → in_turn lead_parts fresh xs ≡ option_and_then (λ st. Some st) (one (is_keyword keyword.TABLE) word_kept (take_mods fresh xs).kept (take_mods fresh xs).left)
unfolding take_part
lead_is xs = refl

-- ---- forward

family_same : (front : List Terminal) (y : Terminal) (xs ys : List Terminal) → family_first (front ++ y ∷ xs) ≡ family_first (front ++ y ∷ ys)
family_same [] y xs ys = refl
family_same (x ∷ front) y xs ys = refl

said_body : (c : Captures) (left : List Terminal) (word : ℕ) (path : Span) → c.word ≡ Some word → c.path ≡ Some path → has_keyword keyword.AS left ≡ false →
    said c left ≡ Some (stmt.CreateTable, body.Table c.temp c.guarded (drops_on_commit left) word path (elements left))
said_body c left word path w q none =
    (λ i. option_and_then (λ b. Some (cond (none i) stmt.CreateTableAs stmt.CreateTable, b))
    (option_and_then (λ word. option_and_then (λ path. Some (body.Table c.temp c.guarded (drops_on_commit left) word path (elements left))) (q i)) (w i)))

key_part : (w : Keyword) (n : ℕ) → is_path_part (key w n) ≡ true
unfolding is_name
key_part w n = refl

-- the front of a CREATE TABLE whose parts are these
create_front : (n : ℕ) (xs : List Terminal) (y : Terminal) (ys : List Terminal) (st : State) (word : ℕ) (path : Span) → family_first xs ≡ family.Relation → (take_mods fresh xs).left ≡ y ∷ ys → is_keyword keyword.TABLE y ≡ true →
    take_table (word_kept y (take_mods fresh xs).kept) ys ≡ Some st → st.kept.word ≡ Some word → st.kept.path ≡ Some path → (t : Terminal) (rest : List Terminal) → st.left ≡ t ∷ rest → IsBreak t →
    CreateFront (key keyword.CREATE n ∷ xs) st.kept.temp st.kept.guarded word path t rest
create_front n xs y ys st word path relation mods table taken w q t rest left none =
    let c : Captures = (take_mods fresh xs).kept in
    let a = mods_front fresh xs y ys mods in
    let b = given_is (λ e. e.left ≡ t ∷ rest → _) (take_table (word_kept y c) ys) st (table_front (word_kept y c) ys t rest none) taken left in
    let front : List Terminal = a.front ++ (y ∷ b.front) in
    let whole : (us : List Terminal) → a.front ++ y ∷ (b.front ++ t ∷ us) ≡ front ++ t ∷ us = λ us. sym (append_assoc a.front (y ∷ b.front) (t ∷ us)) in
    let parts : xs ≡ front ++ t ∷ rest = a.parts ∙ ap (λ (l : List Terminal). a.front ++ y ∷ l) b.parts ∙ whole rest in
    let create = key_part keyword.CREATE n in
    let names = parts_append a.front (y ∷ b.front) a.names (let first = word_part keyword.TABLE y table in let others = b.names in λ i. first i && others i) in
    record {
      first = key keyword.CREATE n;
      front = front;
      parts = ap (λ (l : List Terminal). key keyword.CREATE n ∷ l) parts;
      names = λ i. create i && names i;
      reads = λ us query.
          let zs : List Terminal = a.front ++ y ∷ (b.front ++ t ∷ us) in
          let same : family_first zs ≡ family.Relation = family_same a.front y (b.front ++ t ∷ us) ys ∙ ap family_first (sym a.parts) ∙ relation in
          let row = relation_row zs in
          let kept = a.stays (b.front ++ t ∷ us) in
          let lead : in_turn lead_parts fresh zs ≡ Some (at (word_kept y c) (b.front ++ t ∷ us)) =
          lead_is zs
          ∙ ap (λ (e : State). option_and_then (λ st. Some st) (one (is_keyword keyword.TABLE) word_kept e.kept e.left)) kept
          ∙ (λ i. option_and_then (λ st. Some st) (cond (table i) (Some (at (word_kept y c) (b.front ++ t ∷ us))) None)) in
          ap (λ (l : List Terminal). form_of (key keyword.CREATE n ∷ l)) (sym (whole us))
          ∙ create_form n zs
          ∙ ap (λ (x : Family). option_and_then (kind_and_body zs) (first_led (create_rows x) zs)) same
          ∙ ap (λ (o : Option (StmtKind × State)). option_and_then (kind_and_body zs) o) row.1
          ∙ ap (λ (o : Option State). by_row zs o row.0) lead
          ∙ ap (λ (o : Option (StmtKind × State)). option_and_then (kind_and_body zs) o) (finished_is (at (word_kept y c) (b.front ++ t ∷ us)))
          ∙ ap (λ (o : Option State). option_and_then (kind_and_body zs) (found o)) (b.stays us)
          ∙ told_is zs st.kept (t ∷ us)
          ∙ said_body st.kept (t ∷ us) word path w q query;
    }

-- ---- back

query_none : (left : List Terminal) → is_create (table_kind left) ≡ true → has_keyword keyword.AS left ≡ false
query_none left h = by (has_keyword keyword.AS left) h
  where
    by : (b : Bool) → is_create (cond b stmt.CreateTableAs stmt.CreateTable) ≡ true → b ≡ false
    by true h = absurd (false≢true h)
    by false h = refl

said_shows : (n : ℕ) (xs : List Terminal) (y : Terminal) (ys : List Terminal) (st : State) → family_first xs ≡ family.Relation → (take_mods fresh xs).left ≡ y ∷ ys → is_keyword keyword.TABLE y ≡ true →
    take_table (word_kept y (take_mods fresh xs).kept) ys ≡ Some st → Given (CreateShows (key keyword.CREATE n ∷ xs)) (said st.kept st.left)
said_shows n xs y ys st relation mods table taken = by st.kept.word st.kept.path refl refl
  where
    by : (w : Option ℕ) (q : Option Span) → st.kept.word ≡ w → st.kept.path ≡ q →
        Given (CreateShows (key keyword.CREATE n ∷ xs))
        (option_and_then (λ b. Some (table_kind st.left, b))
        (option_and_then (λ word. option_and_then (λ path. Some (body.Table st.kept.temp st.kept.guarded (drops_on_commit st.left) word path (elements st.left))) q) w))
    by None q e f = tt
    by (Some word) None e f = tt
    by (Some word) (Some path) e f = λ listed. record {
      left = st.left;
      elems_are = refl;
      drops_is = refl;
      no_query = query_none st.left listed;
      fronts = λ t rest left none. create_front n xs y ys st word path relation mods table taken e f t rest left none;
    }

found_shows : (n : ℕ) (xs : List Terminal) (y : Terminal) (ys : List Terminal) → family_first xs ≡ family.Relation → (take_mods fresh xs).left ≡ y ∷ ys → is_keyword keyword.TABLE y ≡ true →
    (o : Option State) → take_table (word_kept y (take_mods fresh xs).kept) ys ≡ o → Given (FrontShows CreateShows (key keyword.CREATE n ∷ xs) xs) (found o)
found_shows n xs y ys relation mods table None e = tt
found_shows n xs y ys relation mods table (Some st) e = subst (Given (CreateShows (key keyword.CREATE n ∷ xs))) (sym (told_is xs st.kept st.left)) (said_shows n xs y ys st relation mods table e)

row_shows : (n : ℕ) (xs : List Terminal) → family_first xs ≡ family.Relation → RowShows (FrontShows CreateShows (key keyword.CREATE n ∷ xs) xs) xs create_row
row_shows n xs relation =
    subst (Given (λ st. Given (FrontShows CreateShows (key keyword.CREATE n ∷ xs) xs) (finished stmt.CreateTable table_parts st))) (sym (lead_is xs)) (by (take_mods fresh xs).left refl)
  where
    c : Captures
    c = (take_mods fresh xs).kept

    table : (y : Terminal) (ys : List Terminal) → (take_mods fresh xs).left ≡ y ∷ ys → (b : Bool) → is_keyword keyword.TABLE y ≡ b →
        Given (λ st. Given (FrontShows CreateShows (key keyword.CREATE n ∷ xs) xs) (finished stmt.CreateTable table_parts st)) (option_and_then (λ st. Some st) (cond b (Some (at (word_kept y c) ys)) None))
    table y ys mods false h = tt
    table y ys mods true h =
        subst (Given (FrontShows CreateShows (key keyword.CREATE n ∷ xs) xs)) (sym (finished_is (at (word_kept y c) ys)))
        (found_shows n xs y ys relation mods h (take_table (word_kept y c) ys) refl)

    by : (l : List Terminal) → (take_mods fresh xs).left ≡ l → Given (λ st. Given (FrontShows CreateShows (key keyword.CREATE n ∷ xs) xs) (finished stmt.CreateTable table_parts st)) (option_and_then (λ st. Some st) (one (is_keyword keyword.TABLE) word_kept c l))
    by [] e = tt
    by (y ∷ ys) e = table y ys e (is_keyword keyword.TABLE y) refl

-- ---- the first words

abbrev leads : Keyword → Bool
leads (k.Verb verbs.Create) = true
leads _ = false

quiet_kind : (w : Keyword) → is_quiet is_create (one_word_kind w) ≡ true
unfolding one_word_kind is_quiet
quiet_kind (k.Verb verbs.Create) = refl
quiet_kind (k.Object objects.Table) = refl
quiet_kind (k.Other others.Security) = refl
quiet_kind w = refl

alter_quiet : (x : Family) → listed_rows is_create (alter_rows x) ≡ []
unfolding alter_rows
alter_quiet family.Relation = refl
alter_quiet x = refl

drop_quiet : (x : Family) → listed_rows is_create (drop_rows x) ≡ []
unfolding drop_rows
drop_quiet family.Relation = refl
drop_quiet x = refl

create_quiet : (x : Family) → is_relation x ≡ false → listed_rows is_create (create_rows x) ≡ []
unfolding create_rows
create_quiet family.Relation h = absurd (false≢true (sym h))
create_quiet x h = refl

quiet_rows : (w : Keyword) (ts : List Terminal) → leads w ≡ false → listed_rows is_create (rows_of w ts) ≡ []
unfolding rows_of
quiet_rows (k.Verb verbs.Create) ts h = absurd (false≢true (sym h))
quiet_rows (k.Verb verbs.Alter) ts h = alter_quiet (family_first ts)
quiet_rows (k.Verb verbs.Drop) ts h = drop_quiet (family_first ts)
quiet_rows (k.Verb w) ts h = refl
quiet_rows (k.Object w) ts h = refl
quiet_rows (k.Other others.Security) ts h = refl
quiet_rows w ts h = refl

rows_tell : (n : ℕ) (ts : List Terminal) → Given (FrontShows CreateShows (key keyword.CREATE n ∷ ts) ts) (first_led (create_rows (family_first ts)) ts)
rows_tell n ts =
    families_show is_create (FrontShows CreateShows (key keyword.CREATE n ∷ ts) ts) (unlisted_front (key keyword.CREATE n ∷ ts) ts) create_rows ts create_quiet (family_first ts)
    (λ p. rows_show is_create (FrontShows CreateShows (key keyword.CREATE n ∷ ts) ts) (unlisted_front (key keyword.CREATE n ∷ ts) ts) ts (create_rows family.Relation)
    (subst (λ (x : List Row). RowsShow (FrontShows CreateShows (key keyword.CREATE n ∷ ts) ts) ts x) (sym one_row) (row_shows n ts p, tt)))

created_shows : (n : ℕ) (ts : List Terminal) → Given (CreateShows (key keyword.CREATE n ∷ ts)) (form_from (key keyword.CREATE n ∷ ts))
unfolding form_from front_by led_by rows_of one_word_kind
created_shows n ts = given_then (FrontShows CreateShows (key keyword.CREATE n ∷ ts) ts) (CreateShows (key keyword.CREATE n ∷ ts)) (kind_and_body ts) (first_led (create_rows (family_first ts)) ts) (rows_tell n ts) (λ f h. h)

verb_quiet : (w : Keyword) → is_verb_word w ≡ true → leads w ≡ false
verb_quiet (k.Verb verbs.Create) h = absurd (false≢true h)
verb_quiet w h = refl

lead_word : (w : Keyword) → leads w ≡ true → keyword.CREATE ≡ w
lead_word (k.Verb verbs.Create) h = refl
lead_word w h = absurd (false≢true h)

create_leading : Leading CreateShows is_create leads
create_leading = record {
  none = unlisted_front;
  empty = λ e. absurd (false≢true e);
  select = λ ts e. absurd (false≢true e);
  quiet_kind = λ w h. quiet_kind w;
  quiet_rows = quiet_rows;
  quiet_paren = refl;
  quiet_verb = verb_quiet;
  here = λ w n ts h. subst (λ (x : Keyword). Given (CreateShows (key x n ∷ ts)) (form_from (key x n ∷ ts))) (lead_word w h) (created_shows n ts);
}

pub create_table_shows : (ts : List Terminal) (temp guarded drops : Bool) (word : ℕ) (path : Span) (elems : List Elem) → form_of ts ≡ Some (stmt.CreateTable, body.Table temp guarded drops word path elems) → CreateShape ts temp guarded drops word path elems
create_table_shows ts temp guarded drops word path elems e =
    given_is (CreateShows ts) (form_of ts) (stmt.CreateTable, body.Table temp guarded drops word path elems) (form_shows CreateShows is_create leads create_leading ts) e refl
