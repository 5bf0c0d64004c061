-- The action ADD COLUMN: what it is read of.
use Rattle.std.proofs.Common.{◌≡◌, ℕ, Bool, true, false, cond, List, [], ◌∷◌, ◌++◌, sym, refl, ap, ◌∙◌, subst, Option, Some, None, ◌⊎◌, inl, inr}
use Rattle.std.proofs.lemmas.Bool.{false≢true}
use Rattle.std.specs.Prelude.{◌&&◌}
use Rattle.std.specs.List.{list_all}
use Rattle.std.specs.Option.{option_and_then}
use Rattle.law_edit_inserts.specs.sql_keyword.declared.words.Keyword.{Keyword}
use Rattle.law_edit_inserts.specs.sql_keyword.declared.words.Keyword.TheVariants as k
use Rattle.law_edit_inserts.specs.sql_keyword.declared.words.Verb.TheVariants as verbs
use Rattle.law_edit_inserts.specs.sql_keyword.declared.words.Object.TheVariants as objects
use Rattle.law_edit_inserts.specs.sql_keyword.declared.words.Other.TheVariants as others
use Rattle.law_edit_inserts.specs.sql_keyword.declared.words.TheConstants.Keyword as keyword
use Rattle.law_edit_inserts.specs.sql_keyword.Same.{same_keyword}
use Rattle.law_edit_inserts.specs.sql_token.declared.terminal.Symbol.{Symbol}
use Rattle.law_edit_inserts.specs.sql_token.declared.terminal.Symbol.TheVariants as s
use Rattle.law_edit_inserts.specs.sql_token.declared.terminal.Terminal.{Terminal}
use Rattle.law_edit_inserts.specs.sql_token.Terminal.{is_keyword, is_keyword_symbol, is_name, is_name_symbol}
use Rattle.law_edit_inserts.specs.sql_tree.declared.kinds.ActionKind.{ActionKind}
use Rattle.law_edit_inserts.specs.sql_tree.declared.kinds.ActionKind.TheVariants as a
use Rattle.law_edit_inserts.specs.sql_tree.declared.kinds.StmtKind.TheVariants as stmt
use Rattle.law_edit_inserts.specs.sql_tree.declared.forms.Captures.{Captures}
use Rattle.law_edit_inserts.specs.sql_tree.declared.forms.Fact.TheVariants as m
use Rattle.law_edit_inserts.specs.sql_tree.declared.forms.Phrase.TheVariants as phrase
use Rattle.law_edit_inserts.specs.sql_tree.declared.nodes.Action.{Action}
use Rattle.law_edit_inserts.specs.sql_tree.declared.nodes.Column.{Column}
use Rattle.law_edit_inserts.specs.sql_tree.declared.nodes.Constraint.{Constraint}
use Rattle.law_edit_inserts.specs.sql_tree.Forms.{State, at, one, or_here, word_kept, guard, record_fact, take_phrase, words_of, after_word, either_of, fresh, opened, some_left, take_part, all_taken}
use Rattle.law_edit_inserts.specs.sql_tree.ActionRows.{first_rows, first_rows_at, own_rows, general_rows, general_rows_at}
use Rattle.law_edit_inserts.specs.sql_tree.Constraint.{table_constraint, constraint_name, constraint_kind, after_exclude, two_word_kind, after_two}
use Rattle.law_edit_inserts.specs.sql_tree.Column.{column}
use Rattle.law_edit_inserts.specs.sql_tree.Action.{adding, add_constraint, takes_constraint, added_constraint, column_in, pieces_in, action_in, built, by_rows, own_part, own_action, general_action, listed_action, unlisted_action, action}
use Rattle.law_edit_inserts.specs.Concurrently.{key}
use Rattle.law_edit_inserts.proofs.Leading.{Given, given_any}
use Rattle.law_edit_types.proofs.Phrases.{phrase_by, phrase_is, second_none}
use Rattle.law_edit_types.proofs.Rows.{rows_pass, unlisted_given, action_given}

-- ---- rows of other kinds

abbrev no_add : ActionKind → Bool
no_add a.AddColumn = false
no_add _ = true

abbrev pub NoColumn : Action → Type 0
NoColumn x = x.column ≡ None

column_none : (kind : ActionKind) (rest : List Terminal) → no_add kind ≡ true → column_in kind rest ≡ Some None
unfolding column_in
column_none a.AddColumn rest h = absurd (false≢true h)
column_none kind rest h = refl

built_none : (zs : List Terminal) (kind : ActionKind) (e : State) → no_add kind ≡ true → Given NoColumn (built zs kind e)
unfolding built
built_none zs kind e h =
    subst (λ (o : Option (Option Column)). Given NoColumn (option_and_then (λ column. option_and_then (λ pieces. Some (action_in zs kind e.kept column pieces)) (pieces_in kind e.left)) o))
    (sym (column_none kind e.left h)) (given_any NoColumn (λ pieces. Some (action_in zs kind e.kept None pieces)) (pieces_in kind e.left) (λ p. refl))

first_quiet : (x : Symbol) → rows_pass no_add (first_rows_at x) ≡ true
unfolding first_rows_at first_rows
first_quiet (s.Keyword (k.Verb verbs.Set)) = refl
first_quiet (s.Keyword (k.Verb w)) = refl
first_quiet (s.Keyword (k.Object w)) = refl
first_quiet (s.Keyword (k.Other others.Owner)) = refl
first_quiet (s.Keyword (k.Other others.Rename)) = refl
first_quiet (s.Keyword (k.Other w)) = refl
first_quiet x = refl

general_quiet : (x : Symbol) → is_keyword_symbol keyword.ADD x ≡ false → rows_pass no_add (general_rows_at x) ≡ true
unfolding general_rows_at general_rows same_keyword
general_quiet (s.Keyword (k.Verb verbs.Drop)) h = refl
general_quiet (s.Keyword (k.Verb w)) h = refl
general_quiet (s.Keyword (k.Object w)) h = refl
general_quiet (s.Keyword (k.Other others.Add)) h = absurd (false≢true (sym h))
general_quiet (s.Keyword (k.Other w)) h = refl
general_quiet x h = refl

pub other_none : (zs : List Terminal) → Given NoColumn (unlisted_action stmt.AlterTable zs)
other_none zs = unlisted_given no_add NoColumn built_none zs refl

-- Only ADD has a column.
pub others_none : (x : Terminal) (ts : List Terminal) → is_keyword_symbol keyword.ADD x.symbol ≡ false → Given NoColumn (action stmt.AlterTable (x ∷ ts))
others_none x ts h = action_given no_add NoColumn built_none (λ zs c. refl) x ts (first_quiet x.symbol) (general_quiet x.symbol h) refl

add_word : (w : Keyword) → same_keyword w keyword.ADD ≡ true → keyword.ADD ≡ w
unfolding same_keyword
add_word (k.Verb verbs.Create) h = absurd (false≢true h)
add_word (k.Object objects.Table) h = absurd (false≢true h)
add_word (k.Other others.Add) h = refl
add_word w h = absurd (false≢true h)

pub add_symbol : (x : Symbol) → is_keyword_symbol keyword.ADD x ≡ true → s.Keyword keyword.ADD ≡ x
add_symbol (s.Keyword w) h = ap (λ (y : Keyword). s.Keyword y) (add_word w h)
add_symbol x h = absurd (false≢true h)

-- ---- what comes before the name

abbrev after_column : List Terminal → State
after_column ts = or_here (one (is_keyword keyword.COLUMN) word_kept fresh ts) fresh ts

abbrev pub add_state : List Terminal → State
add_state ts = guard (after_column ts).kept (after_column ts).left

-- No constraint of a table begins with these terminals.
pub record BeginsNone (front : List Terminal) : Type 0 where
  pub none : (vs : List Terminal) → table_constraint (front ++ vs) ≡ None

-- What comes before the name t of a column: nothing, and then nothing is kept of it, or what begins no constraint of a table.
pub record Fronted (c : Captures) (f : List Terminal → State) (ts : List Terminal) (t u : Terminal) (us : List Terminal) : Type 0 where
  pub front : List Terminal
  pub parts : ts ≡ front ++ t ∷ u ∷ us
  pub names : list_all is_name front ≡ true
  pub stays : (w : Terminal) (vs : List Terminal) → is_keyword keyword.NOT w ≡ false → f (front ++ t ∷ w ∷ vs) ≡ at (f ts).kept (t ∷ w ∷ vs)
  pub led : ((front ≡ []) × ((f ts).kept ≡ c)) ⊎ BeginsNone front

-- ---- COLUMN and IF begin no constraint of a table

column_word : (w : Keyword) → same_keyword w keyword.COLUMN ≡ true → keyword.COLUMN ≡ w
unfolding same_keyword
column_word (k.Verb verbs.Create) h = absurd (false≢true h)
column_word (k.Object objects.Column) h = refl
column_word (k.Other others.Add) h = absurd (false≢true h)
column_word w h = absurd (false≢true h)

column_symbol : (x : Symbol) → is_keyword_symbol keyword.COLUMN x ≡ true → s.Keyword keyword.COLUMN ≡ x
column_symbol (s.Keyword w) h = ap (λ (y : Keyword). s.Keyword y) (column_word w h)
column_symbol x h = absurd (false≢true h)

if_word : (w : Keyword) → same_keyword w keyword.IF ≡ true → keyword.IF ≡ w
unfolding same_keyword
if_word (k.Verb verbs.Create) h = absurd (false≢true h)
if_word (k.Object objects.Table) h = absurd (false≢true h)
if_word (k.Other others.If) h = refl
if_word w h = absurd (false≢true h)

if_symbol : (x : Symbol) → is_keyword_symbol keyword.IF x ≡ true → s.Keyword keyword.IF ≡ x
if_symbol (s.Keyword w) h = ap (λ (y : Keyword). s.Keyword y) (if_word w h)
if_symbol x h = absurd (false≢true h)

column_begins : (n : ℕ) (ts : List Terminal) → table_constraint (key keyword.COLUMN n ∷ ts) ≡ None
unfolding table_constraint constraint_name constraint_kind after_exclude two_word_kind after_two is_keyword same_keyword
column_begins n ts = refl

if_begins : (n : ℕ) (ts : List Terminal) → table_constraint (key keyword.IF n ∷ ts) ≡ None
unfolding table_constraint constraint_name constraint_kind after_exclude two_word_kind after_two is_keyword same_keyword
if_begins n ts = refl

after_column_none : (y : Terminal) (front : List Terminal) → is_keyword keyword.COLUMN y ≡ true → BeginsNone (y ∷ front)
unfolding is_keyword
after_column_none y front h =
    let word = column_symbol y.symbol h in
    record { none = λ vs. ap (λ (x : Symbol). table_constraint (record { symbol = x; number = y.number } ∷ (front ++ vs))) (sym word) ∙ column_begins y.number (front ++ vs) }

after_if_none : (y : Terminal) (front : List Terminal) → is_keyword keyword.IF y ≡ true → BeginsNone (y ∷ front)
unfolding is_keyword
after_if_none y front h =
    let word = if_symbol y.symbol h in
    record { none = λ vs. ap (λ (x : Symbol). table_constraint (record { symbol = x; number = y.number } ∷ (front ++ vs))) (sym word) ∙ if_begins y.number (front ++ vs) }

-- ---- the phrase IF NOT EXISTS

phrase_two : (c : Captures) (x y : Terminal) → take_phrase phrase.IfNotExists m.Guarded c (x ∷ y ∷ []) ≡ None
unfolding words_of
phrase_two c x y = by (is_keyword keyword.IF x) (is_keyword keyword.NOT y)
  where
    by : (p q : Bool) →
        option_and_then (λ rest. Some (at (record_fact m.Guarded c) rest)) (option_and_then (λ ts. option_and_then (λ ts. option_and_then (λ ts. Some ts) (after_word keyword.EXISTS ts)) (after_word keyword.NOT ts)) (cond p (Some (y ∷ [])) None)) ≡ None
    by false q = refl
    by true q = second (is_keyword keyword.NOT y)
      where
        second : (q : Bool) → option_and_then (λ rest. Some (at (record_fact m.Guarded c) rest)) (option_and_then (λ ts. option_and_then (λ ts. Some ts) (after_word keyword.EXISTS ts)) (cond q (Some []) None)) ≡ None
        second true = refl
        second false = refl

phrase_one : (c : Captures) (x : Terminal) → take_phrase phrase.IfNotExists m.Guarded c (x ∷ []) ≡ None
unfolding words_of
phrase_one c x = by (is_keyword keyword.IF x)
  where
    by : (p : Bool) → option_and_then (λ rest. Some (at (record_fact m.Guarded c) rest)) (option_and_then (λ ts. option_and_then (λ ts. option_and_then (λ ts. Some ts) (after_word keyword.EXISTS ts)) (after_word keyword.NOT ts)) (cond p (Some []) None)) ≡ None
    by true = refl
    by false = refl

keyword_name : (w : Keyword) (t : Terminal) → is_keyword w t ≡ true → is_name t ≡ true
unfolding is_keyword is_name
keyword_name w t h = by t.symbol h
  where
    by : (x : Symbol) → is_keyword_symbol w x ≡ true → is_name_symbol x ≡ true
    by (s.Keyword v) h = refl
    by x h = absurd (false≢true h)

-- no phrase: all is left
no_phrase : (c : Captures) (ts : List Terminal) (t u : Terminal) (us : List Terminal) → take_phrase phrase.IfNotExists m.Guarded c ts ≡ None → (guard c ts).left ≡ t ∷ u ∷ us → Fronted c (guard c) ts t u us
no_phrase c ts t u us none e = record {
  front = [];
  parts = sym (ap (λ (o : Option State). (or_here o c ts).left) none) ∙ e;
  names = refl;
  stays = λ w vs h. ap (λ (o : Option State). or_here o c (t ∷ w ∷ vs)) (second_none c t w vs h) ∙ (λ i. at (or_here (sym none i) c ts).kept (t ∷ w ∷ vs));
  led = inl (refl, ap (λ (o : Option State). (or_here o c ts).kept) none);
}

guarded : (c : Captures) (ts : List Terminal) (t u : Terminal) (us : List Terminal) → (guard c ts).left ≡ t ∷ u ∷ us → Fronted c (guard c) ts t u us
unfolding phrase_by words_of
guarded c [] t u us e = absurd (no e)
  where
    no : [] ≡ t ∷ u ∷ us → ⊥
    no e = cc
guarded c (x ∷ []) t u us e = no_phrase c (x ∷ []) t u us (phrase_one c x) e
guarded c (x ∷ y ∷ []) t u us e = no_phrase c (x ∷ y ∷ []) t u us (phrase_two c x y) e
guarded c (x ∷ y ∷ z ∷ rest) t u us e = by (is_keyword keyword.IF x) (is_keyword keyword.NOT y) (is_keyword keyword.EXISTS z) refl refl refl
  where
    ts : List Terminal
    ts = x ∷ y ∷ z ∷ rest

    by : (p q r : Bool) → is_keyword keyword.IF x ≡ p → is_keyword keyword.NOT y ≡ q → is_keyword keyword.EXISTS z ≡ r → Fronted c (guard c) (x ∷ y ∷ z ∷ rest) t u us
    by true true true f g h =
        let some = phrase_is c x y z rest ∙ (λ i. phrase_by c (f i) (g i) (h i) rest) in
        let left : rest ≡ t ∷ u ∷ us = sym (ap (λ (o : Option State). (or_here o c (x ∷ y ∷ z ∷ rest)).left) some) ∙ e in
        record {
          front = x ∷ y ∷ z ∷ [];
          parts = ap (λ (l : List Terminal). x ∷ y ∷ z ∷ l) left;
          names = (let a = keyword_name keyword.IF x f in let b = keyword_name keyword.NOT y g in let d = keyword_name keyword.EXISTS z h in λ i. a i && (b i && (d i && true)));
          stays = λ w vs n.
              ap (λ (o : Option State). or_here o c (x ∷ y ∷ z ∷ t ∷ w ∷ vs)) (phrase_is c x y z (t ∷ w ∷ vs) ∙ (λ i. phrase_by c (f i) (g i) (h i) (t ∷ w ∷ vs)))
              ∙ (λ i. at (or_here (sym some i) c (x ∷ y ∷ z ∷ rest)).kept (t ∷ w ∷ vs));
          led = inr (after_if_none x (y ∷ z ∷ []) f);
        }
    by true true false f g h = no_phrase c (x ∷ y ∷ z ∷ rest) t u us (phrase_is c x y z rest ∙ (λ i. phrase_by c (f i) (g i) (h i) rest)) e
    by true false r f g h = no_phrase c (x ∷ y ∷ z ∷ rest) t u us (phrase_is c x y z rest ∙ (λ i. phrase_by c (f i) (g i) (h i) rest)) e
    by false q r f g h = no_phrase c (x ∷ y ∷ z ∷ rest) t u us (phrase_is c x y z rest ∙ (λ i. phrase_by c (f i) (g i) (h i) rest)) e

abbrev column_by : Bool → Terminal → List Terminal → State
column_by b y ys = or_here (cond b (Some (at (word_kept y fresh) ys)) None) fresh (y ∷ ys)

abbrev state : State → State
state x = guard x.kept x.left

-- after ADD
pub add_front : (ts : List Terminal) (t u : Terminal) (us : List Terminal) → (add_state ts).left ≡ t ∷ u ∷ us → Fronted fresh add_state ts t u us
unfolding words_of
add_front [] t u us e = absurd (no e)
  where
    no : [] ≡ t ∷ u ∷ us → ⊥
    no e = cc
add_front (y ∷ ys) t u us e = by (is_keyword keyword.COLUMN y) refl
  where
    by : (b : Bool) → is_keyword keyword.COLUMN y ≡ b → Fronted fresh add_state (y ∷ ys) t u us
    by true h =
        let is : after_column (y ∷ ys) ≡ at (word_kept y fresh) ys = λ i. column_by (h i) y ys in
        let g = guarded (word_kept y fresh) ys t u us (ap (λ (x : State). (state x).left) (sym is) ∙ e) in
        record {
          front = y ∷ g.front;
          parts = ap (λ (l : List Terminal). y ∷ l) g.parts;
          names = (let n = keyword_name keyword.COLUMN y h in let o = g.names in λ i. n i && o i);
          stays = λ w vs n.
              (λ i. state (column_by (h i) y (g.front ++ t ∷ w ∷ vs))) ∙ g.stays w vs n ∙ (λ i. at (state (sym is i)).kept (t ∷ w ∷ vs));
          led = inr (after_column_none y g.front h);
        }
    by false h =
        let is : after_column (y ∷ ys) ≡ at fresh (y ∷ ys) = λ i. column_by (h i) y ys in
        let g = guarded fresh (y ∷ ys) t u us (ap (λ (x : State). (state x).left) (sym is) ∙ e) in
        record {
          front = g.front;
          parts = g.parts;
          names = g.names;
          stays = λ w vs n. ap state (same g.front g.parts w vs h) ∙ g.stays w vs n ∙ (λ i. at (state (sym is i)).kept (t ∷ w ∷ vs));
          led = led_by g.led (ap (λ (x : State). (state x).kept) is);
        }
      where
        first : {x x' : Terminal} {us vs : List Terminal} → x ∷ us ≡ x' ∷ vs → x ≡ x'
        first e = cc

        led_by : {front : List Terminal} → ((front ≡ []) × ((guard fresh (y ∷ ys)).kept ≡ fresh)) ⊎ BeginsNone front → (add_state (y ∷ ys)).kept ≡ (guard fresh (y ∷ ys)).kept →
            ((front ≡ []) × ((add_state (y ∷ ys)).kept ≡ fresh)) ⊎ BeginsNone front
        led_by (inl x) e = inl (x.0, e ∙ x.1)
        led_by (inr x) e = inr x

        same : (front : List Terminal) → y ∷ ys ≡ front ++ t ∷ u ∷ us → (w : Terminal) (vs : List Terminal) → is_keyword keyword.COLUMN y ≡ false → after_column (front ++ t ∷ w ∷ vs) ≡ at fresh (front ++ t ∷ w ∷ vs)
        same [] p w vs h = let f = first p in λ i. column_by ((ap (λ (x : Terminal). is_keyword keyword.COLUMN x) (sym f) ∙ h) i) t (w ∷ vs)
        same (z ∷ zs) p w vs h = let f = first p in λ i. column_by ((ap (λ (x : Terminal). is_keyword keyword.COLUMN x) (sym f) ∙ h) i) z (zs ++ t ∷ w ∷ vs)

-- ---- the action

abbrev pub column_action : List Terminal → Captures → Option Column → Option Action
column_action zs c r = option_and_then (λ x. Some (action_in zs a.AddColumn (opened c) (Some x) [])) r

abbrev pub constraint_action : List Terminal → Option Constraint → Option Action
constraint_action zs r = option_and_then (λ x. Some (adding zs x)) r

abbrev pub other_action : List Terminal → Option Action
other_action zs = unlisted_action stmt.AlterTable zs

abbrev pub add_by : List Terminal → Option Constraint → Captures → Option Column → Option Action
add_by zs x c r = either_of (either_of (constraint_action zs x) (column_action zs c r)) (other_action zs)

row_is : (n : ℕ) (ts : List Terminal) → by_rows (general_rows keyword.ADD) (key keyword.ADD n ∷ ts) ≡ column_action (key keyword.ADD n ∷ ts) (add_state ts).kept (column (add_state ts).left)
unfolding by_rows general_rows take_part is_keyword same_keyword built column_in pieces_in column
row_is n ts = by (add_state ts).kept (add_state ts).left
  where
    zs : List Terminal
    zs = key keyword.ADD n ∷ ts

    read : (c : Captures) (r : Option Column) →
        option_and_then (λ column. option_and_then (λ pieces. Some (action_in (key keyword.ADD n ∷ ts) a.AddColumn (opened c) column pieces)) (Some [])) (option_and_then (λ column. Some (Some column)) r)
        ≡ column_action (key keyword.ADD n ∷ ts) c r
    read c None = refl
    read c (Some x) = refl

    by : (c : Captures) (l : List Terminal) →
        option_and_then (λ (f : ActionKind × State). built (key keyword.ADD n ∷ ts) f.0 f.1)
        (either_of (option_and_then (λ (e : State). option_and_then (λ (w : State). Some (a.AddColumn, w)) (all_taken e)) (option_and_then (λ (s : State). Some (at s.kept s.left)) (some_left (opened c) l))) None)
        ≡ column_action (key keyword.ADD n ∷ ts) c (column l)
    by c [] = refl
    by c (x ∷ l) = read c (column (x ∷ l))

whole_is : (n : ℕ) (ts : List Terminal) → action stmt.AlterTable (key keyword.ADD n ∷ ts)
    ≡ either_of (either_of (constraint_action (key keyword.ADD n ∷ ts) (table_constraint ts)) (by_rows (general_rows keyword.ADD) (key keyword.ADD n ∷ ts))) (other_action (key keyword.ADD n ∷ ts))
unfolding action listed_action own_action general_action own_part own_rows first_rows_at first_rows general_rows_at added_constraint takes_constraint add_constraint is_keyword same_keyword by_rows
whole_is n ts = refl

pub add_is : (n : ℕ) (ts : List Terminal) → action stmt.AlterTable (key keyword.ADD n ∷ ts) ≡ add_by (key keyword.ADD n ∷ ts) (table_constraint ts) (add_state ts).kept (column (add_state ts).left)
add_is n ts = whole_is n ts ∙ ap (λ (o : Option Action). either_of (either_of (constraint_action (key keyword.ADD n ∷ ts) (table_constraint ts)) o) (other_action (key keyword.ADD n ∷ ts))) (row_is n ts)
