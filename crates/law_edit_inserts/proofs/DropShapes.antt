-- From the body of DROP INDEX back to its terminals.
use Rattle.std.proofs.Common.{◌≡◌, ℕ, Bool, true, false, cond, List, [], ◌∷◌, sym, refl, ◌∙◌, subst, Option, Some, None}
use Rattle.std.proofs.lemmas.Bool.{false≢true}
use Rattle.std.specs.Option.{option_and_then}
use Rattle.law_edit_cuts.specs.sql_keyword.declared.words.Keyword.{Keyword}
use Rattle.law_edit_cuts.specs.sql_keyword.declared.words.Keyword.TheVariants as k
use Rattle.law_edit_cuts.specs.sql_keyword.declared.words.Verb.TheVariants as verbs
use Rattle.law_edit_cuts.specs.sql_keyword.declared.words.Object.TheVariants as objects
use Rattle.law_edit_cuts.specs.sql_keyword.declared.words.Other.TheVariants as others
use Rattle.law_edit_cuts.specs.sql_keyword.declared.words.TheConstants.Keyword as keyword
use Rattle.law_edit_cuts.specs.sql_token.declared.token.Span.{Span}
use Rattle.law_edit_cuts.specs.sql_token.declared.terminal.Terminal.{Terminal}
use Rattle.law_edit_cuts.specs.sql_token.Depth.{has_keyword}
use Rattle.law_edit_cuts.specs.sql_tree.declared.kinds.StmtKind.{StmtKind}
use Rattle.law_edit_cuts.specs.sql_tree.declared.kinds.StmtKind.TheVariants as stmt
use Rattle.law_edit_cuts.specs.sql_tree.declared.forms.Family.{Family}
use Rattle.law_edit_cuts.specs.sql_tree.declared.forms.Family.TheVariants as family
use Rattle.law_edit_cuts.specs.sql_tree.declared.forms.Fact.TheVariants as m
use Rattle.law_edit_cuts.specs.sql_tree.declared.forms.Phrase.TheVariants as phrase
use Rattle.law_edit_cuts.specs.sql_tree.declared.forms.Part.{Part}
use Rattle.law_edit_cuts.specs.sql_tree.declared.forms.Part.TheVariants as p
use Rattle.law_edit_cuts.specs.sql_tree.declared.nodes.Body.{Body}
use Rattle.law_edit_cuts.specs.sql_tree.declared.nodes.Body.TheVariants as body
use Rattle.law_edit_cuts.specs.sql_tree.Forms.{State, Row, take_part, first_led, fresh, family_first, create_rows, alter_rows, drop_rows, rows_of, one_word_kind, led_by}
use Rattle.law_edit_cuts.specs.sql_tree.Split.{is_verb_word}
use Rattle.law_edit_cuts.specs.sql_tree.Statement.{final_kind, body_shape_of, body_by, kind_and_body, front_by, form_from, form_of}
use Rattle.law_edit_inserts.specs.Concurrently.{key}
use Rattle.law_edit_inserts.proofs.Leading.{Given, given_then, given_any, given_is, listed_rows, RowShows, RowsShow, rows_show, families_show, is_relation, FrontShows, is_quiet, Leading, form_shows}
use Rattle.law_edit_inserts.specs.Shapes.{DropShape, DropIndexShows}
use Rattle.std.specs.Prelude.{is_some}
use Rattle.law_edit_cuts.specs.sql_tree.Tails.{paths_from}
use Rattle.law_edit_inserts.proofs.IndexShapes.{AllKeep, Marks, some_is, index_is, guarded_keeps, path_keeps, rest_keeps, object_shows}

abbrev is_drop : StmtKind → Bool
is_drop stmt.DropIndex = true
is_drop _ = false

abbrev DropSaid : List Terminal → Body → Type 0
DropSaid ts (body.Drop x false guarded paths) = DropShape x ts
DropSaid ts _ = Unit {0}

abbrev DropShows : List Terminal → StmtKind × Body → Type 0
DropShows ts f = is_drop f.0 ≡ true → DropSaid ts f.1

-- the kind of a form is not changed to this one
kind_stays : (kind : StmtKind) (s : State) → is_drop kind ≡ false → is_drop (final_kind kind s) ≡ false
unfolding final_kind
kind_stays stmt.CreateTable s h = by (has_keyword keyword.AS s.left)
  where
    by : (b : Bool) → is_drop (cond b stmt.CreateTableAs stmt.CreateTable) ≡ false
    by true = refl
    by false = refl
kind_stays kind s h = h

unlisted_front : (ts us : List Terminal) (kind : StmtKind) (s : State) → is_drop kind ≡ false → FrontShows DropShows ts us (kind, s)
unfolding kind_and_body
unlisted_front ts us kind s h =
    given_any (DropShows ts) (λ b. Some (final_kind kind s, b)) (body_by (body_shape_of kind) kind s us) (λ b e. absurd (false≢true (sym (kind_stays kind s h) ∙ e)))

-- ---- the row

abbrev pub drop_parts : List Part
drop_parts = p.Maybe phrase.IfExists m.Guarded ∷ p.Path ∷ p.Rest ∷ []

drop_keep : AllKeep drop_parts
drop_keep = (guarded_keeps phrase.IfExists, (path_keeps, (rest_keeps, tt)))

said_shows : (all us : List Terminal) (x : ℕ) (s : State) → Marks (λ y. DropShape y all) x s.kept → FrontShows DropShows all us (stmt.DropIndex, s)
unfolding kind_and_body body_shape_of final_kind body_by
said_shows all us x s h = by s.kept.word s.kept.concurrently s.kept.path h.0 h.1
  where
    by : (word concurrently : Option ℕ) (path : Option Span) → word ≡ Some x → (concurrently ≡ None → DropShape x all) →
        Given (DropShows all) (option_and_then (λ b. Some (stmt.DropIndex, b)) (option_and_then (λ w. option_and_then (λ p. Some (body.Drop w (is_some concurrently) s.kept.guarded (paths_from p.first p.last s.left))) path) word))
    by None concurrently path e g = tt
    by (Some w) concurrently None e g = tt
    by (Some w) (Some n) (Some p) e g = λ listed. tt
    by (Some w) None (Some p) e g = λ listed. subst (λ (x : ℕ). DropShape x all) (sym (some_is w x e)) (g refl)

abbrev drop_row : Row
drop_row = (stmt.DropIndex, p.Object keyword.INDEX ∷ [], p.Concurrently ∷ drop_parts)

one_row : listed_rows is_drop (drop_rows family.Relation) ≡ drop_row ∷ []
unfolding drop_rows
one_row = refl

row_shows : (c : ℕ) (us ts : List Terminal) → RowShows (FrontShows DropShows (key keyword.DROP c ∷ ts) us) ts drop_row
unfolding take_part
row_shows c us [] = tt
row_shows c us (t ∷ ts) =
    object_shows DropShows stmt.DropIndex drop_parts drop_keep (λ x. DropShape x (key keyword.DROP c ∷ t ∷ ts)) (key keyword.DROP c ∷ t ∷ ts) us (said_shows (key keyword.DROP c ∷ t ∷ ts) us) fresh t ts
    (λ h none. record { first = c; rest = ts; none = none; parts = λ i. key keyword.DROP c ∷ index_is t h i ∷ ts })

-- ---- the first word

abbrev leads : Keyword → Bool
leads (k.Verb verbs.Drop) = true
leads _ = false

quiet_kind : (w : Keyword) → is_quiet is_drop (one_word_kind w) ≡ true
unfolding one_word_kind is_quiet
quiet_kind (k.Verb verbs.Create) = refl
quiet_kind (k.Object objects.Table) = refl
quiet_kind (k.Other others.Security) = refl
quiet_kind w = refl

create_quiet : (x : Family) → listed_rows is_drop (create_rows x) ≡ []
unfolding create_rows
create_quiet family.Relation = refl
create_quiet x = refl

alter_quiet : (x : Family) → listed_rows is_drop (alter_rows x) ≡ []
unfolding alter_rows
alter_quiet family.Relation = refl
alter_quiet x = refl

drop_quiet : (x : Family) → is_relation x ≡ false → listed_rows is_drop (drop_rows x) ≡ []
unfolding drop_rows
drop_quiet family.Relation h = absurd (false≢true (sym h))
drop_quiet x h = refl

quiet_rows : (w : Keyword) (ts : List Terminal) → leads w ≡ false → listed_rows is_drop (rows_of w ts) ≡ []
unfolding rows_of
quiet_rows (k.Verb verbs.Create) ts h = create_quiet (family_first ts)
quiet_rows (k.Verb verbs.Alter) ts h = alter_quiet (family_first ts)
quiet_rows (k.Verb verbs.Drop) ts h = absurd (false≢true (sym h))
quiet_rows (k.Verb w) ts h = refl
quiet_rows (k.Object w) ts h = refl
quiet_rows (k.Other others.Security) ts h = refl
quiet_rows w ts h = refl

rows_tell : (c : ℕ) (ts : List Terminal) → Given (FrontShows DropShows (key keyword.DROP c ∷ ts) ts) (first_led (drop_rows (family_first ts)) ts)
rows_tell c ts =
    families_show is_drop (FrontShows DropShows (key keyword.DROP c ∷ ts) ts) (unlisted_front (key keyword.DROP c ∷ ts) ts) drop_rows ts drop_quiet (family_first ts)
    (λ p. rows_show is_drop (FrontShows DropShows (key keyword.DROP c ∷ ts) ts) (unlisted_front (key keyword.DROP c ∷ ts) ts) ts (drop_rows family.Relation)
    (subst (λ (x : List Row). RowsShow (FrontShows DropShows (key keyword.DROP c ∷ ts) ts) ts x) (sym one_row) (row_shows c ts ts, tt)))

dropped_shows : (c : ℕ) (ts : List Terminal) → Given (DropShows (key keyword.DROP c ∷ ts)) (form_from (key keyword.DROP c ∷ ts))
unfolding form_from front_by led_by rows_of one_word_kind
dropped_shows c ts = given_then (FrontShows DropShows (key keyword.DROP c ∷ ts) ts) (DropShows (key keyword.DROP c ∷ ts)) (kind_and_body ts) (first_led (drop_rows (family_first ts)) ts) (rows_tell c ts) (λ f h. h)

verb_quiet : (w : Keyword) → is_verb_word w ≡ true → leads w ≡ false
verb_quiet (k.Verb verbs.Drop) h = absurd (false≢true h)
verb_quiet w h = refl

lead_word : (w : Keyword) → leads w ≡ true → keyword.DROP ≡ w
lead_word (k.Verb verbs.Drop) h = refl
lead_word w h = absurd (false≢true h)

drop_leading : Leading DropShows is_drop leads
drop_leading = record {
  none = unlisted_front;
  empty = λ e. absurd (false≢true e);
  select = λ ts e. absurd (false≢true e);
  quiet_kind = λ w h. quiet_kind w;
  quiet_rows = quiet_rows;
  quiet_paren = refl;
  quiet_verb = verb_quiet;
  here = λ w n ts h. subst (λ (x : Keyword). Given (DropShows (key x n ∷ ts)) (form_from (key x n ∷ ts))) (lead_word w h) (dropped_shows n ts);
}

pub drop_index_shows : DropIndexShows
drop_index_shows ts x g paths e = given_is (DropShows ts) (form_of ts) (stmt.DropIndex, body.Drop x false g paths) (form_shows DropShows is_drop leads drop_leading ts) e refl
