-- From the body of a statement back to its terminals.
use Rattle.std.proofs.Common.{◌≡◌, ℕ, Bool, true, false, cond, List, [], ◌∷◌, length, sym, refl, ap, ◌∙◌, subst, Option, Some, None}
use Rattle.std.proofs.lemmas.Bool.{false≢true}
use Rattle.std.specs.Prelude.{◌==◌, ◌&&◌, ◌||◌, not}
use Rattle.std.specs.Option.{option_and_then}
use Rattle.law_edit_cuts.specs.sql_keyword.declared.words.Keyword.{Keyword}
use Rattle.law_edit_cuts.specs.sql_keyword.declared.words.Keyword.TheVariants as k
use Rattle.law_edit_cuts.specs.sql_keyword.declared.words.Verb.TheVariants as verbs
use Rattle.law_edit_cuts.specs.sql_keyword.declared.words.Object.TheVariants as objects
use Rattle.law_edit_cuts.specs.sql_keyword.declared.words.Other.TheVariants as others
use Rattle.law_edit_cuts.specs.sql_keyword.declared.words.TheConstants.Keyword as keyword
use Rattle.law_edit_cuts.specs.sql_keyword.Same.{same_keyword}
use Rattle.law_edit_cuts.specs.sql_token.declared.token.Span.{Span}
use Rattle.law_edit_cuts.specs.sql_token.declared.terminal.Symbol.{Symbol}
use Rattle.law_edit_cuts.specs.sql_token.declared.terminal.Symbol.TheVariants as s
use Rattle.law_edit_cuts.specs.sql_token.declared.terminal.Terminal.{Terminal}
use Rattle.law_edit_cuts.specs.sql_token.Terminal.{is_keyword, is_keyword_symbol, is_name}
use Rattle.law_edit_cuts.specs.sql_tree.declared.kinds.StmtKind.{StmtKind}
use Rattle.law_edit_cuts.specs.sql_tree.declared.kinds.StmtKind.TheVariants as stmt
use Rattle.law_edit_cuts.specs.sql_tree.declared.forms.Captures.{Captures}
use Rattle.law_edit_cuts.specs.sql_tree.declared.forms.Family.{Family}
use Rattle.law_edit_cuts.specs.sql_tree.declared.forms.Family.TheVariants as family
use Rattle.law_edit_cuts.specs.sql_tree.declared.forms.Fact.{Fact}
use Rattle.law_edit_cuts.specs.sql_tree.declared.forms.Fact.TheVariants as m
use Rattle.law_edit_cuts.specs.sql_tree.declared.forms.Phrase.{Phrase}
use Rattle.law_edit_cuts.specs.sql_tree.declared.forms.Phrase.TheVariants as phrase
use Rattle.law_edit_cuts.specs.sql_tree.declared.forms.Part.{Part}
use Rattle.law_edit_cuts.specs.sql_tree.declared.forms.Part.TheVariants as p
use Rattle.law_edit_cuts.specs.sql_tree.declared.forms.BodyShape.{BodyShape}
use Rattle.law_edit_cuts.specs.sql_tree.declared.forms.BodyShape.TheVariants as shape
use Rattle.law_edit_cuts.specs.sql_tree.declared.nodes.Body.{Body}
use Rattle.law_edit_cuts.specs.sql_tree.declared.nodes.Body.TheVariants as body
use Rattle.law_edit_cuts.specs.sql_tree.Action.{actions_of}
use Rattle.law_edit_cuts.specs.sql_tree.Column.{domain_constraints}
use Rattle.law_edit_cuts.specs.sql_tree.Forms.{State, Row, at, one, or_here, take_phrase, after_words, words_of, nothing_kept, word_kept, name_kept, concurrently_kept, record_fact, names_end, index_name, guard, take_part, in_turn, all_taken, finished, first_led, fresh, family_first, create_rows, alter_rows, drop_rows, rows_of, one_word_kind, led_by}
use Rattle.law_edit_cuts.specs.sql_tree.Split.{begins_with, is_verb_word}
use Rattle.law_edit_cuts.specs.sql_tree.Tails.{reindex, reindex_object, whole_path, after_flag, target_symbol, after_options}
use Rattle.law_edit_cuts.specs.sql_tree.Groups.{inside_list}
use Rattle.law_edit_cuts.specs.sql_tree.Statement.{final_kind, body_shape_of, body_by, kind_and_body, front_by, form_from, form_of}
use Rattle.law_edit_inserts.specs.Concurrently.{key}
use Rattle.law_edit_inserts.proofs.Leading.{Given, given_then, given_any, given_more, given_is, listed_rows, RowShows, RowsShow, rows_show, families_show, is_relation, FrontShows, is_quiet, Leading, form_shows}
use Rattle.law_edit_inserts.specs.Shapes.{IndexShape, CreateIndexShows}
use Rattle.law_edit_inserts.specs.Shapes.IndexShape.{plain, unique}

-- ---- CREATE INDEX

abbrev is_index_shape : BodyShape → Bool
is_index_shape shape.Index = true
is_index_shape _ = false

-- the kind of CREATE INDEX alone
abbrev is_index : StmtKind → Bool
is_index kind = is_index_shape (body_shape_of kind)

-- what the body of an index says of these terminals
abbrev IndexShows : List Terminal → StmtKind × Body → Type 0
IndexShows ts (kind, body.Index x u None g n path) = IndexShape x ts
IndexShows ts _ = Unit {0}

bodies_show : (ts : List Terminal) (named : StmtKind) (r : Option Body) → Given (λ b. IndexShows ts (named, b)) r → Given (IndexShows ts) (option_and_then (λ b. Some (named, b)) r)
bodies_show ts named None h = tt
bodies_show ts named (Some b) h = h

-- no other shape keeps such a body
shape_shows : (ts : List Terminal) (named : StmtKind) (x : BodyShape) (kind : StmtKind) (s : State) (us : List Terminal) → is_index_shape x ≡ false →
    Given (λ b. IndexShows ts (named, b)) (body_by x kind s us)
unfolding body_by reindex reindex_object
shape_shows ts named shape.Kept kind s us h = tt
shape_shows ts named shape.End kind s us h = tt
shape_shows ts named shape.Table kind s us h = given_any (λ b. IndexShows ts (named, b)) _ s.kept.word (λ w. given_any (λ b. IndexShows ts (named, b)) _ s.kept.path (λ path. tt))
shape_shows ts named shape.Into kind s us h = given_any (λ b. IndexShows ts (named, b)) _ s.kept.path (λ path. tt)
shape_shows ts named shape.Index kind s us h = absurd (false≢true (sym h))
shape_shows ts named shape.Drop kind s us h = given_any (λ b. IndexShows ts (named, b)) _ s.kept.word (λ w. given_any (λ b. IndexShows ts (named, b)) _ s.kept.path (λ path. tt))
shape_shows ts named shape.Reindex kind s us h = object_shows (inside_list s.left) (after_options s.left)
  where
    object_shows : (inside left : List Terminal) → Given (λ b. IndexShows ts (named, b)) (reindex_object inside left)
    object_shows inside [] = tt
    object_shows inside (t ∷ left) = given_any (λ b. IndexShows ts (named, b)) _ (target_symbol t.symbol) (λ found. given_any (λ b. IndexShows ts (named, b)) _ (whole_path (after_flag keyword.CONCURRENTLY left)) (λ path. tt))
shape_shows ts named shape.Alter kind s us h = given_any (λ b. IndexShows ts (named, b)) _ (actions_of kind s.left) (λ actions. tt)
shape_shows ts named shape.Domain kind s us h = given_any (λ b. IndexShows ts (named, b)) _ (domain_constraints s.left) (λ constraints. tt)
shape_shows ts named shape.Made kind s us h = given_any (λ b. IndexShows ts (named, b)) _ s.kept.path (λ path. tt)
shape_shows ts named shape.View kind s us h = tt
shape_shows ts named shape.Code kind s us h = tt
shape_shows ts named shape.Truncate kind s us h = tt
shape_shows ts named shape.Setting kind s us h = tt
shape_shows ts named shape.Locking kind s us h = tt
shape_shows ts named shape.Refresh kind s us h = tt
shape_shows ts named shape.Vacuum kind s us h = tt
shape_shows ts named shape.Cluster kind s us h = tt
shape_shows ts named shape.Write kind s us h = given_any (λ b. IndexShows ts (named, b)) _ s.kept.path (λ path. tt)

unlisted_front : (ts us : List Terminal) (kind : StmtKind) (s : State) → is_index kind ≡ false → FrontShows IndexShows ts us (kind, s)
unfolding kind_and_body
unlisted_front ts us kind s h = bodies_show ts (final_kind kind s) (body_by (body_shape_of kind) kind s us) (shape_shows ts (final_kind kind s) (body_shape_of kind) kind s us h)

-- ---- which words lead to it

abbrev is_create : Keyword → Bool
is_create (k.Verb verbs.Create) = true
is_create _ = false

quiet_kind : (w : Keyword) → is_quiet is_index (one_word_kind w) ≡ true
unfolding one_word_kind body_shape_of is_quiet
quiet_kind (k.Verb verbs.Create) = refl
quiet_kind (k.Object objects.Table) = refl
quiet_kind (k.Other others.Security) = refl
quiet_kind w = refl

alter_quiet : (x : Family) → listed_rows is_index (alter_rows x) ≡ []
unfolding alter_rows body_shape_of
alter_quiet family.Relation = refl
alter_quiet x = refl

drop_quiet : (x : Family) → listed_rows is_index (drop_rows x) ≡ []
unfolding drop_rows body_shape_of
drop_quiet family.Relation = refl
drop_quiet x = refl

quiet_rows : (w : Keyword) (ts : List Terminal) → is_create w ≡ false → listed_rows is_index (rows_of w ts) ≡ []
unfolding rows_of body_shape_of
quiet_rows (k.Verb verbs.Create) ts h = absurd (false≢true (sym h))
quiet_rows (k.Verb verbs.Alter) ts h = alter_quiet (family_first ts)
quiet_rows (k.Verb verbs.Drop) ts h = drop_quiet (family_first ts)
quiet_rows (k.Verb w) ts h = refl
quiet_rows (k.Object w) ts h = refl
quiet_rows (k.Other others.Security) ts h = refl
quiet_rows w ts h = refl

-- ---- parts that leave the word INDEX and the mark as they are

unfoldable pub Kept : Captures → State → Type 0
Kept c s = (s.kept.word ≡ c.word) × (s.kept.concurrently ≡ c.concurrently)

abbrev pub Keeps : Part → Type 0
Keeps x = (c : Captures) (ts : List Terminal) → Given (Kept c) (take_part x c ts)

one_keeps : (test : Terminal → Bool) (keep : Terminal → Captures → Captures) → ((t : Terminal) (c : Captures) → ((keep t c).word ≡ c.word) × ((keep t c).concurrently ≡ c.concurrently)) →
    (c : Captures) (ts : List Terminal) → Given (Kept c) (one test keep c ts)
unfolding Kept
one_keeps test keep same c [] = tt
one_keeps test keep same c (t ∷ ts) = by (test t)
  where
    by : (b : Bool) → Given (Kept c) (cond b (Some (at (keep t c) ts)) None)
    by true = same t c
    by false = tt

or_keeps : (c : Captures) (ts : List Terminal) (r : Option State) → Given (Kept c) r → Kept c (or_here r c ts)
unfolding Kept
or_keeps c ts None h = (refl, refl)
or_keeps c ts (Some s) h = h

phrase_keeps : (f : Phrase) (mark : Fact) → ((c : Captures) → ((record_fact mark c).word ≡ c.word) × ((record_fact mark c).concurrently ≡ c.concurrently)) →
    (c : Captures) (ts : List Terminal) → Given (Kept c) (take_phrase f mark c ts)
unfolding Kept
phrase_keeps f mark same c ts = by (after_words (words_of f) ts)
  where
    by : (r : Option (List Terminal)) → Given (Kept c) (option_and_then (λ rest. Some (at (record_fact mark c) rest)) r)
    by None = tt
    by (Some rest) = same c

word_keeps : (w : Keyword) → Keeps (p.Word w)
unfolding take_part
word_keeps w c ts = one_keeps (is_keyword w) nothing_kept (λ t c. (refl, refl)) c ts

only_keeps : (w : Keyword) → Keeps (p.Flag w m.Nothing)
unfolding take_part
only_keeps w c ts = or_keeps c ts _ (one_keeps (is_keyword w) (λ t c. record_fact m.Nothing c) (λ t c. (refl, refl)) c ts)

pub guarded_keeps : (f : Phrase) → Keeps (p.Maybe f m.Guarded)
unfolding take_part
guarded_keeps f c ts = or_keeps c ts _ (phrase_keeps f m.Guarded (λ c. (refl, refl)) c ts)

pub path_keeps : Keeps p.Path
unfolding take_part Kept
path_keeps c [] = tt
path_keeps c (t ∷ ts) = by (is_name t)
  where
    by : (b : Bool) → Given (Kept c) (cond b (Some (at (record c { path = Some (record { first = t.number; last = (names_end t.number ts).0 }) }) (names_end t.number ts).1)) None)
    by true = (refl, refl)
    by false = tt

pub rest_keeps : Keeps p.Rest
unfolding take_part Kept
rest_keeps c ts = (refl, refl)

kept_after : (c d : Captures) (s : State) → (d.word ≡ c.word) × (d.concurrently ≡ c.concurrently) → Kept d s → Kept c s
unfolding Kept
kept_after c d s h g = (g.0 ∙ h.0, g.1 ∙ h.1)

kept_parts : (c : Captures) (s : State) → Kept c s → (s.kept.word ≡ c.word) × (s.kept.concurrently ≡ c.concurrently)
unfolding Kept
kept_parts c s h = h

index_name_keeps : Keeps p.IndexName
unfolding take_part
index_name_keeps c ts =
    let guarded : Kept c (guard c ts) = or_keeps c ts _ (phrase_keeps phrase.IfNotExists m.Guarded (λ c. (refl, refl)) c ts) in
    let named : Given (Kept (guard c ts).kept) (index_name (guard c ts).kept (guard c ts).left) =
    one_keeps (λ t. is_name t && not (is_keyword keyword.ON t)) name_kept (λ t c. (refl, refl)) (guard c ts).kept (guard c ts).left in
    or_keeps c ts _ (given_more (Kept (guard c ts).kept) (Kept c) (index_name (guard c ts).kept (guard c ts).left) (λ s g. kept_after c (guard c ts).kept s (kept_parts c (guard c ts) guarded) g) named)

abbrev pub AllKeep : List Part → Type 0
AllKeep [] = Unit {0}
AllKeep (x ∷ xs) = Keeps x × AllKeep xs

turn_keeps : (xs : List Part) → AllKeep xs → (c : Captures) (ts : List Terminal) → Given (Kept c) (in_turn xs c ts)
unfolding Kept
turn_keeps [] all c ts = (refl, refl)
turn_keeps (x ∷ xs) all c ts =
    given_then (Kept c) (Kept c) (λ s. in_turn xs s.kept s.left) (take_part x c ts) (all.0 c ts)
    (λ s h. given_more (Kept s.kept) (Kept c) (in_turn xs s.kept s.left) (λ e g. kept_after c s.kept e h g) (turn_keeps xs all.1 s.kept s.left))

-- ---- what follows the word INDEX

abbrev pub index_parts : List Part
index_parts = p.IndexName ∷ p.Word keyword.ON ∷ p.Flag keyword.ONLY m.Nothing ∷ p.Path ∷ p.Rest ∷ []

index_keep : AllKeep index_parts
index_keep = (index_name_keeps, (word_keeps keyword.ON, (only_keeps keyword.ONLY, (path_keeps, (rest_keeps, tt)))))

-- what is kept, where the word INDEX is token x: P is what is known then, where the mark is missing
abbrev pub Marks : (ℕ → Type 0) → ℕ → Captures → Type 0
Marks P x c = (c.word ≡ Some x) × (c.concurrently ≡ None → P x)

pub some_is : (w x : ℕ) → Some w ≡ Some x → w ≡ x
some_is w x h = cc

said_shows : (all us : List Terminal) (x : ℕ) (s : State) → Marks (λ y. IndexShape y all) x s.kept → FrontShows IndexShows all us (stmt.CreateIndex, s)
unfolding kind_and_body body_shape_of final_kind body_by
said_shows all us x s h = by s.kept.word s.kept.concurrently s.kept.path h.0 h.1
  where
    by : (word concurrently : Option ℕ) (path : Option Span) → word ≡ Some x → (concurrently ≡ None → IndexShape x all) →
        Given (IndexShows all) (option_and_then (λ b. Some (stmt.CreateIndex, b)) (option_and_then (λ w. option_and_then (λ p. Some (body.Index w s.kept.unique concurrently s.kept.guarded s.kept.name p)) path) word))
    by None concurrently path e g = tt
    by (Some w) concurrently None e g = tt
    by (Some w) (Some n) (Some p) e g = tt
    by (Some w) None (Some p) e g = subst (λ (x : ℕ). IndexShape x all) (sym (some_is w x e)) (g refl)

some_none : (n : ℕ) → Some n ≡ None → ⊥
some_none n h = cc

module _ (Shows : List Terminal → StmtKind × Body → Type 0) (kind : StmtKind) (parts : List Part) (keep : AllKeep parts) (P : ℕ → Type 0) (all us : List Terminal)
    (tells : (x : ℕ) (s : State) → Marks P x s.kept → FrontShows Shows all us (kind, s)) where
  finished_shows : (x : ℕ) (c : Captures) (ts : List Terminal) → Marks P x c → Given (FrontShows Shows all us) (finished kind parts (at c ts))
  finished_shows x c ts h =
      given_then (Kept c) (FrontShows Shows all us) (λ e. option_and_then (λ w. Some (kind, w)) (all_taken e)) (in_turn parts c ts) (turn_keeps parts keep c ts)
      (λ e k. by e (kept_parts c e k))
    where
      by : (e : State) → (e.kept.word ≡ c.word) × (e.kept.concurrently ≡ c.concurrently) → Given (FrontShows Shows all us) (option_and_then (λ w. Some (kind, w)) (all_taken e))
      by e k = taken (e.kept.open_ended || length e.left == 0)
        where
          taken : (b : Bool) → Given (FrontShows Shows all us) (option_and_then (λ w. Some (kind, w)) (cond b (Some e) None))
          taken true = tells x e (k.0 ∙ h.0, λ none. h.1 (sym k.1 ∙ none))
          taken false = tt

  concurrent_shows : (x : ℕ) (c : Captures) (ts : List Terminal) → c.word ≡ Some x → (begins_with keyword.CONCURRENTLY ts ≡ false → P x) →
      Given (FrontShows Shows all us) (finished kind (p.Concurrently ∷ parts) (at c ts))
  unfolding take_part
  concurrent_shows x c [] w h = finished_shows x c [] (w, λ none. h refl)
  concurrent_shows x c (t ∷ ts) w h = by (is_keyword keyword.CONCURRENTLY t) refl
    where
      by : (b : Bool) → is_keyword keyword.CONCURRENTLY t ≡ b → Given (FrontShows Shows all us) (finished kind parts (or_here (cond b (Some (at (concurrently_kept t c) ts)) None) c (t ∷ ts)))
      by true e = finished_shows x (concurrently_kept t c) ts (w, λ none. absurd (some_none t.number none))
      by false e = finished_shows x c (t ∷ ts) (w, λ none. h e)

  -- the word INDEX, and then the parts
  pub object_shows : (c : Captures) (t : Terminal) (ts : List Terminal) → (is_keyword keyword.INDEX t ≡ true → begins_with keyword.CONCURRENTLY ts ≡ false → P t.number) →
      Given (λ s. Given (FrontShows Shows all us) (finished kind (p.Concurrently ∷ parts) s)) (in_turn (p.Object keyword.INDEX ∷ []) c (t ∷ ts))
  unfolding take_part
  object_shows c t ts h = by (is_keyword keyword.INDEX t) refl
    where
      by : (b : Bool) → is_keyword keyword.INDEX t ≡ b →
          Given (λ s. Given (FrontShows Shows all us) (finished kind (p.Concurrently ∷ parts) s)) (option_and_then (λ s. in_turn [] s.kept s.left) (cond b (Some (at (word_kept t c) ts)) None))
      by true e = concurrent_shows t.number (word_kept t c) ts refl (h e)
      by false e = tt

-- ---- the row

index_word : (w : Keyword) → same_keyword w keyword.INDEX ≡ true → w ≡ keyword.INDEX
unfolding same_keyword
index_word (k.Verb verbs.Create) h = absurd (false≢true h)
index_word (k.Object objects.Index) h = refl
index_word (k.Other others.Security) h = absurd (false≢true h)
index_word w h = absurd (false≢true h)

unique_word : (w : Keyword) → same_keyword w keyword.UNIQUE ≡ true → w ≡ keyword.UNIQUE
unfolding same_keyword
unique_word (k.Verb verbs.Create) h = absurd (false≢true h)
unique_word (k.Object objects.Index) h = absurd (false≢true h)
unique_word (k.Other others.Unique) h = refl
unique_word w h = absurd (false≢true h)

index_symbol : (x : Symbol) → is_keyword_symbol keyword.INDEX x ≡ true → x ≡ s.Keyword keyword.INDEX
index_symbol (s.Keyword w) h = ap (λ (y : Keyword). s.Keyword y) (index_word w h)
index_symbol x h = absurd (false≢true h)

unique_symbol : (x : Symbol) → is_keyword_symbol keyword.UNIQUE x ≡ true → x ≡ s.Keyword keyword.UNIQUE
unique_symbol (s.Keyword w) h = ap (λ (y : Keyword). s.Keyword y) (unique_word w h)
unique_symbol x h = absurd (false≢true h)

pub index_is : (t : Terminal) → is_keyword keyword.INDEX t ≡ true → t ≡ key keyword.INDEX t.number
unfolding is_keyword
index_is t h = ap (λ (x : Symbol). record { symbol = x; number = t.number }) (index_symbol t.symbol h)

unique_is : (t : Terminal) → is_keyword keyword.UNIQUE t ≡ true → t ≡ key keyword.UNIQUE t.number
unfolding is_keyword
unique_is t h = ap (λ (x : Symbol). record { symbol = x; number = t.number }) (unique_symbol t.symbol h)

abbrev index_row : Row
index_row = (stmt.CreateIndex, p.Flag keyword.UNIQUE m.Unique ∷ p.Object keyword.INDEX ∷ [], p.Concurrently ∷ index_parts)

one_row : listed_rows is_index (create_rows family.Relation) ≡ index_row ∷ []
unfolding create_rows body_shape_of
one_row = refl

row_shows : (c : ℕ) (us ts : List Terminal) → RowShows (FrontShows IndexShows (key keyword.CREATE c ∷ ts) us) ts index_row
unfolding take_part
row_shows c us [] = tt
row_shows c us (t ∷ ts) = by (is_keyword keyword.UNIQUE t) refl
  where
    after : (ts : List Terminal) → is_keyword keyword.UNIQUE t ≡ true →
        Given (λ s. Given (FrontShows IndexShows (key keyword.CREATE c ∷ t ∷ ts) us) (finished stmt.CreateIndex (p.Concurrently ∷ index_parts) s)) (in_turn (p.Object keyword.INDEX ∷ []) (record_fact m.Unique fresh) ts)
    after [] e = tt
    after (u ∷ ts) e = object_shows IndexShows stmt.CreateIndex index_parts index_keep (λ x. IndexShape x (key keyword.CREATE c ∷ t ∷ u ∷ ts)) (key keyword.CREATE c ∷ t ∷ u ∷ ts) us (said_shows (key keyword.CREATE c ∷ t ∷ u ∷ ts) us) (record_fact m.Unique fresh) u ts
        (λ h none. unique c t.number ts none (λ i. key keyword.CREATE c ∷ unique_is t e i ∷ index_is u h i ∷ ts))

    by : (b : Bool) → is_keyword keyword.UNIQUE t ≡ b →
        Given (λ s. Given (FrontShows IndexShows (key keyword.CREATE c ∷ t ∷ ts) us) (finished stmt.CreateIndex (p.Concurrently ∷ index_parts) s))
        (in_turn (p.Object keyword.INDEX ∷ []) (or_here (cond b (Some (at (record_fact m.Unique fresh) ts)) None) fresh (t ∷ ts)).kept (or_here (cond b (Some (at (record_fact m.Unique fresh) ts)) None) fresh (t ∷ ts)).left)
    by true e = after ts e
    by false e = object_shows IndexShows stmt.CreateIndex index_parts index_keep (λ x. IndexShape x (key keyword.CREATE c ∷ t ∷ ts)) (key keyword.CREATE c ∷ t ∷ ts) us (said_shows (key keyword.CREATE c ∷ t ∷ ts) us) fresh t ts (λ h none. plain c ts none (λ i. key keyword.CREATE c ∷ index_is t h i ∷ ts))

-- ---- the first word

create_quiet : (x : Family) → is_relation x ≡ false → listed_rows is_index (create_rows x) ≡ []
unfolding create_rows body_shape_of
create_quiet family.Relation h = absurd (false≢true (sym h))
create_quiet x h = refl

create_shows : (c : ℕ) (ts : List Terminal) → Given (FrontShows IndexShows (key keyword.CREATE c ∷ ts) ts) (first_led (create_rows (family_first ts)) ts)
create_shows c ts =
    families_show is_index (FrontShows IndexShows (key keyword.CREATE c ∷ ts) ts) (unlisted_front (key keyword.CREATE c ∷ ts) ts) create_rows ts create_quiet (family_first ts)
    (λ p. rows_show is_index (FrontShows IndexShows (key keyword.CREATE c ∷ ts) ts) (unlisted_front (key keyword.CREATE c ∷ ts) ts) ts (create_rows family.Relation)
    (subst (λ (x : List Row). RowsShow (FrontShows IndexShows (key keyword.CREATE c ∷ ts) ts) ts x) (sym one_row) (row_shows c ts ts, tt)))

created_shows : (c : ℕ) (ts : List Terminal) → Given (IndexShows (key keyword.CREATE c ∷ ts)) (form_from (key keyword.CREATE c ∷ ts))
unfolding form_from front_by led_by rows_of one_word_kind
created_shows c ts = given_then (FrontShows IndexShows (key keyword.CREATE c ∷ ts) ts) (IndexShows (key keyword.CREATE c ∷ ts)) (kind_and_body ts) (first_led (create_rows (family_first ts)) ts) (create_shows c ts) (λ f h. h)

verb_word_quiet : (w : Keyword) → is_verb_word w ≡ true → is_create w ≡ false
verb_word_quiet (k.Verb verbs.Create) h = absurd (false≢true h)
verb_word_quiet w h = refl

create_word : (w : Keyword) → is_create w ≡ true → keyword.CREATE ≡ w
create_word (k.Verb verbs.Create) h = refl
create_word w h = absurd (false≢true h)

index_leading : Leading IndexShows is_index is_create
unfolding body_shape_of
index_leading = record {
  none = unlisted_front;
  empty = tt;
  select = λ ts. tt;
  quiet_kind = λ w h. quiet_kind w;
  quiet_rows = quiet_rows;
  quiet_paren = refl;
  quiet_verb = verb_word_quiet;
  here = λ w n ts h. subst (λ (x : Keyword). Given (IndexShows (key x n ∷ ts)) (form_from (key x n ∷ ts))) (create_word w h) (created_shows n ts);
}

pub create_index_shows : CreateIndexShows
create_index_shows ts kind x u g name path e = given_is (IndexShows ts) (form_of ts) (kind, body.Index x u None g name path) (form_shows IndexShows is_index is_create index_leading ts) e
