-- From the lead word of a form to what a statement says.
use Rattle.std.proofs.Common.{◌≡◌, ℕ, suc, ◌+◌, Bool, true, false, cond, List, [], ◌∷◌, drop, sym, refl, subst, Option, Some, None}
use Rattle.std.proofs.lemmas.Bool.{not-true}
use Rattle.std.specs.Prelude.{◌==◌, ◌&&◌, not}
use Rattle.std.specs.Option.{option_and_then}
use Rattle.law_edit_cuts.specs.sql_keyword.declared.words.Keyword.{Keyword}
use Rattle.law_edit_cuts.specs.sql_keyword.declared.words.TheConstants.Keyword as keyword
use Rattle.law_edit_cuts.specs.sql_token.declared.terminal.Symbol.{Symbol}
use Rattle.law_edit_cuts.specs.sql_token.declared.terminal.Symbol.TheVariants as s
use Rattle.law_edit_cuts.specs.sql_token.declared.terminal.Terminal.{Terminal}
use Rattle.law_edit_cuts.specs.sql_token.Terminal.{is_keyword, is_opener, is_closer}
use Rattle.law_edit_cuts.specs.sql_token.Depth.{one_if}
use Rattle.law_edit_cuts.specs.sql_tree.declared.forms.Family.{Family}
use Rattle.law_edit_cuts.specs.sql_tree.declared.forms.Family.TheVariants as family
use Rattle.law_edit_cuts.specs.sql_tree.declared.kinds.StmtKind.{StmtKind}
use Rattle.law_edit_cuts.specs.sql_tree.declared.kinds.StmtKind.TheVariants as stmt
use Rattle.law_edit_cuts.specs.sql_tree.declared.nodes.Body.{Body}
use Rattle.law_edit_cuts.specs.sql_tree.declared.nodes.Body.TheVariants as body
use Rattle.law_edit_cuts.specs.sql_tree.Forms.{State, Row, in_turn, all_taken, finished, led_or, first_led, fresh, rows_of, one_word_kind, kind_or_row, led_by}
use Rattle.law_edit_cuts.specs.sql_tree.Split.{verb, is_verb_symbol, is_verb_word, from_mark, before, before_from}
use Rattle.law_edit_cuts.specs.sql_tree.Statement.{kind_and_body, front_by, from_verb, form_from, form_of}
use Rattle.law_edit_inserts.specs.Concurrently.{key}

-- ---- what holds of an answer, where there is one

abbrev pub Given : {A : Type 0} → (A → Type 0) → Option A → Type 0
Given P None = Unit {0}
Given P (Some a) = P a

pub given_then : {A B : Type 0} (P : A → Type 0) (Q : B → Type 0) (f : A → Option B) (r : Option A) → Given P r → ((a : A) → P a → Given Q (f a)) → Given Q (option_and_then f r)
given_then P Q f None g h = tt
given_then P Q f (Some a) g h = h a g

pub given_any : {A B : Type 0} (Q : B → Type 0) (f : A → Option B) (r : Option A) → ((a : A) → Given Q (f a)) → Given Q (option_and_then f r)
given_any Q f None h = tt
given_any Q f (Some a) h = h a

pub given_more : {A : Type 0} (P Q : A → Type 0) (r : Option A) → ((a : A) → P a → Q a) → Given P r → Given Q r
given_more P Q None h g = tt
given_more P Q (Some a) h g = h a g

pub given_is : {A : Type 0} (P : A → Type 0) (r : Option A) (a : A) → Given P r → r ≡ Some a → P a
given_is P r a g e = subst (λ (x : Option _). Given P x) e g

-- ---- rows

abbrev pub listed_rows : (StmtKind → Bool) → List Row → List Row
listed_rows listed [] = []
listed_rows listed (r ∷ rs) = cond (listed r.0) (r ∷ listed_rows listed rs) (listed_rows listed rs)

-- what a row reads
abbrev pub RowShows : (StmtKind × State → Type 0) → List Terminal → Row → Type 0
RowShows Q ts r = Given (λ s. Given Q (finished r.0 r.2 s)) (in_turn r.1 fresh ts)

abbrev pub RowsShow : (StmtKind × State → Type 0) → List Terminal → List Row → Type 0
RowsShow Q ts [] = Unit {0}
RowsShow Q ts (r ∷ rs) = RowShows Q ts r × RowsShow Q ts rs

abbrev pub is_relation : Family → Bool
is_relation family.Relation = true
is_relation _ = false

module _ (listed : StmtKind → Bool) (Q : StmtKind × State → Type 0) (none : (kind : StmtKind) (s : State) → listed kind ≡ false → Q (kind, s)) where
  led_shows : (o : Option State) (r : Row) (other : Option (StmtKind × State)) → Given (λ s. Given Q (finished r.0 r.2 s)) o → Given Q other → Given Q (led_or o r other)
  led_shows None r other g h = h
  led_shows (Some s) r other g h = g

  unlisted_shows : (ts : List Terminal) (r : Row) → listed r.0 ≡ false → RowShows Q ts r
  unlisted_shows ts r h = by (in_turn r.1 fresh ts)
    where
      by : (o : Option State) → Given (λ s. Given Q (finished r.0 r.2 s)) o
      by None = tt
      by (Some s) = given_any Q (λ e. option_and_then (λ w. Some (r.0, w)) (all_taken e)) (in_turn r.2 s.kept s.left)
          (λ e. given_any Q (λ w. Some (r.0, w)) (all_taken e) (λ w. none r.0 w h))

  pub rows_show : (ts : List Terminal) (rows : List Row) → RowsShow Q ts (listed_rows listed rows) → Given Q (first_led rows ts)
  rows_show ts [] h = tt
  rows_show ts (r ∷ rs) h = by (listed r.0) refl (λ x. rows_show ts rs x) h
    where
      by : (b : Bool) → listed r.0 ≡ b → (RowsShow Q ts (listed_rows listed rs) → Given Q (first_led rs ts)) → RowsShow Q ts (cond b (r ∷ listed_rows listed rs) (listed_rows listed rs)) →
          Given Q (led_or (in_turn r.1 fresh ts) r (first_led rs ts))
      by true e next h = led_shows (in_turn r.1 fresh ts) r (first_led rs ts) h.0 (next h.1)
      by false e next h = led_shows (in_turn r.1 fresh ts) r (first_led rs ts) (unlisted_shows ts r e) (next h)

  pub unlisted_rows : (ts : List Terminal) (rows : List Row) → listed_rows listed rows ≡ [] → Given Q (first_led rows ts)
  unlisted_rows ts rows e = rows_show ts rows (subst (λ (x : List Row). RowsShow Q ts x) (sym e) tt)

  -- What holds of the rows of relations holds of those of all families, if the others list no such kind.
  pub families_show : (rows : Family → List Row) (ts : List Terminal) → ((x : Family) → is_relation x ≡ false → listed_rows listed (rows x) ≡ []) →
      (x : Family) → (x ≡ family.Relation → Given Q (first_led (rows family.Relation) ts)) → Given Q (first_led (rows x) ts)
  families_show rows ts quiet family.Relation h = h refl
  families_show rows ts quiet x h = unlisted_rows ts (rows x) (quiet x refl)

  -- the first word, where neither it nor its rows tell such a kind
  pub quiet_word : (ts : List Terminal) (kind : Option StmtKind) (rows : List Row) → Given (λ x. listed x ≡ false) kind → listed_rows listed rows ≡ [] → Given Q (kind_or_row kind rows ts)
  quiet_word ts None rows h e = unlisted_rows ts rows e
  quiet_word ts (Some x) rows h e = none x _ h

-- ---- the first word

abbrev pub FrontShows : (List Terminal → StmtKind × Body → Type 0) → List Terminal → List Terminal → StmtKind × State → Type 0
FrontShows Shows ts us f = Given (Shows ts) (kind_and_body us f)

abbrev pub begins : (Keyword → Bool) → Symbol → Bool
begins leads (s.Keyword w) = leads w
begins leads _ = false

unfoldable pub is_quiet : (StmtKind → Bool) → Option StmtKind → Bool
is_quiet listed None = true
is_quiet listed (Some x) = not (listed x)

quiet_given : (listed : StmtKind → Bool) (r : Option StmtKind) → is_quiet listed r ≡ true → Given (λ x. listed x ≡ false) r
unfolding is_quiet
quiet_given listed None h = tt
quiet_given listed (Some x) h = not-true (listed x) h

-- ---- after WITH

abbrev VerbFirst : List Terminal → Type 0
VerbFirst [] = Unit {0}
VerbFirst (t ∷ ts) = is_verb_symbol t.symbol ≡ true

verb_first : (e : Option Terminal) (o c : ℕ) (ts : List Terminal) → VerbFirst (drop (before_from verb e o c ts) ts)
unfolding verb
verb_first e o c [] = tt
verb_first e o c (t ∷ ts) = by (o == c) (is_verb_symbol t.symbol) refl (verb_first (Some t) (o + one_if (is_opener t)) (c + one_if (is_closer t)) ts)
  where
    by : (a b : Bool) → is_verb_symbol t.symbol ≡ b → VerbFirst (drop (before_from verb (Some t) (o + one_if (is_opener t)) (c + one_if (is_closer t)) ts) ts) →
        VerbFirst (drop (cond (a && b) 0 (suc (before_from verb (Some t) (o + one_if (is_opener t)) (c + one_if (is_closer t)) ts))) (t ∷ ts))
    by true true e h = e
    by true false e h = h
    by false b e h = h

-- ---- the statement

-- What a form with a lead word of its own asks: no other word leads to its kinds, and statements of other kinds show nothing.
pub record Leading (Shows : List Terminal → StmtKind × Body → Type 0) (listed : StmtKind → Bool) (leads : Keyword → Bool) : Type 0 where
  pub none : (ts us : List Terminal) (kind : StmtKind) (s : State) → listed kind ≡ false → FrontShows Shows ts us (kind, s)
  pub empty : Shows [] (stmt.Empty, body.Kept)
  pub select : (ts : List Terminal) → Shows ts (stmt.Select, body.Kept)
  pub quiet_kind : (w : Keyword) → leads w ≡ false → is_quiet listed (one_word_kind w) ≡ true
  pub quiet_rows : (w : Keyword) (ts : List Terminal) → leads w ≡ false → listed_rows listed (rows_of w ts) ≡ []
  pub quiet_paren : listed stmt.ParenSelect ≡ false
  pub quiet_verb : (w : Keyword) → is_verb_word w ≡ true → leads w ≡ false
  pub here : (w : Keyword) (n : ℕ) (ts : List Terminal) → leads w ≡ true → Given (Shows (key w n ∷ ts)) (form_from (key w n ∷ ts))

module _ (Shows : List Terminal → StmtKind × Body → Type 0) (listed : StmtKind → Bool) (leads : Keyword → Bool) (l : Leading Shows listed leads) where
  symbol_quiet : (all ts : List Terminal) (x : Symbol) → begins leads x ≡ false → Given (FrontShows Shows all ts) (front_by x ts)
  unfolding front_by led_by
  symbol_quiet all ts (s.Keyword w) h =
      quiet_word listed (FrontShows Shows all ts) (l.none all ts) ts (one_word_kind w) (rows_of w ts) (quiet_given listed (one_word_kind w) (l.quiet_kind w h)) (l.quiet_rows w ts h)
  symbol_quiet all ts s.OpenRound h = l.none all ts stmt.ParenSelect _ l.quiet_paren
  symbol_quiet all ts x h = tt

  quiet_shows : (all : List Terminal) (t : Terminal) (ts : List Terminal) → begins leads t.symbol ≡ false → Given (Shows all) (form_from (t ∷ ts))
  unfolding form_from
  quiet_shows all t ts h = given_then (FrontShows Shows all ts) (Shows all) (kind_and_body ts) (front_by t.symbol ts) (symbol_quiet all ts t.symbol h) (λ f h. h)

  verb_quiet : (x : Symbol) → is_verb_symbol x ≡ true → begins leads x ≡ false
  verb_quiet (s.Keyword w) h = l.quiet_verb w h
  verb_quiet x h = refl

  verb_shows : (all ts : List Terminal) → VerbFirst ts → Given (Shows all) (form_from ts)
  unfolding form_from
  verb_shows all [] h = l.select all
  verb_shows all (t ∷ ts) h = quiet_shows all t ts (verb_quiet t.symbol h)

  first_shows : (x : Symbol) (n : ℕ) (ts : List Terminal) → Given (Shows (record { symbol = x; number = n } ∷ ts)) (form_from (record { symbol = x; number = n } ∷ ts))
  first_shows (s.Keyword w) n ts = by (leads w) refl
    where
      by : (b : Bool) → leads w ≡ b → Given (Shows (key w n ∷ ts)) (form_from (key w n ∷ ts))
      by true e = l.here w n ts e
      by false e = quiet_shows (key w n ∷ ts) (key w n) ts e
  first_shows x n ts = quiet_shows (record { symbol = x; number = n } ∷ ts) (record { symbol = x; number = n }) ts refl

  pub form_shows : (ts : List Terminal) → Given (Shows ts) (form_of ts)
  unfolding form_of from_verb before
  form_shows [] = l.empty
  form_shows (t ∷ ts) = by (is_keyword keyword.WITH t)
    where
      by : (b : Bool) → Given (Shows (t ∷ ts)) (form_from (cond b (from_mark verb ts) (t ∷ ts)))
      by true = verb_shows (t ∷ ts) (from_mark verb ts) (verb_first None 0 0 ts)
      by false = first_shows t.symbol t.number ts
