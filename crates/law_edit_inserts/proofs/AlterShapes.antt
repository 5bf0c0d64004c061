-- From the body of ALTER TABLE back to its terminals.
use Rattle.std.proofs.Common.{◌≡◌, ℕ, suc, Bool, true, false, cond, List, [], ◌∷◌, length, sym, refl, ap, ◌∙◌, subst, Option, Some, None}
use Rattle.std.proofs.lemmas.Bool.{false≢true}
use Rattle.std.specs.Prelude.{◌==◌, ◌&&◌, ◌||◌}
use Rattle.std.specs.Option.{option_and_then}
use Rattle.law_edit_cuts.specs.sql_keyword.declared.words.Keyword.{Keyword}
use Rattle.law_edit_cuts.specs.sql_keyword.declared.words.Keyword.TheVariants as k
use Rattle.law_edit_cuts.specs.sql_keyword.declared.words.Verb.TheVariants as verbs
use Rattle.law_edit_cuts.specs.sql_keyword.declared.words.Object.TheVariants as objects
use Rattle.law_edit_cuts.specs.sql_keyword.declared.words.Other.TheVariants as others
use Rattle.law_edit_cuts.specs.sql_keyword.declared.words.TheConstants.Keyword as keyword
use Rattle.law_edit_cuts.specs.sql_keyword.Same.{same_keyword}
use Rattle.law_edit_cuts.specs.sql_token.declared.token.Span.{Span}
use Rattle.law_edit_cuts.specs.sql_token.declared.terminal.Symbol.{Symbol}
use Rattle.law_edit_cuts.specs.sql_token.declared.terminal.Symbol.TheVariants as s
use Rattle.law_edit_cuts.specs.sql_token.declared.terminal.Terminal.{Terminal}
use Rattle.law_edit_cuts.specs.sql_token.Terminal.{is_keyword, is_keyword_symbol, is_name}
use Rattle.law_edit_cuts.specs.sql_token.Depth.{has_keyword}
use Rattle.law_edit_cuts.specs.sql_tree.declared.kinds.StmtKind.{StmtKind}
use Rattle.law_edit_cuts.specs.sql_tree.declared.kinds.StmtKind.TheVariants as stmt
use Rattle.law_edit_cuts.specs.sql_tree.declared.forms.Captures.{Captures}
use Rattle.law_edit_cuts.specs.sql_tree.declared.forms.Family.{Family}
use Rattle.law_edit_cuts.specs.sql_tree.declared.forms.Family.TheVariants as family
use Rattle.law_edit_cuts.specs.sql_tree.declared.forms.Fact.TheVariants as m
use Rattle.law_edit_cuts.specs.sql_tree.declared.forms.Phrase.TheVariants as phrase
use Rattle.law_edit_cuts.specs.sql_tree.declared.forms.Part.{Part}
use Rattle.law_edit_cuts.specs.sql_tree.declared.forms.Part.TheVariants as p
use Rattle.law_edit_cuts.specs.sql_tree.declared.nodes.Body.{Body}
use Rattle.law_edit_cuts.specs.sql_tree.declared.nodes.Body.TheVariants as body
use Rattle.law_edit_cuts.specs.sql_tree.Action.{actions_of}
use Rattle.law_edit_cuts.specs.sql_tree.Forms.{State, Row, at, one, or_here, take_phrase, words_of, nothing_kept, record_fact, names_end, take_part, in_turn, all_taken, finished, first_led, fresh, family_first, create_rows, alter_rows, drop_rows, rows_of, one_word_kind, led_by, after_word}
use Rattle.law_edit_cuts.specs.sql_tree.Split.{is_verb_word}
use Rattle.law_edit_cuts.specs.sql_tree.Statement.{final_kind, body_shape_of, body_by, kind_and_body, front_by, from_verb, form_from, form_of}
use Rattle.law_edit_inserts.specs.Concurrently.{key}
use Rattle.law_edit_inserts.proofs.Leading.{Given, given_then, given_any, given_is, listed_rows, RowShows, RowsShow, rows_show, families_show, is_relation, FrontShows, is_quiet, Leading, form_shows}
use Rattle.std.proofs.Common.{◌++◌, arith}
use Rattle.std.proofs.lemmas.Bool.Decides.{nat_tests}
use Rattle.law_edit_cuts.specs.sql_token.Terminal.{is_dot}
use Rattle.law_edit_cuts.specs.sql_tree.declared.nodes.Action.{Action}
use Rattle.law_edit_cuts.specs.sql_tree.Forms.{is_star_symbol, some_left, opened, take_path, family_of}
use Rattle.law_edit_cuts.specs.sql_tree.Action.{several_actions}
use Rattle.law_edit_inserts.specs.Shapes.{AlterFront, AlterShape, AlterTableShows}

-- ---- parts that leave a tail as it is

-- what is left ends with two terminals and more, and what was taken of
record Back (x : Captures → List Terminal → Option State) (c : Captures) (xs : List Terminal) (s : State) (q : List Terminal) (t u : Terminal) (ts : List Terminal) : Type 0 where
  pub front : List Terminal
  pub parts : xs ≡ front ++ t ∷ u ∷ ts
  pub stays : (us : List Terminal) → x c (front ++ t ∷ u ∷ us) ≡ Some (at s.kept (q ++ t ∷ u ∷ us))

-- It looks at no more than two terminals of what it leaves.
abbrev Stays : (Captures → List Terminal → Option State) → Type 0
Stays x = (c : Captures) (xs : List Terminal) → Given (λ s. (q : List Terminal) (t u : Terminal) (ts : List Terminal) → s.left ≡ q ++ t ∷ u ∷ ts → Back x c xs s q t u ts) (x c xs)

one_stays : (test : Terminal → Bool) (keep : Terminal → Captures → Captures) → Stays (one test keep)
one_stays test keep c [] = tt
one_stays test keep c (a ∷ xs) = by (test a) refl
  where
    by : (b : Bool) → test a ≡ b → Given (λ s. (q : List Terminal) (t u : Terminal) (ts : List Terminal) → s.left ≡ q ++ t ∷ u ∷ ts → Back (one test keep) c (a ∷ xs) s q t u ts) (cond b (Some (at (keep a c) xs)) None)
    by false e = tt
    by true e = λ q t u ts p. record {
      front = a ∷ q;
      parts = ap (λ (x : List Terminal). a ∷ x) p;
      stays = λ us i. cond (e i) (Some (at (keep a c) (q ++ t ∷ u ∷ us))) None;
    }

-- It is none, whatever follows the first two terminals.
abbrev NoneStays : (Captures → List Terminal → Option State) → Type 0
NoneStays x = (c : Captures) (a b : Terminal) (xs ys : List Terminal) → x c (a ∷ b ∷ xs) ≡ None → x c (a ∷ b ∷ ys) ≡ None

none_after : (x : Captures → List Terminal → Option State) → NoneStays x → (c : Captures) (q : List Terminal) (t u : Terminal) (ts us : List Terminal) → x c (q ++ t ∷ u ∷ ts) ≡ None → x c (q ++ t ∷ u ∷ us) ≡ None
none_after x none c [] t u ts us h = none c t u ts us h
none_after x none c (a ∷ []) t u ts us h = none c a t (u ∷ ts) (u ∷ us) h
none_after x none c (a ∷ b ∷ q) t u ts us h = none c a b (q ++ t ∷ u ∷ ts) (q ++ t ∷ u ∷ us) h

one_none : (test : Terminal → Bool) (keep : Terminal → Captures → Captures) → NoneStays (one test keep)
one_none test keep c a b xs ys h = by (test a) h
  where
    by : (o : Bool) → cond o (Some (at (keep a c) (b ∷ xs))) None ≡ None → cond o (Some (at (keep a c) (b ∷ ys))) None ≡ None
    by true h = cc
    by false h = refl

-- an optional part
abbrev maybe : (Captures → List Terminal → Option State) → Captures → List Terminal → Option State
maybe x c ts = Some (or_here (x c ts) c ts)

maybe_stays : (x : Captures → List Terminal → Option State) → Stays x → NoneStays x → Stays (maybe x)
maybe_stays x stays none c xs = by (x c xs) refl (stays c xs)
  where
    by : (o : Option State) → x c xs ≡ o → Given (λ s. (q : List Terminal) (t u : Terminal) (ts : List Terminal) → s.left ≡ q ++ t ∷ u ∷ ts → Back x c xs s q t u ts) o →
        (q : List Terminal) (t u : Terminal) (ts : List Terminal) → (or_here o c xs).left ≡ q ++ t ∷ u ∷ ts → Back (maybe x) c xs (or_here o c xs) q t u ts
    by None e g q t u ts p =
        let gone = ap (λ (l : List Terminal). x c l) (sym p) ∙ e in
        record {
          front = q;
          parts = p;
          stays = λ us. ap (λ (o : Option State). Some (or_here o c (q ++ t ∷ u ∷ us))) (none_after x none c q t u ts us gone);
        }
    by (Some s) e g q t u ts p =
        let b = g q t u ts p in
        record { front = b.front; parts = b.parts; stays = λ us. ap (λ (o : Option State). Some (or_here o c (b.front ++ t ∷ u ∷ us))) (b.stays us) }

-- IF EXISTS
exists_by : (Captures → Captures) → Captures → Bool → Bool → List Terminal → Option State
exists_by keep c a b rest = cond a (cond b (Some (at (keep c) rest)) None) None

exists_is : (c : Captures) (a b : Terminal) (rest : List Terminal) → take_phrase phrase.IfExists m.Guarded c (a ∷ b ∷ rest) ≡ exists_by (record_fact m.Guarded) c (is_keyword keyword.IF a) (is_keyword keyword.EXISTS b) rest
unfolding words_of exists_by
exists_is c a b rest = by (is_keyword keyword.IF a)
  where
    inner : (q : Bool) → option_and_then (λ rest. Some (at (record_fact m.Guarded c) rest)) (option_and_then (λ ts. Some ts) (cond q (Some rest) None)) ≡ cond q (Some (at (record_fact m.Guarded c) rest)) None
    inner true = refl
    inner false = refl

    by : (p : Bool) → option_and_then (λ rest. Some (at (record_fact m.Guarded c) rest)) (option_and_then (λ ts. option_and_then (λ ts. Some ts) (after_word keyword.EXISTS ts)) (cond p (Some (b ∷ rest)) None))
        ≡ cond p (cond (is_keyword keyword.EXISTS b) (Some (at (record_fact m.Guarded c) rest)) None) None
    by true = inner (is_keyword keyword.EXISTS b)
    by false = refl

exists_one : (c : Captures) (a : Terminal) → take_phrase phrase.IfExists m.Guarded c (a ∷ []) ≡ None
unfolding words_of
exists_one c a = by (is_keyword keyword.IF a)
  where
    by : (p : Bool) → option_and_then (λ rest. Some (at (record_fact m.Guarded c) rest)) (option_and_then (λ ts. option_and_then (λ ts. Some ts) (after_word keyword.EXISTS ts)) (cond p (Some []) None)) ≡ None
    by true = refl
    by false = refl

exists_none : NoneStays (take_phrase phrase.IfExists m.Guarded)
unfolding exists_by
exists_none c a b xs ys h = exists_is c a b ys ∙ by (is_keyword keyword.IF a) (is_keyword keyword.EXISTS b) (sym (exists_is c a b xs) ∙ h)
  where
    by : (p q : Bool) → cond p (cond q (Some (at (record_fact m.Guarded c) xs)) None) None ≡ None → cond p (cond q (Some (at (record_fact m.Guarded c) ys)) None) None ≡ None
    by true true h = cc
    by true false h = refl
    by false q h = refl

exists_stays : Stays (take_phrase phrase.IfExists m.Guarded)
unfolding words_of exists_by
exists_stays c [] = tt
exists_stays c (a ∷ []) = subst (λ (o : Option State). Given (λ s. (q : List Terminal) (t u : Terminal) (ts : List Terminal) → s.left ≡ q ++ t ∷ u ∷ ts → Back (take_phrase phrase.IfExists m.Guarded) c (a ∷ []) s q t u ts) o) (sym (exists_one c a)) tt
exists_stays c (a ∷ b ∷ xs) =
    subst (λ (o : Option State). Given (λ s. (q : List Terminal) (t u : Terminal) (ts : List Terminal) → s.left ≡ q ++ t ∷ u ∷ ts → Back (take_phrase phrase.IfExists m.Guarded) c (a ∷ b ∷ xs) s q t u ts) o) (sym (exists_is c a b xs))
    (by (is_keyword keyword.IF a) (is_keyword keyword.EXISTS b) refl refl)
  where
    by : (p r : Bool) → is_keyword keyword.IF a ≡ p → is_keyword keyword.EXISTS b ≡ r →
        Given (λ s. (q : List Terminal) (t u : Terminal) (ts : List Terminal) → s.left ≡ q ++ t ∷ u ∷ ts → Back (take_phrase phrase.IfExists m.Guarded) c (a ∷ b ∷ xs) s q t u ts) (exists_by (record_fact m.Guarded) c p r xs)
    by false r e f = tt
    by true false e f = tt
    by true true e f = λ q t u ts p. record {
      front = a ∷ b ∷ q;
      parts = ap (λ (x : List Terminal). a ∷ b ∷ x) p;
      stays = λ us. exists_is c a b (q ++ t ∷ u ∷ us) ∙ (λ i. exists_by (record_fact m.Guarded) c (e i) (f i) (q ++ t ∷ u ∷ us));
    }

-- ---- paths

record NamesBack (n : ℕ) (xs q : List Terminal) (t u : Terminal) (ts : List Terminal) : Type 0 where
  pub front : List Terminal
  pub parts : xs ≡ front ++ t ∷ u ∷ ts
  pub stays : (us : List Terminal) → names_end n (front ++ t ∷ u ∷ us) ≡ ((names_end n xs).0, q ++ t ∷ u ∷ us)

names_two : (n : ℕ) (a b : Terminal) (ys : List Terminal) → (is_dot a && is_name b) ≡ false → names_end n (a ∷ b ∷ ys) ≡ (n, a ∷ b ∷ ys)
names_two n a b ys h = λ i. cond (h i) (names_end b.number ys) (n, a ∷ b ∷ ys)

names_none : (n : ℕ) (a b : Terminal) (xs q : List Terminal) (t u : Terminal) (ts us : List Terminal) → (is_dot a && is_name b) ≡ false → a ∷ b ∷ xs ≡ q ++ t ∷ u ∷ ts → names_end n (q ++ t ∷ u ∷ us) ≡ (n, q ++ t ∷ u ∷ us)
names_none n a b xs [] t u ts us h e = names_two n t u us ((λ i. is_dot (first (sym e) i) && is_name (second (sym e) i)) ∙ h)
  where
    first : {x y x' y' : Terminal} {us vs : List Terminal} → x ∷ y ∷ us ≡ x' ∷ y' ∷ vs → x ≡ x'
    first e = cc

    second : {x y x' y' : Terminal} {us vs : List Terminal} → x ∷ y ∷ us ≡ x' ∷ y' ∷ vs → y ≡ y'
    second e = cc
names_none n a b xs (c ∷ []) t u ts us h e = names_two n c t (u ∷ us) ((λ i. is_dot (first (sym e) i) && is_name (second (sym e) i)) ∙ h)
  where
    first : {x y x' y' : Terminal} {us vs : List Terminal} → x ∷ y ∷ us ≡ x' ∷ y' ∷ vs → x ≡ x'
    first e = cc

    second : {x y x' y' : Terminal} {us vs : List Terminal} → x ∷ y ∷ us ≡ x' ∷ y' ∷ vs → y ≡ y'
    second e = cc
names_none n a b xs (c ∷ d ∷ q) t u ts us h e = names_two n c d (q ++ t ∷ u ∷ us) ((λ i. is_dot (first (sym e) i) && is_name (second (sym e) i)) ∙ h)
  where
    first : {x y x' y' : Terminal} {us vs : List Terminal} → x ∷ y ∷ us ≡ x' ∷ y' ∷ vs → x ≡ x'
    first e = cc

    second : {x y x' y' : Terminal} {us vs : List Terminal} → x ∷ y ∷ us ≡ x' ∷ y' ∷ vs → y ≡ y'
    second e = cc

none_left : (q : List Terminal) (t u : Terminal) (ts : List Terminal) → [] ≡ q ++ t ∷ u ∷ ts → ⊥
none_left [] t u ts e = cc
none_left (a ∷ q) t u ts e = cc

one_left : (d : Terminal) (q : List Terminal) (t u : Terminal) (ts : List Terminal) → d ∷ [] ≡ q ++ t ∷ u ∷ ts → ⊥
one_left d [] t u ts e = cc
one_left d (a ∷ q) t u ts e = none_left q t u ts (rest e)
  where
    rest : {x y : Terminal} {us vs : List Terminal} → x ∷ us ≡ y ∷ vs → us ≡ vs
    rest e = cc

names_back : (n : ℕ) (xs q : List Terminal) (t u : Terminal) (ts : List Terminal) → (names_end n xs).1 ≡ q ++ t ∷ u ∷ ts → NamesBack n xs q t u ts
names_back n [] q t u ts e = absurd (none_left q t u ts e)
names_back n (d ∷ []) q t u ts e = absurd (one_left d q t u ts e)
names_back n (d ∷ v ∷ xs) q t u ts e = by (is_dot d && is_name v) refl e (λ p. names_back v.number xs q t u ts p)
  where
    by : (b : Bool) → (is_dot d && is_name v) ≡ b → (cond b (names_end v.number xs) (n, d ∷ v ∷ xs)).1 ≡ q ++ t ∷ u ∷ ts →
        ((names_end v.number xs).1 ≡ q ++ t ∷ u ∷ ts → NamesBack v.number xs q t u ts) → NamesBack n (d ∷ v ∷ xs) q t u ts
    by true h e each =
        let r = each e in
        record {
          front = d ∷ v ∷ r.front;
          parts = ap (λ (x : List Terminal). d ∷ v ∷ x) r.parts;
          stays = λ us. (λ i. cond (h i) (names_end v.number (r.front ++ t ∷ u ∷ us)) (n, d ∷ v ∷ (r.front ++ t ∷ u ∷ us))) ∙ r.stays us
              ∙ (λ i. ((cond (sym h i) (names_end v.number xs) (n, d ∷ v ∷ xs)).0, q ++ t ∷ u ∷ us));
        }
    by false h e each = record {
      front = q;
      parts = e;
      stays = λ us. names_none n d v xs q t u ts us h e ∙ (λ i. ((cond (sym h i) (names_end v.number xs) (n, d ∷ v ∷ xs)).0, q ++ t ∷ u ∷ us));
    }

abbrev path_by : Captures → ℕ → Bool → ℕ × List Terminal → Option State
path_by c n b r = cond b (Some (at (record c { path = Some (record { first = n; last = r.0 }) }) r.1)) None

path_stays : Stays take_path
path_stays c [] = tt
path_stays c (a ∷ xs) = by (is_name a) refl
  where
    by : (b : Bool) → is_name a ≡ b → Given (λ s. (q : List Terminal) (t u : Terminal) (ts : List Terminal) → s.left ≡ q ++ t ∷ u ∷ ts → Back take_path c (a ∷ xs) s q t u ts) (path_by c a.number b (names_end a.number xs))
    by false e = tt
    by true e = λ q t u ts p.
        let r = names_back a.number xs q t u ts p in
        record {
          front = a ∷ r.front;
          parts = ap (λ (x : List Terminal). a ∷ x) r.parts;
          stays = λ us. (λ i. path_by c a.number (e i) (names_end a.number (r.front ++ t ∷ u ∷ us))) ∙ ap (λ (x : ℕ × List Terminal). path_by c a.number true x) (r.stays us);
        }

tail_stays : Stays (λ c ts. some_left (opened c) ts)
tail_stays c [] = tt
tail_stays c (a ∷ xs) = λ q t u ts p. record { front = q; parts = p; stays = λ us. left q (t ∷ u ∷ us) t (u ∷ us) refl }
  where
    left : (q ys : List Terminal) (t : Terminal) (ts : List Terminal) → ys ≡ t ∷ ts → some_left (opened c) (q ++ ys) ≡ Some (at (opened c) (q ++ ys))
    left [] ys t ts e = ap (λ (x : List Terminal). some_left (opened c) x) e ∙ ap (λ (x : List Terminal). Some (at (opened c) x)) (sym e)
    left (b ∷ q) ys t ts e = refl

-- ---- the parts of ALTER TABLE

abbrev alter_parts : List Part
alter_parts = p.Maybe phrase.IfExists m.Guarded ∷ p.Flag keyword.ONLY m.Nothing ∷ p.Path ∷ p.Star ∷ p.Tail ∷ []

abbrev AllStay : List Part → Type 0
AllStay [] = Unit {0}
AllStay (x ∷ xs) = Stays (take_part x) × AllStay xs

alter_stay : AllStay alter_parts
unfolding take_part
alter_stay = (
  maybe_stays (take_phrase phrase.IfExists m.Guarded) exists_stays exists_none,
  (
    maybe_stays (one (is_keyword keyword.ONLY) (λ t c. record_fact m.Nothing c)) (one_stays (is_keyword keyword.ONLY) (λ t c. record_fact m.Nothing c)) (one_none (is_keyword keyword.ONLY) (λ t c. record_fact m.Nothing c)),
    (
      path_stays,
      (
        maybe_stays (one (λ t. is_star_symbol t.symbol) nothing_kept) (one_stays (λ t. is_star_symbol t.symbol) nothing_kept) (one_none (λ t. is_star_symbol t.symbol) nothing_kept),
        (tail_stays, tt),
      ),
    ),
  ),
)

turn_stays : (parts : List Part) → AllStay parts → Stays (in_turn parts)
turn_stays [] all c xs = λ q t u ts e. record { front = q; parts = e; stays = λ us. refl }
turn_stays (x ∷ parts) all c xs = by (take_part x c xs) (all.0 c xs) (λ s. turn_stays parts all.1 s.kept s.left)
  where
    next : (s : State) (o : Option State) → ((q : List Terminal) (t u : Terminal) (ts : List Terminal) → s.left ≡ q ++ t ∷ u ∷ ts → Back (take_part x) c xs s q t u ts) →
        Given (λ e. (q : List Terminal) (t u : Terminal) (ts : List Terminal) → e.left ≡ q ++ t ∷ u ∷ ts → Back (in_turn parts) s.kept s.left e q t u ts) o →
        Given (λ e. (q : List Terminal) (t u : Terminal) (ts : List Terminal) → e.left ≡ q ++ t ∷ u ∷ ts → Back (in_turn (x ∷ parts)) c xs e q t u ts) o
    next s None g h = tt
    next s (Some e) g h = λ q t u ts p.
        let b = h q t u ts p in
        let a = g b.front t u ts b.parts in
        record {
          front = a.front;
          parts = a.parts;
          stays = λ us. ap (λ (o : Option State). option_and_then (λ s. in_turn parts s.kept s.left) o) (a.stays us) ∙ b.stays us;
        }

    by : (o : Option State) → Given (λ s. (q : List Terminal) (t u : Terminal) (ts : List Terminal) → s.left ≡ q ++ t ∷ u ∷ ts → Back (take_part x) c xs s q t u ts) o →
        ((s : State) → Given (λ e. (q : List Terminal) (t u : Terminal) (ts : List Terminal) → e.left ≡ q ++ t ∷ u ∷ ts → Back (in_turn parts) s.kept s.left e q t u ts) (in_turn parts s.kept s.left)) →
        Given (λ e. (q : List Terminal) (t u : Terminal) (ts : List Terminal) → e.left ≡ q ++ t ∷ u ∷ ts → Back (in_turn (x ∷ parts)) c xs e q t u ts) (option_and_then (λ s. in_turn parts s.kept s.left) o)
    by None g h = tt
    by (Some s) g h = next s (in_turn parts s.kept s.left) g (h s)

-- ---- what a statement says of it

abbrev is_alter : StmtKind → Bool
is_alter stmt.AlterTable = true
is_alter _ = false

abbrev AlterSaid : List Terminal → Body → Type 0
AlterSaid ts (body.Alter path actions) = AlterShape ts path actions
AlterSaid ts _ = Unit {0}

abbrev AlterShows : List Terminal → StmtKind × Body → Type 0
AlterShows ts f = is_alter f.0 ≡ true → AlterSaid ts f.1

kind_stays : (kind : StmtKind) (s : State) → is_alter kind ≡ false → is_alter (final_kind kind s) ≡ false
unfolding final_kind
kind_stays stmt.CreateTable s h = by (has_keyword keyword.AS s.left)
  where
    by : (b : Bool) → is_alter (cond b stmt.CreateTableAs stmt.CreateTable) ≡ false
    by true = refl
    by false = refl
kind_stays kind s h = h

unlisted_front : (ts us : List Terminal) (kind : StmtKind) (s : State) → is_alter kind ≡ false → FrontShows AlterShows ts us (kind, s)
unfolding kind_and_body
unlisted_front ts us kind s h =
    given_any (AlterShows ts) (λ b. Some (final_kind kind s, b)) (body_by (body_shape_of kind) kind s us) (λ b e. absurd (false≢true (sym (kind_stays kind s h) ∙ e)))

abbrev alter_of : Option Span → List Terminal → Option (StmtKind × Body)
alter_of path ts = option_and_then (λ actions. Some (stmt.AlterTable, body.Alter path actions)) (several_actions stmt.AlterTable ts)

abbrev named : Option Body → Option (StmtKind × Body)
named r = option_and_then (λ b. Some (stmt.AlterTable, b)) r

abbrev pub with_path : Option Span → Option (List Action) → Option (StmtKind × Body)
with_path path r = option_and_then (λ actions. Some (stmt.AlterTable, body.Alter path actions)) r

said_is : (us : List Terminal) (e : State) → kind_and_body us (stmt.AlterTable, e) ≡ alter_of e.kept.path e.left
unfolding kind_and_body body_shape_of final_kind body_by actions_of
said_is us e = by (several_actions stmt.AlterTable e.left)
  where
    by : (r : Option (List Action)) → named (option_and_then (λ actions. Some (body.Alter e.kept.path actions)) r) ≡ with_path e.kept.path r
    by None = refl
    by (Some actions) = refl

alter_form : (c n : ℕ) (xs : List Terminal) → form_of (key keyword.ALTER c ∷ key keyword.TABLE n ∷ xs) ≡ option_and_then (kind_and_body (key keyword.TABLE n ∷ xs)) (finished stmt.AlterTable alter_parts (at fresh xs))
unfolding form_of from_verb form_from front_by led_by one_word_kind rows_of family_of alter_rows take_part is_keyword same_keyword
alter_form c n xs = refl

taken_open : (e : State) (t u : Terminal) (rest : List Terminal) → e.left ≡ t ∷ u ∷ rest → (e.kept.open_ended || length e.left == 0) ≡ true → e.kept.open_ended ≡ true
taken_open e t u rest p h = by e.kept.open_ended h
  where
    some : (length (t ∷ u ∷ rest) == 0) ≡ false
    some = not_zero (suc (length rest))
      where
        not_zero : (n : ℕ) → (suc n == 0) ≡ false
        not_zero n = grind (arith, nat_tests)

    by : (b : Bool) → (b || length e.left == 0) ≡ true → b ≡ true
    by true h = refl
    by false h = absurd (false≢true (sym (ap (λ (x : List Terminal). length x == 0) p ∙ some) ∙ h))

fronts_of : (c n : ℕ) (xs : List Terminal) (e : State) → ((t u : Terminal) (ts : List Terminal) → e.left ≡ t ∷ u ∷ ts → Back (in_turn alter_parts) fresh xs e [] t u ts) → (e.kept.open_ended || length e.left == 0) ≡ true →
    (t u : Terminal) (rest : List Terminal) → e.left ≡ t ∷ u ∷ rest → AlterFront (key keyword.ALTER c ∷ key keyword.TABLE n ∷ xs) e.kept.path t u rest
fronts_of c n xs e back taken t u rest p =
    let b = back t u rest p in
    let open_ended = taken_open e t u rest p taken in
    record {
      front = key keyword.ALTER c ∷ key keyword.TABLE n ∷ b.front;
      parts = ap (λ (x : List Terminal). key keyword.ALTER c ∷ key keyword.TABLE n ∷ x) b.parts;
      stays = λ us.
          alter_form c n (b.front ++ t ∷ u ∷ us)
          ∙ ap (λ (o : Option State). option_and_then (kind_and_body (key keyword.TABLE n ∷ (b.front ++ t ∷ u ∷ us))) (option_and_then (λ e. option_and_then (λ w. Some (stmt.AlterTable, w)) (all_taken e)) o)) (b.stays us)
          ∙ (λ i. option_and_then (kind_and_body (key keyword.TABLE n ∷ (b.front ++ t ∷ u ∷ us))) (option_and_then (λ w. Some (stmt.AlterTable, w)) (cond (open_ended i || length (t ∷ u ∷ us) == 0) (Some (at e.kept (t ∷ u ∷ us))) None)))
          ∙ said_is (key keyword.TABLE n ∷ (b.front ++ t ∷ u ∷ us)) (at e.kept (t ∷ u ∷ us));
    }

front_tells : (c n : ℕ) (us xs : List Terminal) → Given (FrontShows AlterShows (key keyword.ALTER c ∷ key keyword.TABLE n ∷ xs) us) (finished stmt.AlterTable alter_parts (at fresh xs))
front_tells c n us xs = by (in_turn alter_parts fresh xs) (turn_stays alter_parts alter_stay fresh xs)
  where
    tells : (e : State) → ((t u : Terminal) (rest : List Terminal) → e.left ≡ t ∷ u ∷ rest → AlterFront (key keyword.ALTER c ∷ key keyword.TABLE n ∷ xs) e.kept.path t u rest) → (r : Option (List Action)) → several_actions stmt.AlterTable e.left ≡ r →
        Given (AlterShows (key keyword.ALTER c ∷ key keyword.TABLE n ∷ xs)) (option_and_then (λ actions. Some (stmt.AlterTable, body.Alter e.kept.path actions)) r)
    tells e fronts None h = tt
    tells e fronts (Some actions) h = λ listed. record { tail = e.left; actions_are = h; fronts = fronts }

    taken : (e : State) (b : Bool) → (e.kept.open_ended || length e.left == 0) ≡ b → ((q : List Terminal) (t u : Terminal) (ts : List Terminal) → e.left ≡ q ++ t ∷ u ∷ ts → Back (in_turn alter_parts) fresh xs e q t u ts) →
        Given (FrontShows AlterShows (key keyword.ALTER c ∷ key keyword.TABLE n ∷ xs) us) (option_and_then (λ w. Some (stmt.AlterTable, w)) (cond b (Some e) None))
    taken e false h g = tt
    taken e true h g =
        subst (λ (r : Option (StmtKind × Body)). Given (AlterShows (key keyword.ALTER c ∷ key keyword.TABLE n ∷ xs)) r) (sym (said_is us e))
        (tells e (fronts_of c n xs e (g []) h) (several_actions stmt.AlterTable e.left) refl)

    by : (o : Option State) → Given (λ s. (q : List Terminal) (t u : Terminal) (ts : List Terminal) → s.left ≡ q ++ t ∷ u ∷ ts → Back (in_turn alter_parts) fresh xs s q t u ts) o →
        Given (FrontShows AlterShows (key keyword.ALTER c ∷ key keyword.TABLE n ∷ xs) us) (option_and_then (λ e. option_and_then (λ w. Some (stmt.AlterTable, w)) (all_taken e)) o)
    by None g = tt
    by (Some e) g = taken e (e.kept.open_ended || length e.left == 0) refl g

-- ---- the first words

abbrev alter_row : Row
alter_row = (stmt.AlterTable, p.Word keyword.TABLE ∷ [], alter_parts)

one_row : listed_rows is_alter (alter_rows family.Relation) ≡ alter_row ∷ []
unfolding alter_rows
one_row = refl

table_word : (w : Keyword) → same_keyword w keyword.TABLE ≡ true → keyword.TABLE ≡ w
unfolding same_keyword
table_word (k.Verb verbs.Create) h = absurd (false≢true h)
table_word (k.Object objects.Table) h = refl
table_word (k.Other others.Security) h = absurd (false≢true h)
table_word w h = absurd (false≢true h)

table_symbol : (x : Symbol) → is_keyword_symbol keyword.TABLE x ≡ true → s.Keyword keyword.TABLE ≡ x
table_symbol (s.Keyword w) h = ap (λ (y : Keyword). s.Keyword y) (table_word w h)
table_symbol x h = absurd (false≢true h)

row_shows : (c : ℕ) (us ts : List Terminal) → RowShows (FrontShows AlterShows (key keyword.ALTER c ∷ ts) us) ts alter_row
unfolding take_part is_keyword
row_shows c us [] = tt
row_shows c us (t ∷ ts) = by (is_keyword_symbol keyword.TABLE t.symbol) refl
  where
    by : (b : Bool) → is_keyword_symbol keyword.TABLE t.symbol ≡ b →
        Given (λ s. Given (FrontShows AlterShows (key keyword.ALTER c ∷ t ∷ ts) us) (finished stmt.AlterTable alter_parts s)) (option_and_then (λ s. in_turn [] s.kept s.left) (cond b (Some (at (nothing_kept t fresh) ts)) None))
    by false h = tt
    by true h =
        subst (λ (x : Symbol). Given (FrontShows AlterShows (key keyword.ALTER c ∷ record { symbol = x; number = t.number } ∷ ts) us) (finished stmt.AlterTable alter_parts (at fresh ts))) (table_symbol t.symbol h)
        (front_tells c t.number us ts)

abbrev leads : Keyword → Bool
leads (k.Verb verbs.Alter) = true
leads _ = false

quiet_kind : (w : Keyword) → is_quiet is_alter (one_word_kind w) ≡ true
unfolding one_word_kind is_quiet
quiet_kind (k.Verb verbs.Create) = refl
quiet_kind (k.Object objects.Table) = refl
quiet_kind (k.Other others.Security) = refl
quiet_kind w = refl

create_quiet : (x : Family) → listed_rows is_alter (create_rows x) ≡ []
unfolding create_rows
create_quiet family.Relation = refl
create_quiet x = refl

drop_quiet : (x : Family) → listed_rows is_alter (drop_rows x) ≡ []
unfolding drop_rows
drop_quiet family.Relation = refl
drop_quiet x = refl

alter_quiet : (x : Family) → is_relation x ≡ false → listed_rows is_alter (alter_rows x) ≡ []
unfolding alter_rows
alter_quiet family.Relation h = absurd (false≢true (sym h))
alter_quiet x h = refl

quiet_rows : (w : Keyword) (ts : List Terminal) → leads w ≡ false → listed_rows is_alter (rows_of w ts) ≡ []
unfolding rows_of
quiet_rows (k.Verb verbs.Create) ts h = create_quiet (family_first ts)
quiet_rows (k.Verb verbs.Alter) ts h = absurd (false≢true (sym h))
quiet_rows (k.Verb verbs.Drop) ts h = drop_quiet (family_first ts)
quiet_rows (k.Verb w) ts h = refl
quiet_rows (k.Object w) ts h = refl
quiet_rows (k.Other others.Security) ts h = refl
quiet_rows w ts h = refl

rows_tell : (c : ℕ) (ts : List Terminal) → Given (FrontShows AlterShows (key keyword.ALTER c ∷ ts) ts) (first_led (alter_rows (family_first ts)) ts)
rows_tell c ts =
    families_show is_alter (FrontShows AlterShows (key keyword.ALTER c ∷ ts) ts) (unlisted_front (key keyword.ALTER c ∷ ts) ts) alter_rows ts alter_quiet (family_first ts)
    (λ p. rows_show is_alter (FrontShows AlterShows (key keyword.ALTER c ∷ ts) ts) (unlisted_front (key keyword.ALTER c ∷ ts) ts) ts (alter_rows family.Relation)
    (subst (λ (x : List Row). RowsShow (FrontShows AlterShows (key keyword.ALTER c ∷ ts) ts) ts x) (sym one_row) (row_shows c ts ts, tt)))

altered_shows : (c : ℕ) (ts : List Terminal) → Given (AlterShows (key keyword.ALTER c ∷ ts)) (form_from (key keyword.ALTER c ∷ ts))
unfolding form_from front_by led_by rows_of one_word_kind
altered_shows c ts = given_then (FrontShows AlterShows (key keyword.ALTER c ∷ ts) ts) (AlterShows (key keyword.ALTER c ∷ ts)) (kind_and_body ts) (first_led (alter_rows (family_first ts)) ts) (rows_tell c ts) (λ f h. h)

verb_quiet : (w : Keyword) → is_verb_word w ≡ true → leads w ≡ false
verb_quiet (k.Verb verbs.Alter) h = absurd (false≢true h)
verb_quiet w h = refl

lead_word : (w : Keyword) → leads w ≡ true → keyword.ALTER ≡ w
lead_word (k.Verb verbs.Alter) h = refl
lead_word w h = absurd (false≢true h)

alter_leading : Leading AlterShows is_alter leads
alter_leading = record {
  none = unlisted_front;
  empty = λ e. absurd (false≢true e);
  select = λ ts e. absurd (false≢true e);
  quiet_kind = λ w h. quiet_kind w;
  quiet_rows = quiet_rows;
  quiet_paren = refl;
  quiet_verb = verb_quiet;
  here = λ w n ts h. subst (λ (x : Keyword). Given (AlterShows (key x n ∷ ts)) (form_from (key x n ∷ ts))) (lead_word w h) (altered_shows n ts);
}

pub alter_table_shows : AlterTableShows
alter_table_shows ts path actions e = given_is (AlterShows ts) (form_of ts) (stmt.AlterTable, body.Alter path actions) (form_shows AlterShows is_alter leads alter_leading ts) e refl
