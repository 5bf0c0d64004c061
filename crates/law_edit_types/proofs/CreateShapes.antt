-- From the body of CREATE TABLE back to its terminals: a front, and then the list of its elements, in place of which another list may
-- come.
use Rattle.std.proofs.Common.{◌≡◌, ℕ, Bool, true, false, cond, List, [], ◌∷◌, ◌++◌, append_assoc, sym, refl, ap, ◌∙◌, subst, Option, Some, None}
use Rattle.std.proofs.lemmas.Bool.{false≢true, and_parts, and_from}
use Rattle.std.specs.Prelude.{◌&&◌, ◌||◌}
use Rattle.std.specs.List.{list_all}
use Rattle.std.specs.Option.{option_and_then}
use Rattle.law_edit_inserts.specs.sql_keyword.declared.words.Keyword.{Keyword}
use Rattle.law_edit_inserts.specs.sql_keyword.declared.words.TheConstants.Keyword as keyword
use Rattle.law_edit_inserts.specs.sql_token.declared.terminal.Symbol.{Symbol}
use Rattle.law_edit_inserts.specs.sql_token.declared.terminal.Symbol.TheVariants as s
use Rattle.law_edit_inserts.specs.sql_token.declared.terminal.Terminal.{Terminal}
use Rattle.law_edit_inserts.specs.sql_token.Terminal.{is_keyword, is_keyword_symbol, is_name, is_dot, is_name_symbol}
use Rattle.law_edit_inserts.specs.sql_tree.declared.forms.Captures.{Captures}
use Rattle.law_edit_inserts.specs.sql_tree.declared.forms.Fact.TheVariants as m
use Rattle.law_edit_inserts.specs.sql_tree.declared.forms.Phrase.TheVariants as phrase
use Rattle.law_edit_inserts.specs.sql_tree.Forms.{State, at, or_here, guard, record_fact, take_phrase, words_of, after_words, names_end, take_path, take_mods, is_temp, is_other_mod}
use Rattle.law_edit_types.proofs.Phrases.{phrase_by, phrase_is, second_none}
use Rattle.law_edit_inserts.proofs.Leading.{Given}

-- ---- names and dots

abbrev pub is_path_part : Terminal → Bool
is_path_part t = is_name t || is_dot t

pub name_part : (t : Terminal) → is_name t ≡ true → is_path_part t ≡ true
name_part t h = ap (λ (b : Bool). b || is_dot t) h

dot_part : (t : Terminal) → is_dot t ≡ true → is_path_part t ≡ true
dot_part t h = by (is_name t) (is_dot t) h
  where
    by : (a b : Bool) → b ≡ true → (a || b) ≡ true
    by true b h = refl
    by false b h = h

pub word_part : (w : Keyword) (t : Terminal) → is_keyword w t ≡ true → is_path_part t ≡ true
unfolding is_keyword is_name
word_part w t h = by t.symbol h
  where
    by : (x : Symbol) → is_keyword_symbol w x ≡ true → (is_name_symbol x || is_dot t) ≡ true
    by (s.Keyword v) h = refl
    by x h = absurd (false≢true h)

abbrev pub all_parts : List Terminal → Bool
all_parts ts = list_all is_path_part ts

pub parts_append : (xs ys : List Terminal) → all_parts xs ≡ true → all_parts ys ≡ true → all_parts (xs ++ ys) ≡ true
parts_append [] ys h g = g
parts_append (x ∷ xs) ys h g = let both = and_parts (is_path_part x) (all_parts xs) h in and_from (is_path_part x) (all_parts (xs ++ ys)) both.0 (parts_append xs ys both.1 g)

-- no key word and no dot, as an opening bracket
pub record IsBreak (t : Terminal) : Type 0 where
  pub word : (w : Keyword) → is_keyword w t ≡ false
  pub dot : is_dot t ≡ false

-- ---- parts that leave a tail that begins with such a terminal

-- what was taken before it; with another tail after that terminal the same is taken
record Front (x : Captures → List Terminal → Option State) (c : Captures) (xs : List Terminal) (kept : Captures) (t : Terminal) (ts : List Terminal) : Type 0 where
  pub front : List Terminal
  pub parts : xs ≡ front ++ t ∷ ts
  pub names : all_parts front ≡ true
  pub stays : (us : List Terminal) → x c (front ++ t ∷ us) ≡ Some (at kept (t ∷ us))

record NamesFront (n e : ℕ) (xs : List Terminal) (t : Terminal) (ts : List Terminal) : Type 0 where
  pub front : List Terminal
  pub parts : xs ≡ front ++ t ∷ ts
  pub names : all_parts front ≡ true
  pub stays : (us : List Terminal) → names_end n (front ++ t ∷ us) ≡ (e, t ∷ us)

no_list : (t : Terminal) (ts : List Terminal) → [] ≡ t ∷ ts → ⊥
no_list t ts e = cc

names_stop : (n : ℕ) (t : Terminal) (us : List Terminal) → is_dot t ≡ false → names_end n (t ∷ us) ≡ (n, t ∷ us)
names_stop n t [] h = refl
names_stop n t (u ∷ us) h = λ i. cond (h i && is_name u) (names_end u.number us) (n, t ∷ u ∷ us)

names_front : (n : ℕ) (xs : List Terminal) (t : Terminal) (ts : List Terminal) → is_dot t ≡ false → (names_end n xs).1 ≡ t ∷ ts → NamesFront n (names_end n xs).0 xs t ts
names_front n [] t ts none e = absurd (no_list t ts e)
names_front n (d ∷ []) t ts none e = record { front = []; parts = e; names = refl; stays = λ us. names_stop n t us none }
names_front n (d ∷ v ∷ xs) t ts none e = by (is_dot d) (is_name v) refl refl e (λ p. names_front v.number xs t ts none p)
  where
    ends : Bool → ℕ × List Terminal
    ends b = cond b (names_end v.number xs) (n, d ∷ v ∷ xs)

    by : (a b : Bool) → is_dot d ≡ a → is_name v ≡ b → (ends (a && b)).1 ≡ t ∷ ts → ((names_end v.number xs).1 ≡ t ∷ ts → NamesFront v.number (names_end v.number xs).0 xs t ts) → NamesFront n (ends (is_dot d && is_name v)).0 (d ∷ v ∷ xs) t ts
    by true true f g e each =
        let r = each e in
        let same : names_end v.number xs ≡ ends (is_dot d && is_name v) = λ i. ends (sym f i && sym g i) in
        subst (λ (x : ℕ × List Terminal). NamesFront n x.0 (d ∷ v ∷ xs) t ts) same
        (record {
          front = d ∷ v ∷ r.front;
          parts = ap (λ (x : List Terminal). d ∷ v ∷ x) r.parts;
          names = (let a = dot_part d f in let b = name_part v g in let rest = r.names in λ i. a i && (b i && rest i));
          stays = λ us. (λ i. cond (f i && g i) (names_end v.number (r.front ++ t ∷ us)) (n, d ∷ v ∷ (r.front ++ t ∷ us))) ∙ r.stays us;
        })
    by true false f g e each = stop (λ i. ends (f i && g i)) e
      where
        stop : ends (is_dot d && is_name v) ≡ (n, d ∷ v ∷ xs) → d ∷ v ∷ xs ≡ t ∷ ts → NamesFront n (ends (is_dot d && is_name v)).0 (d ∷ v ∷ xs) t ts
        stop same e = subst (λ (x : ℕ × List Terminal). NamesFront n x.0 (d ∷ v ∷ xs) t ts) (sym same) (record { front = []; parts = e; names = refl; stays = λ us. names_stop n t us none })
    by false b f g e each = stop (λ i. ends (f i && g i)) e
      where
        stop : ends (is_dot d && is_name v) ≡ (n, d ∷ v ∷ xs) → d ∷ v ∷ xs ≡ t ∷ ts → NamesFront n (ends (is_dot d && is_name v)).0 (d ∷ v ∷ xs) t ts
        stop same e = subst (λ (x : ℕ × List Terminal). NamesFront n x.0 (d ∷ v ∷ xs) t ts) (sym same) (record { front = []; parts = e; names = refl; stays = λ us. names_stop n t us none })

-- a path, with which nothing but names and dots is taken
abbrev path_kept : Captures → ℕ → ℕ → Captures
path_kept c n e = record c { path = Some (record { first = n; last = e }) }

record PathFront (c : Captures) (xs : List Terminal) (st : State) (t : Terminal) (ts : List Terminal) : Type 0 where
  pub first : Terminal
  pub front : List Terminal
  pub parts : xs ≡ (first ∷ front) ++ t ∷ ts
  pub names : all_parts (first ∷ front) ≡ true
  pub stays : (us : List Terminal) → take_path c ((first ∷ front) ++ t ∷ us) ≡ Some (at st.kept (t ∷ us))

path_front : (c : Captures) (xs : List Terminal) (t : Terminal) (ts : List Terminal) → is_dot t ≡ false → Given (λ st. st.left ≡ t ∷ ts → PathFront c xs st t ts) (take_path c xs)
path_front c [] t ts none = tt
path_front c (a ∷ xs) t ts none = by (is_name a) refl
  where
    by : (b : Bool) → is_name a ≡ b → Given (λ st. st.left ≡ t ∷ ts → PathFront c (a ∷ xs) st t ts) (cond b (Some (at (path_kept c a.number (names_end a.number xs).0) (names_end a.number xs).1)) None)
    by false h = tt
    by true h = λ e.
        let r = names_front a.number xs t ts none e in
        record {
          first = a;
          front = r.front;
          parts = ap (λ (x : List Terminal). a ∷ x) r.parts;
          names = (let x = name_part a h in let rest = r.names in λ i. x i && rest i);
          stays = λ us.
              (λ i. cond (h i) (Some (at (path_kept c a.number (names_end a.number (r.front ++ t ∷ us)).0) (names_end a.number (r.front ++ t ∷ us)).1)) None)
              ∙ ap (λ (x : ℕ × List Terminal). Some (at (path_kept c a.number x.0) x.1)) (r.stays us);
        }

-- ---- IF NOT EXISTS

-- where the phrase is not there before such a front, it is not there before another tail
phrase_none : (c : Captures) (front : List Terminal) (first t : Terminal) (ts us : List Terminal) → IsBreak t → take_phrase phrase.IfNotExists m.Guarded c ((first ∷ front) ++ t ∷ ts) ≡ None → take_phrase phrase.IfNotExists m.Guarded c ((first ∷ front) ++ t ∷ us) ≡ None
unfolding phrase_by
phrase_none c [] x t ts us none h = second_none c x t us (none.word keyword.NOT)
phrase_none c (y ∷ []) x t ts us none h =
    let e = none.word keyword.EXISTS in
    phrase_is c x y t us ∙ (λ i. phrase_by c (is_keyword keyword.IF x) (is_keyword keyword.NOT y) (e i) us) ∙ by (is_keyword keyword.IF x) (is_keyword keyword.NOT y)
  where
    by : (p q : Bool) → phrase_by c p q false us ≡ None
    by true true = refl
    by true false = refl
    by false q = refl
phrase_none c (y ∷ z ∷ front) x t ts us none h =
    phrase_is c x y z (front ++ t ∷ us) ∙ by (is_keyword keyword.IF x) (is_keyword keyword.NOT y) (is_keyword keyword.EXISTS z) (sym (phrase_is c x y z (front ++ t ∷ ts)) ∙ h)
  where
    by : (p q r : Bool) → phrase_by c p q r (front ++ t ∷ ts) ≡ None → phrase_by c p q r (front ++ t ∷ us) ≡ None
    by true true true h = cc
    by true true false h = refl
    by true false r h = refl
    by false q r h = refl

-- the phrase, and what comes after it
record PhraseAt (c : Captures) (xs : List Terminal) (st : State) : Type 0 where
  pub front : List Terminal
  pub parts : xs ≡ front ++ st.left
  pub names : all_parts front ≡ true
  pub stays : (us : List Terminal) → take_phrase phrase.IfNotExists m.Guarded c (front ++ us) ≡ Some (at st.kept us)

phrase_at : (c : Captures) (xs : List Terminal) → Given (PhraseAt c xs) (take_phrase phrase.IfNotExists m.Guarded c xs)
unfolding words_of phrase_by
phrase_at c [] = tt
phrase_at c (x ∷ []) = by (is_keyword keyword.IF x)
  where
    by : (p : Bool) → Given (PhraseAt c (x ∷ [])) (option_and_then (λ rest. Some (at (record_fact m.Guarded c) rest)) (option_and_then (after_words (keyword.NOT ∷ keyword.EXISTS ∷ [])) (cond p (Some []) None)))
    by true = tt
    by false = tt
phrase_at c (x ∷ y ∷ []) = by (is_keyword keyword.IF x) (is_keyword keyword.NOT y)
  where
    by : (p q : Bool) → Given (PhraseAt c (x ∷ y ∷ [])) (option_and_then (λ rest. Some (at (record_fact m.Guarded c) rest)) (option_and_then (after_words (keyword.NOT ∷ keyword.EXISTS ∷ [])) (cond p (Some (y ∷ [])) None)))
    by true q = second (is_keyword keyword.NOT y)
      where
        second : (q : Bool) → Given (PhraseAt c (x ∷ y ∷ [])) (option_and_then (λ rest. Some (at (record_fact m.Guarded c) rest)) (option_and_then (after_words (keyword.EXISTS ∷ [])) (cond q (Some []) None)))
        second true = tt
        second false = tt
    by false q = tt
phrase_at c (x ∷ y ∷ z ∷ rest) =
    subst (Given (PhraseAt c (x ∷ y ∷ z ∷ rest))) (sym (phrase_is c x y z rest)) (by (is_keyword keyword.IF x) (is_keyword keyword.NOT y) (is_keyword keyword.EXISTS z) refl refl refl)
  where
    by : (p q r : Bool) → is_keyword keyword.IF x ≡ p → is_keyword keyword.NOT y ≡ q → is_keyword keyword.EXISTS z ≡ r → Given (PhraseAt c (x ∷ y ∷ z ∷ rest)) (phrase_by c p q r rest)
    by true true true f g h = record {
      front = x ∷ y ∷ z ∷ [];
      parts = refl;
      names = (let a = word_part keyword.IF x f in let b = word_part keyword.NOT y g in let d = word_part keyword.EXISTS z h in λ i. a i && (b i && (d i && true)));
      stays = λ us. phrase_is c x y z us ∙ (λ i. phrase_by c (f i) (g i) (h i) us);
    }
    by true true false f g h = tt
    by true false r f g h = tt
    by false q r f g h = tt

-- ---- the parts after the word TABLE

-- IF NOT EXISTS and a path
abbrev pub take_table : Captures → List Terminal → Option State
take_table c xs = take_path (guard c xs).kept (guard c xs).left

pub record TableFront (c : Captures) (xs : List Terminal) (st : State) (t : Terminal) (ts : List Terminal) : Type 0 where
  pub front : List Terminal
  pub parts : xs ≡ front ++ t ∷ ts
  pub names : all_parts front ≡ true
  pub stays : (us : List Terminal) → take_table c (front ++ t ∷ us) ≡ Some (at st.kept (t ∷ us))

abbrev guarded_by : Captures → List Terminal → Option State → State
guarded_by c xs o = or_here o c xs

pub table_front : (c : Captures) (xs : List Terminal) (t : Terminal) (ts : List Terminal) → IsBreak t → Given (λ st. st.left ≡ t ∷ ts → TableFront c xs st t ts) (take_table c xs)
table_front c xs t ts none = by (take_phrase phrase.IfNotExists m.Guarded c xs) refl (phrase_at c xs)
  where
    read : Option State → Option State
    read o = take_path (guarded_by c xs o).kept (guarded_by c xs o).left

    none_case : take_phrase phrase.IfNotExists m.Guarded c xs ≡ None → (o : Option State) → Given (λ st. st.left ≡ t ∷ ts → PathFront c xs st t ts) o → Given (λ st. st.left ≡ t ∷ ts → TableFront c xs st t ts) o
    none_case e None g = tt
    none_case e (Some st) g = λ l.
        let r = g l in
        let gone = ap (take_phrase phrase.IfNotExists m.Guarded c) (sym r.parts) ∙ e in
        record {
          front = r.first ∷ r.front;
          parts = r.parts;
          names = r.names;
          stays = λ us.
              let still = phrase_none c r.front r.first t ts us none gone in
              (λ i. take_path (guarded_by c ((r.first ∷ r.front) ++ t ∷ us) (still i)).kept (guarded_by c ((r.first ∷ r.front) ++ t ∷ us) (still i)).left) ∙ r.stays us;
        }

    some_case : (e : State) → PhraseAt c xs e → (o : Option State) → Given (λ st. st.left ≡ t ∷ ts → PathFront e.kept e.left st t ts) o → Given (λ st. st.left ≡ t ∷ ts → TableFront c xs st t ts) o
    some_case e a None g = tt
    some_case e a (Some st) g = λ l.
        let r = g l in
        record {
          front = a.front ++ (r.first ∷ r.front);
          parts = a.parts ∙ ap (λ (x : List Terminal). a.front ++ x) r.parts ∙ sym (append_assoc a.front (r.first ∷ r.front) (t ∷ ts));
          names = parts_append a.front (r.first ∷ r.front) a.names r.names;
          stays = λ us.
              ap (take_table c) (append_assoc a.front (r.first ∷ r.front) (t ∷ us))
              ∙ (let some = a.stays ((r.first ∷ r.front) ++ t ∷ us) in
              λ i. take_path (guarded_by c (a.front ++ ((r.first ∷ r.front) ++ t ∷ us)) (some i)).kept (guarded_by c (a.front ++ ((r.first ∷ r.front) ++ t ∷ us)) (some i)).left)
              ∙ r.stays us;
        }

    by : (o : Option State) → take_phrase phrase.IfNotExists m.Guarded c xs ≡ o → Given (PhraseAt c xs) o → Given (λ st. st.left ≡ t ∷ ts → TableFront c xs st t ts) (read o)
    by None e g = none_case e (take_path c xs) (path_front c xs t ts none.dot)
    by (Some e) h g = some_case e g (take_path e.kept e.left) (path_front e.kept e.left t ts none.dot)

-- ---- the words before TABLE

pub record ModsFront (c : Captures) (xs : List Terminal) (y : Terminal) (ys : List Terminal) : Type 0 where
  pub front : List Terminal
  pub parts : xs ≡ front ++ y ∷ ys
  pub names : all_parts front ≡ true
  pub stays : (us : List Terminal) → take_mods c (front ++ y ∷ us) ≡ at (take_mods c xs).kept (y ∷ us)

temp_part : (t : Terminal) → is_temp t ≡ true → is_path_part t ≡ true
temp_part t h = by (is_keyword keyword.TEMP t) (is_keyword keyword.TEMPORARY t) refl refl h
  where
    by : (a b : Bool) → is_keyword keyword.TEMP t ≡ a → is_keyword keyword.TEMPORARY t ≡ b → (a || b) ≡ true → is_path_part t ≡ true
    by true b p q h = word_part keyword.TEMP t p
    by false true p q h = word_part keyword.TEMPORARY t q
    by false false p q h = absurd (false≢true h)

mod_part : (t : Terminal) → is_other_mod t ≡ true → is_path_part t ≡ true
mod_part t h = by (is_keyword keyword.GLOBAL t) (is_keyword keyword.LOCAL t) (is_keyword keyword.UNLOGGED t) refl refl refl h
  where
    by : (a b c : Bool) → is_keyword keyword.GLOBAL t ≡ a → is_keyword keyword.LOCAL t ≡ b → is_keyword keyword.UNLOGGED t ≡ c → (a || b || c) ≡ true → is_path_part t ≡ true
    by true b c p q r h = word_part keyword.GLOBAL t p
    by false true c p q r h = word_part keyword.LOCAL t q
    by false false true p q r h = word_part keyword.UNLOGGED t r
    by false false false p q r h = absurd (false≢true h)

first_same : {x y : Terminal} {us vs : List Terminal} → x ∷ us ≡ y ∷ vs → x ≡ y
first_same e = cc

pub mods_front : (c : Captures) (xs : List Terminal) (y : Terminal) (ys : List Terminal) → (take_mods c xs).left ≡ y ∷ ys → ModsFront c xs y ys
mods_front c [] y ys e = absurd (no_list y ys e)
mods_front c (t ∷ ts) y ys e = by (is_temp t) (is_other_mod t) refl refl e (λ c' p. mods_front c' ts y ys p)
  where
    mods : Bool → Bool → List Terminal → State
    mods a b us = cond a (take_mods (record c { temp = true }) us) (cond b (take_mods c us) (at c (t ∷ us)))

    by : (a b : Bool) → is_temp t ≡ a → is_other_mod t ≡ b → (mods a b ts).left ≡ y ∷ ys → ((c' : Captures) → (take_mods c' ts).left ≡ y ∷ ys → ModsFront c' ts y ys) → ModsFront c (t ∷ ts) y ys
    by true b p q e each =
        let r = each (record c { temp = true }) e in
        record {
          front = t ∷ r.front;
          parts = ap (λ (x : List Terminal). t ∷ x) r.parts;
          names = (let x = temp_part t p in let rest = r.names in λ i. x i && rest i);
          stays = λ us. (λ i. mods (p i) (is_other_mod t) (r.front ++ y ∷ us)) ∙ r.stays us ∙ (λ i. at (mods (sym p i) (is_other_mod t) ts).kept (y ∷ us));
        }
    by false true p q e each =
        let r = each c e in
        record {
          front = t ∷ r.front;
          parts = ap (λ (x : List Terminal). t ∷ x) r.parts;
          names = (let x = mod_part t q in let rest = r.names in λ i. x i && rest i);
          stays = λ us. (λ i. mods (p i) (q i) (r.front ++ y ∷ us)) ∙ r.stays us ∙ (λ i. at (mods (sym p i) (sym q i) ts).kept (y ∷ us));
        }
    by false false p q e each =
        let head = first_same e in
        record {
          front = [];
          parts = e;
          names = refl;
          stays = λ us. subst (λ (z : Terminal). take_mods c (z ∷ us) ≡ at (mods (is_temp t) (is_other_mod t) ts).kept (z ∷ us)) head ((λ i. mods (p i) (q i) us) ∙ (λ i. at (mods (sym p i) (sym q i) ts).kept (t ∷ us)));
        }
