-- Where a word makes a constraint of a table of what was none, the name of a constraint comes before it: the key word CONSTRAINT.
use Rattle.std.proofs.Common.{◌≡◌, ℕ, Bool, true, false, cond, List, ◌∷◌, sym, refl, ap, ◌∙◌, Option, Some, None}
use Rattle.std.proofs.lemmas.Bool.{false≢true}
use Rattle.std.specs.Option.{option_and_then}
use Rattle.law_edit_inserts.specs.sql_keyword.declared.words.Keyword.{Keyword}
use Rattle.law_edit_inserts.specs.sql_keyword.declared.words.Keyword.TheVariants as k
use Rattle.law_edit_inserts.specs.sql_keyword.declared.words.Verb.TheVariants as verbs
use Rattle.law_edit_inserts.specs.sql_keyword.declared.words.Object.TheVariants as objects
use Rattle.law_edit_inserts.specs.sql_keyword.declared.words.Other.TheVariants as others
use Rattle.law_edit_inserts.specs.sql_keyword.declared.words.TheConstants.Keyword as keyword
use Rattle.law_edit_inserts.specs.sql_keyword.Same.{same_keyword}
use Rattle.law_edit_inserts.specs.sql_token.declared.terminal.Symbol.{Symbol}
use Rattle.law_edit_inserts.specs.sql_token.declared.terminal.Symbol.TheVariants as s
use Rattle.law_edit_inserts.specs.sql_token.declared.terminal.Terminal.{Terminal}
use Rattle.law_edit_inserts.specs.sql_token.Terminal.{is_keyword, is_keyword_symbol, is_name}
use Rattle.law_edit_inserts.specs.sql_tree.declared.nodes.ConKind.{ConKind}
use Rattle.law_edit_inserts.specs.sql_tree.declared.nodes.ConKind.TheVariants.{Check, Unique, PrimaryKey, Exclude, ForeignKey, NotNull}
use Rattle.law_edit_inserts.specs.sql_tree.declared.nodes.Constraint.{Constraint}
use Rattle.law_edit_inserts.specs.sql_tree.Forms.{after_word}
use Rattle.law_edit_inserts.specs.sql_tree.Constraint.{named, constraint_name, is_exclusion, after_exclude, after_two, kind_or, two_word_kind, constraint_kind, constraint_in, table_constraint_in, constraint_after, table_constraint}
use Rattle.law_edit_types.specs.Runs.{IsTypeSymbol}
use Rattle.law_edit_types.proofs.Runs.{of_type}

-- ---- the word

-- a name that is none of the words after the first one of a kind
record FollowsNoKind (w : Terminal) : Type 0 where
  pub name : is_name w ≡ true
  pub key : is_keyword keyword.KEY w ≡ false
  pub null : is_keyword keyword.NULL w ≡ false
  pub exclusion : (ts : List Terminal) → is_exclusion (w ∷ ts) ≡ false

word_follows : (w : Terminal) → IsTypeSymbol w.symbol → FollowsNoKind w
unfolding is_name is_keyword same_keyword
word_follows w h =
    of_type (λ (x : Symbol). FollowsNoKind (record { symbol = x; number = w.number }))
    (record { name = refl; key = refl; null = refl; exclusion = λ ts. refl }) (record { name = refl; key = refl; null = refl; exclusion = λ ts. refl }) w.symbol h

constraint_word : (w : Keyword) → same_keyword w keyword.CONSTRAINT ≡ true → w ≡ keyword.CONSTRAINT
unfolding same_keyword
constraint_word (k.Verb verbs.Create) h = absurd (false≢true h)
constraint_word (k.Object objects.Constraint) h = refl
constraint_word (k.Other others.Add) h = absurd (false≢true h)
constraint_word w h = absurd (false≢true h)

constraint_symbol : (x : Symbol) → is_keyword_symbol keyword.CONSTRAINT x ≡ true → x ≡ s.Keyword keyword.CONSTRAINT
constraint_symbol (s.Keyword w) h = ap (λ (y : Keyword). s.Keyword y) (constraint_word w h)
constraint_symbol x h = absurd (false≢true h)

word_named : (t : Terminal) → is_keyword keyword.CONSTRAINT t ≡ true → t.symbol ≡ s.Keyword keyword.CONSTRAINT
unfolding is_keyword
word_named t h = constraint_symbol t.symbol h

-- ---- the kind

abbrev Kind : Type 0
Kind = Option (ConKind × List Terminal)

-- the kind of a constraint, by what its first word is and what follows that
abbrev kind_by : Bool → Bool → Bool → Bool → Bool → Bool → List Terminal → Kind
kind_by check unique exclude primary foreign not us =
    kind_or Check (cond check (Some us) None)
    (kind_or Unique (cond unique (Some us) None)
    (kind_or Exclude (option_and_then (λ (rest : List Terminal). cond (is_exclusion rest) (Some rest) None) (cond exclude (Some us) None))
    (kind_or PrimaryKey (option_and_then (after_word keyword.KEY) (cond primary (Some us) None))
    (kind_or ForeignKey (option_and_then (after_word keyword.KEY) (cond foreign (Some us) None))
    (kind_or NotNull (option_and_then (after_word keyword.NULL) (cond not (Some us) None)) None)))))

abbrev kind_of : Terminal → Bool → Bool → List Terminal → Kind
kind_of t check unique us = kind_by check unique (is_keyword keyword.EXCLUDE t) (is_keyword keyword.PRIMARY t) (is_keyword keyword.FOREIGN t) (is_keyword keyword.NOT t) us

kind_is : (t : Terminal) (us : List Terminal) → constraint_kind (t ∷ us) ≡ kind_of t (is_keyword keyword.CHECK t) (is_keyword keyword.UNIQUE t) us
unfolding constraint_kind after_exclude two_word_kind after_two
kind_is t us = refl

-- Before such a word no other kind begins.
no_kind : (w : Terminal) (ts : List Terminal) → FollowsNoKind w → (e p f n : Bool) → kind_by false false e p f n (w ∷ ts) ≡ None
no_kind w ts h e p f n =
    let x = exclude e in
    let y = two keyword.KEY p h.key in
    let z = two keyword.KEY f h.key in
    let v = two keyword.NULL n h.null in
    λ i. kind_or Exclude (x i) (kind_or PrimaryKey (y i) (kind_or ForeignKey (z i) (kind_or NotNull (v i) None)))
  where
    exclude : (b : Bool) → option_and_then (λ (rest : List Terminal). cond (is_exclusion rest) (Some rest) None) (cond b (Some (w ∷ ts)) None) ≡ None
    exclude true = let none = h.exclusion ts in λ i. cond (none i) (Some (w ∷ ts)) None
    exclude false = refl

    two : (v : Keyword) (b : Bool) → is_keyword v w ≡ false → option_and_then (after_word v) (cond b (Some (w ∷ ts)) None) ≡ None
    two v true g = λ i. cond (g i) (Some ts) None
    two v false g = refl

-- ---- the constraint

abbrev found_in : List Terminal → Option ℕ → Kind → Option Constraint
found_in ts name o = option_and_then (λ found. Some (table_constraint_in ts name found)) o

plain_constraint : (t : Terminal) (us : List Terminal) → is_keyword keyword.CONSTRAINT t ≡ false → table_constraint (t ∷ us) ≡ found_in (t ∷ us) None (constraint_kind (t ∷ us))
unfolding table_constraint constraint_name
plain_constraint t us h = λ i. option_and_then (constraint_after (t ∷ us)) (cond (h i) (named us) (Some (None, t ∷ us)))

named_constraint : (t w : Terminal) (ts : List Terminal) → is_keyword keyword.CONSTRAINT t ≡ true → is_name w ≡ true → table_constraint (t ∷ w ∷ ts) ≡ found_in (t ∷ w ∷ ts) (Some w.number) (constraint_kind ts)
unfolding table_constraint constraint_name named
named_constraint t w ts h g =
    (λ i. option_and_then (constraint_after (t ∷ w ∷ ts)) (cond (h i) (named (w ∷ ts)) (Some (None, t ∷ w ∷ ts))))
    ∙ (λ i. option_and_then (constraint_after (t ∷ w ∷ ts)) (cond (g i) (Some (Some w.number, ts)) None))

found_name : (ts : List Terminal) (name : Option ℕ) (o : Kind) (x : Constraint) → found_in ts name o ≡ Some x → x.name ≡ name
unfolding constraint_in
found_name ts name None x e = cc
found_name ts name (Some found) x e = ap (λ (y : Constraint). y.name) (inside e)
  where
    inside : {y z : Constraint} → Some y ≡ Some z → z ≡ y
    inside e = cc

no_constraint : {x : Constraint} → None ≡ Some x → ⊥
no_constraint e = cc

-- The terminal t is the key word, and w is the name of the constraint.
pub record IsNamed (t w : Terminal) (x : Constraint) : Type 0 where
  pub word : t.symbol ≡ s.Keyword keyword.CONSTRAINT
  pub name : x.name ≡ Some w.number

pub constraint_named : (t w : Terminal) (old ts : List Terminal) (x : Constraint) → IsTypeSymbol w.symbol → table_constraint (t ∷ old) ≡ None → table_constraint (t ∷ w ∷ ts) ≡ Some x → IsNamed t w x
constraint_named t w old ts x symbol free e = by (is_keyword keyword.CONSTRAINT t) refl
  where
    follows : FollowsNoKind w
    follows = word_follows w symbol

    unnamed : is_keyword keyword.CONSTRAINT t ≡ false → (check unique : Bool) → is_keyword keyword.CHECK t ≡ check → is_keyword keyword.UNIQUE t ≡ unique → ⊥
    unnamed h true unique p q =
        no_constraint (sym free ∙ plain_constraint t old h ∙ ap (found_in (t ∷ old) None) (kind_is t old ∙ (λ i. kind_of t (p i) (is_keyword keyword.UNIQUE t) old)))
    unnamed h false true p q =
        no_constraint (sym free ∙ plain_constraint t old h ∙ ap (found_in (t ∷ old) None) (kind_is t old ∙ (λ i. kind_of t (p i) (q i) old)))
    unnamed h false false p q =
        let none = no_kind w ts follows (is_keyword keyword.EXCLUDE t) (is_keyword keyword.PRIMARY t) (is_keyword keyword.FOREIGN t) (is_keyword keyword.NOT t) in
        no_constraint (sym (plain_constraint t (w ∷ ts) h ∙ ap (found_in (t ∷ w ∷ ts) None) (kind_is t (w ∷ ts) ∙ (λ i. kind_of t (p i) (q i) (w ∷ ts)) ∙ none)) ∙ e)

    by : (b : Bool) → is_keyword keyword.CONSTRAINT t ≡ b → IsNamed t w x
    by true h = record {
      word = word_named t h;
      name = found_name (t ∷ w ∷ ts) (Some w.number) (constraint_kind ts) x (sym (named_constraint t w ts h follows.name) ∙ e);
    }
    by false h = absurd (unnamed h (is_keyword keyword.CHECK t) (is_keyword keyword.UNIQUE t) refl refl)
