-- Where in the terminals of a type its last name is, if it is a path.
use Rattle.std.proofs.Common.{◌≡◌, ◌⊎◌, inl, inr, ℕ, ◌-◌, Bool, true, false, cond, List, [], ◌∷◌, ◌++◌, length, take, drop, append_assoc, sym, refl, ap, ◌∙◌, Option, Some, None}
use Rattle.std.proofs.lemmas.Bool.{false≢true}
use Rattle.std.proofs.lemmas.List.{take-append-drop}
use Rattle.std.specs.Prelude.{◌==◌, ◌&&◌, ◌||◌, nat_lt}
use Rattle.std.specs.Option.{option_and_then}
use Rattle.law_edit_inserts.specs.sql_keyword.declared.words.Keyword.{Keyword}
use Rattle.law_edit_inserts.specs.sql_keyword.declared.words.Keyword.TheVariants as k
use Rattle.law_edit_inserts.specs.sql_keyword.declared.words.Other.TheVariants as others
use Rattle.law_edit_inserts.specs.sql_keyword.declared.words.TheConstants.Keyword as keyword
use Rattle.law_edit_inserts.specs.sql_token.declared.token.Span.{Span}
use Rattle.law_edit_inserts.specs.sql_token.declared.terminal.Symbol.{Symbol}
use Rattle.law_edit_inserts.specs.sql_token.declared.terminal.Symbol.TheVariants as s
use Rattle.law_edit_inserts.specs.sql_token.declared.terminal.Terminal.{Terminal}
use Rattle.law_edit_inserts.specs.sql_token.Terminal.{is_name, is_dot, is_opener, is_closer, is_name_symbol, is_dot_symbol}
use Rattle.law_edit_inserts.specs.sql_token.Depth.{span_of}
use Rattle.law_edit_inserts.specs.sql_tree.declared.nodes.ColType.{ColType}
use Rattle.law_edit_inserts.specs.sql_tree.declared.nodes.Column.{Column}
use Rattle.law_edit_inserts.specs.sql_tree.declared.nodes.TyKind.{TyKind}
use Rattle.law_edit_inserts.specs.sql_tree.declared.nodes.TyKind.TheVariants as kind
use Rattle.law_edit_inserts.specs.sql_tree.Column.{column}
use Rattle.law_edit_inserts.specs.sql_tree.ColumnType.{plain_of, arguments, with_arguments, after_varying, character_kind, character_type, double_type, zone, list_len, maybe_span, time_type, word_type, symbol_type, path_type, plain_type, before_groups, arrayed, array_of, array_by_groups, has_word_array, array_by_word, type_len, column_type}
use Rattle.law_edit_inserts.specs.sql_tree.Forms.{either_of, names_end}
use Rattle.law_edit_inserts.specs.sql_tree.Groups.{path_first}
use Rattle.law_edit_inserts.specs.sql_tree.Split.{begins_with}
use Rattle.law_edit_inserts.proofs.of_law_edit_cuts.Nested.{opened_is, closed_is}
use Rattle.law_edit_inserts.proofs.Leading.{Given, given_then, given_any, given_is}
use Rattle.law_edit_types.specs.Runs.{last_or}
use Rattle.law_edit_types.proofs.Counts.{Flat, none_flat}
use Rattle.law_edit_types.proofs.TypePlaces.{read_of}
use Rattle.law_edit_types.proofs.TypeShapes.{no_brackets}

-- ---- names and dots

-- what comes before a name of a path: nothing of it, or a dot
abbrev pub IsDotted : List Terminal → Type 0
IsDotted front = (t : Terminal) → (last_or t front ≡ t) ⊎ (is_dot (last_or t front) ≡ true)

-- The token n is a name of these terminals, the first one or one after a dot.
pub record NameOf (ts : List Terminal) (n : ℕ) : Type 0 where
  pub front : List Terminal
  pub r : Terminal
  pub rest : List Terminal
  pub parts : ts ≡ front ++ r ∷ rest
  pub number : r.number ≡ n
  pub name : is_name r ≡ true
  pub flat : Flat front
  pub dotted : IsDotted front

-- more terminals may follow
name_before : (ts more : List Terminal) (n : ℕ) → NameOf ts n → NameOf (ts ++ more) n
name_before ts more n at = record {
  front = at.front;
  r = at.r;
  rest = at.rest ++ more;
  parts = ap (λ (x : List Terminal). x ++ more) at.parts ∙ append_assoc at.front (at.r ∷ at.rest) more;
  number = at.number;
  name = at.name;
  flat = at.flat;
  dotted = at.dotted;
}

name_flat : (t : Terminal) → is_name t ≡ true → (is_opener t ≡ false) × (is_closer t ≡ false)
unfolding is_name is_opener is_closer
name_flat t h = no_brackets t.symbol (ap (λ (b : Bool). b || is_dot_symbol t.symbol) h)

dot_flat : (t : Terminal) → is_dot t ≡ true → (is_opener t ≡ false) × (is_closer t ≡ false)
unfolding is_dot is_opener is_closer
dot_flat t h = no_brackets t.symbol (by (is_name_symbol t.symbol) (is_dot_symbol t.symbol) h)
  where
    by : (a b : Bool) → b ≡ true → (a || b) ≡ true
    by true b h = refl
    by false b h = h

-- after a name and a dot
name_after : (e d : Terminal) (ts : List Terminal) (n : ℕ) → is_name e ≡ true → is_dot d ≡ true → NameOf ts n → NameOf (e ∷ d ∷ ts) n
name_after e d ts n named dot at =
    let p = name_flat e named in
    let q = dot_flat d dot in
    record {
      front = e ∷ d ∷ at.front;
      r = at.r;
      rest = at.rest;
      parts = ap (λ (x : List Terminal). e ∷ d ∷ x) at.parts;
      number = at.number;
      name = at.name;
      flat = record {
        opens = opened_is e (d ∷ at.front) false p.0 ∙ opened_is d at.front false q.0 ∙ at.flat.opens;
        closes = closed_is e (d ∷ at.front) false p.1 ∙ closed_is d at.front false q.1 ∙ at.flat.closes;
      };
      dotted = λ t. inr (by (at.dotted d));
    }
  where
    by : (last_or d at.front ≡ d) ⊎ (is_dot (last_or d at.front) ≡ true) → is_dot (last_or d at.front) ≡ true
    by (inl same) = ap is_dot same ∙ dot
    by (inr h) = h

-- the last of the names that come next
last_name : (e : Terminal) (n : ℕ) (ts : List Terminal) → e.number ≡ n → is_name e ≡ true → NameOf (e ∷ ts) (names_end n ts).0
last_name e n [] p q = record { front = []; r = e; rest = []; parts = refl; number = p; name = q; flat = none_flat; dotted = λ t. inl refl }
last_name e n (d ∷ []) p q = record { front = []; r = e; rest = d ∷ []; parts = refl; number = p; name = q; flat = none_flat; dotted = λ t. inl refl }
last_name e n (d ∷ u ∷ ts) p q = by (is_dot d) (is_name u) refl refl (λ h. last_name u u.number ts refl h)
  where
    here : NameOf (e ∷ d ∷ u ∷ ts) n
    here = record { front = []; r = e; rest = d ∷ u ∷ ts; parts = refl; number = p; name = q; flat = none_flat; dotted = λ t. inl refl }

    by : (a b : Bool) → is_dot d ≡ a → is_name u ≡ b → (is_name u ≡ true → NameOf (u ∷ ts) (names_end u.number ts).0) → NameOf (e ∷ d ∷ u ∷ ts) (cond (a && b) (names_end u.number ts) (n, d ∷ u ∷ ts)).0
    by true true dot named each = name_after e d (u ∷ ts) (names_end u.number ts).0 q dot (each named)
    by true false dot named each = here
    by false b dot named each = here

-- ---- types

abbrev PathName : List Terminal → ColType → Type 0
PathName ts ty = ty.kind ≡ kind.Path → NameOf ts ty.name

abbrev is_path : TyKind → Bool
is_path kind.Path = true
is_path _ = false

-- a type of another kind
other_kind : (ts : List Terminal) (ty : ColType) → is_path ty.kind ≡ false → PathName ts ty
other_kind ts ty h e = absurd (false≢true (sym h ∙ ap is_path e))

with_list : (kind : TyKind) (name : ℕ) (all ts rest : List Terminal) → is_path kind ≡ false → Given (PathName all) (with_arguments kind name ts rest)
with_list kind name all ts rest h = given_any (PathName all) (λ args. Some (plain_of kind name (span_of ts) args false)) (arguments rest) (λ args. other_kind all (plain_of kind name (span_of ts) args false) h)

word_name : (w : Keyword) (all ts rest : List Terminal) → Given (PathName all) (word_type w ts rest)
unfolding word_type character_type double_type time_type
word_name (k.Other others.Varchar) all ts rest = with_list kind.Varchar (span_of ts).first all ts rest refl
word_name (k.Other others.Character) all ts rest = with_list (character_kind rest) (span_of ts).first all ts (after_varying rest) (by (begins_with keyword.VARYING rest))
  where
    by : (b : Bool) → is_path (cond b kind.Varchar kind.Character) ≡ false
    by true = refl
    by false = refl
word_name (k.Other others.Char) all ts rest = with_list (character_kind rest) (span_of ts).first all ts (after_varying rest) (by (begins_with keyword.VARYING rest))
  where
    by : (b : Bool) → is_path (cond b kind.Varchar kind.Character) ≡ false
    by true = refl
    by false = refl
word_name (k.Other others.Bit) all ts rest = with_list kind.Bit (span_of ts).first all ts (after_varying rest) refl
word_name (k.Other others.Double) all ts rest = by (begins_with keyword.PRECISION rest && length rest == 1)
  where
    by : (b : Bool) → Given (PathName all) (cond b (Some (plain_of kind.Double (span_of ts).first (span_of ts) None false)) None)
    by true = other_kind all (plain_of kind.Double (span_of ts).first (span_of ts) None false) refl
    by false = tt
word_name (k.Other others.Time) all ts rest = given_any (PathName all) _ (zone (drop (list_len rest) rest)) (λ z. other_kind all (plain_of kind.Time (span_of ts).first (span_of ts) (maybe_span (take (list_len rest) rest)) z) refl)
word_name (k.Other others.Timestamp) all ts rest = given_any (PathName all) _ (zone (drop (list_len rest) rest)) (λ z. other_kind all (plain_of kind.Timestamp (span_of ts).first (span_of ts) (maybe_span (take (list_len rest) rest)) z) refl)
word_name (k.Other others.Interval) all ts rest = other_kind all (plain_of kind.Interval (span_of ts).first (span_of ts) None false) refl
word_name w all ts rest = tt

symbol_name : (x : Symbol) (all ts rest : List Terminal) → Given (PathName all) (symbol_type x ts rest)
symbol_name (s.Keyword w) all ts rest = word_name w all ts rest
symbol_name x all ts rest = tt

path_name : (t : Terminal) (ts : List Terminal) → Given (PathName (t ∷ ts)) (path_type (t ∷ ts))
unfolding path_type path_first
path_name t ts = by (is_name t) refl
  where
    by : (b : Bool) → is_name t ≡ b → Given (PathName (t ∷ ts)) (option_and_then (λ (r : Span × List Terminal). with_arguments kind.Path r.0.last (t ∷ ts) r.1) (cond b (Some (record { first = t.number; last = (names_end t.number ts).0 }, (names_end t.number ts).1)) None))
    by false h = tt
    by true h = given_any (PathName (t ∷ ts)) (λ args. Some (plain_of kind.Path (names_end t.number ts).0 (span_of (t ∷ ts)) args false)) (arguments (names_end t.number ts).1) (λ args e. last_name t t.number ts refl h)

-- of two
either_name : (ts : List Terminal) (a b : Option ColType) → Given (PathName ts) a → Given (PathName ts) b → Given (PathName ts) (either_of a b)
either_name ts None b g h = h
either_name ts (Some a) b g h = g

plain_name : (ts : List Terminal) → Given (PathName ts) (plain_type ts)
unfolding plain_type
plain_name [] = tt
plain_name (t ∷ ts) = either_name (t ∷ ts) (symbol_type t.symbol (t ∷ ts) ts) (path_type (t ∷ ts)) (symbol_name t.symbol (t ∷ ts) (t ∷ ts) ts) (path_name t ts)

-- the first terminals of a list
first_name : (j : ℕ) (ts : List Terminal) (n : ℕ) → NameOf (take j ts) n → NameOf ts n
first_name j ts n at =
    let more = name_before (take j ts) (drop j ts) n at in
    let same = take-append-drop j ts in
    record { front = more.front; r = more.r; rest = more.rest; parts = sym same ∙ more.parts; number = more.number; name = more.name; flat = more.flat; dotted = more.dotted }

array_name : (j : ℕ) (ts : List Terminal) → Given (PathName ts) (array_of ts (take j ts))
unfolding array_of
array_name j ts =
    given_then (PathName (take j ts)) (PathName ts) (λ ty. Some (arrayed ts ty)) (plain_type (take j ts)) (plain_name (take j ts)) (λ ty h e. first_name j ts ty.name (h e))

word_array_name : (ts : List Terminal) → Given (PathName ts) (array_by_word ts)
unfolding array_by_word
word_array_name ts = by (has_word_array ts (before_groups ts))
  where
    by : (b : Bool) → Given (PathName ts) (cond b (array_of ts (take (before_groups ts - 1) ts)) None)
    by true = array_name (before_groups ts - 1) ts
    by false = tt

groups_name : (ts : List Terminal) → Given (PathName ts) (array_by_groups ts)
unfolding array_by_groups
groups_name ts = by (nat_lt (before_groups ts) (length ts))
  where
    by : (b : Bool) → Given (PathName ts) (cond b (array_of ts (take (before_groups ts) ts)) None)
    by true = array_name (before_groups ts) ts
    by false = tt

all_names : (ts : List Terminal) → Given (PathName ts) (column_type ts)
unfolding column_type
all_names ts = either_name ts (array_by_word ts) (either_of (array_by_groups ts) (plain_type ts)) (word_array_name ts) (either_name ts (array_by_groups ts) (plain_type ts) (groups_name ts) (plain_name ts))

-- The last name of a type that comes first, if it is a path.
pub type_name : (us : List Terminal) (ty : ColType) → column_type (take (type_len us) us) ≡ Some ty → ty.kind ≡ kind.Path → NameOf us ty.name
type_name us ty h e = first_name (type_len us) us ty.name (given_is (PathName (take (type_len us) us)) (column_type (take (type_len us) us)) ty (all_names (take (type_len us) us)) h e)

-- ---- columns

pub record ColumnName (t : Terminal) (us : List Terminal) (n : ℕ) : Type 0 where
  pub name : is_name t ≡ true
  pub type : NameOf us n

pub column_name : (t : Terminal) (us : List Terminal) (c : Column) (ty : ColType) → column (t ∷ us) ≡ Some c → c.ty ≡ Some ty → ty.kind ≡ kind.Path → ColumnName t us ty.name
column_name t us c ty e typed path =
    let read = read_of t us c e in
    record { name = read.name; type = type_name us ty (sym read.ty ∙ typed) path }
