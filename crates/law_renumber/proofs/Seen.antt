-- What reading sees of a symbol decides every test, and all that is read by a symbol.
use Rattle.std.proofs.Common.{◌≡◌, ◌∙◌, ℕ, List, sym, ap, refl, subst, map, Option}
use Rattle.std.specs.Option.{option_map}
use Rattle.sql_tree.specs.sql_keyword.declared.words.Keyword.{Keyword}
use Rattle.sql_token.specs.declared.terminal.Symbol.{Symbol}
use Rattle.sql_token.specs.declared.terminal.Symbol.TheVariants as s
use Rattle.sql_token.specs.declared.terminal.Terminal.{Terminal}
use Rattle.sql_tree.specs.declared.forms.WordClass.{WordClass}
use Rattle.sql_tree.specs.Tails as tails
use Rattle.sql_token.specs.Terminal.{is_keyword_symbol, is_name_symbol, is_opener_symbol, is_closer_symbol, is_round_symbol, is_semicolon_symbol, is_dot_symbol, is_unicode_name_symbol, is_keyword, is_name, is_opener, is_closer, is_round, is_semicolon, is_dot, is_unicode_name}
use Rattle.sql_tree.specs.ActionRows.{first_rows_at, general_rows_at}
use Rattle.sql_tree.specs.Column.{is_constraint_symbol}
use Rattle.sql_tree.specs.ColumnMarks.{is_value_end_symbol, kind_of_symbol}
use Rattle.sql_tree.specs.ColumnType.{symbol_type}
use Rattle.sql_tree.specs.Expression.{is_literal_symbol}
use Rattle.sql_tree.specs.Forms.{is_star_symbol, is_str_symbol, family_by}
use Rattle.sql_tree.specs.Groups.{is_open_square_symbol}
use Rattle.sql_tree.specs.Split.{Test, is_comma_symbol, is_verb_symbol, is_operator_symbol, is_colon_symbol, is_equals_symbol, ends_targets, is_open_round_symbol}
use Rattle.sql_tree.specs.Statement.{front_by}
use Rattle.sql_tree.specs.Tails.{is_one_symbol, target_symbol}
use Rattle.sql_tree.specs.Words.{is_class_symbol, is_of_class}
use Rattle.sql_tree.specs.Write.{is_query_symbol}
use Rattle.law_renumber.specs.Renumber.{seen, Keeps, ForKept, IsBlind}

-- ---- maps of terminals

-- A map of terminals that keeps what reading sees, such that the numbers that it gives are known by computation.
pub record Change : Type 0 where
  pub symbol : Terminal → Symbol
  pub number : ℕ → ℕ
  pub same : (t : Terminal) → seen (symbol t) ≡ seen t.symbol

abbrev pub changed : Change → Terminal → Terminal
changed f t = record { symbol = f.symbol t; number = f.number t.number }

-- for every such map
abbrev pub Changes : ((Terminal → Terminal) → (ℕ → ℕ) → Type 0) → Type 0
Changes Law = (f : Change) → Law (changed f) f.number

-- other numbers alone
abbrev pub numbers : (ℕ → ℕ) → Change
numbers f = record { symbol = λ t. t.symbol; number = f; same = λ t. refl }

pub change_of : (g : Terminal → Terminal) (f : ℕ → ℕ) → Keeps g f → Change
change_of g f k = record { symbol = λ t. (g t).symbol; number = f; same = k.symbol }

numbered_so : (t : Terminal) (n : ℕ) → t.number ≡ n → record t { number = n } ≡ t
numbered_so t n e = ap (λ (x : ℕ). record t { number = x }) (sym e)

-- Each map that keeps what reading sees is one of them.
pub for_kept : (Law : (Terminal → Terminal) → (ℕ → ℕ) → Type 0) → Changes Law → ForKept Law
unfolding change_of
for_kept Law h g f k = subst (λ (x : Terminal → Terminal). Law x f) (λ i t. numbered_so (g t) (f t.number) (k.number t) i) (h (change_of g f k))

-- A mark is blind to them.
abbrev pub Blind : Test → Type 0
Blind mark = (f : Change) (earlier : Option Terminal) (t : Terminal) (after : List Terminal) → mark (option_map (changed f) earlier) (changed f t) (map (changed f) after) ≡ mark earlier t after

pub for_blind : (mark : Test) → Blind mark → IsBlind mark
for_blind mark = for_kept (λ g f. (earlier : Option Terminal) (t : Terminal) (after : List Terminal) → mark (option_map g earlier) (g t) (map g after) ≡ mark earlier t after)

pub blind_of : (mark : Test) → IsBlind mark → Blind mark
blind_of mark h f = h (changed f) f.number (record { symbol = f.same; number = λ t. refl })

-- ---- tests

sees : {A : Type 0} (test : Symbol → A) → ((x : Symbol) → test (seen x) ≡ test x) → (f : Change) (t : Terminal) → test (f.symbol t) ≡ test t.symbol
sees test h f t = sym (h (f.symbol t)) ∙ ap test (f.same t) ∙ h t.symbol

comma_by : (x : Symbol) → is_comma_symbol (seen x) ≡ is_comma_symbol x
comma_by s.Quoted = refl
comma_by _ = refl

pub comma_sees : (f : Change) (t : Terminal) → is_comma_symbol (f.symbol t) ≡ is_comma_symbol t.symbol
comma_sees = sees is_comma_symbol comma_by

verb_by : (x : Symbol) → is_verb_symbol (seen x) ≡ is_verb_symbol x
verb_by s.Quoted = refl
verb_by _ = refl

pub verb_sees : (f : Change) (t : Terminal) → is_verb_symbol (f.symbol t) ≡ is_verb_symbol t.symbol
verb_sees = sees is_verb_symbol verb_by

operator_by : (x : Symbol) → is_operator_symbol (seen x) ≡ is_operator_symbol x
operator_by s.Quoted = refl
operator_by _ = refl

pub operator_sees : (f : Change) (t : Terminal) → is_operator_symbol (f.symbol t) ≡ is_operator_symbol t.symbol
operator_sees = sees is_operator_symbol operator_by

colon_by : (x : Symbol) → is_colon_symbol (seen x) ≡ is_colon_symbol x
colon_by s.Quoted = refl
colon_by _ = refl

pub colon_sees : (f : Change) (t : Terminal) → is_colon_symbol (f.symbol t) ≡ is_colon_symbol t.symbol
colon_sees = sees is_colon_symbol colon_by

equals_by : (x : Symbol) → is_equals_symbol (seen x) ≡ is_equals_symbol x
equals_by s.Quoted = refl
equals_by _ = refl

pub equals_sees : (f : Change) (t : Terminal) → is_equals_symbol (f.symbol t) ≡ is_equals_symbol t.symbol
equals_sees = sees is_equals_symbol equals_by

targets_end_by : (x : Symbol) → ends_targets (seen x) ≡ ends_targets x
targets_end_by s.Quoted = refl
targets_end_by _ = refl

pub targets_end_sees : (f : Change) (t : Terminal) → ends_targets (f.symbol t) ≡ ends_targets t.symbol
targets_end_sees = sees ends_targets targets_end_by

round_opener_by : (x : Symbol) → is_open_round_symbol (seen x) ≡ is_open_round_symbol x
round_opener_by s.Quoted = refl
round_opener_by _ = refl

pub round_opener_sees : (f : Change) (t : Terminal) → is_open_round_symbol (f.symbol t) ≡ is_open_round_symbol t.symbol
round_opener_sees = sees is_open_round_symbol round_opener_by

square_opener_by : (x : Symbol) → is_open_square_symbol (seen x) ≡ is_open_square_symbol x
square_opener_by s.Quoted = refl
square_opener_by _ = refl

pub square_opener_sees : (f : Change) (t : Terminal) → is_open_square_symbol (f.symbol t) ≡ is_open_square_symbol t.symbol
square_opener_sees = sees is_open_square_symbol square_opener_by

star_by : (x : Symbol) → is_star_symbol (seen x) ≡ is_star_symbol x
star_by s.Quoted = refl
star_by _ = refl

pub star_sees : (f : Change) (t : Terminal) → is_star_symbol (f.symbol t) ≡ is_star_symbol t.symbol
star_sees = sees is_star_symbol star_by

str_by : (x : Symbol) → is_str_symbol (seen x) ≡ is_str_symbol x
str_by s.Quoted = refl
str_by _ = refl

pub str_sees : (f : Change) (t : Terminal) → is_str_symbol (f.symbol t) ≡ is_str_symbol t.symbol
str_sees = sees is_str_symbol str_by

kin_by : (x : Symbol) → family_by (seen x) ≡ family_by x
kin_by s.Quoted = refl
kin_by _ = refl

pub kin_sees : (f : Change) (t : Terminal) → family_by (f.symbol t) ≡ family_by t.symbol
kin_sees = sees family_by kin_by

one_number_by : (x : Symbol) → is_one_symbol (seen x) ≡ is_one_symbol x
one_number_by s.Quoted = refl
one_number_by _ = refl

pub one_number_sees : (f : Change) (t : Terminal) → is_one_symbol (f.symbol t) ≡ is_one_symbol t.symbol
one_number_sees = sees is_one_symbol one_number_by

value_sign_by : (x : Symbol) → tails.is_equals_symbol (seen x) ≡ tails.is_equals_symbol x
value_sign_by s.Quoted = refl
value_sign_by _ = refl

pub value_sign_sees : (f : Change) (t : Terminal) → tails.is_equals_symbol (f.symbol t) ≡ tails.is_equals_symbol t.symbol
value_sign_sees = sees tails.is_equals_symbol value_sign_by

reindex_target_by : (x : Symbol) → target_symbol (seen x) ≡ target_symbol x
reindex_target_by s.Quoted = refl
reindex_target_by _ = refl

pub reindex_target_sees : (f : Change) (t : Terminal) → target_symbol (f.symbol t) ≡ target_symbol t.symbol
reindex_target_sees = sees target_symbol reindex_target_by

query_by : (x : Symbol) → is_query_symbol (seen x) ≡ is_query_symbol x
query_by s.Quoted = refl
query_by _ = refl

pub query_sees : (f : Change) (t : Terminal) → is_query_symbol (f.symbol t) ≡ is_query_symbol t.symbol
query_sees = sees is_query_symbol query_by

literal_by : (x : Symbol) → is_literal_symbol (seen x) ≡ is_literal_symbol x
literal_by s.Quoted = refl
literal_by _ = refl

pub literal_sees : (f : Change) (t : Terminal) → is_literal_symbol (f.symbol t) ≡ is_literal_symbol t.symbol
literal_sees = sees is_literal_symbol literal_by

value_end_by : (x : Symbol) → is_value_end_symbol (seen x) ≡ is_value_end_symbol x
value_end_by s.Quoted = refl
value_end_by _ = refl

pub value_end_sees : (f : Change) (t : Terminal) → is_value_end_symbol (f.symbol t) ≡ is_value_end_symbol t.symbol
value_end_sees = sees is_value_end_symbol value_end_by

constraint_word_by : (x : Symbol) → is_constraint_symbol (seen x) ≡ is_constraint_symbol x
constraint_word_by s.Quoted = refl
constraint_word_by _ = refl

pub constraint_word_sees : (f : Change) (t : Terminal) → is_constraint_symbol (f.symbol t) ≡ is_constraint_symbol t.symbol
constraint_word_sees = sees is_constraint_symbol constraint_word_by

first_rows_by : (x : Symbol) → first_rows_at (seen x) ≡ first_rows_at x
unfolding first_rows_at
first_rows_by s.Quoted = refl
first_rows_by _ = refl

pub first_rows_sees : (f : Change) (t : Terminal) → first_rows_at (f.symbol t) ≡ first_rows_at t.symbol
first_rows_sees = sees first_rows_at first_rows_by

general_rows_by : (x : Symbol) → general_rows_at (seen x) ≡ general_rows_at x
unfolding general_rows_at
general_rows_by s.Quoted = refl
general_rows_by _ = refl

pub general_rows_sees : (f : Change) (t : Terminal) → general_rows_at (f.symbol t) ≡ general_rows_at t.symbol
general_rows_sees = sees general_rows_at general_rows_by

name_by : (x : Symbol) → is_name_symbol (seen x) ≡ is_name_symbol x
name_by s.Quoted = refl
name_by _ = refl

pub name_sees : (f : Change) (t : Terminal) → is_name (changed f t) ≡ is_name t
unfolding is_name
name_sees = sees is_name_symbol name_by

opener_by : (x : Symbol) → is_opener_symbol (seen x) ≡ is_opener_symbol x
opener_by s.Quoted = refl
opener_by _ = refl

pub opener_sees : (f : Change) (t : Terminal) → is_opener (changed f t) ≡ is_opener t
unfolding is_opener
opener_sees = sees is_opener_symbol opener_by

closer_by : (x : Symbol) → is_closer_symbol (seen x) ≡ is_closer_symbol x
closer_by s.Quoted = refl
closer_by _ = refl

pub closer_sees : (f : Change) (t : Terminal) → is_closer (changed f t) ≡ is_closer t
unfolding is_closer
closer_sees = sees is_closer_symbol closer_by

round_by : (x : Symbol) → is_round_symbol (seen x) ≡ is_round_symbol x
round_by s.Quoted = refl
round_by _ = refl

pub round_sees : (f : Change) (t : Terminal) → is_round (changed f t) ≡ is_round t
unfolding is_round
round_sees = sees is_round_symbol round_by

semicolon_by : (x : Symbol) → is_semicolon_symbol (seen x) ≡ is_semicolon_symbol x
semicolon_by s.Quoted = refl
semicolon_by _ = refl

pub semicolon_sees : (f : Change) (t : Terminal) → is_semicolon (changed f t) ≡ is_semicolon t
unfolding is_semicolon
semicolon_sees = sees is_semicolon_symbol semicolon_by

dot_by : (x : Symbol) → is_dot_symbol (seen x) ≡ is_dot_symbol x
dot_by s.Quoted = refl
dot_by _ = refl

pub dot_sees : (f : Change) (t : Terminal) → is_dot (changed f t) ≡ is_dot t
unfolding is_dot
dot_sees = sees is_dot_symbol dot_by

unicode_name_by : (x : Symbol) → is_unicode_name_symbol (seen x) ≡ is_unicode_name_symbol x
unicode_name_by s.Quoted = refl
unicode_name_by _ = refl

pub unicode_name_sees : (f : Change) (t : Terminal) → is_unicode_name (changed f t) ≡ is_unicode_name t
unfolding is_unicode_name
unicode_name_sees = sees is_unicode_name_symbol unicode_name_by

keyword_by : (w : Keyword) (x : Symbol) → is_keyword_symbol w (seen x) ≡ is_keyword_symbol w x
keyword_by w s.Quoted = refl
keyword_by w _ = refl

pub keyword_sees : (f : Change) (w : Keyword) (t : Terminal) → is_keyword w (changed f t) ≡ is_keyword w t
unfolding is_keyword
keyword_sees f w = sees (is_keyword_symbol w) (keyword_by w) f

class_by : (c : WordClass) (x : Symbol) → is_class_symbol c (seen x) ≡ is_class_symbol c x
class_by c s.Quoted = refl
class_by c _ = refl

pub class_sees : (f : Change) (c : WordClass) (t : Terminal) → is_of_class c (changed f t) ≡ is_of_class c t
unfolding is_of_class
class_sees f c = sees (is_class_symbol c) (class_by c) f

-- ---- what is read by the first symbol

constraint_by : (after : List Terminal) (x : Symbol) → kind_of_symbol (seen x) after ≡ kind_of_symbol x after
constraint_by after s.Quoted = refl
constraint_by after _ = refl

pub constraint_sees : (f : Change) (t : Terminal) (after : List Terminal) → kind_of_symbol (f.symbol t) after ≡ kind_of_symbol t.symbol after
constraint_sees f t after = sees (λ x. kind_of_symbol x after) (constraint_by after) f t

type_by : (ts rest : List Terminal) (x : Symbol) → symbol_type (seen x) ts rest ≡ symbol_type x ts rest
type_by ts rest s.Quoted = refl
type_by ts rest _ = refl

pub type_sees : (f : Change) (t : Terminal) (ts rest : List Terminal) → symbol_type (f.symbol t) ts rest ≡ symbol_type t.symbol ts rest
type_sees f t ts rest = sees (λ x. symbol_type x ts rest) (type_by ts rest) f t

front_of : (ts : List Terminal) (x : Symbol) → front_by (seen x) ts ≡ front_by x ts
unfolding front_by
front_of ts s.Quoted = refl
front_of ts _ = refl

pub front_sees : (f : Change) (t : Terminal) (ts : List Terminal) → front_by (f.symbol t) ts ≡ front_by t.symbol ts
front_sees f t ts = sees (λ x. front_by x ts) (front_of ts) f t
