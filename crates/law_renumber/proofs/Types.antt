-- Column types of changed terminals.
use Rattle.std.proofs.Common.{◌≡◌, ℕ, Bool, List, [], ◌∷◌, map, take, drop, not, refl, ap, Option, Some, None}
use Rattle.std.specs.Option.{option_map, option_and_then}
use Rattle.std.proofs.lemmas.List.{length-map, take-map, drop-map}
use Rattle.sql_tree.specs.sql_keyword.declared.words.Keyword.{Keyword}
use Rattle.sql_tree.specs.sql_keyword.declared.words.Keyword.TheVariants as k
use Rattle.sql_tree.specs.sql_keyword.declared.words.Other.TheVariants as others
use Rattle.sql_tree.specs.sql_keyword.declared.words.TheConstants.Keyword as keyword
use Rattle.sql_token.specs.declared.token.Span.{Span}
use Rattle.sql_token.specs.declared.terminal.Symbol.{Symbol}
use Rattle.sql_token.specs.declared.terminal.Symbol.TheVariants as s
use Rattle.sql_token.specs.declared.terminal.Terminal.{Terminal}
use Rattle.sql_token.specs.Depth.{span_of}
use Rattle.sql_tree.specs.declared.nodes.TyKind.{TyKind}
use Rattle.sql_tree.specs.declared.nodes.TyKind.TheVariants as ty
use Rattle.sql_tree.specs.Groups.{path_first}
use Rattle.sql_tree.specs.Split.{before}
use Rattle.sql_tree.specs.ColumnMarks.{type_end, value_end}
use Rattle.sql_tree.specs.ColumnType.{type_len, plain_of, arguments, with_arguments, after_varying, character_kind, character_type, double_type, is_time_zone, zone, list_len, maybe_span, time_type, word_type, symbol_type, path_type, plain_type, no_group, only_groups, before_groups, array_of, array_by_groups, ends_with, has_word_array, array_by_word, column_type}
use Rattle.law_renumber.specs.Moved.{span_moved, type_moved}
use Rattle.law_renumber.specs.Renumber.{renumber}
use Rattle.law_renumber.specs.Trees.{TypeLenRenumbers, TypeRenumbers}
use Rattle.law_renumber.proofs.Seen.{numbers, value_end_sees, square_opener_sees, type_sees, Change, Changes, Blind, changed}
use Rattle.law_renumber.proofs.Basics.{moves, bind_moved, either_moved, HasEnds, ends}
use Rattle.law_renumber.proofs.Marks.{begins_sees, begins_list_sees, closing_renumbers, before_renumbers, has_moved}
use Rattle.law_renumber.proofs.Groups.{is_list_sees, path_first_moved}

-- ---- where a type ends

pub value_end_is_blind : Blind value_end
unfolding value_end
value_end_is_blind f earlier t after = value_end_sees f t

pub type_end_is_blind : Blind type_end
unfolding type_end
type_end_is_blind f earlier t after = simp moves

pub type_len_renumbers : Changes TypeLenRenumbers
unfolding type_len
type_len_renumbers f ts = before_renumbers type_end type_end_is_blind f ts

-- ---- plain types

arguments_moved : (f : Change) (ts : List Terminal) →
    arguments (map (changed f) ts) ≡ option_map (option_map (span_moved f.number)) (arguments ts)
unfolding arguments
arguments_moved f [] = refl
arguments_moved f (t ∷ ts) = let e = ends f t ts in simp (is_list_sees f (t ∷ ts), e.last, moves)

with_arguments_moved : (f : Change) (kind : TyKind) (name moved : ℕ) (ts rest : List Terminal) → HasEnds f ts → moved ≡ f.number name →
    with_arguments kind moved (map (changed f) ts) (map (changed f) rest) ≡ option_map (type_moved f.number) (with_arguments kind name ts rest)
with_arguments_moved f kind name moved ts rest e is = simp (is, arguments_moved, e.first, e.last, moves)

after_varying_moved : (f : Change) (ts : List Terminal) → after_varying (map (changed f) ts) ≡ map (changed f) (after_varying ts)
unfolding after_varying
after_varying_moved f ts = simp (moves, begins_sees)

character_type_moved : (f : Change) (ts rest : List Terminal) → HasEnds f ts →
    character_type (map (changed f) ts) (map (changed f) rest) ≡ option_map (type_moved f.number) (character_type ts rest)
unfolding character_type
character_type_moved f ts rest e =
    rw (begins_sees f keyword.VARYING rest, after_varying_moved f rest)
    (with_arguments_moved f (character_kind rest) _ _ ts (after_varying rest) e e.first)

double_type_moved : (f : Change) (ts rest : List Terminal) → HasEnds f ts →
    double_type (map (changed f) ts) (map (changed f) rest) ≡ option_map (type_moved f.number) (double_type ts rest)
unfolding double_type
double_type_moved f ts rest e = simp (begins_sees, e.first, e.last, moves)

time_zone_sees : (f : Change) (ts : List Terminal) → is_time_zone (map (changed f) ts) ≡ is_time_zone ts
time_zone_sees f [] = refl
time_zone_sees f (t ∷ ts) = simp (begins_sees f keyword.ZONE ts, length-map ts (changed f), moves)

zone_sees : (f : Change) (ts : List Terminal) → zone (map (changed f) ts) ≡ zone ts
unfolding zone
zone_sees f [] = refl
zone_sees f (t ∷ ts) = simp (time_zone_sees f ts, moves)

list_len_sees : (f : Change) (ts : List Terminal) → list_len (map (changed f) ts) ≡ list_len ts
unfolding list_len
list_len_sees f ts = simp (begins_list_sees, closing_renumbers)

maybe_span_moved : (f : Change) (ts : List Terminal) → maybe_span (map (changed f) ts) ≡ option_map (span_moved f.number) (maybe_span ts)
maybe_span_moved f [] = refl
maybe_span_moved f (t ∷ ts) = let e = ends f t ts in simp (length-map, e.last)

timed : (f : Change) (kind : TyKind) (ts : List Terminal) (args : Option Span) (with_zone : Option Bool) → HasEnds f ts →
    option_and_then (λ z. Some (plain_of kind (span_of (map (changed f) ts)).first (span_of (map (changed f) ts)) (option_map (span_moved f.number) args) z)) with_zone
    ≡ option_map (type_moved f.number) (option_and_then (λ z. Some (plain_of kind (span_of ts).first (span_of ts) args z)) with_zone)
timed f kind ts args with_zone e = simp (length-map, e.first, e.last, moves)

time_type_moved : (f : Change) (kind : TyKind) (ts rest : List Terminal) → HasEnds f ts →
    time_type kind (map (changed f) ts) (map (changed f) rest) ≡ option_map (type_moved f.number) (time_type kind ts rest)
unfolding time_type
time_type_moved f kind ts rest e =
    rw (
      list_len_sees f rest,
      take-map (changed f) (list_len rest) rest,
      drop-map (changed f) (list_len rest) rest,
      zone_sees f (drop (list_len rest) rest),
      maybe_span_moved f (take (list_len rest) rest),
    )
    (timed f kind ts (maybe_span (take (list_len rest) rest)) (zone (drop (list_len rest) rest)) e)

word_type_moved : (f : Change) (w : Keyword) (ts rest : List Terminal) → HasEnds f ts →
    word_type w (map (changed f) ts) (map (changed f) rest) ≡ option_map (type_moved f.number) (word_type w ts rest)
unfolding word_type
word_type_moved f (k.Other others.Varchar) ts rest e = with_arguments_moved f ty.Varchar _ _ ts rest e e.first
word_type_moved f (k.Other others.Character) ts rest e = character_type_moved f ts rest e
word_type_moved f (k.Other others.Char) ts rest e = character_type_moved f ts rest e
word_type_moved f (k.Other others.Bit) ts rest e =
    rw (after_varying_moved f rest) (with_arguments_moved f ty.Bit _ _ ts (after_varying rest) e e.first)
word_type_moved f (k.Other others.Double) ts rest e = double_type_moved f ts rest e
word_type_moved f (k.Other others.Time) ts rest e = time_type_moved f ty.Time ts rest e
word_type_moved f (k.Other others.Timestamp) ts rest e = time_type_moved f ty.Timestamp ts rest e
word_type_moved f (k.Other others.Interval) ts rest e = simp (length-map, e.first, e.last)
word_type_moved f _ ts rest e = refl

symbol_type_moved : (f : Change) (x : Symbol) (ts rest : List Terminal) → HasEnds f ts →
    symbol_type x (map (changed f) ts) (map (changed f) rest) ≡ option_map (type_moved f.number) (symbol_type x ts rest)
symbol_type_moved f (s.Keyword w) ts rest e = word_type_moved f w ts rest e
symbol_type_moved f _ ts rest e = refl

path_type_moved : (f : Change) (t : Terminal) (ts : List Terminal) →
    path_type (map (changed f) (t ∷ ts)) ≡ option_map (type_moved f.number) (path_type (t ∷ ts))
unfolding path_type
path_type_moved f t ts =
    rw (path_first_moved f (t ∷ ts))
    (bind_moved _ _ _ _ (λ r. with_arguments_moved f ty.Path _ _ (t ∷ ts) r.1 (ends f t ts) refl) (path_first (t ∷ ts)))

plain_type_moved : (f : Change) (ts : List Terminal) → plain_type (map (changed f) ts) ≡ option_map (type_moved f.number) (plain_type ts)
unfolding plain_type
plain_type_moved f [] = refl
plain_type_moved f (t ∷ ts) =
    rw (type_sees f t (map (changed f) (t ∷ ts)) (map (changed f) ts), symbol_type_moved f t.symbol (t ∷ ts) ts (ends f t ts), path_type_moved f t ts)
    (either_moved (type_moved f.number) (symbol_type t.symbol (t ∷ ts) ts) (path_type (t ∷ ts)))

-- ---- arrays

pub no_group_is_blind : Blind no_group
unfolding no_group
no_group_is_blind f earlier t after = ap not (square_opener_sees f t)

pub only_groups_is_blind : Blind only_groups
unfolding only_groups
only_groups_is_blind f earlier t after = ap not (has_moved no_group no_group_is_blind f (t ∷ after))

before_groups_sees : (f : Change) (ts : List Terminal) → before_groups (map (changed f) ts) ≡ before_groups ts
unfolding before_groups
before_groups_sees f ts = before_renumbers only_groups only_groups_is_blind f ts

array_of_moved : (f : Change) (ts inner : List Terminal) → HasEnds f ts →
    array_of (map (changed f) ts) (map (changed f) inner) ≡ option_map (type_moved f.number) (array_of ts inner)
unfolding array_of
array_of_moved f ts inner e = simp (plain_type_moved, e.first, e.last, moves)

array_by_groups_moved : (f : Change) (ts : List Terminal) → HasEnds f ts →
    array_by_groups (map (changed f) ts) ≡ option_map (type_moved f.number) (array_by_groups ts)
unfolding array_by_groups
array_by_groups_moved f ts e = simp (before_groups_sees, take-map, length-map, array_of_moved, moves)

ends_with_sees : (f : Change) (w : Keyword) (ts : List Terminal) → ends_with w (map (changed f) ts) ≡ ends_with w ts
unfolding ends_with
ends_with_sees f w ts = simp (moves, begins_sees)

has_word_array_sees : (f : Change) (ts : List Terminal) (n : ℕ) → has_word_array (map (changed f) ts) n ≡ has_word_array ts n
has_word_array_sees f ts n = simp (moves, ends_with_sees, closing_renumbers)

array_by_word_moved : (f : Change) (ts : List Terminal) → HasEnds f ts →
    array_by_word (map (changed f) ts) ≡ option_map (type_moved f.number) (array_by_word ts)
unfolding array_by_word
array_by_word_moved f ts e = simp (before_groups_sees, take-map, drop-map, length-map, ends_with_sees, closing_renumbers, array_of_moved, moves)

pub no_type : column_type [] ≡ None
unfolding column_type array_by_word array_by_groups array_of plain_type before_groups before ends_with
no_type = refl

some_type : (f : Change) (ts : List Terminal) → HasEnds f ts →
    column_type (map (changed f) ts) ≡ option_map (type_moved f.number) (column_type ts)
unfolding column_type
some_type f ts e = simp (array_by_word_moved, array_by_groups_moved, plain_type_moved, either_moved)

pub type_renumbers : Changes TypeRenumbers
type_renumbers f [] = rw no_type refl
type_renumbers f (t ∷ ts) = some_type f (t ∷ ts) (ends f t ts)

pub type_numbers : (f : ℕ → ℕ) (ts : List Terminal) → column_type (map (renumber f) ts) ≡ option_map (type_moved f) (column_type ts)
type_numbers f ts = type_renumbers (numbers f) ts
