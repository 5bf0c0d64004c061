-- Constraints of tables and of columns, of changed terminals.
use Rattle.std.proofs.Common.{◌≡◌, ◌∙◌, ℕ, List, [], ◌∷◌, map, refl, ap, Option, Some, None}
use Rattle.std.specs.Option.{option_map, option_and_then}
use Rattle.std.proofs.lemmas.List.{length-map}
use Rattle.sql_tree.specs.sql_keyword.declared.words.Keyword.{Keyword}
use Rattle.sql_tree.specs.sql_keyword.declared.words.Keyword.TheVariants as k
use Rattle.sql_tree.specs.sql_keyword.declared.words.Other.TheVariants as others
use Rattle.sql_tree.specs.sql_keyword.declared.words.TheConstants.Keyword as keyword
use Rattle.sql_token.specs.declared.terminal.Symbol.{Symbol}
use Rattle.sql_token.specs.declared.terminal.Symbol.TheVariants as s
use Rattle.sql_token.specs.declared.terminal.Terminal.{Terminal}
use Rattle.sql_tree.specs.declared.nodes.ConKind.{ConKind}
use Rattle.sql_tree.specs.declared.nodes.ConKind.TheVariants as con
use Rattle.sql_tree.specs.Split.{not_valid}
use Rattle.sql_tree.specs.Pieces.{pieces}
use Rattle.sql_tree.specs.ColumnMarks.{value_end, kind_of_word, kind_of_symbol, kind_led, first_kind, follows, is_bound, kind_after_name, constraint_start, constraint_head}
use Rattle.sql_tree.specs.Constraint.{named, constraint_name, is_exclusion, after_exclude, after_two, kind_or, two_word_kind, constraint_kind, by_index, default_value, value_in, value_of, value_span, constraint_in, table_constraint_in, constraint_after, table_constraint, after_kind, column_kind, column_constraint_in, column_constraint_after, column_constraint, column_constraints}
use Rattle.law_renumber.specs.Moved.{span_moved, expr_moved, constraint_moved}
use Rattle.law_renumber.specs.Trees.{ConstraintRenumbers}
use Rattle.law_renumber.proofs.Seen.{constraint_sees, Change, Changes, Blind, changed}
use Rattle.law_renumber.proofs.Basics.{bind_moved, moves, all_moved, after_word_moved, HasEnds, ends}
use Rattle.law_renumber.proofs.Marks.{begins_sees, not_valid_is_blind, before_renumbers}
use Rattle.law_renumber.proofs.Groups.{is_empty_moved, inside_list_moved}
use Rattle.law_renumber.proofs.Pieces.{before_after_head_sees, BlindHead, pieces_moved}
use Rattle.law_renumber.proofs.Expressions.{expression_renumbers}
use Rattle.law_renumber.proofs.Types.{value_end_is_blind}

-- ---- words

pub after_two_moved : (f : Change) (v w : Keyword) (ts : List Terminal) →
    after_two v w (map (changed f) ts) ≡ option_map (map (changed f)) (after_two v w ts)
unfolding after_two
after_two_moved f v w ts = simp (moves, after_word_moved)

pub exclusion_sees : (f : Change) (ts : List Terminal) → is_exclusion (map (changed f) ts) ≡ is_exclusion ts
exclusion_sees f [] = refl
exclusion_sees f (t ∷ ts) = simp moves

after_exclude_moved : (f : Change) (ts : List Terminal) →
    after_exclude (map (changed f) ts) ≡ option_map (map (changed f)) (after_exclude ts)
unfolding after_exclude
after_exclude_moved f ts = simp (moves, after_word_moved, exclusion_sees)

-- ---- names

abbrev name_moved : Change → Option ℕ × List Terminal → Option ℕ × List Terminal
name_moved f p = (option_map f.number p.0, map (changed f) p.1)

named_moved : (f : Change) (ts : List Terminal) → named (map (changed f) ts) ≡ option_map (name_moved f) (named ts)
unfolding named
named_moved f [] = refl
named_moved f (t ∷ ts) = simp moves

constraint_name_moved : (f : Change) (ts : List Terminal) →
    constraint_name (map (changed f) ts) ≡ option_map (name_moved f) (constraint_name ts)
unfolding constraint_name
constraint_name_moved f [] = refl
constraint_name_moved f (t ∷ ts) = simp (named_moved f ts, moves)

-- ---- kinds

abbrev kind_moved : Change → ConKind × List Terminal → ConKind × List Terminal
kind_moved f p = (p.0, map (changed f) p.1)

kind_or_moved : (f : Change) (kind : ConKind) (x : Option (List Terminal)) (other : Option (ConKind × List Terminal)) →
    kind_or kind (option_map (map (changed f)) x) (option_map (kind_moved f) other) ≡ option_map (kind_moved f) (kind_or kind x other)
kind_or_moved f kind (Some x) other = refl
kind_or_moved f kind None other = refl

two_word_kind_moved : (f : Change) (ts : List Terminal) →
    two_word_kind (map (changed f) ts) ≡ option_map (kind_moved f) (two_word_kind ts)
unfolding two_word_kind
two_word_kind_moved f ts = simp (after_two_moved, kind_or_moved f con.NotNull (after_two keyword.NOT keyword.NULL ts) None, kind_or_moved)

constraint_kind_moved : (f : Change) (ts : List Terminal) →
    constraint_kind (map (changed f) ts) ≡ option_map (kind_moved f) (constraint_kind ts)
unfolding constraint_kind
constraint_kind_moved f ts = simp (after_word_moved, after_exclude_moved, two_word_kind_moved, kind_or_moved)

by_index_moved : (f : Change) (kind : ConKind) (rest : List Terminal) → by_index kind (map (changed f) rest) ≡ by_index kind rest
unfolding by_index
by_index_moved f kind rest = simp (moves, after_two_moved)

-- ---- where constraints of columns begin

word_sees : (f : Change) (w : Keyword) (after : List Terminal) → kind_of_word w (map (changed f) after) ≡ kind_of_word w after
word_sees f (k.Other others.Not) after = simp begins_sees
word_sees f (k.Other others.Primary) after = simp begins_sees
word_sees f _ after = refl

symbol_sees : (f : Change) (x : Symbol) (after : List Terminal) → kind_of_symbol x (map (changed f) after) ≡ kind_of_symbol x after
symbol_sees f (s.Keyword w) after = word_sees f w after
symbol_sees f _ after = refl

kind_led_sees : (f : Change) (t : Terminal) (after : List Terminal) → kind_led (changed f t) (map (changed f) after) ≡ kind_led t after
unfolding kind_led
kind_led_sees f t after = constraint_sees f t (map (changed f) after) ∙ symbol_sees f t.symbol after

first_kind_sees : (f : Change) (ts : List Terminal) → first_kind (map (changed f) ts) ≡ first_kind ts
unfolding first_kind
first_kind_sees f [] = refl
first_kind_sees f (t ∷ ts) = kind_led_sees f t ts

follows_sees : (f : Change) (w : Keyword) (earlier : Option Terminal) → follows w (option_map (changed f) earlier) ≡ follows w earlier
follows_sees f w None = refl
follows_sees f w (Some t) = simp moves

bound_sees : (f : Change) (earlier : Option Terminal) (t : Terminal) → is_bound (option_map (changed f) earlier) (changed f t) ≡ is_bound earlier t
unfolding is_bound
bound_sees f earlier t = simp (moves, follows_sees)

kind_after_name_sees : (f : Change) (ts : List Terminal) → kind_after_name (map (changed f) ts) ≡ kind_after_name ts
unfolding kind_after_name
kind_after_name_sees f [] = refl
kind_after_name_sees f (t ∷ ts) = simp (first_kind_sees f ts, moves)

pub start_is_blind : Blind constraint_start
unfolding constraint_start
start_is_blind f earlier t after = simp (kind_after_name_sees, kind_led_sees, bound_sees, moves)

head_is_blind : BlindHead constraint_head
unfolding constraint_head
head_is_blind f t after = simp (kind_after_name_sees, kind_led_sees, moves)

-- ---- expressions

default_value_moved : (f : Change) (rest : List Terminal) → default_value (map (changed f) rest) ≡ map (changed f) (default_value rest)
unfolding default_value
default_value_moved f rest = simp (before_after_head_sees value_end value_end_is_blind f 1 None 0 0 rest, moves)

value_in_moved : (f : Change) (kind : ConKind) (rest : List Terminal) → value_in kind (map (changed f) rest) ≡ map (changed f) (value_in kind rest)
unfolding value_in
value_in_moved f con.Check rest = inside_list_moved f rest
value_in_moved f con.Default rest = default_value_moved f rest
value_in_moved f kind rest = refl

value_of_moved : (f : Change) (value : List Terminal) → value_of (map (changed f) value) ≡ option_map (expr_moved f.number) (value_of value)
value_of_moved f [] = refl
value_of_moved f (t ∷ ts) = ap Some (expression_renumbers f (t ∷ ts))

value_span_moved : (f : Change) (value : List Terminal) → value_span (map (changed f) value) ≡ option_map (span_moved f.number) (value_span value)
value_span_moved f [] = refl
value_span_moved f (t ∷ ts) = let e = ends f t ts in simp (length-map, e.last)

-- ---- constraints

constraint_in_moved : (f : Change) (ts : List Terminal) → HasEnds f ts → (name : Option ℕ) (found : ConKind × List Terminal) →
    constraint_in (map (changed f) ts) (option_map f.number name) (kind_moved f found) ≡ constraint_moved f.number (constraint_in ts name found)
unfolding constraint_in
constraint_in_moved f ts e name found =
    rw (
      value_in_moved f found.0 found.1,
      value_of_moved f (value_in found.0 found.1),
      value_span_moved f (value_in found.0 found.1),
    )
    (simp (length-map, e.first, e.last))

table_constraint_in_moved : (f : Change) (ts : List Terminal) → HasEnds f ts → (name : Option ℕ) (found : ConKind × List Terminal) →
    table_constraint_in (map (changed f) ts) (option_map f.number name) (kind_moved f found)
    ≡ constraint_moved f.number (table_constraint_in ts name found)
table_constraint_in_moved f ts e name found =
    rw (constraint_in_moved f ts e name found, by_index_moved f found.0 found.1)
    (simp (before_renumbers not_valid not_valid_is_blind, length-map))

constraint_after_moved : (f : Change) (ts : List Terminal) → HasEnds f ts → (called : Option ℕ × List Terminal) →
    constraint_after (map (changed f) ts) (name_moved f called) ≡ option_map (constraint_moved f.number) (constraint_after ts called)
constraint_after_moved f ts e called =
    rw (constraint_kind_moved f called.1)
    (bind_moved _ _ _ _ (λ found. ap Some (table_constraint_in_moved f ts e called.0 found)) (constraint_kind called.1))

no_constraint : table_constraint [] ≡ None
unfolding table_constraint constraint_name constraint_kind after_exclude two_word_kind after_two
no_constraint = refl

some_constraint : (f : Change) (ts : List Terminal) → HasEnds f ts →
    table_constraint (map (changed f) ts) ≡ option_map (constraint_moved f.number) (table_constraint ts)
unfolding table_constraint
some_constraint f ts e =
    rw (constraint_name_moved f ts) (bind_moved _ _ _ _ (constraint_after_moved f ts e) (constraint_name ts))

pub constraint_renumbers : Changes ConstraintRenumbers
constraint_renumbers f [] = rw no_constraint refl
constraint_renumbers f (t ∷ ts) = some_constraint f (t ∷ ts) (ends f t ts)

-- ---- of columns

after_kind_moved : (f : Change) (kind : ConKind) (ts : List Terminal) → after_kind kind (map (changed f) ts) ≡ map (changed f) (after_kind kind ts)
after_kind_moved f con.NotNull ts = simp moves
after_kind_moved f con.PrimaryKey ts = simp moves
after_kind_moved f _ ts = refl

with_rest_moved : (f : Change) (ts : List Terminal) (r : Option ConKind) →
    option_and_then (λ kind. Some (kind, after_kind kind (map (changed f) ts))) r
    ≡ option_map (kind_moved f) (option_and_then (λ kind. Some (kind, after_kind kind ts)) r)
with_rest_moved f ts None = refl
with_rest_moved f ts (Some kind) = ap (λ rest. Some (kind, rest)) (after_kind_moved f kind ts)

column_kind_moved : (f : Change) (ts : List Terminal) → column_kind (map (changed f) ts) ≡ option_map (kind_moved f) (column_kind ts)
unfolding column_kind
column_kind_moved f [] = refl
column_kind_moved f (t ∷ ts) = rw (kind_led_sees f t ts) (with_rest_moved f ts (kind_led t ts))

column_constraint_in_moved : (f : Change) (ts : List Terminal) → HasEnds f ts → (name : Option ℕ) (found : ConKind × List Terminal) →
    column_constraint_in (map (changed f) ts) (option_map f.number name) (kind_moved f found)
    ≡ option_map (constraint_moved f.number) (column_constraint_in ts name found)
column_constraint_in_moved f ts e name found = rw (constraint_in_moved f ts e name found) (simp (is_empty_moved, moves))

column_constraint_after_moved : (f : Change) (ts : List Terminal) → HasEnds f ts → (called : Option ℕ × List Terminal) →
    column_constraint_after (map (changed f) ts) (name_moved f called) ≡ option_map (constraint_moved f.number) (column_constraint_after ts called)
column_constraint_after_moved f ts e called =
    rw (column_kind_moved f called.1) (bind_moved _ _ _ _ (column_constraint_in_moved f ts e called.0) (column_kind called.1))

no_column_constraint : column_constraint [] ≡ None
unfolding column_constraint constraint_name column_kind
no_column_constraint = refl

some_column_constraint : (f : Change) (ts : List Terminal) → HasEnds f ts →
    column_constraint (map (changed f) ts) ≡ option_map (constraint_moved f.number) (column_constraint ts)
unfolding column_constraint
some_column_constraint f ts e =
    rw (constraint_name_moved f ts) (bind_moved _ _ _ _ (column_constraint_after_moved f ts e) (constraint_name ts))

column_constraint_moved : (f : Change) (ts : List Terminal) →
    column_constraint (map (changed f) ts) ≡ option_map (constraint_moved f.number) (column_constraint ts)
column_constraint_moved f [] = rw no_column_constraint refl
column_constraint_moved f (t ∷ ts) = some_column_constraint f (t ∷ ts) (ends f t ts)

pub column_constraints_moved : (f : Change) (earlier : Option Terminal) (ts : List Terminal) →
    column_constraints (option_map (changed f) earlier) (map (changed f) ts)
    ≡ option_map (map (constraint_moved f.number)) (column_constraints earlier ts)
unfolding column_constraints
column_constraints_moved f earlier ts =
    rw (pieces_moved constraint_start start_is_blind constraint_head head_is_blind f earlier ts)
    (all_moved _ _ _ _ (column_constraint_moved f) (pieces constraint_start constraint_head earlier ts))
