-- The column types of ascending terminals lie one after another.
use Rattle.std.proofs.Common.{◌≡◌, ℕ, zero, suc, ◌-◌, ◌<◌, ◌≤◌, Bool, false, List, [], ◌∷◌, ◌++◌, length, take, refl, Option, Some, None, sym, ap, ◌∙◌, subst, arith}
use Rattle.std.specs.Prelude.{◌==◌, ◌&&◌}
use Rattle.std.specs.Option.{option_map, option_to_list}
use Rattle.pass_data_type.specs.sql_keyword.declared.words.Keyword.{Keyword}
use Rattle.pass_data_type.specs.sql_keyword.declared.words.Keyword.TheVariants as k
use Rattle.pass_data_type.specs.sql_keyword.declared.words.Other.TheVariants as others
use Rattle.pass_data_type.specs.sql_keyword.declared.words.TheConstants.Keyword as keyword
use Rattle.pass_data_type.specs.sql_token.declared.token.Span.{Span}
use Rattle.pass_data_type.specs.sql_token.declared.terminal.Symbol.{Symbol}
use Rattle.pass_data_type.specs.sql_token.declared.terminal.Symbol.TheVariants as s
use Rattle.pass_data_type.specs.sql_token.declared.terminal.Terminal.{Terminal}
use Rattle.pass_data_type.specs.sql_token.Depth.{span_of}
use Rattle.pass_data_type.specs.sql_tree.declared.nodes.ColType.{ColType}
use Rattle.pass_data_type.specs.sql_tree.declared.nodes.TyKind.{TyKind}
use Rattle.pass_data_type.specs.sql_tree.declared.nodes.TyKind.TheVariants.{Varchar, Bit, Time, Timestamp, Interval, Path, Double}
use Rattle.pass_data_type.specs.sql_tree.Groups.{path_first}
use Rattle.pass_data_type.specs.sql_tree.Split.{begins_with}
use Rattle.pass_data_type.specs.sql_tree.Statement.{last_of}
use Rattle.pass_data_type.specs.sql_tree.ColumnType.{plain_of, arguments, with_arguments, after_varying, character_kind, character_type, double_type, zone, list_len, maybe_span, time_type, word_type, symbol_type, path_type, plain_type, before_groups, array_of, arrayed, array_by_groups, has_word_array, array_by_word, column_type}
use Rattle.law_edit_types.specs.law_renumber.Moved.{type_moved}
use Rattle.law_edit_types.proofs.of_law_renumber.Types.{no_type, type_numbers}
use Rattle.law_edit_types.proofs.of_law_renumber.There.{IfThere, then_there, from_there, either_there, if_there}
use Rattle.law_edit_types.proofs.of_law_renumber.Ordered.{Numbered, numbered_le}
use Rattle.law_edit_types.proofs.of_law_renumber.NodeOrder.{Fixes, fixed, take_numbered}
use Rattle.law_edit_types.proofs.of_law_edit_inserts.TakenConcurrently.{last_after}
use Rattle.law_type_fixes.proofs.Walk.{Walks}
use Rattle.law_edit_types.proofs.TypeParts.{some_type}

-- ---- which terminals a type and its inner type are

pub record Spans (ts : List Terminal) (ty : ColType) : Type 0 where
  pub whole : ty.whole ≡ span_of ts
  pub size : ℕ
  pub inner : ty.inner ≡ span_of (take size ts)

all_taken : (ts : List Terminal) → take (length ts) ts ≡ ts
all_taken [] = refl
all_taken (t ∷ ts) = ap (λ (x : List Terminal). t ∷ x) (all_taken ts)

plain_spans : (kind : TyKind) (name : ℕ) (ts : List Terminal) (args : Option Span) (zoned : Bool) → Spans ts (plain_of kind name (span_of ts) args zoned)
plain_spans kind name ts args zoned = record { whole = refl; size = length ts; inner = ap span_of (sym (all_taken ts)) }

arguments_spans : (kind : TyKind) (name : ℕ) (ts rest : List Terminal) → IfThere (Spans ts) (with_arguments kind name ts rest)
arguments_spans kind name ts rest =
    then_there (Spans ts) (λ args. Some (plain_of kind name (span_of ts) args false)) (λ args. plain_spans kind name ts args false) (arguments rest)

character_spans : (ts rest : List Terminal) → IfThere (Spans ts) (character_type ts rest)
unfolding character_type
character_spans ts rest = arguments_spans (character_kind rest) (span_of ts).first ts (after_varying rest)

double_spans : (ts rest : List Terminal) → IfThere (Spans ts) (double_type ts rest)
unfolding double_type
double_spans ts rest =
    if_there (Spans ts) (begins_with keyword.PRECISION rest && length rest == 1) (Some (plain_of Double (span_of ts).first (span_of ts) None false)) None
    (plain_spans Double (span_of ts).first ts None false) tt

time_spans : (kind : TyKind) (ts rest : List Terminal) → IfThere (Spans ts) (time_type kind ts rest)
unfolding time_type
time_spans kind ts rest =
    then_there (Spans ts) (λ zoned. Some (plain_of kind (span_of ts).first (span_of ts) (maybe_span (take (list_len rest) rest)) zoned))
    (λ zoned. plain_spans kind (span_of ts).first ts (maybe_span (take (list_len rest) rest)) zoned) (zone _)

word_spans : (w : Keyword) (ts rest : List Terminal) → IfThere (Spans ts) (word_type w ts rest)
unfolding word_type
word_spans (k.Other others.Varchar) ts rest = arguments_spans Varchar (span_of ts).first ts rest
word_spans (k.Other others.Character) ts rest = character_spans ts rest
word_spans (k.Other others.Char) ts rest = character_spans ts rest
word_spans (k.Other others.Bit) ts rest = arguments_spans Bit (span_of ts).first ts (after_varying rest)
word_spans (k.Other others.Double) ts rest = double_spans ts rest
word_spans (k.Other others.Time) ts rest = time_spans Time ts rest
word_spans (k.Other others.Timestamp) ts rest = time_spans Timestamp ts rest
word_spans (k.Other others.Interval) ts rest = plain_spans Interval (span_of ts).first ts None false
word_spans _ ts rest = tt

symbol_spans : (x : Symbol) (ts rest : List Terminal) → IfThere (Spans ts) (symbol_type x ts rest)
symbol_spans (s.Keyword w) ts rest = word_spans w ts rest
symbol_spans _ ts rest = tt

path_spans : (ts : List Terminal) → IfThere (Spans ts) (path_type ts)
unfolding path_type
path_spans ts = then_there (Spans ts) (λ r. with_arguments Path r.0.last ts r.1) (λ r. arguments_spans Path r.0.last ts r.1) (path_first ts)

type_spans : (ts : List Terminal) → IfThere (Spans ts) (plain_type ts)
unfolding plain_type
type_spans [] = tt
type_spans (t ∷ ts) = either_there (Spans (t ∷ ts)) (symbol_type t.symbol (t ∷ ts) ts) (path_type (t ∷ ts)) (symbol_spans t.symbol (t ∷ ts) ts) (path_spans (t ∷ ts))

shorter : (m n : ℕ) (ts : List Terminal) → (k : ℕ) × (take m (take n ts) ≡ take k ts)
shorter zero n ts = (0, refl)
shorter (suc m) zero ts = (0, refl)
shorter (suc m) (suc n) [] = (0, refl)
shorter (suc m) (suc n) (t ∷ ts) = let r = shorter m n ts in (suc r.0, ap (λ (x : List Terminal). t ∷ x) r.1)

array_spans : (n : ℕ) (ts : List Terminal) → IfThere (Spans ts) (array_of ts (take n ts))
unfolding array_of
array_spans n ts = from_there (Spans (take n ts)) (Spans ts) (λ ty. Some (arrayed ts ty)) within (plain_type (take n ts)) (type_spans (take n ts))
  where
    within : (ty : ColType) → Spans (take n ts) ty → Spans ts (arrayed ts ty)
    within ty p = let r = shorter p.size n ts in record { whole = refl; size = r.0; inner = p.inner ∙ ap span_of r.1 }

column_spans : (ts : List Terminal) → IfThere (Spans ts) (column_type ts)
unfolding column_type array_by_word array_by_groups
column_spans ts =
    either_there (Spans ts) (array_by_word ts) _
    (if_there (Spans ts) (has_word_array ts (before_groups ts)) (array_of ts (take (before_groups ts - 1) ts)) None (array_spans (before_groups ts - 1) ts) tt)
    (either_there (Spans ts) (array_by_groups ts) (plain_type ts)
    (if_there (Spans ts) _ (array_of ts (take (before_groups ts) ts)) None (array_spans (before_groups ts) ts) tt)
    (type_spans ts))

-- ---- numbers that ascend

last_least : (lo : ℕ) (t : Terminal) (ts : List Terminal) (hi : ℕ) → Numbered lo (t ∷ ts) hi → t.number ≤ (last_of (t ∷ ts)).number
last_least lo t [] hi h = omega arith
last_least lo t (u ∷ us) hi h =
    let rest = last_least (suc t.number) u us hi h.1 in
    let e : (last_of (t ∷ u ∷ us)).number ≡ (last_of (u ∷ us)).number = ap (λ (x : Terminal). x.number) (last_after (t ∷ []) u us) in
    omega (arith, h.1.0, rest, e)

span_order : (lo : ℕ) (ts : List Terminal) (hi : ℕ) → Numbered lo ts hi → (span_of ts).first ≤ (span_of ts).last
span_order lo [] hi h = omega arith
span_order lo (t ∷ ts) hi h = last_least lo t ts hi h

-- ---- one type

-- The type's numbers are from its first token on, from lo to before hi.
pub record Within (lo hi : ℕ) (ty : ColType) : Type 0 where
  pub low : lo ≤ ty.whole.first
  pub some : ty.whole.first < hi
  pub inner : ty.inner.first ≤ ty.inner.last
  pub fixed : (f : ℕ → ℕ) → Fixes ty.whole.first hi f → type_moved f ty ≡ ty

-- Types lie one after another, from lo to before hi.
abbrev pub Ranged : ℕ → ℕ → List ColType → Type 0
Ranged lo hi [] = lo ≤ hi
Ranged lo hi (ty ∷ tys) = (mid : ℕ) × (Within lo mid ty × Ranged mid hi tys)

within_lower : (low lo hi : ℕ) (ty : ColType) → low ≤ lo → Within lo hi ty → Within low hi ty
within_lower low lo hi ty le h = let p = h.low in record { low = omega (arith, le, p); some = h.some; inner = h.inner; fixed = h.fixed }

ranged_lower : (low lo hi : ℕ) (tys : List ColType) → low ≤ lo → Ranged lo hi tys → Ranged low hi tys
ranged_lower low lo hi [] le h = omega (arith, le, h)
ranged_lower low lo hi (ty ∷ tys) le h = (h.0, (within_lower low lo h.0 ty le h.1.0, h.1.1))

pub ranged_both : (lo mid hi : ℕ) (xs ys : List ColType) → Ranged lo mid xs → Ranged mid hi ys → Ranged lo hi (xs ++ ys)
ranged_both lo mid hi [] ys h k = ranged_lower lo mid hi ys h k
ranged_both lo mid hi (x ∷ xs) ys h k = (h.0, (h.1.0, ranged_both h.0 mid hi xs ys h.1.1 k))

one_ranged : (lo : ℕ) (t : Terminal) (ts : List Terminal) (hi : ℕ) → Numbered lo (t ∷ ts) hi → (o : Option ColType) → column_type (t ∷ ts) ≡ o → IfThere (Spans (t ∷ ts)) o → Ranged lo hi (option_to_list o)
one_ranged lo t ts hi h None is spans = numbered_le lo (t ∷ ts) hi h
one_ranged lo t ts hi h (Some ty) is spans =
    let first : ty.whole.first ≡ t.number = ap (λ (x : Span). x.first) spans.whole in
    let above = numbered_le (suc t.number) ts hi h.1 in
    let inner = span_order lo (take spans.size (t ∷ ts)) hi (take_numbered spans.size lo (t ∷ ts) hi h) in
    let from : Numbered ty.whole.first (t ∷ ts) hi = (omega (arith, first), h.1) in (
      hi,
      (
        record {
          low = omega (arith, first, h.0);
          some = omega (arith, first, above);
          inner = subst (λ (x : Span). x.first ≤ x.last) (sym spans.inner) inner;
          fixed = λ f fix. some_type (ap (λ (x : Option ColType). option_map (type_moved f) x) (sym is) ∙ sym (type_numbers f (t ∷ ts)) ∙ ap column_type (fixed ty.whole.first hi f fix (t ∷ ts) from) ∙ is);
        },
        omega arith,
      ),
    )

type_ranged : (lo : ℕ) (ts : List Terminal) (hi : ℕ) → Numbered lo ts hi → Ranged lo hi (option_to_list (column_type ts))
type_ranged lo [] hi h = subst (λ o. Ranged lo hi (option_to_list o)) (sym no_type) h
type_ranged lo (t ∷ ts) hi h = one_ranged lo t ts hi h (column_type (t ∷ ts)) refl (column_spans (t ∷ ts))

pub walk_ranged : Walks Ranged
walk_ranged = record { none = λ lo hi h. h; both = ranged_both; one = type_ranged }

-- ---- parts of a list

pub record Parts (lo hi : ℕ) (xs ys : List ColType) : Type 0 where
  pub mid : ℕ
  pub left : Ranged lo mid xs
  pub right : Ranged mid hi ys

pub ranged_parts : (lo hi : ℕ) (xs ys : List ColType) → Ranged lo hi (xs ++ ys) → Parts lo hi xs ys
ranged_parts lo hi [] ys h = record { mid = lo; left = omega arith; right = h }
ranged_parts lo hi (x ∷ xs) ys h = let p = ranged_parts h.0 hi xs ys h.1.1 in record { mid = p.mid; left = (h.0, (h.1.0, p.left)); right = p.right }

pub ranged_le : (lo hi : ℕ) (xs : List ColType) → Ranged lo hi xs → lo ≤ hi
ranged_le lo hi [] h = h
ranged_le lo hi (x ∷ xs) h = let a = h.1.0.low in let b = h.1.0.some in let c = ranged_le h.0 hi xs h.1.1 in omega (arith, a, b, c)
