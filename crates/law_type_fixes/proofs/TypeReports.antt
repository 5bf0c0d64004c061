-- The reports of the four rules on types that stay, under other numbers.
use Rattle.std.proofs.Common.{◌≡◌, ℕ, Bool, true, false, cond, List, refl, ap, Option, Some, None}
use Rattle.std.specs.Prelude.{◌&&◌, ◌||◌, codes, is_some}
use Rattle.std.specs.Option.{option_map, unwrap_or}
use Rattle.std.specs.Str.{bytes_eq}
use Rattle.pass_data_type.specs.sql_token.declared.token.Span.{Span}
use Rattle.pass_data_type.specs.sql_tree.declared.nodes.ColType.{ColType}
use Rattle.pass_data_type.specs.sql_tree.declared.nodes.TyKind.TheVariants as kind
use Rattle.pass_data_type.specs.sql_tree.Range.{span_range_of, token_at}
use Rattle.pass_data_type.specs.sql_tree.Statement.{Tree}
use Rattle.law_edit_types.specs.law_renumber.Moved.{span_moved, type_moved}
use Rattle.pass_data_type.specs.lint_base.declared.rule.Rule.{Rule}
use Rattle.pass_data_type.specs.lint_base.declared.rule.Rule.TheVariants as rule
use Rattle.pass_data_type.specs.lint_node.ColumnTypes.{has_arguments, is_of_kind, is_without_zone}
use Rattle.pass_data_type.specs.lint_pass.Fixes.{replacement_fix}
use Rattle.pass_data_type.specs.lint_transaction.Names.{name_at}
use Rattle.pass_data_type.specs.declared.wider_integers.WideInteger.{WideInteger}
use Rattle.pass_data_type.specs.declared.wider_integers.WideInteger.TheVariants as wide
use Rattle.pass_data_type.specs.PreferTextField as varchar
use Rattle.pass_data_type.specs.PreferTimestamptz as timestamp
use Rattle.pass_data_type.specs.TypeNames.{is_named, row_for, row_of}
use Rattle.pass_data_type.specs.WiderIntegers as integer
use Rattle.law_type_fixes.specs.Moved.{Replaced, fix_moved, range_moved, report_moved}
use Rattle.law_type_fixes.specs.Rules.{TypeRule, varchars, timestamps, ints, smallints}

-- ---- a type that stays

-- Its name and its ranges in the new tree are those in the old one, moved.
pub record Stays (r : Replaced) (tree new : Tree) (f : ℕ → ℕ) (ty : ColType) : Type 0 where
  pub name : name_at new (f ty.name) ≡ name_at tree ty.name
  pub whole : span_range_of new.toks (f ty.whole.first) (f ty.whole.last) ≡ range_moved r (span_range_of tree.toks ty.whole.first ty.whole.last)
  pub inner : span_range_of new.toks (f ty.inner.first) (f ty.inner.last) ≡ range_moved r (span_range_of tree.toks ty.inner.first ty.inner.last)
  pub last : span_range_of new.toks (f ty.name) (f ty.name) ≡ range_moved r (span_range_of tree.toks ty.name ty.name)

-- What the law asks of a rule: its report begins where the type begins, and on a type that stays it answers as before, moved.
pub record IsTypeRule (of : TypeRule) : Type 0 where
  pub place : (tree : Tree) (ty : ColType) → (of.report tree ty).text_range.start ≡ (token_at tree.toks ty.whole.first).start
  pub test : (r : Replaced) (tree new : Tree) (f : ℕ → ℕ) (ty : ColType) → Stays r tree new f ty → of.test new (type_moved f ty) ≡ of.test tree ty
  pub report : (r : Replaced) (tree new : Tree) (f : ℕ → ℕ) (ty : ColType) → Stays r tree new f ty → of.report new (type_moved f ty) ≡ report_moved r (of.report tree ty)

-- ---- what the rules ask

pub arguments_stay : (f : ℕ → ℕ) (ty : ColType) → has_arguments (type_moved f ty) ≡ has_arguments ty
arguments_stay f ty = by ty.args
  where
    by : (o : Option Span) → is_some (option_map (span_moved f) o) ≡ is_some o
    by None = refl
    by (Some x) = refl

named_stays : (word : List ℕ) (r : Replaced) (tree new : Tree) (f : ℕ → ℕ) (ty : ColType) → Stays r tree new f ty → is_named new word (type_moved f ty) ≡ is_named tree word ty
named_stays word r tree new f ty h = let name = h.name in λ i. is_of_kind kind.Path ty && bytes_eq (name i) word

pub row_stays : {X : Type 0} (rows : List (List ℕ × X)) (tree new : Tree) (f : ℕ → ℕ) (ty : ColType) → name_at new (f ty.name) ≡ name_at tree ty.name → row_for rows new (type_moved f ty) ≡ row_for rows tree ty
unfolding row_for
row_stays rows tree new f ty name = λ i. cond (is_of_kind kind.Path ty) (row_of rows (name i)) None

-- ---- the four rules

pub is_varchars : IsTypeRule varchars
unfolding varchar.report
is_varchars = record {
  place = λ tree ty. refl;
  test = λ r tree new f ty h. (let args = arguments_stay f ty in let name = named_stays (codes "varchar") r tree new f ty h in λ i. args i && (is_of_kind kind.Varchar ty || name i));
  report = λ r tree new f ty h.
      (let whole = h.whole in let inner = h.inner in
      λ i. record (varchar.report tree ty) { text_range = whole i; fix = Some (replacement_fix (codes "Replace with `text`") (codes "text") (inner i)) });
}

pub is_timestamps : IsTypeRule timestamps
unfolding timestamp.report
is_timestamps = record {
  place = λ tree ty. refl;
  test = λ r tree new f ty h. (let args = arguments_stay f ty in let name = named_stays (codes "varchar") r tree new f ty h in λ i. is_without_zone ty || (args i && name i));
  report = λ r tree new f ty h.
      (let whole = h.whole in let fixed = fixes r tree new f ty h (is_without_zone ty) in
      λ i. record (timestamp.report tree ty) { text_range = whole i; fix = fixed i });
}
  where
    fixes : (r : Replaced) (tree new : Tree) (f : ℕ → ℕ) (ty : ColType) → Stays r tree new f ty → (b : Bool) →
        cond b (Some (replacement_fix (codes "Replace with `timestamptz`") (codes "timestamptz") (span_range_of new.toks (f ty.inner.first) (f ty.inner.last)))) None
        ≡ option_map (fix_moved r) (cond b (Some (replacement_fix (codes "Replace with `timestamptz`") (codes "timestamptz") (span_range_of tree.toks ty.inner.first ty.inner.last))) None)
    fixes r tree new f ty h true = let inner = h.inner in λ i. Some (replacement_fix (codes "Replace with `timestamptz`") (codes "timestamptz") (inner i))
    fixes r tree new f ty h false = refl

integer_report : (code : Rule) (message : List ℕ) (r : Replaced) (tree new : Tree) (f : ℕ → ℕ) (ty : ColType) (x y : WideInteger) → Stays r tree new f ty → x ≡ y →
    integer.report code message new (type_moved f ty) x ≡ report_moved r (integer.report code message tree ty y)
unfolding integer.report
integer_report code message r tree new f ty x y h same =
    let whole = h.whole in let last = h.last in
    λ i. record (integer.report code message tree ty (same i)) { text_range = whole i; fix = Some (replacement_fix (integer.title (same i)) (integer.word (same i)) (last i)) }

pub is_ints : IsTypeRule ints
unfolding integer.report
is_ints = record {
  place = λ tree ty. refl;
  test = λ r tree new f ty h. ap is_some (row_stays integer.int_rows tree new f ty h.name);
  report = λ r tree new f ty h.
      integer_report rule.PreferBigintOverInt (codes "using 32-bit integer fields can result in hitting the max `int` limit") r tree new f ty _ _ h
      (ap (λ (o : Option WideInteger). unwrap_or o wide.Bigint) (row_stays integer.int_rows tree new f ty h.name));
}

pub is_smallints : IsTypeRule smallints
unfolding integer.report
is_smallints = record {
  place = λ tree ty. refl;
  test = λ r tree new f ty h. ap is_some (row_stays integer.smallint_rows tree new f ty h.name);
  report = λ r tree new f ty h.
      integer_report rule.PreferBigintOverSmallint (codes "using 16-bit integer fields can result in hitting the max `smallint` limit") r tree new f ty _ _ h
      (ap (λ (o : Option WideInteger). unwrap_or o wide.Bigint) (row_stays integer.smallint_rows tree new f ty h.name));
}
