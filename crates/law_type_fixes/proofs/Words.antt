-- The fixes of the four rules: which word each puts in the place of which tokens, and that the rule does not report it.
use Rattle.std.proofs.Common.{◌≡◌, ℕ, Bool, true, false, cond, List, [], ◌∷◌, refl, sym, ap, ◌∙◌, arith, Option, Some, None}
use Rattle.std.proofs.Common.{rules}
use Rattle.std.proofs.lemmas.Slice.Eq.{bytes_eq-Decides}
use Rattle.std.specs.Prelude.{◌&&◌, ◌||◌, not, codes, is_some}
use Rattle.std.specs.List.{find}
use Rattle.std.specs.Option.{option_map, unwrap_or}
use Rattle.std.specs.Str.{bytes_eq}
use denote.Enum.Bare.{same_true}
use Rattle.pass_data_type.specs.sql_keyword.Find.{keyword_of}
use Rattle.pass_data_type.specs.sql_keyword.Texts.{all_keywords, text}
use Rattle.pass_data_type.specs.sql_token.declared.token.Span.{Span}
use Rattle.pass_data_type.specs.sql_token.declared.terminal.Symbol.TheVariants as s
use Rattle.pass_data_type.specs.sql_token.declared.token.TokKind.TheVariants.{Word}
use Rattle.pass_data_type.specs.sql_token.Terminal.{symbol_of}
use Rattle.pass_data_type.specs.sql_token.Token.{Text}
use Rattle.pass_data_type.specs.sql_name.Name.{full_name}
use Rattle.pass_data_type.specs.sql_tree.contracts.nodes.TyKind as kinds
use Rattle.pass_data_type.specs.sql_tree.declared.nodes.ColType.{ColType}
use Rattle.pass_data_type.specs.sql_tree.declared.nodes.TyKind.{TyKind}
use Rattle.pass_data_type.specs.sql_tree.declared.nodes.TyKind.TheVariants as kind
use Rattle.pass_data_type.specs.sql_tree.Range.{span_range_of}
use Rattle.pass_data_type.specs.sql_tree.Statement.{Tree}
use Rattle.law_edit_types.specs.Runs.{IsTypeName, IsTypeSymbol}
use Rattle.law_edit_types.specs.Runs.IsTypeSymbol.{plain, text as named}
use Rattle.law_edit_types.specs.Types.{is_replaced, is_replaced_by}
use Rattle.pass_data_type.specs.lint_base.Edits.{replacement}
use Rattle.pass_data_type.specs.lint_base.Fixes.{FixValue}
use Rattle.pass_data_type.specs.lint_node.ColumnTypes.{has_arguments, is_of_kind, is_without_zone}
use Rattle.pass_data_type.specs.lint_node.Same.{same_type}
use Rattle.pass_data_type.specs.lint_pass.Fixes.{replacement_fix}
use Rattle.pass_data_type.specs.lint_transaction.Names.{name_at}
use Rattle.pass_data_type.specs.declared.wider_integers.WideInteger.{WideInteger}
use Rattle.pass_data_type.specs.declared.wider_integers.WideInteger.TheVariants as wide
use Rattle.pass_data_type.specs.PreferTextField as varchar
use Rattle.pass_data_type.specs.PreferTimestamptz as timestamp
use Rattle.pass_data_type.specs.TypeNames.{is_named, row_for, row_of}
use Rattle.pass_data_type.specs.WiderIntegers as integer
use Rattle.law_type_fixes.specs.Rules.{TypeRule, varchars, timestamps, ints, smallints}
use Rattle.law_fixes.proofs.Fixed.{inside_some}

-- ---- what a fix does

-- It puts a word in the place of the type's inner tokens, and the rule does not report a path of one name without arguments.
pub record InnerFix (of : TypeRule) (tree : Tree) (ty : ColType) (f : FixValue) : Type 0 where
  pub word : Text
  pub names : IsTypeName word
  pub replaced : is_replaced ty ≡ true
  pub edits : f.edits ≡ replacement (span_range_of tree.toks ty.inner.first ty.inner.last) word ∷ []
  pub silent : (new : Tree) (t : ColType) → t.kind ≡ kind.Path → t.args ≡ None → of.test new t ≡ false

-- It puts a word in the place of the type's last name, which is no key word, and the rule does not report a type of that name.
pub record NameFix (of : TypeRule) (tree : Tree) (ty : ColType) (f : FixValue) : Type 0 where
  pub word : Text
  pub names : IsTypeName word
  pub plain : symbol_of Word word ≡ s.Word
  pub path : ty.kind ≡ kind.Path
  pub old : keyword_of (name_at tree ty.name) ≡ None
  pub edits : f.edits ≡ replacement (span_range_of tree.toks ty.name ty.name) word ∷ []
  pub silent : (new : Tree) (t : ColType) → name_at new t.name ≡ full_name word → of.test new t ≡ false

-- So it is for each fix of the rule.
abbrev pub HasFix : TypeRule → (TypeRule → Tree → ColType → FixValue → Type 0) → Type 0
HasFix of Is = (tree : Tree) (ty : ColType) (f : FixValue) → of.test tree ty ≡ true → (of.report tree ty).fix ≡ Some f → Is of tree ty f

edits_of : {x y : FixValue} → Some x ≡ Some y → y.edits ≡ x.edits
edits_of e = sym (ap (λ (f : FixValue). f.edits) (inside_some e))

-- ---- the words

plain_word : (w : Text) → symbol_of Word w ≡ s.Word → IsTypeSymbol (symbol_of Word w)
plain_word w e = plain e

text_symbol : IsTypeSymbol (symbol_of Word (codes "text"))
unfolding symbol_of keyword_of all_keywords text
text_symbol = named refl

timestamptz_symbol : symbol_of Word (codes "timestamptz") ≡ s.Word
unfolding symbol_of keyword_of all_keywords text
timestamptz_symbol = refl

integer_symbol : (x : WideInteger) → symbol_of Word (integer.word x) ≡ s.Word
unfolding symbol_of keyword_of all_keywords text
integer_symbol wide.Bigint = refl
integer_symbol wide.Int8 = refl
integer_symbol wide.Bigserial = refl
integer_symbol wide.Serial8 = refl

text_name : IsTypeName (codes "text")
text_name = record {
  word = record { bytes = refl; begins = refl; ascii = omega arith; long = omega arith };
  letter = record { blank = refl; quote = refl; digit = refl };
  symbol = text_symbol;
}

timestamptz_name : IsTypeName (codes "timestamptz")
timestamptz_name = record {
  word = record { bytes = refl; begins = refl; ascii = omega arith; long = omega arith };
  letter = record { blank = refl; quote = refl; digit = refl };
  symbol = plain_word (codes "timestamptz") timestamptz_symbol;
}

integer_name : (x : WideInteger) → IsTypeName (integer.word x)
integer_name wide.Bigint = record {
  word = record { bytes = refl; begins = refl; ascii = omega arith; long = omega arith };
  letter = record { blank = refl; quote = refl; digit = refl };
  symbol = plain_word (codes "bigint") (integer_symbol wide.Bigint);
}
integer_name wide.Int8 = record {
  word = record { bytes = refl; begins = refl; ascii = omega arith; long = omega arith };
  letter = record { blank = refl; quote = refl; digit = refl };
  symbol = plain_word (codes "int8") (integer_symbol wide.Int8);
}
integer_name wide.Bigserial = record {
  word = record { bytes = refl; begins = refl; ascii = omega arith; long = omega arith };
  letter = record { blank = refl; quote = refl; digit = refl };
  symbol = plain_word (codes "bigserial") (integer_symbol wide.Bigserial);
}
integer_name wide.Serial8 = record {
  word = record { bytes = refl; begins = refl; ascii = omega arith; long = omega arith };
  letter = record { blank = refl; quote = refl; digit = refl };
  symbol = plain_word (codes "serial8") (integer_symbol wide.Serial8);
}

-- ---- kinds

kind_is : (x y : TyKind) → same_type x y ≡ true → x ≡ y
unfolding same_type
kind_is x y h = same_true kinds.the_type (search rules) x y h

both_true : (a b : Bool) → (a && b) ≡ true → (a ≡ true) × (b ≡ true)
both_true true b h = (refl, h)
both_true false b h = cc

-- ---- PreferTextField

pub varchars_fix : HasFix varchars InnerFix
unfolding varchar.report
varchars_fix tree ty f passes has =
    let p = both_true (has_arguments ty) (is_of_kind kind.Varchar ty || is_named tree (codes "varchar") ty) passes in
    record {
      word = codes "text";
      names = text_name;
      replaced = either (is_of_kind kind.Varchar ty) refl p.0 p.1;
      edits = edits_of has;
      silent = λ new t path none. ap (λ (o : Option Span). is_some o && (is_of_kind kind.Varchar t || is_named new (codes "varchar") t)) none;
    }
  where
    by_kind : (k : TyKind) → has_arguments ty ≡ true → ty.kind ≡ k → is_replaced_by k true ≡ true → is_replaced ty ≡ true
    by_kind k args e g = (λ i. is_replaced_by (e i) (args i)) ∙ g

    either : (b : Bool) → is_of_kind kind.Varchar ty ≡ b → has_arguments ty ≡ true → (b || is_named tree (codes "varchar") ty) ≡ true → is_replaced ty ≡ true
    either true e args h = by_kind kind.Varchar args (kind_is ty.kind kind.Varchar e) refl
    either false e args h =
        by_kind kind.Path args (kind_is ty.kind kind.Path (both_true (is_of_kind kind.Path ty) _ h).0) refl

-- ---- PreferTimestampTz

pub timestamps_fix : HasFix timestamps InnerFix
unfolding timestamp.report same_type
timestamps_fix tree ty f passes has = by (is_without_zone ty) refl has
  where
    unreported : (new : Tree) (t : ColType) → t.kind ≡ kind.Path → t.args ≡ None → timestamp.drops_offset new t ≡ false
    unreported new t path none = λ i. (same_type (path i) kind.Timestamp && not t.with_zone) || (is_some (none i) && is_named new (codes "varchar") t)

    is_timestamp : is_without_zone ty ≡ true → is_replaced ty ≡ true
    is_timestamp e = ap (λ (k : TyKind). is_replaced_by k (is_some ty.args)) (kind_is ty.kind kind.Timestamp (both_true (is_of_kind kind.Timestamp ty) (not ty.with_zone) e).0)

    by : (b : Bool) → is_without_zone ty ≡ b →
        cond b (Some (replacement_fix (codes "Replace with `timestamptz`") (codes "timestamptz") (span_range_of tree.toks ty.inner.first ty.inner.last))) None ≡ Some f → InnerFix timestamps tree ty f
    by true e h = record { word = codes "timestamptz"; names = timestamptz_name; replaced = is_timestamp e; edits = edits_of h; silent = unreported }
    by false e h = cc

-- ---- PreferBigintOverInt and PreferBigintOverSmallint

path_of : {X : Type 0} (rows : List (List ℕ × X)) (tree : Tree) (ty : ColType) → is_some (row_for rows tree ty) ≡ true → ty.kind ≡ kind.Path
unfolding row_for
path_of rows tree ty h = by (is_of_kind kind.Path ty) refl h
  where
    by : (b : Bool) → is_of_kind kind.Path ty ≡ b → is_some (cond b (row_of rows (name_at tree ty.name)) None) ≡ true → ty.kind ≡ kind.Path
    by true e h = kind_is ty.kind kind.Path e
    by false e h = cc

-- no name of the rows is a key word
abbrev AreNoKeywords : {X : Type 0} → List (List ℕ × X) → Type 0
AreNoKeywords [] = Unit {0}
AreNoKeywords (row ∷ rows) = (keyword_of row.0 ≡ None) × AreNoKeywords rows

no_keyword : {X : Type 0} (rows : List (List ℕ × X)) → AreNoKeywords rows → (found : List ℕ) → is_some (row_of rows found) ≡ true → keyword_of found ≡ None
no_keyword [] none found h = cc
no_keyword (row ∷ rows) none found h =
    by (bytes_eq found row.0) refl h (no_keyword rows none.1 found)
  where
    by : (b : Bool) → bytes_eq found row.0 ≡ b → is_some (option_map (λ r. r.1) (cond b (Some row) (find (λ r. bytes_eq found r.0) rows))) ≡ true →
        (is_some (row_of rows found) ≡ true → keyword_of found ≡ None) → keyword_of found ≡ None
    by true e h others = ap keyword_of ((bytes_eq-Decides found row.0).0 e) ∙ none.0
    by false e h others = others h

old_name : {X : Type 0} (rows : List (List ℕ × X)) → AreNoKeywords rows → (tree : Tree) (ty : ColType) → is_some (row_for rows tree ty) ≡ true → keyword_of (name_at tree ty.name) ≡ None
unfolding row_for
old_name rows none tree ty h = by (is_of_kind kind.Path ty) h
  where
    by : (b : Bool) → is_some (cond b (row_of rows (name_at tree ty.name)) None) ≡ true → keyword_of (name_at tree ty.name) ≡ None
    by true h = no_keyword rows none (name_at tree ty.name) h
    by false h = cc

int_names : AreNoKeywords integer.int_rows
unfolding keyword_of all_keywords text
int_names = (refl, (refl, (refl, (refl, (refl, tt)))))

smallint_names : AreNoKeywords integer.smallint_rows
unfolding keyword_of all_keywords text
smallint_names = (refl, (refl, (refl, (refl, tt))))

no_row : {X : Type 0} (rows : List (List ℕ × X)) (new : Tree) (t : ColType) (word : List ℕ) → row_of rows word ≡ None → name_at new t.name ≡ word → is_some (row_for rows new t) ≡ false
unfolding row_for
no_row rows new t word none e = by (is_of_kind kind.Path t)
  where
    by : (b : Bool) → is_some (cond b (row_of rows (name_at new t.name)) None) ≡ false
    by true = ap is_some (ap (row_of rows) e ∙ none)
    by false = refl

no_int : (x : WideInteger) → row_of integer.int_rows (full_name (integer.word x)) ≡ None
unfolding full_name
no_int wide.Bigint = refl
no_int wide.Int8 = refl
no_int wide.Bigserial = refl
no_int wide.Serial8 = refl

no_smallint : (x : WideInteger) → row_of integer.smallint_rows (full_name (integer.word x)) ≡ None
unfolding full_name
no_smallint wide.Bigint = refl
no_smallint wide.Int8 = refl
no_smallint wide.Bigserial = refl
no_smallint wide.Serial8 = refl

pub ints_fix : HasFix ints NameFix
unfolding integer.report
ints_fix tree ty f passes has =
    let x : WideInteger = unwrap_or (row_for integer.int_rows tree ty) wide.Bigint in
    record {
      word = integer.word x;
      names = integer_name x;
      plain = integer_symbol x;
      path = path_of integer.int_rows tree ty passes;
      old = old_name integer.int_rows int_names tree ty passes;
      edits = edits_of has;
      silent = λ new t e. no_row integer.int_rows new t (full_name (integer.word x)) (no_int x) e;
    }

pub smallints_fix : HasFix smallints NameFix
unfolding integer.report
smallints_fix tree ty f passes has =
    let x : WideInteger = unwrap_or (row_for integer.smallint_rows tree ty) wide.Bigint in
    record {
      word = integer.word x;
      names = integer_name x;
      plain = integer_symbol x;
      path = path_of integer.smallint_rows tree ty passes;
      old = old_name integer.smallint_rows smallint_names tree ty passes;
      edits = edits_of has;
      silent = λ new t e. no_row integer.smallint_rows new t (full_name (integer.word x)) (no_smallint x) e;
    }
