-- What the four rules on column types see of a type: nothing of the text but its name.
use Rattle.std.proofs.Common.{◌≡◌, ℕ, Bool, true, false, cond, List, sym, refl, ap, ◌∙◌, subst, Option, Some, None}
use Rattle.std.proofs.lemmas.List.Elements.{All-nil, All-cons}
use Rattle.std.specs.Prelude.{All, ◌&&◌, ◌||◌, not, codes, is_some, [], ◌∷◌}
use Rattle.std.specs.Option.{unwrap_or}
use Rattle.std.specs.Str.{bytes_eq}
use Rattle.law_type_fixes.specs.sql_name.Name.{full_name}
use Rattle.law_type_fixes.specs.sql_tree.declared.nodes.ColType.{ColType}
use Rattle.law_type_fixes.specs.sql_tree.declared.nodes.TyKind.TheVariants as kind
use Rattle.law_type_fixes.specs.sql_tree.Range.{span_range_of, token_at}
use Rattle.law_type_fixes.specs.sql_tree.Statement.{Tree}
use Rattle.law_type_fixes.specs.law_renumber.Moved.{type_moved}
use Rattle.law_type_fixes.specs.lint_base.declared.violation.Violation.{Violation}
use Rattle.law_type_fixes.specs.lint_base.Edits.{replacement}
use Rattle.law_type_fixes.specs.lint_pass.Fixes.{replacement_fix}
use Rattle.law_type_fixes.specs.lint_node.ColumnTypes.{has_arguments, is_of_kind, is_without_zone}
use Rattle.law_type_fixes.specs.lint_node.Same.{same_type}
use Rattle.law_type_fixes.specs.lint_transaction.Names.{name_at}
use Rattle.law_type_fixes.specs.pass_data_type.declared.wider_integers.WideInteger.{WideInteger}
use Rattle.law_type_fixes.specs.pass_data_type.declared.wider_integers.WideInteger.TheVariants as wide
use Rattle.law_type_fixes.specs.pass_data_type.PreferTextField as varchar
use Rattle.law_type_fixes.specs.pass_data_type.PreferTimestamptz as timestamp
use Rattle.law_type_fixes.specs.pass_data_type.TypeNames.{row_for, row_of}
use Rattle.law_type_fixes.specs.pass_data_type.WiderIntegers as integer
use Rattle.law_type_fixes.specs.Rules.{TypeRule, varchars, timestamps, ints, smallints}
use Rattle.law_type_fixes.proofs.TypeReports.{arguments_stay, row_stays}
use Rattle.law_fix_steps.specs.Left.{EditsFollow, FixFollows}
use Rattle.law_fix_steps.proofs.Like.{type_rules}
use Rattle.law_fix_steps.proofs.Near.{Near, replacement_follows}

-- ---- a type of the same name

-- the tokens of a type keep their distance from its first one
pub record TypeNear (f : ℕ → ℕ) (tree new : Tree) (ty : ColType) : Type 0 where
  pub inner_first : Near f tree new ty.whole.first ty.inner.first
  pub inner_last : Near f tree new ty.whole.first ty.inner.last
  pub name : Near f tree new ty.whole.first ty.name

-- and so do the fixes of two reports on it
abbrev pub ReportFollows : (Tree → ColType → Violation) → (ℕ → ℕ) → Tree → Tree → ColType → Type 0
ReportFollows report f tree new ty =
    FixFollows (token_at new.toks (f ty.whole.first)).start (token_at tree.toks ty.whole.first).start (report new (type_moved f ty)).fix (report tree ty).fix

pub record SeesNames (r : TypeRule) : Type 0 where
  pub code : (tree : Tree) (ty : ColType) → (r.report tree ty).code ≡ r.code
  pub place : (tree : Tree) (ty : ColType) → (r.report tree ty).text_range.start ≡ (token_at tree.toks ty.whole.first).start
  pub test : (tree new : Tree) (f : ℕ → ℕ) (ty : ColType) → name_at new (f ty.name) ≡ name_at tree ty.name → r.test new (type_moved f ty) ≡ r.test tree ty
  pub fix : (tree new : Tree) (f : ℕ → ℕ) (ty : ColType) → name_at new (f ty.name) ≡ name_at tree ty.name → TypeNear f tree new ty → ReportFollows r.report f tree new ty

pub varchars_see : SeesNames varchars
unfolding varchar.report
varchars_see = record {
  code = λ tree ty. refl;
  place = λ tree ty. refl;
  test = λ tree new f ty name. (let args = arguments_stay f ty in λ i. args i && (is_of_kind kind.Varchar ty || (is_of_kind kind.Path ty && bytes_eq (name i) (codes "varchar"))));
  fix = λ tree new f ty name near. replacement_follows f tree new ty.whole.first (codes "text") (codes "text") ty.inner.first ty.inner.last refl near.inner_first near.inner_last;
}

pub timestamps_see : SeesNames timestamps
unfolding timestamp.report
timestamps_see = record {
  code = λ tree ty. refl;
  place = λ tree ty. refl;
  test = λ tree new f ty name. (let args = arguments_stay f ty in λ i. is_without_zone ty || (args i && (is_of_kind kind.Path ty && bytes_eq (name i) (codes "varchar"))));
  fix = λ tree new f ty name near. fixes tree new f ty near (is_without_zone ty);
}
  where
    fixes : (tree new : Tree) (f : ℕ → ℕ) (ty : ColType) → TypeNear f tree new ty → (b : Bool) →
        FixFollows (token_at new.toks (f ty.whole.first)).start (token_at tree.toks ty.whole.first).start
        (cond b (Some (replacement_fix (codes "Replace with `timestamptz`") (codes "timestamptz") (span_range_of new.toks (f ty.inner.first) (f ty.inner.last)))) None)
        (cond b (Some (replacement_fix (codes "Replace with `timestamptz`") (codes "timestamptz") (span_range_of tree.toks ty.inner.first ty.inner.last))) None)
    fixes tree new f ty near true = replacement_follows f tree new ty.whole.first (codes "timestamptz") (codes "timestamptz") ty.inner.first ty.inner.last refl near.inner_first near.inner_last
    fixes tree new f ty near false = tt

-- a wide type in place of a narrow one
wide_follows : (rows : List (List ℕ × WideInteger)) (tree new : Tree) (f : ℕ → ℕ) (ty : ColType) → name_at new (f ty.name) ≡ name_at tree ty.name → TypeNear f tree new ty →
    EditsFollow (token_at new.toks (f ty.whole.first)).start (token_at tree.toks ty.whole.first).start
    (replacement (span_range_of new.toks (f ty.name) (f ty.name)) (integer.word (unwrap_or (row_for rows new (type_moved f ty)) wide.Bigint)) ∷ [])
    (replacement (span_range_of tree.toks ty.name ty.name) (integer.word (unwrap_or (row_for rows tree ty) wide.Bigint)) ∷ [])
wide_follows rows tree new f ty name near =
    replacement_follows f tree new ty.whole.first (integer.word (unwrap_or (row_for rows new (type_moved f ty)) wide.Bigint)) (integer.word (unwrap_or (row_for rows tree ty) wide.Bigint)) ty.name ty.name
    (ap (λ (o : Option WideInteger). integer.word (unwrap_or o wide.Bigint)) (row_stays rows tree new f ty name)) near.name near.name

pub ints_see : SeesNames ints
unfolding integer.report
ints_see = record {
  code = λ tree ty. refl;
  place = λ tree ty. refl;
  test = λ tree new f ty name. ap is_some (row_stays integer.int_rows tree new f ty name);
  fix = wide_follows integer.int_rows;
}

pub smallints_see : SeesNames smallints
unfolding integer.report
smallints_see = record {
  code = λ tree ty. refl;
  place = λ tree ty. refl;
  test = λ tree new f ty name. ap is_some (row_stays integer.smallint_rows tree new f ty name);
  fix = wide_follows integer.smallint_rows;
}

pub all_see : All SeesNames type_rules
all_see =
    All-cons SeesNames varchars (timestamps ∷ ints ∷ smallints ∷ []) varchars_see
    (All-cons SeesNames timestamps (ints ∷ smallints ∷ []) timestamps_see
    (All-cons SeesNames ints (smallints ∷ []) ints_see (All-cons SeesNames smallints [] smallints_see (All-nil SeesNames))))

-- ---- the words of the fixes

-- none of the names that the rules look for
record Unlisted (name : List ℕ) : Type 0 where
  pub varchar_no : bytes_eq name (codes "varchar") ≡ false
  pub int_no : row_of integer.int_rows name ≡ None
  pub smallint_no : row_of integer.smallint_rows name ≡ None

text_unlisted : Unlisted (full_name (codes "text"))
unfolding full_name
text_unlisted = record { varchar_no = refl; int_no = refl; smallint_no = refl }

timestamptz_unlisted : Unlisted (full_name (codes "timestamptz"))
unfolding full_name
timestamptz_unlisted = record { varchar_no = refl; int_no = refl; smallint_no = refl }

wide_unlisted : (x : WideInteger) → Unlisted (full_name (integer.word x))
unfolding full_name
wide_unlisted wide.Bigint = record { varchar_no = refl; int_no = refl; smallint_no = refl }
wide_unlisted wide.Int8 = record { varchar_no = refl; int_no = refl; smallint_no = refl }
wide_unlisted wide.Bigserial = record { varchar_no = refl; int_no = refl; smallint_no = refl }
wide_unlisted wide.Serial8 = record { varchar_no = refl; int_no = refl; smallint_no = refl }

-- a word that a fix writes
pub data IsNewName (word : List ℕ) : Type 0 where
  text : word ≡ codes "text" → IsNewName word
  timestamptz : word ≡ codes "timestamptz" → IsNewName word
  wider : (x : WideInteger) → word ≡ integer.word x → IsNewName word

unlisted : (word : List ℕ) → IsNewName word → Unlisted (full_name word)
unlisted word (text e) = subst (λ (w : List ℕ). Unlisted (full_name w)) (sym e) text_unlisted
unlisted word (timestamptz e) = subst (λ (w : List ℕ). Unlisted (full_name w)) (sym e) timestamptz_unlisted
unlisted word (wider x e) = subst (λ (w : List ℕ). Unlisted (full_name w)) (sym e) (wide_unlisted x)

-- No rule reports a path of such a name.
pub all_silent : (word : List ℕ) → IsNewName word → (new : Tree) (t : ColType) → t.kind ≡ kind.Path → name_at new t.name ≡ full_name word → All (λ r. r.test new t ≡ false) type_rules
unfolding row_for same_type
all_silent word is new t path name =
    let u = unlisted word is in
    All-cons (λ r. r.test new t ≡ false) varchars (timestamps ∷ ints ∷ smallints ∷ [])
    ((λ i. has_arguments t && (same_type (path i) kind.Varchar || (same_type (path i) kind.Path && bytes_eq (name i) (codes "varchar")))) ∙ (λ i. has_arguments t && u.varchar_no i) ∙ and_false (has_arguments t))
    (All-cons (λ r. r.test new t ≡ false) timestamps (ints ∷ smallints ∷ [])
    ((λ i. (same_type (path i) kind.Timestamp && not t.with_zone) || (has_arguments t && (same_type (path i) kind.Path && bytes_eq (name i) (codes "varchar")))) ∙ (λ i. has_arguments t && u.varchar_no i) ∙ and_false (has_arguments t))
    (All-cons (λ r. r.test new t ≡ false) ints (smallints ∷ [])
    ((λ i. is_some (cond (same_type (path i) kind.Path) (row_of integer.int_rows (name i)) None)) ∙ ap is_some u.int_no)
    (All-cons (λ r. r.test new t ≡ false) smallints []
    ((λ i. is_some (cond (same_type (path i) kind.Path) (row_of integer.smallint_rows (name i)) None)) ∙ ap is_some u.smallint_no)
    (All-nil (λ r. r.test new t ≡ false)))))
  where
    and_false : (b : Bool) → (b && false) ≡ false
    and_false true = refl
    and_false false = refl
