-- The fixes of column types are steps.
use Rattle.std.proofs.Common.{◌≡◌, ℕ, ◌<◌, ◌≤◌, ◌⊎◌, ◌^◌, inl, inr, Bool, true, false, cond, List, [], ◌∷◌, ◌++◌, length, sym, refl, ap, ◌∙◌, subst, arith, Some, None}
use Rattle.std.proofs.lemmas.List.Elements.{All-nil, All-cons, All-head, All-weaker}
use Rattle.std.specs.Prelude.{All, codes}
use Rattle.std.specs.Option.{unwrap_or}
use Rattle.law_type_fixes.specs.text_pos.Range.{Range}
use Rattle.law_type_fixes.specs.sql_token.Token.{Text}
use Rattle.law_type_fixes.specs.sql_tree.declared.nodes.ColType.{ColType}
use Rattle.law_type_fixes.specs.sql_tree.declared.nodes.Stmt.{Stmt}
use Rattle.law_type_fixes.specs.sql_tree.Range.{span_range_of}
use Rattle.law_type_fixes.specs.sql_tree.Statement.{Tree, IsTree}
use Rattle.law_type_fixes.proofs.of_law_edit_inserts.Apart.{stays_within}
use Rattle.law_type_fixes.specs.law_edit_types.Runs.{worded_tree}
use Rattle.law_type_fixes.specs.lint_base.declared.edit.Edit.{Edit}
use Rattle.law_type_fixes.specs.lint_base.declared.settings.LinterSettings.{LinterSettings}
use Rattle.law_type_fixes.specs.lint_base.declared.violation.Violation.{Violation}
use Rattle.law_type_fixes.specs.lint_base.Edits.{replacement}
use Rattle.law_type_fixes.specs.lint_base.Fixes.{FixValue}
use Rattle.law_type_fixes.specs.lint_base.RuleSets.{Rules, has}
use Rattle.law_type_fixes.specs.lint_node.ColumnTypes.{column_types, is_without_zone}
use Rattle.law_type_fixes.specs.lint_pass.Fixes.{replacement_fix}
use Rattle.law_type_fixes.specs.lint_pass.RuleLaws.{pieces_all, where_all}
use Rattle.law_type_fixes.specs.lint_pass.RuleTables.{enabled_reports}
use Rattle.law_type_fixes.specs.lint_transaction.Transaction.{no_stmt, stmt_at}
use Rattle.law_type_fixes.specs.pass_data_type.declared.wider_integers.WideInteger.TheVariants as wide
use Rattle.law_type_fixes.specs.pass_data_type.PreferTextField as varchar
use Rattle.law_type_fixes.specs.pass_data_type.PreferTimestamptz as timestamp
use Rattle.law_type_fixes.specs.pass_data_type.TypeNames.{row_for}
use Rattle.law_type_fixes.specs.pass_data_type.WiderIntegers as integer
use Rattle.law_type_fixes.specs.law_fixes.Mended.{Table, builds, detached, dropped, rebuilt}
use Rattle.law_type_fixes.proofs.of_law_fixes.Fixed.{At, at_or_none, inside_some}
use Rattle.law_type_fixes.specs.Mended.{AreApart, JoinsNone, TypeFixMends, TypeFixesMend, WithRun}
use Rattle.law_type_fixes.specs.Moved.{byte_moved}
use Rattle.law_type_fixes.specs.Rules.{TypeRule, reports_on, type_reports, type_table, ints, smallints, timestamps, varchars}
use Rattle.law_type_fixes.specs.Stays.{replaced}
use Rattle.law_type_fixes.proofs.ColumnTypes.{no_types}
use Rattle.law_type_fixes.proofs.Edits.{puts_word}
use Rattle.law_type_fixes.proofs.Fixes.{ints_mend, smallints_mend, timestamps_mend, varchars_mend, all_reports}
use Rattle.law_type_fixes.proofs.Inners.{inners_become_words}
use Rattle.law_type_fixes.proofs.LastNames.{names_become_words}
use Rattle.law_type_fixes.proofs.Tokens.{bounds}
use Rattle.law_type_fixes.proofs.TypesApart.{types_apart}
use Rattle.law_type_fixes.proofs.Words.{HasFix, InnerFix, NameFix, ints_fix, smallints_fix, timestamps_fix, varchars_fix}
use Rattle.law_fix_steps.specs.Leaves.{FixLeaves, FixesLeave}
use Rattle.law_fix_steps.specs.Step.{JoinNoWord, timeouts}
use Rattle.law_fix_steps.proofs.Fits.{BetweenWords, LeavesIf}
use Rattle.law_fix_steps.proofs.Comments.{type_ignores, type_says}
use Rattle.law_fix_steps.proofs.Steps.{FixAligns, FixSilences, both_of, mended_silences, table_leaves}
use Rattle.law_fix_steps.proofs.Like.{Aligned}
use Rattle.law_fix_steps.proofs.TypeNames.{IsNewName, SeesNames, ints_see, smallints_see, timestamps_see, varchars_see}
use Rattle.law_fix_steps.proofs.TypeNames.IsNewName.{text, timestamptz, wider}
use Rattle.law_fix_steps.proofs.TypeSteps.{renamed_aligned, retyped_aligned}

-- ---- the word of a fix

record PutsName (f : FixValue) : Type 0 where
  pub range : Range
  pub word : Text
  pub edits : f.edits ≡ replacement range word ∷ []
  pub is : IsNewName word

-- so it is for each fix of the rule
abbrev NamesFix : TypeRule → Type 0
NamesFix of = (tree : Tree) (ty : ColType) (f : FixValue) → (of.report tree ty).fix ≡ Some f → PutsName f

abbrev first_word : List Edit → Text
first_word [] = []
first_word (e ∷ es) = unwrap_or e.text []

same_word : (r q : Range) (v w : Text) → replacement r v ∷ [] ≡ replacement q w ∷ [] → v ≡ w
same_word r q v w e = ap first_word e

new_name : (f : FixValue) → PutsName f → (r : Range) (w : Text) → f.edits ≡ replacement r w ∷ [] → IsNewName w
new_name f p r w e = subst IsNewName (same_word p.range r p.word w (sym p.edits ∙ e)) p.is

puts_one : (title w : Text) (r : Range) (f : FixValue) → IsNewName w → Some (replacement_fix title w r) ≡ Some f → PutsName f
puts_one title w r f is e = record { range = r; word = w; edits = ap (λ (x : FixValue). x.edits) (sym (inside_some e)); is = is }

varchars_name : NamesFix varchars
unfolding varchar.report
varchars_name tree ty f e = puts_one (codes "Replace with `text`") (codes "text") (span_range_of tree.toks ty.inner.first ty.inner.last) f (text refl) e

timestamps_name : NamesFix timestamps
unfolding timestamp.report
timestamps_name tree ty f e = by (is_without_zone ty) e
  where
    by : (b : Bool) → cond b (Some (replacement_fix (codes "Replace with `timestamptz`") (codes "timestamptz") (span_range_of tree.toks ty.inner.first ty.inner.last))) None ≡ Some f → PutsName f
    by true e = puts_one (codes "Replace with `timestamptz`") (codes "timestamptz") (span_range_of tree.toks ty.inner.first ty.inner.last) f (timestamptz refl) e
    by false e = cc

ints_name : NamesFix ints
unfolding integer.report
ints_name tree ty f e =
    let x = unwrap_or (row_for integer.int_rows tree ty) wide.Bigint in
    puts_one (integer.title x) (integer.word x) (span_range_of tree.toks ty.name ty.name) f (wider x refl) e

smallints_name : NamesFix smallints
unfolding integer.report
smallints_name tree ty f e =
    let x = unwrap_or (row_for integer.smallint_rows tree ty) wide.Bigint in
    puts_one (integer.title x) (integer.word x) (span_range_of tree.toks ty.name ty.name) f (wider x refl) e

-- where no word is joined at a range that is not empty, none is joined
abbrev FixJoins : Tree → Violation → Type 0
FixJoins tree v = (f : FixValue) → v.fix ≡ Some f → JoinNoWord tree f.edits → BetweenWords tree f.edits

-- ---- one report

module _ (of : TypeRule) (names : NamesFix of) (tree : Tree) (settings : LinterSettings) (before : List Stmt) (st : Stmt) (after : List Stmt)
    (earlier : List ColType) (ty : ColType) (later : List ColType) (is : IsTree tree) (parts : tree.stmts ≡ before ++ st ∷ after) (cut : column_types st ≡ earlier ++ ty ∷ later) where
  inner_aligns : SeesNames of → HasFix of InnerFix → of.test tree ty ≡ true → FixAligns true tree settings (BetweenWords tree) (of.report tree ty)
  inner_aligns sees fixes passes f has fits short =
      let fix = fixes tree ty f passes has in
      let a = types_apart tree before st after earlier ty later is parts cut in
      let last = stays_within ty.whole.first a.until ty.inner.last (ap (λ (x : ColType). x.inner.last) a.here_is) in
      let high = last.1 in let top = a.within in
      let puts = puts_word tree ty.inner.first ty.inner.last fix.word f is.lexed a.inner (omega (arith, high, top)) fix.edits in
      let name = new_name f (names tree ty f has) (span_range_of tree.toks ty.inner.first ty.inner.last) fix.word fix.edits in
      let joins = puts.apart fits in
      let room = subst (λ (x : Text). length x < 2 ^ 32) puts.text short in
      let worded = inners_become_words tree before st after earlier ty later fix.word is parts cut fix.replaced fix.names joins room in
      record {
        new = worded_tree tree ty.inner.first ty.inner.last fix.word before worded.now after;
        text = sym puts.text;
        is = worded.is;
        move = byte_moved (replaced tree ty.inner.first ty.inner.last fix.word);
        place = puts.place;
        aligned = subst
            (λ (k : ℕ). Aligned true (byte_moved (replaced tree ty.inner.first ty.inner.last fix.word)) k settings.assume_in_transaction tree (worded_tree tree ty.inner.first ty.inner.last fix.word before worded.now after))
            (sym (sees.place tree ty))
            (retyped_aligned tree before st after earlier ty later is parts cut fix.word name fix.replaced fix.names joins room worded.now worded.is worded.has settings.assume_in_transaction);
        comments = type_says tree before worded.now after ty.inner.first ty.inner.last fix.word is a.inner (omega (arith, high, top));
        ignores = type_ignores tree before worded.now after ty.inner.first ty.inner.last fix.word is a.inner (omega (arith, high, top));
      }

  name_aligns : SeesNames of → HasFix of NameFix → of.test tree ty ≡ true → FixAligns true tree settings (BetweenWords tree) (of.report tree ty)
  name_aligns sees fixes passes f has fits short =
      let fix = fixes tree ty f passes has in
      let a = types_apart tree before st after earlier ty later is parts cut in
      let last = stays_within ty.whole.first a.until ty.name (ap (λ (x : ColType). x.name) a.here_is) in
      let high = last.1 in let top = a.within in
      let puts = puts_word tree ty.name ty.name fix.word f is.lexed (omega arith) (omega (arith, high, top)) fix.edits in
      let name = new_name f (names tree ty f has) (span_range_of tree.toks ty.name ty.name) fix.word fix.edits in
      let joins = puts.apart fits in
      let room = subst (λ (x : Text). length x < 2 ^ 32) puts.text short in
      let worded = names_become_words tree before st after earlier ty later fix.word is parts cut fix.path fix.old fix.names fix.plain joins room in
      record {
        new = worded_tree tree ty.name ty.name fix.word before worded.now after;
        text = sym puts.text;
        is = worded.is;
        move = byte_moved (replaced tree ty.name ty.name fix.word);
        place = puts.place;
        aligned = subst
            (λ (k : ℕ). Aligned true (byte_moved (replaced tree ty.name ty.name fix.word)) k settings.assume_in_transaction tree (worded_tree tree ty.name ty.name fix.word before worded.now after))
            (sym (sees.place tree ty)) (renamed_aligned tree before st after earlier ty later is parts cut fix.word name fix.path worded.now worded.has settings.assume_in_transaction);
        comments = type_says tree before worded.now after ty.name ty.name fix.word is (omega arith) (omega (arith, high, top));
        ignores = type_ignores tree before worded.now after ty.name ty.name fix.word is (omega arith) (omega (arith, high, top));
      }

  -- Its range is not empty, so that it joins no word if none is joined at such a range.
  ranges_join : (n m : ℕ) (w : Text) (f : FixValue) → n ≤ m → m < length tree.toks → f.edits ≡ replacement (span_range_of tree.toks n m) w ∷ [] → JoinNoWord tree f.edits → BetweenWords tree f.edits
  ranges_join n m w f order within e h =
      let grows = (bounds tree.text tree.toks n m w is.lexed order within).grows in
      subst (λ (es : List Edit). AreApart tree.text es) (sym e)
      (one_apart (All-head (λ x. x.text_range.start < x.text_range.end → JoinsNone tree.text x) (replacement (span_range_of tree.toks n m) w) [] (subst (λ (es : List Edit). JoinNoWord tree es) e h) (omega (arith, grows))))
    where
      one_apart : JoinsNone tree.text (replacement (span_range_of tree.toks n m) w) → AreApart tree.text (replacement (span_range_of tree.toks n m) w ∷ [])
      one_apart j = All-cons (JoinsNone tree.text) (replacement (span_range_of tree.toks n m) w) [] j (All-nil (JoinsNone tree.text))

  inner_joins : HasFix of InnerFix → of.test tree ty ≡ true → FixJoins tree (of.report tree ty)
  inner_joins fixes passes f has h =
      let fix = fixes tree ty f passes has in
      let a = types_apart tree before st after earlier ty later is parts cut in
      let last = stays_within ty.whole.first a.until ty.inner.last (ap (λ (x : ColType). x.inner.last) a.here_is) in
      let high = last.1 in let top = a.within in
      ranges_join ty.inner.first ty.inner.last fix.word f a.inner (omega (arith, high, top)) fix.edits h

  name_joins : HasFix of NameFix → of.test tree ty ≡ true → FixJoins tree (of.report tree ty)
  name_joins fixes passes f has h =
      let fix = fixes tree ty f passes has in
      let a = types_apart tree before st after earlier ty later is parts cut in
      let last = stays_within ty.whole.first a.until ty.name (ap (λ (x : ColType). x.name) a.here_is) in
      let high = last.1 in let top = a.within in
      ranges_join ty.name ty.name fix.word f (omega arith) (omega (arith, high, top)) fix.edits h

-- ---- all reports

-- what holds of the report on each type of a statement
abbrev OfEach : TypeRule → (Tree → LinterSettings → Violation → Type 0) → Type 0
OfEach of P =
    (tree : Tree) (settings : LinterSettings) (before : List Stmt) (st : Stmt) (after : List Stmt) (earlier : List ColType) (ty : ColType) (later : List ColType) → IsTree tree → tree.stmts ≡ before ++ st ∷ after →
    column_types st ≡ earlier ++ ty ∷ later → of.test tree ty ≡ true → P tree settings (of.report tree ty)

of_all : (of : TypeRule) (P : Tree → LinterSettings → Violation → Type 0) → OfEach of P → (tree : Tree) (rules : Rules) (settings : LinterSettings) → IsTree tree → All (P tree settings) (type_table of tree rules settings)
of_all of P one tree rules settings is =
    pieces_all (P tree settings) (enabled_reports of.code (λ i. type_reports of settings tree i (stmt_at tree i)) rules) (length tree.stmts)
    (λ j. where_all (P tree settings) (has rules of.code) (reports_on of tree (column_types (stmt_at tree j))) (λ enabled. each j (at_or_none tree.stmts j)))
  where
    each : (j : ℕ) → At tree.stmts j ⊎ (stmt_at tree j ≡ no_stmt) → All (P tree settings) (reports_on of tree (column_types (stmt_at tree j)))
    each j (inr e) = subst (λ (l : List ColType). All (P tree settings) (reports_on of tree l)) (sym (ap column_types e ∙ no_types)) (All-nil (P tree settings))
    each j (inl a) =
        all_reports (P tree settings) of tree (column_types (stmt_at tree j)) [] (column_types (stmt_at tree j)) refl
        (λ earlier ty later cut passes. one tree settings a.before (stmt_at tree j) a.after earlier ty later is a.parts cut passes)

all_align : (of : TypeRule) → OfEach of (λ tree settings v. FixAligns true tree settings (BetweenWords tree) v) → (tree : Tree) (rules : Rules) (settings : LinterSettings) → IsTree tree →
    All (FixAligns true tree settings (BetweenWords tree)) (type_table of tree rules settings)
all_align of one tree rules settings is = of_all of (λ tree settings v. FixAligns true tree settings (BetweenWords tree) v) one tree rules settings is

silences : (of : TypeRule) → TypeFixesMend (type_table of) → (tree : Tree) (rules : Rules) (settings : LinterSettings) → IsTree tree →
    All (FixSilences (type_table of) tree rules settings (BetweenWords tree)) (type_table of tree rules settings)
silences of law tree rules settings is =
    All-weaker (TypeFixMends (type_table of) tree rules settings) (FixSilences (type_table of) tree rules settings (BetweenWords tree))
    (λ v h f fixed fits short new made new_is. mended_silences (type_table of) tree rules settings v f.edits (WithRun tree f.edits) (h f fixed fits short) new made new_is) (type_table of tree rules settings) (law tree rules settings is)

abbrev word_tables : List Table
word_tables = builds ∷ dropped ∷ rebuilt ∷ detached ∷ []

varchars_apart : LeavesIf BetweenWords (type_table varchars)
varchars_apart tree rules settings is =
    table_leaves word_tables (type_table varchars) (type_table timestamps ∷ type_table ints ∷ type_table smallints ∷ timeouts ∷ []) refl tree rules settings (BetweenWords tree)
    (all_align varchars (λ tree settings before st after earlier ty later is parts cut passes. inner_aligns varchars varchars_name tree settings before st after earlier ty later is parts cut varchars_see varchars_fix passes) tree rules settings is)
    (silences varchars (varchars_mend inners_become_words) tree rules settings is)

timestamps_apart : LeavesIf BetweenWords (type_table timestamps)
timestamps_apart tree rules settings is =
    table_leaves (word_tables ++ type_table varchars ∷ []) (type_table timestamps) (type_table ints ∷ type_table smallints ∷ timeouts ∷ []) refl tree rules settings (BetweenWords tree)
    (all_align timestamps (λ tree settings before st after earlier ty later is parts cut passes. inner_aligns timestamps timestamps_name tree settings before st after earlier ty later is parts cut timestamps_see timestamps_fix passes) tree rules settings is)
    (silences timestamps (timestamps_mend inners_become_words) tree rules settings is)

ints_apart : LeavesIf BetweenWords (type_table ints)
ints_apart tree rules settings is =
    table_leaves (word_tables ++ type_table varchars ∷ type_table timestamps ∷ []) (type_table ints) (type_table smallints ∷ timeouts ∷ []) refl tree rules settings (BetweenWords tree)
    (all_align ints (λ tree settings before st after earlier ty later is parts cut passes. name_aligns ints ints_name tree settings before st after earlier ty later is parts cut ints_see ints_fix passes) tree rules settings is)
    (silences ints (ints_mend names_become_words) tree rules settings is)

smallints_apart : LeavesIf BetweenWords (type_table smallints)
smallints_apart tree rules settings is =
    table_leaves (word_tables ++ type_table varchars ∷ type_table timestamps ∷ type_table ints ∷ []) (type_table smallints) (timeouts ∷ []) refl tree rules settings (BetweenWords tree)
    (all_align smallints (λ tree settings before st after earlier ty later is parts cut passes. name_aligns smallints smallints_name tree settings before st after earlier ty later is parts cut smallints_see smallints_fix passes) tree rules settings is)
    (silences smallints (smallints_mend names_become_words) tree rules settings is)

-- ---- the same, where no word is joined at a range that is not empty

free_leaves : (of : TypeRule) → OfEach of (λ tree settings v. FixJoins tree v) → LeavesIf BetweenWords (type_table of) → FixesLeave (type_table of)
free_leaves of joins steps tree rules settings is =
    All-weaker (λ v. FixLeaves (type_table of) tree rules settings (BetweenWords tree) v × FixJoins tree v) (FixLeaves (type_table of) tree rules settings (JoinNoWord tree)) (λ v both f has fits short. both.0 f has (both.1 f has fits) short) (type_table of tree rules settings)
    (both_of (FixLeaves (type_table of) tree rules settings (BetweenWords tree)) (FixJoins tree) (type_table of tree rules settings) (steps tree rules settings is) (of_all of (λ tree settings v. FixJoins tree v) joins tree rules settings is))

pub varchars_leave : FixesLeave (type_table varchars)
varchars_leave =
    free_leaves varchars (λ tree settings before st after earlier ty later is parts cut passes. inner_joins varchars varchars_name tree settings before st after earlier ty later is parts cut varchars_fix passes) varchars_apart

pub timestamps_leave : FixesLeave (type_table timestamps)
timestamps_leave =
    free_leaves timestamps (λ tree settings before st after earlier ty later is parts cut passes. inner_joins timestamps timestamps_name tree settings before st after earlier ty later is parts cut timestamps_fix passes) timestamps_apart

pub ints_leave : FixesLeave (type_table ints)
ints_leave =
    free_leaves ints (λ tree settings before st after earlier ty later is parts cut passes. name_joins ints ints_name tree settings before st after earlier ty later is parts cut ints_fix passes) ints_apart

pub smallints_leave : FixesLeave (type_table smallints)
smallints_leave =
    free_leaves smallints (λ tree settings before st after earlier ty later is parts cut passes. name_joins smallints smallints_name tree settings before st after earlier ty later is parts cut smallints_fix passes) smallints_apart
