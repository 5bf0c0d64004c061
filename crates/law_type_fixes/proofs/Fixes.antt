-- The fix of each report of the four rules makes a text that has a tree, in which the rule is silent where that report began.
use Rattle.std.proofs.Common.{◌≡◌, ◌≢◌, ℕ, ◌<◌, ◌⊎◌, ◌^◌, inl, inr, true, false, List, [], ◌∷◌, ◌++◌, map, length, append_assoc, sym, refl, ap, ◌∙◌, subst, arith, None}
use Rattle.std.proofs.lemmas.List.{map-append}
use Rattle.std.proofs.lemmas.List.Elements.{All-append, All-nil}
use Rattle.std.specs.Prelude.{All}
use Rattle.pass_data_type.specs.sql_token.Token.{Text}
use Rattle.pass_data_type.specs.sql_name.Name.{full_name}
use Rattle.pass_data_type.specs.sql_tree.declared.nodes.ColType.{ColType}
use Rattle.pass_data_type.specs.sql_tree.declared.nodes.Stmt.{Stmt}
use Rattle.pass_data_type.specs.sql_tree.declared.nodes.TyKind.TheVariants as kind
use Rattle.pass_data_type.specs.sql_tree.Statement.{Tree, IsTree}
use Rattle.law_edit_types.specs.law_renumber.Moved.{type_moved, stmt_moved}
use Rattle.law_edit_types.proofs.of_law_edit_inserts.Apart.{stays_within}
use Rattle.law_edit_types.specs.Runs.{fused, worded_tree, IsTypeName, Worded}
use Rattle.pass_data_type.specs.lint_base.declared.settings.LinterSettings.{LinterSettings}
use Rattle.pass_data_type.specs.lint_base.declared.violation.Violation.{Violation}
use Rattle.pass_data_type.specs.lint_base.Fixes.{FixValue}
use Rattle.pass_data_type.specs.lint_base.RuleSets.{Rules, has}
use Rattle.pass_data_type.specs.lint_node.ColumnTypes.{column_types}
use Rattle.pass_data_type.specs.lint_pass.RuleLaws.{one_all, pieces_all, where_all}
use Rattle.pass_data_type.specs.lint_pass.RuleTables.{enabled_reports}
use Rattle.pass_data_type.specs.lint_pass.Those.{that}
use Rattle.pass_data_type.specs.lint_transaction.Names.{name_at}
use Rattle.pass_data_type.specs.lint_transaction.Transaction.{no_stmt, stmt_at}
use Rattle.law_fixes.specs.Edited.{edited}
use Rattle.law_fixes.specs.Mended.{Mended}
use Rattle.law_fixes.proofs.Fixed.{At, at_or_none}
use Rattle.law_type_fixes.specs.Mended.{AreApart, TypeFixMends, TypeFixesMend, WithRun}
use Rattle.law_type_fixes.specs.Moved.{byte_moved}
use Rattle.law_type_fixes.specs.Rules.{TypeRule, reports_on, type_reports, type_table, varchars, timestamps, ints, smallints}
use Rattle.law_type_fixes.specs.Stays.{Exchanged, IsRun, replaced}
use Rattle.law_type_fixes.specs.Stays.IsRun.{inner as inner_run, name as name_run}
use Rattle.law_type_fixes.specs.Words.{AddsConstraint, AreWord, InnersBecomeWords, NamesBecomeWords, WordNow}
use Rattle.law_type_fixes.specs.Words.AreWord.{path, none}
use Rattle.law_type_fixes.proofs.ColumnTypes.{types_moved, no_types}
use Rattle.law_type_fixes.proofs.Edits.{PutsWord, puts_word}
use Rattle.law_type_fixes.proofs.TypeReports.{IsTypeRule, is_varchars, is_timestamps, is_ints, is_smallints}
use Rattle.law_type_fixes.proofs.Tables.{table_silent}
use Rattle.law_type_fixes.proofs.Tokens.{word_text, word_number}
use Rattle.law_type_fixes.proofs.TypesApart.{types_apart}
use Rattle.law_type_fixes.proofs.Words.{HasFix, InnerFix, NameFix, varchars_fix, timestamps_fix, ints_fix, smallints_fix}

-- ---- each report on a list of types

pub all_reports : (P : Violation → Type 0) (of : TypeRule) (tree : Tree) (all pre xs : List ColType) → all ≡ pre ++ xs →
    ((earlier : List ColType) (ty : ColType) (later : List ColType) → all ≡ earlier ++ ty ∷ later → of.test tree ty ≡ true → P (of.report tree ty)) → All P (reports_on of tree xs)
all_reports P of tree all pre [] e h = All-nil P
all_reports P of tree all pre (x ∷ xs) e h =
    All-append P (that (of.test tree) (of.report tree) x) (reports_on of tree xs)
    (where_all P (of.test tree x) (of.report tree x ∷ []) (λ passes. one_all P (of.report tree x) (h pre x xs e passes)))
    (all_reports P of tree all (pre ++ x ∷ []) xs (e ∙ sym (append_assoc pre (x ∷ []) xs)) h)

-- ---- one report

module _ (of : TypeRule) (law : IsTypeRule of) (tree : Tree) (rules : Rules) (settings : LinterSettings) (before : List Stmt) (st : Stmt) (after : List Stmt)
    (earlier : List ColType) (ty : ColType) (later : List ColType) (is : IsTree tree) (parts : tree.stmts ≡ before ++ st ∷ after) (cut : column_types st ≡ earlier ++ ty ∷ later) where
  -- the new statement, with its types
  record Replacing (n m : ℕ) (w : Text) (now : Stmt) : Type 0 where
    pub types : List ColType
    pub new : column_types now ≡ map (type_moved (fused n m)) earlier ++ (types ++ map (type_moved (fused n m)) later)
    pub silent : All (λ t. of.test (worded_tree tree n m w before now after) t ≡ false) types

  mended : (n m : ℕ) (w : Text) (f : FixValue) → IsRun ty n m → PutsWord tree n m w f → 0 < length w → (P : Stmt → Type 0) → Worded tree n m w before P after →
      ((now : Stmt) → P now → Replacing n m w now) → Mended (type_table of) tree rules settings (of.report tree ty) f.edits (WithRun tree f.edits)
  mended n m w f in_type puts some P worded replacing =
      let types = replacing worded.now worded.has in
      let ex : Exchanged of tree before st after worded.now n m w earlier ty later =
      record { is = is; parts = parts; old = cut; run = in_type; types = types.types; new = types.new; silent = types.silent } in
      let place = puts.place (of.report tree ty).text_range.start ∙ ap (byte_moved (replaced tree n m w)) (law.place tree ty) in
      record {
        new = worded_tree tree n m w before worded.now after;
        text = sym puts.text;
        is = worded.is;
        terms = record { n = n; m = m; w = w; order = puts.order; within = puts.within; put = puts.edits; toks = refl; terms = worded.terms };
        silent = subst (λ (p : ℕ). All (λ v. v.text_range.start ≢ p) (type_table of (worded_tree tree n m w before worded.now after) rules settings)) (sym place)
            (table_silent of law tree before st after worded.now n m w earlier ty later ex some rules settings);
      }

  long : (w : Text) → IsTypeName w → 0 < length w
  long w name = let size = name.word.long in omega (arith, size)

  -- ---- the inner tokens

  are_silent : (n : ℕ) (Gone : Type 0) (new : Tree) (types : List ColType) → ((new : Tree) (t : ColType) → t.kind ≡ kind.Path → t.args ≡ None → of.test new t ≡ false) → AreWord n Gone types →
      All (λ t. of.test new t ≡ false) types
  are_silent n Gone new types h (path t is kind named args) = subst (λ (l : List ColType). All (λ t. of.test new t ≡ false) l) (sym is) (one_all (λ t. of.test new t ≡ false) t (h new t kind args))
  are_silent n Gone new types h (none is why) = subst (λ (l : List ColType). All (λ t. of.test new t ≡ false) l) (sym is) (All-nil (λ t. of.test new t ≡ false))

  inner_mends : InnersBecomeWords → (f : FixValue) → InnerFix of tree ty f → AreApart tree.text f.edits → length (edited tree.text f.edits) < 2 ^ 32 →
      Mended (type_table of) tree rules settings (of.report tree ty) f.edits (WithRun tree f.edits)
  inner_mends words f fix apart short =
      let a = types_apart tree before st after earlier ty later is parts cut in
      let last = stays_within ty.whole.first a.until ty.inner.last (ap (λ (x : ColType). x.inner.last) a.here_is) in
      let high = last.1 in let top = a.within in
      let puts = puts_word tree ty.inner.first ty.inner.last fix.word f is.lexed a.inner (omega (arith, high, top)) fix.edits in
      mended ty.inner.first ty.inner.last fix.word f (inner_run refl refl) puts (long fix.word fix.names) (WordNow tree st earlier ty later)
      (words tree before st after earlier ty later fix.word is parts cut fix.replaced fix.names (puts.apart apart) (subst (λ (x : Text). length x < 2 ^ 32) puts.text short))
      (λ now new. record { types = new.types; new = new.is; silent = are_silent ty.inner.first (AddsConstraint tree st ty now) _ new.types fix.silent new.are })

  -- ---- the last name

  name_mends : NamesBecomeWords → (f : FixValue) → NameFix of tree ty f → AreApart tree.text f.edits → length (edited tree.text f.edits) < 2 ^ 32 →
      Mended (type_table of) tree rules settings (of.report tree ty) f.edits (WithRun tree f.edits)
  name_mends words f fix apart short =
      let a = types_apart tree before st after earlier ty later is parts cut in
      let last = stays_within ty.whole.first a.until ty.name (ap (λ (x : ColType). x.name) a.here_is) in
      let high = last.1 in let top = a.within in
      let within : ty.name < length tree.toks = omega (arith, high, top) in
      let puts = puts_word tree ty.name ty.name fix.word f is.lexed (omega arith) within fix.edits in
      mended ty.name ty.name fix.word f (name_run refl refl) puts (long fix.word fix.names) (λ now. now ≡ stmt_moved (fused ty.name ty.name) st)
      (words tree before st after earlier ty later fix.word is parts cut fix.path fix.old fix.names fix.plain (puts.apart apart) (subst (λ (x : Text). length x < 2 ^ 32) puts.text short))
      (λ now new. renamed now new within)
    where
      renamed : (now : Stmt) → now ≡ stmt_moved (fused ty.name ty.name) st → ty.name < length tree.toks → Replacing ty.name ty.name fix.word now
      renamed now new within = record {
        types = type_moved (fused ty.name ty.name) ty ∷ [];
        new = ap column_types new ∙ types_moved (fused ty.name ty.name) st ∙ ap (λ (l : List ColType). map (type_moved (fused ty.name ty.name)) l) cut
            ∙ map-append (type_moved (fused ty.name ty.name)) earlier (ty ∷ later);
        silent = one_all (λ t. of.test (worded_tree tree ty.name ty.name fix.word before now after) t ≡ false) (type_moved (fused ty.name ty.name) ty)
            (fix.silent (worded_tree tree ty.name ty.name fix.word before now after) (type_moved (fused ty.name ty.name) ty)
            (ap (λ (x : ℕ). name_at (worded_tree tree ty.name ty.name fix.word before now after) x) (word_number tree.text tree.toks ty.name ty.name fix.word is.lexed (omega arith) within)
            ∙ ap full_name (word_text tree.text tree.toks ty.name ty.name fix.word is.lexed (omega arith) within)));
      }

-- ---- all reports

-- What mends one report of a statement's type mends all of the table.
all_mend : (of : TypeRule) → IsTypeRule of →
    ((tree : Tree) (rules : Rules) (settings : LinterSettings) (before : List Stmt) (st : Stmt) (after : List Stmt) (earlier : List ColType) (ty : ColType) (later : List ColType) →
    IsTree tree → tree.stmts ≡ before ++ st ∷ after → column_types st ≡ earlier ++ ty ∷ later → of.test tree ty ≡ true → TypeFixMends (type_table of) tree rules settings (of.report tree ty)) →
    TypeFixesMend (type_table of)
all_mend of law one tree rules settings is =
    pieces_all Mends (enabled_reports of.code (λ i. type_reports of settings tree i (stmt_at tree i)) rules) (length tree.stmts)
    (λ j. where_all Mends (has rules of.code) (reports_on of tree (column_types (stmt_at tree j))) (λ enabled. each j (at_or_none tree.stmts j)))
  where
    Mends : Violation → Type 0
    Mends v = TypeFixMends (type_table of) tree rules settings v

    each : (j : ℕ) → At tree.stmts j ⊎ (stmt_at tree j ≡ no_stmt) → All Mends (reports_on of tree (column_types (stmt_at tree j)))
    each j (inr e) = subst (λ (l : List ColType). All Mends (reports_on of tree l)) (sym (ap column_types e ∙ no_types)) (All-nil Mends)
    each j (inl a) =
        all_reports Mends of tree (column_types (stmt_at tree j)) [] (column_types (stmt_at tree j)) refl
        (λ earlier ty later cut passes. one tree rules settings a.before (stmt_at tree j) a.after earlier ty later is a.parts cut passes)

inners_mend : InnersBecomeWords → (of : TypeRule) → IsTypeRule of → HasFix of InnerFix → TypeFixesMend (type_table of)
inners_mend words of law fixes =
    all_mend of law
    (λ tree rules settings before st after earlier ty later is parts cut passes f has apart short.
    inner_mends of law tree rules settings before st after earlier ty later is parts cut words f (fixes tree ty f passes has) apart short)

names_mend : NamesBecomeWords → (of : TypeRule) → IsTypeRule of → HasFix of NameFix → TypeFixesMend (type_table of)
names_mend words of law fixes =
    all_mend of law
    (λ tree rules settings before st after earlier ty later is parts cut passes f has apart short.
    name_mends of law tree rules settings before st after earlier ty later is parts cut words f (fixes tree ty f passes has) apart short)

-- ---- the four rules

pub varchars_mend : InnersBecomeWords → TypeFixesMend (type_table varchars)
varchars_mend words = inners_mend words varchars is_varchars varchars_fix

pub timestamps_mend : InnersBecomeWords → TypeFixesMend (type_table timestamps)
timestamps_mend words = inners_mend words timestamps is_timestamps timestamps_fix

pub ints_mend : NamesBecomeWords → TypeFixesMend (type_table ints)
ints_mend words = names_mend words ints is_ints ints_fix

pub smallints_mend : NamesBecomeWords → TypeFixesMend (type_table smallints)
smallints_mend words = names_mend words smallints is_smallints smallints_fix
