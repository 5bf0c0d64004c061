-- The answer for the text that a followed fix makes.
use Rattle.std.proofs.Common.{◌≡◌, ◌∙◌, ℕ, ◌+◌, inl, inr, Bool, true, false, List, [], ◌∷◌, length, sym, refl, ap, subst, arith, Option, Some, None, IfSome}
use Rattle.std.proofs.lemmas.Bool.{false≢true}
use Rattle.std.proofs.lemmas.List.Elements.{All-cons, All-contains, All-head, All-nil, All-tail, All-weaker}
use Rattle.std.specs.List.{list_any}
use Rattle.std.specs.Prelude.{All, Contains, ◌&&◌, ◌||◌, is_some, not}
use Rattle.std.specs.Str.{IsUtf8}
use Rattle.law_fix_steps.specs.sql_token.declared.token.Tok.{Tok}
use Rattle.law_fix_steps.specs.sql_tree.Statement.{Tree}
use Rattle.law_fix_steps.specs.lint_base.declared.edit.Edit.{Edit}
use Rattle.law_fix_steps.specs.lint_base.declared.rule.Rule.{Rule}
use Rattle.law_fix_steps.specs.lint_base.declared.rule.Rule.TheVariants as rule
use Rattle.law_fix_steps.specs.lint_base.declared.settings.LinterSettings.{LinterSettings}
use Rattle.law_fix_steps.specs.lint_base.declared.violation.Violation.{Violation}
use Rattle.law_fix_steps.specs.lint_base.Fixes.{FixValue}
use Rattle.law_fix_steps.specs.lint_base.RuleSets.{Rules}
use Rattle.law_fix_steps.specs.lint_ignore.Comment.{has_disable_comment, ignore_in_token}
use Rattle.law_fix_steps.specs.lint_pass.Laws.{IsPlacedIn, IsRead}
use Rattle.squawk_linter.specs.pass_groups.OwnTable.{own_table}
use Rattle.law_fix_steps.specs.law_fixes.Edited.{edited, place_moved}
use Rattle.law_fix_steps.specs.law_fixes.Mended.{Table, builds, dropped, rebuilt, detached}
use Rattle.law_fix_steps.specs.law_type_fixes.Rules.{type_table, ints, smallints, timestamps, varchars}
use Rattle.law_fix_steps.specs.Kept.{Kept, SameAt}
use Rattle.law_fix_steps.specs.Leaves.{FixesLeave, FixLeaves, Leaves, followed_tables, is_followed}
use Rattle.law_fix_steps.specs.Left.{Left}
use Rattle.law_fix_steps.specs.Listed.{is_listed}
use Rattle.law_fix_steps.specs.Step.{JoinNoWord, has_ignore_comment, listed_tables, timeouts}
use Rattle.squawk_linter.specs.law_answers.Tables.{IsInItsTable, mended_table}
use Rattle.squawk_linter.specs.Answers.{reports}
use Rattle.squawk_linter.specs.Headline.{HasNoIgnoreComment}
use Rattle.squawk_linter.specs.Mending.{AnswersAreInTheirTables}
use Rattle.squawk_linter.specs.Placed.{IsPlacedPass}
use Rattle.squawk_linter.specs.Reports.{cleared, start_of}
use Rattle.squawk_linter.proofs.HeadlineLaws.{plain_answer}
use Rattle.law_answer_steps.specs.Leaves.{AnswerLeaves, AnswersLeave, ComesFrom, FixLeavesAnswer, IsLeft}
use Rattle.law_answer_steps.proofs.Found.{From, KeptFrom, To, kept_from, left_from, left_to}
use Rattle.law_answer_steps.proofs.Members.{builds_in, detached_in, dropped_in, ints_in, rebuilt_in, smallints_in, timeouts_in, timestamps_in, varchars_in}
use Rattle.law_answer_steps.proofs.Ordered.{by_key_has}

-- ---- ignore comments

pub has_none : (text : List ℕ) (toks : List Tok) → list_any (λ k. is_some (ignore_in_token text k)) toks ≡ false → All (λ k. ignore_in_token text k ≡ None) toks
has_none text [] h = All-nil (λ k. ignore_in_token text k ≡ None)
has_none text (k ∷ ks) h =
    let both = either_not (is_some (ignore_in_token text k)) (list_any (λ k. is_some (ignore_in_token text k)) ks) h in
    All-cons (λ k. ignore_in_token text k ≡ None) k ks (is_none (ignore_in_token text k) both.0) (has_none text ks both.1)
  where
    either_not : (a b : Bool) → (a || b) ≡ false → (a ≡ false) × (b ≡ false)
    either_not true b h = cc
    either_not false b h = (refl, h)

    is_none : {X : Type 0} (o : Option X) → is_some o ≡ false → o ≡ None
    is_none None h = refl
    is_none (Some x) h = cc

pub none_has : (text : List ℕ) (toks : List Tok) → All (λ k. ignore_in_token text k ≡ None) toks → list_any (λ k. is_some (ignore_in_token text k)) toks ≡ false
none_has text [] h = refl
none_has text (k ∷ ks) h =
    let here = All-head (λ k. ignore_in_token text k ≡ None) k ks h in
    let rest = none_has text ks (All-tail (λ k. ignore_in_token text k ≡ None) k ks h) in
    λ i. is_some (here i) || rest i

stays_plain : (tree new : Tree) → (has_ignore_comment new ≡ true → has_ignore_comment tree ≡ true) → HasNoIgnoreComment tree → HasNoIgnoreComment new
stays_plain tree new ignores plain = has_none new.text new.toks (by (has_ignore_comment new) refl)
  where
    by : (b : Bool) → has_ignore_comment new ≡ b → b ≡ false
    by true e = sym (ignores e) ∙ none_has tree.text tree.toks plain
    by false e = refl

-- ---- the flag

and_true : (a : Bool) → (a && true) ≡ a
and_true true = refl
and_true false = refl

pub stays : (tree new : Tree) (settings : LinterSettings) → (has_disable_comment new ≡ true → has_disable_comment tree ≡ true) → cleared tree settings ≡ settings → cleared new settings ≡ settings
stays tree new settings comments same = by (has_disable_comment new) refl
  where
    by : (b : Bool) → has_disable_comment new ≡ b → cleared new settings ≡ settings
    by true e =
        let equal : has_disable_comment new ≡ has_disable_comment tree = e ∙ sym (comments e) in
        (λ i. record settings { assume_in_transaction = settings.assume_in_transaction && not (equal i) }) ∙ same
    by false e =
        (λ i. record settings { assume_in_transaction = settings.assume_in_transaction && not (e i) })
        ∙ (λ i. record settings { assume_in_transaction = and_true settings.assume_in_transaction i })

-- ---- what the passes report is in the answer

in_answer : IsPlacedPass own_table → (tree : Tree) (rules : Rules) (settings : LinterSettings) → IsRead tree → HasNoIgnoreComment tree → cleared tree settings ≡ settings →
    (v : Violation) → Contains (own_table tree rules settings) v → Contains (reports tree rules settings) v
in_answer placed tree rules settings read plain same v inside =
    let place = All-contains (IsPlacedIn tree) (own_table tree rules settings) v (placed tree rules settings read) inside in
    let high = place.range.end.0 in let order = place.range.ordered in
    let own : Contains (own_table tree rules (cleared tree settings)) v = subst (λ (s : LinterSettings). Contains (own_table tree rules s) v) (sym same) inside in
    subst (λ (vs : List Violation). Contains vs v) (sym (plain_answer tree (own_table tree rules (cleared tree settings)) rules plain))
    (by_key_has start_of (length tree.text + 1) (own_table tree rules (cleared tree settings)) v own (omega (arith, high, order)))

-- ---- one fix

-- the laws of the tables of all followed rules
pub record TablesLeave : Type 0 where
  pub builds_leave : FixesLeave builds
  pub dropped_leave : FixesLeave dropped
  pub rebuilt_leave : FixesLeave rebuilt
  pub varchars_leave : FixesLeave (type_table varchars)
  pub timestamps_leave : FixesLeave (type_table timestamps)
  pub ints_leave : FixesLeave (type_table ints)
  pub smallints_leave : FixesLeave (type_table smallints)

module _ (tables : AnswersAreInTheirTables) (placed : IsPlacedPass own_table) (tree : Tree) (rules : Rules) (settings : LinterSettings) (read : IsRead tree) (plain : HasNoIgnoreComment tree) (same : cleared tree settings ≡ settings) where
  in_its_table : (t : Tree) → cleared t settings ≡ settings → All (IsInItsTable t rules settings) (reports t rules settings)
  in_its_table t e = subst (λ (s : LinterSettings). All (IsInItsTable t rules s) (reports t rules settings)) e (tables t rules settings)

  module _ (table : Table) (v : Violation) (edits : List Edit) (is_table : mended_table v.code ≡ Some table) (leaves : Leaves table tree rules settings v edits) (utf8 : IsUtf8 (edited tree.text edits)) where
    abbrev new : Tree
    new = leaves.steps.new

    abbrev move : ℕ → ℕ
    move = place_moved edits

    abbrev gone : ℕ
    gone = v.text_range.start

    new_plain : HasNoIgnoreComment new
    new_plain = stays_plain tree new leaves.steps.ignores plain

    new_same : cleared new settings ≡ settings
    new_same = stays tree new settings leaves.steps.comments same

    new_read : IsRead new
    new_read = record { read = leaves.steps.is; utf8 = subst IsUtf8 (sym leaves.steps.text) utf8 }

    -- ---- each new report comes from an old one

    -- a new report of the rule of v is in the table
    other : (w : Violation) → IsInItsTable new rules settings w → SameAt move w v → ⊥
    other w inside at =
        let here : IfSome (mended_table w.code) (λ t. Contains (t new rules settings) w) = inside in
        let there : Contains (table new rules settings) w =
        subst (λ (o : Option Table). IfSome o (λ t. Contains (t new rules settings) w)) (ap mended_table at.code ∙ is_table) here in
        All-contains (λ x. SameAt move x v → ⊥) (table new rules settings) w leaves.silent there at

    abbrev Goal : Violation → Type 0
    Goal w = ComesFrom move (reports tree rules settings) v w

    old_in : (u : Violation) → Contains (own_table tree rules settings) u → Contains (reports tree rules settings) u
    old_in = in_answer placed tree rules settings read plain same

    abbrev LeftIn : Table → Type 0
    LeftIn t = Left true move gone (t new rules settings) (t tree rules settings)

    abbrev KeptIn : Table → Type 0
    KeptIn t = Kept move (t new rules settings) (t tree rules settings)

    of_left : (t : Table) → LeftIn t → ((u : Violation) → Contains (t tree rules settings) u → Contains (own_table tree rules settings) u) → (w : Violation) → (SameAt move w v → ⊥) → Contains (t new rules settings) w → Goal w
    of_left t left own w not_v inside =
        let f = All-contains (From true move gone (t tree rules settings)) (t new rules settings) w (left_from true move gone (t new rules settings) (t tree rules settings) left) inside in
        record { old = f.0; there = old_in f.0 (own f.0 f.1); comes = record { same = f.2.same; fix = λ followed. f.2.fix refl }; other = not_v }

    of_kept : (t : Table) → KeptIn t → ((u : Violation) → Contains (t tree rules settings) u → Contains (own_table tree rules settings) u) → (w : Violation) → is_followed w.code ≡ false → (SameAt move w v → ⊥) →
        Contains (t new rules settings) w → Goal w
    of_kept t kept own w unfollowed not_v inside =
        let f = All-contains (KeptFrom move (t tree rules settings)) (t new rules settings) w (kept_from move (t new rules settings) (t tree rules settings) kept) inside in
        record {
          old = f.0;
          there = old_in f.0 (own f.0 f.1);
          comes = record { same = f.2; fix = λ followed. absurd (false≢true (sym unfollowed ∙ ap is_followed f.2.code ∙ followed)) };
          other = not_v;
        }

    -- the tables by their places
    left1 : All LeftIn followed_tables
    left1 = leaves.left

    left2 : All LeftIn (dropped ∷ rebuilt ∷ type_table varchars ∷ type_table timestamps ∷ type_table ints ∷ type_table smallints ∷ [])
    left2 = All-tail LeftIn builds (dropped ∷ rebuilt ∷ type_table varchars ∷ type_table timestamps ∷ type_table ints ∷ type_table smallints ∷ []) left1

    left3 : All LeftIn (rebuilt ∷ type_table varchars ∷ type_table timestamps ∷ type_table ints ∷ type_table smallints ∷ [])
    left3 = All-tail LeftIn dropped (rebuilt ∷ type_table varchars ∷ type_table timestamps ∷ type_table ints ∷ type_table smallints ∷ []) left2

    left4 : All LeftIn (type_table varchars ∷ type_table timestamps ∷ type_table ints ∷ type_table smallints ∷ [])
    left4 = All-tail LeftIn rebuilt (type_table varchars ∷ type_table timestamps ∷ type_table ints ∷ type_table smallints ∷ []) left3

    left5 : All LeftIn (type_table timestamps ∷ type_table ints ∷ type_table smallints ∷ [])
    left5 = All-tail LeftIn (type_table varchars) (type_table timestamps ∷ type_table ints ∷ type_table smallints ∷ []) left4

    left6 : All LeftIn (type_table ints ∷ type_table smallints ∷ [])
    left6 = All-tail LeftIn (type_table timestamps) (type_table ints ∷ type_table smallints ∷ []) left5

    left7 : All LeftIn (type_table smallints ∷ [])
    left7 = All-tail LeftIn (type_table ints) (type_table smallints ∷ []) left6

    builds_left : LeftIn builds
    builds_left = All-head LeftIn builds (dropped ∷ rebuilt ∷ type_table varchars ∷ type_table timestamps ∷ type_table ints ∷ type_table smallints ∷ []) left1

    dropped_left : LeftIn dropped
    dropped_left = All-head LeftIn dropped (rebuilt ∷ type_table varchars ∷ type_table timestamps ∷ type_table ints ∷ type_table smallints ∷ []) left2

    rebuilt_left : LeftIn rebuilt
    rebuilt_left = All-head LeftIn rebuilt (type_table varchars ∷ type_table timestamps ∷ type_table ints ∷ type_table smallints ∷ []) left3

    varchars_left : LeftIn (type_table varchars)
    varchars_left = All-head LeftIn (type_table varchars) (type_table timestamps ∷ type_table ints ∷ type_table smallints ∷ []) left4

    timestamps_left : LeftIn (type_table timestamps)
    timestamps_left = All-head LeftIn (type_table timestamps) (type_table ints ∷ type_table smallints ∷ []) left5

    ints_left : LeftIn (type_table ints)
    ints_left = All-head LeftIn (type_table ints) (type_table smallints ∷ []) left6

    smallints_left : LeftIn (type_table smallints)
    smallints_left = All-head LeftIn (type_table smallints) [] left7

    abbrev types : List Table
    types = type_table varchars ∷ type_table timestamps ∷ type_table ints ∷ type_table smallints ∷ timeouts ∷ []

    detached_kept : KeptIn detached
    detached_kept =
        All-head KeptIn detached types
        (All-tail KeptIn rebuilt (detached ∷ types) (All-tail KeptIn dropped (rebuilt ∷ detached ∷ types) (All-tail KeptIn builds (dropped ∷ rebuilt ∷ detached ∷ types) leaves.steps.kept)))

    timeouts_kept : KeptIn timeouts
    timeouts_kept = All-contains KeptIn listed_tables timeouts leaves.steps.kept (8, omega arith, refl)

    by_rule : (w : Violation) (r : Rule) → w.code ≡ r → IfSome (mended_table r) (λ t. Contains (t new rules settings) w) → (SameAt move w v → ⊥) → is_listed r ≡ true → Goal w
    by_rule w rule.RequireConcurrentIndexCreation code inside not_v e = of_left builds builds_left (builds_in tree rules settings) w not_v inside
    by_rule w rule.RequireConcurrentIndexDeletion code inside not_v e = of_left dropped dropped_left (dropped_in tree rules settings) w not_v inside
    by_rule w rule.RequireConcurrentReindex code inside not_v e = of_left rebuilt rebuilt_left (rebuilt_in tree rules settings) w not_v inside
    by_rule w rule.RequireConcurrentPartitionDetach code inside not_v e = of_kept detached detached_kept (detached_in tree rules settings) w (ap is_followed code) not_v inside
    by_rule w rule.RequireLockTimeout code inside not_v e = of_kept timeouts timeouts_kept (timeouts_in tree rules settings) w (ap is_followed code) not_v inside
    by_rule w rule.RequireStatementTimeout code inside not_v e = of_kept timeouts timeouts_kept (timeouts_in tree rules settings) w (ap is_followed code) not_v inside
    by_rule w rule.PreferTextField code inside not_v e = of_left (type_table varchars) varchars_left (varchars_in tree rules settings) w not_v inside
    by_rule w rule.PreferTimestampTz code inside not_v e = of_left (type_table timestamps) timestamps_left (timestamps_in tree rules settings) w not_v inside
    by_rule w rule.PreferBigintOverInt code inside not_v e = of_left (type_table ints) ints_left (ints_in tree rules settings) w not_v inside
    by_rule w rule.PreferBigintOverSmallint code inside not_v e = of_left (type_table smallints) smallints_left (smallints_in tree rules settings) w not_v inside
    by_rule w _ code inside not_v e = absurd (false≢true e)

    -- ---- each old report is left

    abbrev Stays : Violation → Type 0
    Stays u = IsLeft move gone (reports new rules settings) u

    new_in : (w : Violation) → Contains (own_table new rules settings) w → Contains (reports new rules settings) w
    new_in = in_answer placed new rules settings new_read new_plain new_same

    of_old : (t : Table) → LeftIn t → ((w : Violation) → Contains (t new rules settings) w → Contains (own_table new rules settings) w) → (u : Violation) → Contains (t tree rules settings) u → Stays u
    of_old t left own u inside =
        by (All-contains (To true move gone (t new rules settings)) (t tree rules settings) u (left_to true move gone (t new rules settings) (t tree rules settings) left) inside)
      where
        by : To true move gone (t new rules settings) u → Stays u
        by (inl e) = inl e
        by (inr f) = inr (f.0, new_in f.0 (own f.0 f.1), record { same = f.2.same; fix = λ followed. f.2.fix refl })

    stays_by : (u : Violation) (r : Rule) → IfSome (mended_table r) (λ t. Contains (t tree rules settings) u) → is_followed r ≡ true → Stays u
    stays_by u rule.RequireConcurrentIndexCreation inside e = of_old builds builds_left (builds_in new rules settings) u inside
    stays_by u rule.RequireConcurrentIndexDeletion inside e = of_old dropped dropped_left (dropped_in new rules settings) u inside
    stays_by u rule.RequireConcurrentReindex inside e = of_old rebuilt rebuilt_left (rebuilt_in new rules settings) u inside
    stays_by u rule.PreferTextField inside e = of_old (type_table varchars) varchars_left (varchars_in new rules settings) u inside
    stays_by u rule.PreferTimestampTz inside e = of_old (type_table timestamps) timestamps_left (timestamps_in new rules settings) u inside
    stays_by u rule.PreferBigintOverInt inside e = of_old (type_table ints) ints_left (ints_in new rules settings) u inside
    stays_by u rule.PreferBigintOverSmallint inside e = of_old (type_table smallints) smallints_left (smallints_in new rules settings) u inside
    stays_by u _ inside e = absurd (false≢true e)

    answer : AnswerLeaves tree rules settings v edits
    answer = record {
      steps = leaves.steps;
      plain = new_plain;
      same = new_same;
      from = All-weaker (IsInItsTable new rules settings) (λ w. is_listed w.code ≡ true → ComesFrom (place_moved edits) (reports tree rules settings) v w)
          (λ w inside listed. by_rule w w.code refl inside (other w inside) listed) (reports new rules settings) (in_its_table new new_same);
      left = All-weaker (IsInItsTable tree rules settings) (λ u. is_followed u.code ≡ true → IsLeft (place_moved edits) v.text_range.start (reports new rules settings) u)
          (λ u inside followed. stays_by u u.code inside followed) (reports tree rules settings) (in_its_table tree same);
    }

  -- ---- by the rule of the report

  module _ (v : Violation) (f : FixValue) (laws : TablesLeave) where
    of_table : (table : Table) → FixesLeave table → mended_table v.code ≡ Some table → Contains (table tree rules settings) v → FixLeavesAnswer tree rules settings v f
    of_table table law is_table inside has joins short utf8 =
        answer table v f.edits is_table (All-contains (FixLeaves table tree rules settings (JoinNoWord tree)) (table tree rules settings) v (law tree rules settings read.read) inside f has joins short) utf8

    leaves_by : (r : Rule) → v.code ≡ r → IfSome (mended_table r) (λ t. Contains (t tree rules settings) v) → is_followed r ≡ true → FixLeavesAnswer tree rules settings v f
    leaves_by rule.RequireConcurrentIndexCreation code inside e = of_table builds laws.builds_leave (ap mended_table code) inside
    leaves_by rule.RequireConcurrentIndexDeletion code inside e = of_table dropped laws.dropped_leave (ap mended_table code) inside
    leaves_by rule.RequireConcurrentReindex code inside e = of_table rebuilt laws.rebuilt_leave (ap mended_table code) inside
    leaves_by rule.PreferTextField code inside e = of_table (type_table varchars) laws.varchars_leave (ap mended_table code) inside
    leaves_by rule.PreferTimestampTz code inside e = of_table (type_table timestamps) laws.timestamps_leave (ap mended_table code) inside
    leaves_by rule.PreferBigintOverInt code inside e = of_table (type_table ints) laws.ints_leave (ap mended_table code) inside
    leaves_by rule.PreferBigintOverSmallint code inside e = of_table (type_table smallints) laws.smallints_leave (ap mended_table code) inside
    leaves_by _ code inside e = absurd (false≢true e)

pub answers_leave : AnswersAreInTheirTables → IsPlacedPass own_table → TablesLeave → AnswersLeave
answers_leave tables placed laws tree rules settings read plain same =
    All-weaker (IsInItsTable tree rules settings) (λ v. is_followed v.code ≡ true → (f : FixValue) → FixLeavesAnswer tree rules settings v f)
    (λ v inside followed f. leaves_by tables placed tree rules settings read plain same v f laws v.code refl inside followed) (reports tree rules settings)
    (in_its_table tables placed tree rules settings read plain same tree same)
