-- What fitting tells of the fixes of an answer.
use Rattle.std.proofs.Common.{◌≡◌, ℕ, ◌+◌, ◌-◌, ◌<◌, ◌^◌, Bool, true, false, List, length, get_or, sym, refl, ap, ◌∙◌, subst, arith, Option, Some, None, IfSome}
use Rattle.std.proofs.lemmas.Bool.Decides.{nat_tests}
use Rattle.std.proofs.lemmas.List.{get_or-drop}
use Rattle.std.proofs.lemmas.List.Elements.{All-contains}
use Rattle.std.specs.Prelude.{All, Contains, ◌==◌, ◌&&◌, ◌||◌, not, is_some, nat_lt, slice_index}
use Rattle.std.specs.List.{list_all}
use Rattle.fix_choice.specs.sql_token.Token.{Text, is_word}
use Rattle.fix_choice.specs.sql_tree.Statement.{Tree, IsTree}
use Rattle.fix_choice.specs.lint_base.declared.edit.Edit.{Edit}
use Rattle.fix_choice.specs.lint_base.declared.rule.Rule.{Rule}
use Rattle.fix_choice.specs.lint_base.declared.rule.Rule.TheVariants as rule
use Rattle.fix_choice.specs.lint_base.declared.settings.LinterSettings.{LinterSettings}
use Rattle.fix_choice.specs.lint_base.declared.violation.Violation.{Violation}
use Rattle.fix_choice.specs.lint_base.Fixes.{FixValue}
use Rattle.fix_choice.specs.lint_base.RuleSets.{Rules}
use Rattle.fix_choice.specs.lint_pass.RuleLaws.{one_all}
use Rattle.law_listed_edits.specs.law_answers.Tables.{mended_table}
use Rattle.fix_choice.specs.law_fixes.Edited.{edited}
use Rattle.fix_choice.specs.law_fixes.Mended.{Table}
use Rattle.fix_choice.specs.law_type_fixes.Mended.{JoinsNone}
use Rattle.fix_choice.specs.law_fix_steps.Listed.{is_listed}
use Rattle.fix_choice.specs.law_fix_steps.Step.{FixSteps, JoinNoWord, Steps}
use Rattle.law_answer_steps.specs.Answers.{AnswersStep}
use Rattle.law_listed_edits.specs.OneEdit.{AreMendedByOne, HasOneEdit, IsMendedByOne, MendedByOne}
use Rattle.fix_choice.specs.fix_edit.Faults.{AreGood}
use Rattle.fix_choice.specs.Fits.{CanBeTried, fits, joins_no_word}
use Rattle.law_answer_steps.specs.squawk_linter.Answers.{reports}
use Rattle.law_answer_steps.specs.squawk_linter.Mending.{AnswersAreInTheirTables}
use Rattle.law_answer_steps.specs.squawk_linter.Placed.{AnsweredFixesAreGood}
use Rattle.law_answer_steps.specs.squawk_linter.Reports.{cleared}
use Rattle.law_next_fix.specs.Fitting.{AnswersCanBeTried, FittingFixesMayStep, FittingFixesStep, IfFitting, MayStep}

-- ---- it joins no word

both_true : (a b : Bool) → (a && b) ≡ true → (a ≡ true) × (b ≡ true)
both_true true b h = (refl, h)
both_true false b h = cc

parted : (a b c d : Bool) → (a || (not (b && c) && not d)) ≡ true → a ≡ false → b ≡ true → (c ≡ false) × (d ≡ false)
parted true b c d h p q = cc
parted false true true d h p q = cc
parted false true false true h p q = cc
parted false true false false h p q = (refl, refl)
parted false false c d h p q = cc

not_same : (a b : ℕ) → a < b → (a == b) ≡ false
not_same a b h = grind (arith, nat_tests)

is_more : (a : ℕ) → 0 < a → nat_lt 0 a ≡ true
is_more a h = grind (arith, nat_tests)

is_short : (n : ℕ) → nat_lt n (2 ^ 32) ≡ true → n < 2 ^ 32
is_short n h = grind (arith, nat_tests)

joins_none : (text : Text) (e : Edit) → joins_no_word text e ≡ true → (e.text_range.start < e.text_range.end → 0 < e.text_range.start) → e.text_range.start < e.text_range.end → JoinsNone text e
joins_none text e joins behind some =
    let start = e.text_range.start in
    let end = e.text_range.end in
    let p = parted (start == end) (nat_lt 0 start) (is_word (slice_index text (start - 1))) (is_word (slice_index text end)) joins (not_same start end some) (is_more start (behind some)) in
    let place : end + 0 ≡ end = omega arith in
    record { before = p.0; after = ap is_word (get_or-drop end text 0 0 ∙ ap (λ (x : ℕ). get_or text x 0) place) ∙ p.1 }

joined : (tree : Tree) (f : FixValue) → HasOneEdit f → list_all (joins_no_word tree.text) f.edits ≡ true → JoinNoWord tree f.edits
joined tree f one joins =
    let each : (joins_no_word tree.text one.edit && true) ≡ true = subst (λ (es : List Edit). list_all (joins_no_word tree.text) es ≡ true) one.one joins in
    subst (JoinNoWord tree) (sym one.one)
    (one_all (λ (e : Edit). e.text_range.start < e.text_range.end → JoinsNone tree.text e) one.edit
    (joins_none tree.text one.edit (both_true (joins_no_word tree.text one.edit) true each).0 one.behind))

may_step : (tree : Tree) (f : FixValue) → HasOneEdit f → fits tree.text f ≡ true → MayStep tree f
may_step tree f one fit =
    let p = both_true (list_all (joins_no_word tree.text) f.edits) (nat_lt (length (edited tree.text f.edits)) (2 ^ 32)) fit in
    record { apart = joined tree f one p.0; short = is_short (length (edited tree.text f.edits)) p.1 }

-- ---- the fixes of an answer

listed_mended : (r : Rule) → is_listed r ≡ true → is_some (mended_table r) ≡ true
listed_mended rule.RequireConcurrentIndexCreation h = refl
listed_mended rule.RequireConcurrentIndexDeletion h = refl
listed_mended rule.RequireConcurrentPartitionDetach h = refl
listed_mended rule.RequireConcurrentReindex h = refl
listed_mended rule.RequireLockTimeout h = refl
listed_mended rule.RequireStatementTimeout h = refl
listed_mended rule.PreferBigintOverInt h = refl
listed_mended rule.PreferBigintOverSmallint h = refl
listed_mended rule.PreferTextField h = refl
listed_mended rule.PreferTimestampTz h = refl
listed_mended r h = absurd (cc)

module _ (tree : Tree) (rules : Rules) (settings : LinterSettings) (is : IsTree tree) (one : MendedByOne) (tables : AnswersAreInTheirTables) where
  abbrev Listed : Violation → Type 0
  Listed v = is_listed v.code ≡ true → IsMendedByOne v

  mended_by : (v : Violation) (o : Option Table) → IfSome o (λ table. Contains (table tree rules (cleared tree settings)) v) → IfSome o AreMendedByOne → is_some o ≡ true → IsMendedByOne v
  mended_by v None inside all some = absurd (cc)
  mended_by v (Some table) inside all some = All-contains IsMendedByOne (table tree rules (cleared tree settings)) v (all tree rules (cleared tree settings) is) inside

  each_one : All Listed (reports tree rules settings)
  each_one k d lt =
      let v = get_or (reports tree rules settings) k d in
      λ listed. mended_by v (mended_table v.code) (tables tree rules settings k d lt) (one v.code) (listed_mended v.code listed)

-- ---- laws of them

can_be_tried : (text : Text) (v : Violation) (o : Option FixValue) → v.fix ≡ o → IfSome o (λ f. AreGood text f.edits) → IsMendedByOne v → IfSome o (CanBeTried text)
can_be_tried text v None has good single = tt
can_be_tried text v (Some f) has good single =
    let size : length f.edits ≡ 1 = ap length (single f has).one in
    record { good = good; few = omega (arith, size) }

pub all_tried : MendedByOne → AnswersAreInTheirTables → AnsweredFixesAreGood → AnswersCanBeTried
all_tried one tables good tree rules settings read k d lt =
    let v = get_or (reports tree rules settings) k d in
    λ listed. can_be_tried tree.text v v.fix refl (good tree rules settings read k d lt) (each_one tree rules settings read.read one tables k d lt listed)

pub fitting_may_step : MendedByOne → AnswersAreInTheirTables → FittingFixesMayStep
fitting_may_step one tables tree rules settings is k d lt = λ listed f has fit. may_step tree f (each_one tree rules settings is one tables k d lt listed f has) fit

stepping : (tree : Tree) (rules : Rules) (settings : LinterSettings) (v : Violation) → (is_listed v.code ≡ true → FixSteps tree rules settings (JoinNoWord tree) v) →
    IfFitting tree.text (MayStep tree) v → IfFitting tree.text (λ f. Steps tree rules settings f.edits) v
stepping tree rules settings v steps may listed f has fit =
    let m = may listed f has fit in
    steps listed f has m.apart m.short

pub fitting_steps : MendedByOne → AnswersAreInTheirTables → AnswersStep → FittingFixesStep
fitting_steps one tables law tree rules settings is k d lt =
    stepping tree rules (cleared tree settings) (get_or (reports tree rules settings) k d) (law tree rules settings is k d lt)
    (fitting_may_step one tables tree rules settings is k d lt)
