-- Each fix of a listed rule is a step.
use Rattle.std.proofs.Common.{◌≡◌, ◌≢◌, ℕ, ◌<◌, ◌≤◌, ◌^◌, Bool, true, List, [], ◌∷◌, ◌++◌, length, append_assoc, sym, refl, ◌∙◌, subst, arith, Some}
use Rattle.std.proofs.lemmas.List.Elements.{All-nil, All-cons, All-head, All-tail, All-weaker}
use Rattle.std.specs.Prelude.{All}
use Rattle.law_type_fixes.specs.sql_tree.Statement.{Tree, IsTree}
use Rattle.law_type_fixes.proofs.of_sql_tree.TreeLaws.{one_tree}
use Rattle.law_type_fixes.specs.lint_base.declared.edit.Edit.{Edit}
use Rattle.law_type_fixes.specs.lint_base.declared.settings.LinterSettings.{LinterSettings}
use Rattle.law_type_fixes.specs.lint_base.declared.violation.Violation.{Violation}
use Rattle.law_type_fixes.specs.lint_base.Fixes.{FixValue}
use Rattle.law_type_fixes.specs.lint_base.RuleSets.{Rules}
use Rattle.law_type_fixes.specs.lint_ignore.Comment.{has_disable_comment}
use Rattle.law_type_fixes.specs.law_fixes.Edited.{edited, place_moved}
use Rattle.law_type_fixes.specs.law_fixes.Mended.{Mended, Table}
use Rattle.law_fix_steps.specs.Kept.{SameAt, Kept}
use Rattle.law_fix_steps.specs.Leaves.{FixLeaves, FixesLeave, followed_tables}
use Rattle.law_fix_steps.specs.Left.{Left}
use Rattle.law_fix_steps.specs.Step.{has_ignore_comment, listed_tables, load_of, FixSteps, FixesStep, JoinNoWord, Steps}
use Rattle.law_fix_steps.proofs.Fits.{Anywhere, LeavesIf, StepsIf}
use Rattle.law_fix_steps.proofs.Kept.{kept_by, kept_length, kept_less}
use Rattle.law_fix_steps.proofs.Left.{left_by}
use Rattle.law_fix_steps.proofs.Like.{Aligned, tables_kept, tables_left}

-- The tree of the edited text, of which the listed rules see no more.
pub record Aligns (exact : Bool) (tree : Tree) (settings : LinterSettings) (gone : ℕ) (edits : List Edit) : Type 0 where
  pub new : Tree
  pub text : new.text ≡ edited tree.text edits
  pub is : IsTree new
  pub move : ℕ → ℕ
  pub place : (x : ℕ) → place_moved edits x ≡ move x
  pub aligned : Aligned exact move gone settings.assume_in_transaction tree new
  pub comments : has_disable_comment new ≡ true → has_disable_comment tree ≡ true
  pub ignores : has_ignore_comment new ≡ true → has_ignore_comment tree ≡ true

-- For the fix of a report. Where it is exact, fixes keep their distance, and what is gone begins where the report begins.
abbrev pub FixAligns : Bool → Tree → LinterSettings → (List Edit → Type 0) → Violation → Type 0
FixAligns exact tree settings Fits v =
    (f : FixValue) → v.fix ≡ Some f → Fits f.edits → length (edited tree.text f.edits) < 2 ^ 32 → Aligns exact tree settings v.text_range.start f.edits

-- ---- loads

module _ (tree new : Tree) (rules : Rules) (settings : LinterSettings) where
  abbrev NoMore : Table → Type 0
  NoMore table = length (table new rules settings) ≤ length (table tree rules settings)

  load_le : (ts : List Table) → All NoMore ts → load_of ts new rules settings ≤ load_of ts tree rules settings
  load_le [] h = omega arith
  load_le (t ∷ ts) h = let a = All-head NoMore t ts h in let b = load_le ts (All-tail NoMore t ts h) in omega (arith, a, b)

  load_less : (pre : List Table) (t : Table) (post : List Table) → All NoMore (pre ++ t ∷ post) → length (t new rules settings) < length (t tree rules settings) →
      load_of (pre ++ t ∷ post) new rules settings < load_of (pre ++ t ∷ post) tree rules settings
  load_less [] t post h lt = let b = load_le post (All-tail NoMore t post h) in omega (arith, lt, b)
  load_less (u ∷ pre) t post h lt =
      let a = All-head NoMore u (pre ++ t ∷ post) h in let b = load_less pre t post (All-tail NoMore u (pre ++ t ∷ post) h) lt in omega (arith, a, b)

-- ---- one step

module _ (exact : Bool) (tree : Tree) (rules : Rules) (settings : LinterSettings) (gone : ℕ) (edits : List Edit) (a : Aligns exact tree settings gone edits) where
  abbrev KeptIn : Table → Type 0
  KeptIn table = Kept a.move (table a.new rules settings) (table tree rules settings)

  all_kept : All KeptIn listed_tables
  all_kept = tables_kept exact a.move gone tree a.new rules settings a.aligned

  pub step_of : (before : List Table) (table : Table) (after : List Table) → listed_tables ≡ before ++ table ∷ after → (pre : List Violation) (v : Violation) (post : List Violation) → table tree rules settings ≡ pre ++ v ∷ post →
      All (λ w. SameAt a.move w v → ⊥) (table a.new rules settings) → Steps tree rules settings edits
  step_of before table after tables pre v post cut none = record {
    new = a.new;
    text = a.text;
    is = a.is;
    comments = a.comments;
    ignores = a.ignores;
    kept = All-weaker KeptIn (λ t. Kept (place_moved edits) (t a.new rules settings) (t tree rules settings))
        (λ t k. kept_by a.move (place_moved edits) (λ x. sym (a.place x)) (t a.new rules settings) (t tree rules settings) k) listed_tables all_kept;
    less = subst (λ (ts : List Table). load_of ts a.new rules settings < load_of ts tree rules settings) (sym tables)
        (load_less tree a.new rules settings before table after
        (All-weaker KeptIn (NoMore tree a.new rules settings) (λ t k. kept_length a.move (t a.new rules settings) (t tree rules settings) k) (before ++ table ∷ after)
        (subst (λ (ts : List Table). All KeptIn ts) tables all_kept))
        (subst (λ (vs : List Violation). length (table a.new rules settings) < length vs) (sym cut)
        (kept_less a.move (table a.new rules settings) pre v post
        (subst (λ (vs : List Violation). Kept a.move (table a.new rules settings) vs) cut (one_of before (subst (λ (ts : List Table). All KeptIn ts) tables all_kept))) none)));
  }
    where
      one_of : (xs : List Table) → All KeptIn (xs ++ table ∷ after) → KeptIn table
      one_of [] h = All-head KeptIn table after h
      one_of (x ∷ xs) h = one_of xs (All-tail KeptIn x (xs ++ table ∷ after) h)

-- ---- the reports of a table

-- Each report is at its place.
pub at_places : {X : Type 0} (Q R : X → Type 0) (all pre xs : List X) → all ≡ pre ++ xs → ((pre : List X) (x : X) (post : List X) → all ≡ pre ++ x ∷ post → Q x → R x) → All Q xs → All R xs
at_places Q R all pre [] e each h = All-nil R
at_places Q R all pre (x ∷ xs) e each h =
    All-cons R x xs (each pre x xs e (All-head Q x xs h)) (at_places Q R all (pre ++ x ∷ []) xs (e ∙ sym (append_assoc pre (x ∷ []) xs)) each (All-tail Q x xs h))

pub both_of : {X : Type 0} (P Q : X → Type 0) (xs : List X) → All P xs → All Q xs → All (λ x. P x × Q x) xs
both_of P Q [] p q = All-nil (λ x. P x × Q x)
both_of P Q (x ∷ xs) p q = All-cons (λ x. P x × Q x) x xs (All-head P x xs p, All-head Q x xs q) (both_of P Q xs (All-tail P x xs p) (All-tail Q x xs q))

-- what the law of fixes says of the fix of a report: none is left at its place
abbrev pub FixSilences : Table → Tree → Rules → LinterSettings → (List Edit → Type 0) → Violation → Type 0
FixSilences table tree rules settings Fits v =
    (f : FixValue) → v.fix ≡ Some f → Fits f.edits → length (edited tree.text f.edits) < 2 ^ 32 → (new : Tree) → new.text ≡ edited tree.text f.edits → IsTree new →
    All (λ w. SameAt (place_moved f.edits) w v → ⊥) (table new rules settings)

silent_there : (exact : Bool) (table : Table) (tree : Tree) (rules : Rules) (settings : LinterSettings) (v : Violation) (edits : List Edit) (a : Aligns exact tree settings v.text_range.start edits) →
    All (λ w. SameAt (place_moved edits) w v → ⊥) (table a.new rules settings) → All (λ w. SameAt a.move w v → ⊥) (table a.new rules settings)
silent_there exact table tree rules settings v edits a none =
    All-weaker (λ w. SameAt (place_moved edits) w v → ⊥) (λ w. SameAt a.move w v → ⊥) (λ w no same. no (record { code = same.code; place = same.place ∙ sym (a.place v.text_range.start) }))
    (table a.new rules settings) none

pub table_steps : (before : List Table) (table : Table) (after : List Table) → listed_tables ≡ before ++ table ∷ after → (exact : Bool) (tree : Tree) (rules : Rules) (settings : LinterSettings) (Fits : List Edit → Type 0) →
    All (FixAligns exact tree settings Fits) (table tree rules settings) → All (FixSilences table tree rules settings Fits) (table tree rules settings) → All (FixSteps tree rules settings Fits) (table tree rules settings)
table_steps before table after tables exact tree rules settings Fits aligns silences =
    at_places (λ v. FixAligns exact tree settings Fits v × FixSilences table tree rules settings Fits v) (FixSteps tree rules settings Fits) (table tree rules settings) [] (table tree rules settings) refl
    (λ pre v post cut both f has fits short.
    (let a = both.0 f has fits short in
    step_of exact tree rules settings v.text_range.start f.edits a before table after tables pre v post cut (silent_there exact table tree rules settings v f.edits a (both.1 f has fits short a.new a.text a.is))))
    (both_of (FixAligns exact tree settings Fits) (FixSilences table tree rules settings Fits) (table tree rules settings) aligns silences)

-- the same where it is exact: nothing is gone but at one place
pub table_leaves : (before : List Table) (table : Table) (after : List Table) → listed_tables ≡ before ++ table ∷ after → (tree : Tree) (rules : Rules) (settings : LinterSettings) (Fits : List Edit → Type 0) →
    All (FixAligns true tree settings Fits) (table tree rules settings) → All (FixSilences table tree rules settings Fits) (table tree rules settings) → All (FixLeaves table tree rules settings Fits) (table tree rules settings)
unfolding step_of
table_leaves before table after tables tree rules settings Fits aligns silences =
    at_places (λ v. FixAligns true tree settings Fits v × FixSilences table tree rules settings Fits v) (FixLeaves table tree rules settings Fits) (table tree rules settings) [] (table tree rules settings) refl
    (λ pre v post cut both f has fits short.
    (let a = both.0 f has fits short in
    let none = both.1 f has fits short a.new a.text a.is in
    record {
      steps = step_of true tree rules settings v.text_range.start f.edits a before table after tables pre v post cut
          (silent_there true table tree rules settings v f.edits a none);
      left = All-weaker (λ t. Left true a.move v.text_range.start (t a.new rules settings) (t tree rules settings)) (λ t. Left true (place_moved f.edits) v.text_range.start (t a.new rules settings) (t tree rules settings))
          (λ t k. left_by true a.move (place_moved f.edits) (λ x. sym (a.place x)) v.text_range.start (t a.new rules settings) (t tree rules settings) k) followed_tables
          (tables_left true a.move v.text_range.start tree a.new rules settings a.aligned);
      silent = none;
    }))
    (both_of (FixAligns true tree settings Fits) (FixSilences table tree rules settings Fits) (table tree rules settings) aligns silences)

-- From a mended text: its tree is the only one.
pub mended_silences : (table : Table) (tree : Tree) (rules : Rules) (settings : LinterSettings) (v : Violation) (edits : List Edit) (Terms : Tree → Type 0) → Mended table tree rules settings v edits Terms →
    (new : Tree) → new.text ≡ edited tree.text edits → IsTree new → All (λ w. SameAt (place_moved edits) w v → ⊥) (table new rules settings)
mended_silences table tree rules settings v edits Terms m new text is =
    subst (λ (t : Tree). All (λ w. SameAt (place_moved edits) w v → ⊥) (table t rules settings)) (one_tree m.new new (m.text ∙ sym text) m.is is)
    (All-weaker (λ w. w.text_range.start ≢ place_moved edits v.text_range.start) (λ w. SameAt (place_moved edits) w v → ⊥) (λ w no same. no same.place) (table m.new rules settings) m.silent)

-- An insertion fits wherever it is.
pub anywhere_leaves : (table : Table) → LeavesIf Anywhere table → FixesLeave table
anywhere_leaves table leaves tree rules settings is =
    All-weaker (FixLeaves table tree rules settings (Anywhere tree)) (FixLeaves table tree rules settings (JoinNoWord tree)) (λ v h f has fits short. h f has tt short) (table tree rules settings) (leaves tree rules settings is)

pub leaves_step : (table : Table) → FixesLeave table → FixesStep table
leaves_step table leaves tree rules settings is =
    All-weaker (FixLeaves table tree rules settings (JoinNoWord tree)) (FixSteps tree rules settings (JoinNoWord tree)) (λ v h f has fits short. (h f has fits short).steps) (table tree rules settings) (leaves tree rules settings is)

pub anywhere_steps : (table : Table) → StepsIf Anywhere table → FixesStep table
anywhere_steps table steps tree rules settings is =
    All-weaker (FixSteps tree rules settings (Anywhere tree)) (FixSteps tree rules settings (JoinNoWord tree)) (λ v h f has fits short. h f has tt short) (table tree rules settings) (steps tree rules settings is)
