-- The stages of repeated fixing by classes.
use Rattle.std.proofs.Common.{◌≡◌, ℕ, ◌+◌, ◌<◌, ◌≤◌, Bool, List, sym, ap, ◌∙◌, subst, arith, add-one, Option, Some, None}
use Rattle.std.proofs.lemmas.List.Elements.{All-filter}
use Rattle.fix_class.specs.sql_token.Token.{Text}
use Rattle.fix_class.specs.sql_tree.Statement.{Tree, IsTree, IsValid}
use Rattle.fix_class.proofs.of_sql_tree.TreeLaws.{one_tree}
use Rattle.law_next_fix.specs.sql_read.Cause.{IsTreeOf}
use Rattle.other_fix.specs.lint_base.declared.settings.LinterSettings.{LinterSettings}
use Rattle.other_fix.specs.lint_base.declared.violation.Violation.{Violation}
use Rattle.other_fix.specs.lint_base.Fixes.{FixValue}
use Rattle.other_fix.specs.lint_base.RuleSets.{Rules}
use Rattle.law_next_fix.specs.law_fixes.Edited.{edited}
use Rattle.law_next_fix.specs.law_fix_steps.Step.{Steps, load}
use Rattle.law_next_fix.proofs.of_law_answer_steps.Leaving.{stays}
use Rattle.law_next_fix.specs.fix_choice.Fits.{first_fitting, next_text, with_fix}
use Rattle.law_next_fix.specs.squawk_linter.Answers.{reports}
use Rattle.law_next_fix.specs.squawk_linter.Reports.{cleared}
use Rattle.law_next_fix.specs.Fitting.{FittingFixesStep, IfFitting}
use Rattle.law_next_fix.proofs.First.{chosen, cleared_again, of_first}
use Rattle.fix_text.specs.Allowed.{allowed, is_allowed}
use Rattle.fix_text.specs.Fixing.{IsFixed, IsLook, IsStep, Reached}
use Rattle.fix_text.specs.Others.{others_of}
use Rattle.other_fix.specs.declared.other.OtherFix.{OtherFix}

-- After so many fixes the text is s. The load of its tree has fallen by as many at least.
pub record Stage (file : Tree) (wide : Bool) (rules : Rules) (settings : LinterSettings) (applied : ℕ) (s : Text) : Type 0 where
  pub tree : Tree
  pub of_text : IsTreeOf s tree
  pub same : cleared tree (cleared file settings) ≡ cleared file settings
  pub reached : Reached wide rules (cleared file settings) file.text applied s
  pub few : applied + load tree rules (cleared file settings) ≤ load file rules (cleared file settings)

module _ (file : Tree) (wide : Bool) (rules : Rules) (settings : LinterSettings) where
  abbrev set : LinterSettings
  set = cleared file settings

  pub begun : IsTree file → (made : Text) → made ≡ file.text → Stage file wide rules settings 0 made
  begun is made text = record { tree = file; of_text = (sym text, is); same = cleared_again file settings; reached = text; few = omega arith }

  pub is_valid : (applied : ℕ) (s : Text) → Stage file wide rules settings applied s → IsValid s
  is_valid applied s stage = (stage.tree, stage.of_text.0, stage.of_text.1)

  -- the first allowed fix that fits is a step
  stepped : (tree : Tree) → IsTree tree → FittingFixesStep → (f : FixValue) → first_fitting tree.text (allowed wide set tree (reports tree rules set)) ≡ Some f →
      Steps tree rules (cleared tree set) f.edits
  stepped tree is law =
      of_first (λ f. Steps tree rules (cleared tree set) f.edits) tree.text (allowed wide set tree (reports tree rules set))
      (All-filter (is_allowed wide set tree) (IfFitting tree.text (λ f. Steps tree rules (cleared tree set) f.edits)) (reports tree rules set) (law tree rules set is))

  pub next : FittingFixesStep → (made : Text) (applied : ℕ) (left : List Violation) (s : Text) → Stage file wide rules settings applied made →
      IsLook wide rules set made left (Some s) → Stage file wide rules settings (applied + 1) s
  next law made applied left s stage found =
      let tree = found.tree in
      let same_tree : stage.tree ≡ tree = one_tree stage.tree tree (stage.of_text.0 ∙ sym found.of_text.0) stage.of_text.1 found.of_text.1 in
      let here : next_text made (allowed wide set tree (reports tree rules set)) ≡ Some s = ap (λ (vs : List Violation). next_text made (allowed wide set tree vs)) (sym found.left_is) ∙ sym found.next_is in
      let c = chosen (with_fix made) (first_fitting made (allowed wide set tree (reports tree rules set))) here in
      let first : first_fitting tree.text (allowed wide set tree (reports tree rules set)) ≡ Some c.0 = ap (λ (t : Text). first_fitting t (allowed wide set tree (reports tree rules set))) found.of_text.0 ∙ c.1 in
      let step = stepped tree found.of_text.1 law c.0 first in
      let same : cleared tree set ≡ set = ap (λ (t : Tree). cleared t set) (sym same_tree) ∙ stage.same in
      let less : load step.new rules set < load tree rules set = subst (λ (x : LinterSettings). load step.new rules x < load tree rules x) same step.less in
      let few = stage.few in
      let load_same : load stage.tree rules set ≡ load tree rules set = ap (λ (t : Tree). load t rules set) same_tree in
      let made_is : IsStep wide rules set made s = record { tree = tree; of_text = found.of_text; fix = c.0; first = c.1; made = c.2 } in
      record {
        tree = step.new;
        of_text = (step.text ∙ ap (λ (t : Text). edited t c.0.edits) found.of_text.0 ∙ sym c.2, step.is);
        same = stays tree step.new set step.comments same;
        reached = subst (λ (n : ℕ). Reached wide rules set file.text n s) (sym (add-one applied)) (made, stage.reached, made_is);
        few = omega (arith, less, few, load_same);
      }

  pub ended : (made : Text) (applied : ℕ) (left : List Violation) (others : List OtherFix) → Stage file wide rules settings applied made → IsLook wide rules set made left None →
      others ≡ others_of wide set file (reports file rules set) → IsFixed file wide rules settings (record { text = made; applied = applied; left = left; others = others })
  ended made applied left others stage found are =
      let few = stage.few in
      record { reached = stage.reached; few = omega (arith, few); ended = found; others_are = are }

-- the same of equal values
pub look_here : (wide : Bool) (rules rules' : Rules) (settings settings' : LinterSettings) (t t' : Text) (left : List Violation) (o o' : Option Text) → rules ≡ rules' → settings ≡ settings' → t ≡ t' → o ≡ o'
    → IsLook wide rules settings t left o → IsLook wide rules' settings' t' left o'
look_here wide rules rules' settings settings' t t' left o o' p q r e found =
    subst (λ (x : Option Text). IsLook wide rules' settings' t' left x) e
    (subst (λ (x : Text). IsLook wide rules' settings' x left o) r
    (subst (λ (x : LinterSettings). IsLook wide rules' x t left o) q
    (subst (λ (x : Rules). IsLook wide x settings t left o) p found)))
