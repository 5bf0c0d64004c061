-- The stages of repeated fixing.
use Rattle.std.proofs.Common.{◌≡◌, ◌⊎◌, inl, inr, ℕ, zero, suc, ◌+◌, ◌<◌, ◌≤◌, Bool, true, false, List, sym, refl, ap, ◌∙◌, subst, arith, add-one, Option, Some, None}
use Rattle.std.proofs.lemmas.Bool.{false≢true}
use Rattle.std.specs.Prelude.{All, MatchOption}
use Rattle.std.specs.Option.{option_map}
use Rattle.std.specs.Str.{IsUtf8}
use Rattle.law_next_fix.specs.sql_token.Token.{Text}
use Rattle.law_next_fix.specs.sql_tree.Statement.{Tree, IsTree, IsValid}
use Rattle.law_next_fix.proofs.of_sql_tree.TreeLaws.{one_tree}
use Rattle.law_next_fix.specs.sql_read.Cause.{IsTreeOf}
use Rattle.squawk_run.specs.lint_base.declared.settings.LinterSettings.{LinterSettings}
use Rattle.squawk_run.specs.lint_base.declared.violation.Violation.{Violation}
use Rattle.squawk_run.specs.lint_base.Fixes.{FixValue}
use Rattle.squawk_run.specs.lint_base.RuleSets.{Rules}
use Rattle.law_next_fix.specs.law_fixes.Edited.{edited}
use Rattle.law_next_fix.specs.law_fix_steps.Step.{Steps, has_ignore_comment, load}
use Rattle.law_next_fix.proofs.of_law_answer_steps.Leaving.{stays}
use Rattle.law_next_fix.specs.fix_choice.Fits.{ListedCanBeTried, first_fitting, next_text, with_fix}
use Rattle.law_next_fix.specs.squawk_linter.Answers.{IsAnswer, reports}
use Rattle.law_next_fix.specs.squawk_linter.Laws.{SecondAnswer}
use Rattle.law_next_fix.specs.squawk_linter.Reports.{cleared}
use Rattle.law_next_fix.specs.Fitting.{AnswersCanBeTried, FittingFixesStep}
use Rattle.law_next_fix.proofs.First.{chosen, cleared_again, of_first}
use Rattle.squawk_fix.specs.Fixing.{IsFixed, IsStep, Reached}
use Rattle.squawk_fix.specs.Round.{Answered, IsRound, Ran}

-- ---- stages

-- After so many fixes the text is `made`, with these reports. The load of its tree has fallen by as many at least.
pub record Stage (file : Tree) (rules : Rules) (settings : LinterSettings) (made : Text) (applied : ℕ) (left : List Violation) : Type 0 where
  pub tree : Tree
  pub of_text : IsTreeOf made tree
  pub same : cleared tree (cleared file settings) ≡ cleared file settings
  pub reached : Reached rules (cleared file settings) file.text applied made
  pub left_is : left ≡ reports tree rules (cleared file settings)
  pub few : applied + load tree rules (cleared file settings) ≤ load file rules (cleared file settings)
  pub ignores : has_ignore_comment tree ≡ true → has_ignore_comment file ≡ true

-- After so many fixes the text is s, which is not linted yet.
pub record Next (file : Tree) (rules : Rules) (settings : LinterSettings) (applied : ℕ) (s : Text) : Type 0 where
  pub tree : Tree
  pub of_text : IsTreeOf s tree
  pub same : cleared tree (cleared file settings) ≡ cleared file settings
  pub reached : Reached rules (cleared file settings) file.text applied s
  pub few : applied + load tree rules (cleared file settings) ≤ load file rules (cleared file settings)
  pub ignores : has_ignore_comment tree ≡ true → has_ignore_comment file ≡ true

none_chosen : (f : FixValue → Text) (o : Option FixValue) → option_map f o ≡ None → o ≡ None
none_chosen f None e = refl
none_chosen f (Some fix) e = let g : Some (f fix) ≡ None = e in absurd (cc)

module _ (file : Tree) (rules : Rules) (settings : LinterSettings) where
  abbrev set : LinterSettings
  set = cleared file settings

  pub begun : SecondAnswer → IsTree file → (made : Text) (left : List Violation) → made ≡ file.text → left ≡ reports file rules settings → Stage file rules settings made 0 left
  begun second is made left text answer = record {
    tree = file;
    of_text = (sym text, is);
    same = cleared_again file settings;
    reached = text;
    left_is = answer ∙ sym (second file rules settings);
    few = omega arith;
    ignores = λ h. h;
  }

  pub answered : (made : Text) (applied : ℕ) (left : List Violation) → Stage file rules settings made applied left → IsAnswer made rules set left
  answered made applied left stage = record { tree = stage.tree; of_text = stage.of_text; reports_of = stage.left_is }

  -- the fixes of its reports can be tried
  pub tried : AnswersCanBeTried → (made : Text) (applied : ℕ) (left : List Violation) → Stage file rules settings made applied left → IsUtf8 made → All (ListedCanBeTried made) left
  tried law made applied left stage utf8 =
      subst (λ (t : Text). All (ListedCanBeTried t) left) stage.of_text.0
      (subst (λ (vs : List Violation). All (ListedCanBeTried stage.tree.text) vs) (sym stage.left_is)
      (law stage.tree rules set (record { read = stage.of_text.1; utf8 = subst IsUtf8 (sym stage.of_text.0) utf8 })))

  -- ---- one fix more

  stepped : FittingFixesStep → (made : Text) (applied : ℕ) (left : List Violation) (stage : Stage file rules settings made applied left) (f : FixValue) → first_fitting made left ≡ Some f →
      Steps stage.tree rules (cleared stage.tree set) f.edits
  stepped steps made applied left stage f first =
      of_first (λ g. Steps stage.tree rules (cleared stage.tree set) g.edits) stage.tree.text (reports stage.tree rules set) (steps stage.tree rules set stage.of_text.1) f
      ((λ i. first_fitting (stage.of_text.0 i) (sym stage.left_is i)) ∙ first)

  pub next : FittingFixesStep → (made : Text) (applied : ℕ) (left : List Violation) → Stage file rules settings made applied left → (s : Text) →
      next_text made left ≡ Some s → Next file rules settings (applied + 1) s
  next steps made applied left stage s is =
      let c = chosen (with_fix made) (first_fitting made left) is in
      let step = stepped steps made applied left stage c.0 c.1 in
      let text : s ≡ edited made c.0.edits = c.2 in
      let less : load step.new rules set < load stage.tree rules set = subst (λ (x : LinterSettings). load step.new rules x < load stage.tree rules x) stage.same step.less in
      let few = stage.few in
      let made_is : IsStep rules set made s = record { reports = left; answer = answered made applied left stage; fix = c.0; first = c.1; made = text } in
      record {
        tree = step.new;
        of_text = (step.text ∙ ap (λ (t : Text). edited t c.0.edits) stage.of_text.0 ∙ sym text, step.is);
        same = stays stage.tree step.new set step.comments stage.same;
        reached = subst (λ (n : ℕ). Reached rules set file.text n s) (sym (add-one applied)) (made, stage.reached, made_is);
        few = omega (arith, less, few);
        ignores = λ h. stage.ignores (step.ignores h);
      }

  -- ---- many fixes

  reached_on : (m : Text) (n : ℕ) → Reached rules set file.text n m → (k : ℕ) (s : Text) → Reached rules set m k s → Reached rules set file.text (n + k) s
  reached_on m n before zero s same = let sum : n + 0 ≡ n = omega arith in subst (λ (x : ℕ). Reached rules set file.text x s) (sym sum) (subst (λ (t : Text). Reached rules set file.text n t) (sym same) before)
  reached_on m n before (suc k) s after = let sum : n + suc k ≡ suc (n + k) = omega arith in subst (λ (x : ℕ). Reached rules set file.text x s) (sym sum) (after.0, reached_on m n before k after.0 after.1, after.2)

  not_true : (b c : Bool) → (c ≡ true → b ≡ true) → b ≡ false → c ≡ false
  not_true b true h e = absurd (false≢true (sym e ∙ h refl))
  not_true b false h e = refl

  -- what is answered can be run from
  pub from_here : has_ignore_comment file ≡ false → (made : Text) (applied : ℕ) (left : List Violation) → Stage file rules settings made applied left → Answered made left
  from_here plain made applied left stage = record {
    rules = rules;
    settings = set;
    tree = stage.tree;
    of_text = stage.of_text;
    same = stage.same;
    plain = not_true (has_ignore_comment file) (has_ignore_comment stage.tree) stage.ignores plain;
    are = stage.left_is;
  }

  pub rounded : FittingFixesStep → (known : Bool) → (known ≡ true → has_ignore_comment file ≡ false) → (made : Text) (applied : ℕ) (left : List Violation) →
      Stage file rules settings made applied left → (s : Text) (more : ℕ) → IsRound known made left s more → Next file rules settings (applied + more) s
  unfolding from_here
  rounded steps known plain made applied left stage s more round = by round.made
    where
      by : ((next_text made left ≡ Some s) × (more ≡ 1)) ⊎ ((known ≡ true) × ((a : Answered made left) → Ran made left a s more)) → Next file rules settings (applied + more) s
      by (inl first) = subst (λ (k : ℕ). Next file rules settings (applied + k) s) (sym first.1) (next steps made applied left stage s first.0)
      by (inr many) =
          let ran = many.1 (from_here (plain many.0) made applied left stage) in
          let few = stage.few in let fewer = ran.few in
          record {
            tree = ran.tree;
            of_text = ran.of_text;
            same = ran.same;
            reached = reached_on made applied stage.reached more s ran.reached;
            few = omega (arith, few, fewer);
            ignores = λ h. absurd (false≢true (sym ran.plain ∙ h));
          }

  -- the same of a value that has the text as its bytes
  matched : {X : Type 0} (N : Type 0) (P : X → Type 0) (o : Option X) → MatchOption o N P → (x : X) → o ≡ Some x → P x
  matched {X} N P o h x is = subst (λ (p : Option X). MatchOption p N P) is h

  pub round_is : {X : Type 0} (bytes : X → Text) (count : X → ℕ) (known : Bool) (made : Text) (left : List Violation) (text : Text) (vs : List Violation) → text ≡ made → vs ≡ left → (N : Type 0) (o : Option X) →
      MatchOption o N (λ x. IsRound known text vs (bytes x) (count x)) → (x : X) → o ≡ Some x → IsRound known made left (bytes x) (count x)
  round_is bytes count known made left text vs same_text same_vs N o h x is =
      subst (λ (t : Text). IsRound known t left (bytes x) (count x)) same_text
      (subst (λ (l : List Violation). IsRound known text l (bytes x) (count x)) same_vs (matched N (λ y. IsRound known text vs (bytes y) (count y)) o h x is))

  pub is_valid : (applied : ℕ) (s : Text) → Next file rules settings applied s → IsValid s
  is_valid applied s n = (n.tree, n.of_text.0, n.of_text.1)

  pub staged : (applied : ℕ) (s : Text) (left : List Violation) → Next file rules settings applied s → IsAnswer s rules set left → Stage file rules settings s applied left
  staged applied s left n answer =
      let one : answer.tree ≡ n.tree = one_tree answer.tree n.tree (answer.of_text.0 ∙ sym n.of_text.0) answer.of_text.1 n.of_text.1 in
      record {
        tree = n.tree;
        of_text = n.of_text;
        same = n.same;
        reached = n.reached;
        left_is = answer.reports_of ∙ ap (λ (t : Tree). reports t rules set) one;
        few = n.few;
        ignores = n.ignores;
      }

  -- ---- the end

  pub ended : (made : Text) (applied : ℕ) (left : List Violation) → Stage file rules settings made applied left → next_text made left ≡ None →
      IsFixed file rules settings (record { text = made; applied = applied; left = left })
  ended made applied left stage none =
      let few = stage.few in
      record {
        reached = stage.reached;
        few = omega (arith, few);
        left = answered made applied left stage;
        last = none_chosen (with_fix made) (first_fitting made left) none;
      }
