-- Without ignore comments nothing is lost between the reports of the passes and the answer.
use Rattle.std.proofs.Common.{◌≡◌, ◌∙◌, sym, ap, refl, arith, ℕ, ◌+◌, ◌<◌, Bool, true, false, ◌&&◌, not, List, [], ◌∷◌, length}
use Rattle.std.proofs.lemmas.Bool.{eq-eqb}
use Rattle.std.proofs.lemmas.List.Elements.{All-head}
use Rattle.std.specs.Prelude.{All, ◌==◌, filter, if◌then◌else◌}
use Rattle.sql_read.specs.sql_tree.Statement.{Tree}
use Rattle.fix_edit.specs.lint_base.declared.violation.Violation.{Violation}
use Rattle.fix_edit.specs.lint_base.RuleSets.{Rules}
use Rattle.fix_edit.specs.lint_base.declared.settings.LinterSettings.{LinterSettings}
use Rattle.fix_edit.specs.lint_ignore.Comment.{has_disable_comment}
use Rattle.fix_edit.specs.lint_pass.Cleared.{IsCleared}
use Rattle.fix_edit.specs.lint_pass.Ranges.{AllLieIn}
use Rattle.law_clean.specs.Clean.{IsClean}
use Rattle.law_clean.specs.Laws.{CleanAnswersHaveNoOldWork, CleanAnswersValidateApart}
use Rattle.law_clean.proofs.Nothing.{empty-pieces, not_both, some_is_none}
use Rattle.law_answers.specs.pass_groups.OwnTable.{own_table}
use Rattle.squawk_linter.specs.ByStart.{by_key}
use Rattle.squawk_linter.specs.CleanAnswers.{CleanAnswersWorkAlone, ReportsLie}
use Rattle.squawk_linter.specs.Headline.{HasNoIgnoreComment}
use Rattle.squawk_linter.specs.Reports.{cleared, reports_from, start_of}
use Rattle.squawk_linter.proofs.HeadlineLaws.{plain_answer}

kept_first : {X A : Type 0} (b : Bool) (x : X) (xs : List X) → b ≡ true → (if b then x ∷ xs else xs) ≡ [] → A
kept_first true x xs e none = some_is_none x xs none
kept_first false x xs e none = not_both (sym e)

nothing_in : {X : Type 0} (key : X → ℕ) (n : ℕ) (xs : List X) → All (λ x. key x < n) xs → by_key key n xs ≡ [] → xs ≡ []
nothing_in key n [] low e = refl
nothing_in key n (x ∷ xs) low e =
    let here = empty-pieces (λ s. filter (λ y. key y == s) (x ∷ xs)) n e (key x) (All-head (λ x. key x < n) x xs low) in
    kept_first (key x == key x) x (filter (λ y. key y == key x) xs) (eq-eqb (key x) (key x) refl) here

starts_low : (tree : Tree) (x : List Violation) → AllLieIn tree x → All (λ v. start_of v < length tree.text + 1) x
starts_low tree x lie k d l = let h = lie k d l in let forward = h.ordered in let within = h.within in omega arith

-- the answer for some reports that lie in the text is empty only where there are none
empty_answer : (tree : Tree) (x : List Violation) (rules : Rules) → HasNoIgnoreComment tree → AllLieIn tree x → reports_from tree x rules ≡ [] → x ≡ []
empty_answer tree x rules none lie e =
    nothing_in start_of (length tree.text + 1) x (starts_low tree x lie) (sym (plain_answer tree x rules none) ∙ e)

turned_off : (assume disable : Bool) → disable ≡ true → (assume && not disable) ≡ false
turned_off true disable e = ap not e
turned_off false disable e = refl

cleared_settings : (tree : Tree) (settings : LinterSettings) → IsCleared tree (cleared tree settings)
cleared_settings tree settings = record { cleared = turned_off settings.assume_in_transaction (has_disable_comment tree) }

pub clean_answers_work_alone : CleanAnswersHaveNoOldWork → CleanAnswersValidateApart → ReportsLie own_table → CleanAnswersWorkAlone
clean_answers_work_alone young apart lie tree rules settings read clean =
    let set = cleared tree settings in
    let silent : IsClean tree rules set = record {
      has_defaults = clean.has_defaults;
      no_reports = empty_answer tree (own_table tree rules set) rules clean.no_comments (lie tree rules set read) clean.no_reports;
    }
    in
    record { young = young tree rules set read.read (cleared_settings tree settings) silent clean.plain_text; apart = apart tree rules set silent }
