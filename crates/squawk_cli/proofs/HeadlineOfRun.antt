-- A run prints the headline: of a text there is one tree, and of the words one configuration.
use Rattle.std.proofs.Common.{◌≡◌, ◌∙◌, ℕ, Bool, true, false, List, [], refl, ap, sym, Option, Some, None, IfSome}
use Rattle.std.specs.Prelude.{is_some}
use Rattle.squawk_linter.proofs.of_sql_tree.TreeLaws.{one_tree}
use Rattle.squawk_linter.specs.sql_tree.Statement.{Tree}
use Rattle.squawk_linter.specs.lint_base.declared.violation.Violation.{Violation}
use Rattle.squawk_linter.specs.Answers.{reports}
use Rattle.squawk_linter.specs.Assessments.{Assessment, assessment}
use Rattle.squawk_linter.specs.Headline.{headline_of}
use Rattle.squawk_linter.specs.Laws.{HeadlineHolds}
use Rattle.squawk_cli.specs.declared.config.Config.{Config}
use Rattle.squawk_run.specs.declared.status.Status.{Status}
use Rattle.squawk_run.specs.declared.status.Status.TheVariants.{Clean, Found, BadArguments, NotUtf8, TooLong, Unterminated, Syntax, ReadFault, WriteFault, NoMemory}
use Rattle.squawk_cli.specs.Answer.{AreFindings, AreReports}
use Rattle.squawk_cli.specs.Findings.{FindingsValue, findings_by}
use Rattle.squawk_cli.specs.Headline.{CountFor, HeadlineFor, PrintsHeadline}
use Rattle.squawk_cli.specs.Outcome.{AppendsFindings, InputFor, WrittenFor}
use Rattle.squawk_cli.proofs.Inputs.{answer_among}

inside : {x y : Config} → Some x ≡ Some y → x ≡ y
inside e = cc

-- the reports of a run are known by the words and the text
pub same_reports : (words : List (List ℕ)) (t : List ℕ) (v w : List Violation) → AreReports words t v → AreReports words t w → v ≡ w
same_reports words t v w a b =
    let config : a.config ≡ b.config = inside (sym a.named ∙ b.named) in
    let tree : a.answer.tree ≡ b.answer.tree = one_tree a.answer.tree b.answer.tree (a.answer.of_text.0 ∙ sym b.answer.of_text.0) a.answer.of_text.1 b.answer.of_text.1 in
    a.answer.reports_of ∙ (λ i. reports (tree i) (config i).linter.rules (config i).linter.settings) ∙ sym b.answer.reports_of

-- the reports among what a run finds
pub reports_among : (words : List (List ℕ)) (t : List ℕ) (found : FindingsValue) → AreFindings words t found → AreReports words t found.violations
reports_among words t found are =
    record { config = are.config; named = are.named; answer = answer_among are.config.locks t are.config.linter.rules are.config.linter.settings found are.answer }

-- locks are found where they are asked for
pub locks_where : (locks : Bool) (a : Assessment) → is_some (findings_by locks a).locks ≡ locks
locks_where true a = refl
locks_where false a = refl

prints : HeadlineHolds → (status : Status) (words : List (List ℕ)) (t : List ℕ) (old new : Option (List ℕ)) → (w : AppendsFindings words t old new) → CountFor status w.found.violations
    → PrintsHeadline status words t old new
prints law status words t old new w count =
    let tree : Tree = w.are.answer.tree in
    let config : Config = w.are.config in
    record {
      config = config;
      named = w.are.named;
      tree = tree;
      of_text = w.are.answer.of_text;
      found = w.found;
      are = w.are;
      locks = ap (λ (f : FindingsValue). is_some f.locks) w.are.answer.is ∙ locks_where config.locks (assessment tree config.linter.rules config.linter.settings);
      appended = w.appended;
      count = count;
      headline = λ none.
          ap (λ (f : FindingsValue). headline_of tree f.violations) w.are.answer.is
          ∙ law tree config.linter.rules config.linter.settings w.are.answer.of_text.1 none;
    }

pub headline_for : HeadlineHolds → (s : Status) (words : List (List ℕ)) (left : Option (List ℕ)) (old new : Option (List ℕ)) → IfSome left (λ t. InputFor s words t) → IfSome left (λ t. WrittenFor s words t old new)
    → IfSome left (λ t. HeadlineFor s words t old new)
headline_for law s words None old new input written = tt
headline_for law Clean words (Some t) old new input written =
    prints law Clean words t old new written (same_reports words t written.found.violations [] (reports_among words t written.found written.are) input.1)
headline_for law Found words (Some t) old new input written =
    prints law Found words t old new written
    (λ none. input.1.2 (same_reports words t input.1.0 written.found.violations input.1.1 (reports_among words t written.found written.are) ∙ none))
headline_for law BadArguments words (Some t) old new input written = tt
headline_for law NotUtf8 words (Some t) old new input written = tt
headline_for law TooLong words (Some t) old new input written = tt
headline_for law (Unterminated at) words (Some t) old new input written = tt
headline_for law (Syntax at) words (Some t) old new input written = tt
headline_for law ReadFault words (Some t) old new input written = tt
headline_for law WriteFault words (Some t) old new input written = tt
headline_for law NoMemory words (Some t) old new input written = tt
