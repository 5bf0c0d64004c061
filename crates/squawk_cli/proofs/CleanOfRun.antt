-- What a clean run prints of the work under locks.
use Rattle.std.proofs.Common.{◌≡◌, ◌∙◌, ℕ, Bool, true, false, List, [], ap, sym, subst, Option, Some, None, IfSome}
use Rattle.std.specs.Prelude.{is_some}
use Rattle.std.specs.Str.{IsUtf8}
use Rattle.squawk_linter.specs.sql_tree.Statement.{Tree}
use Rattle.squawk_linter.specs.Assessments.{Assessment, assessment}
use Rattle.squawk_linter.specs.CleanAnswers.{CleanAnswersWorkAlone, IsCleanAnswer, WorksAlone}
use Rattle.squawk_cli.specs.declared.config.Config.{Config}
use Rattle.squawk_run.specs.declared.status.Status.{Status}
use Rattle.squawk_run.specs.declared.status.Status.TheVariants.{Clean, Found, BadArguments, NotUtf8, TooLong, Unterminated, Syntax, ReadFault, WriteFault, NoMemory}
use Rattle.squawk_cli.specs.CleanRun.{CleanFor, PrintsWorkAlone}
use Rattle.squawk_cli.specs.Findings.{FindingsValue, findings_by}
use Rattle.squawk_cli.specs.Outcome.{AppendsFindings, InputFor, WrittenFor}
use Rattle.squawk_cli.proofs.HeadlineOfRun.{locks_where, reports_among, same_reports}

-- what a clean answer means for the locks among some findings
abbrev AloneIn : Tree → Config → FindingsValue → Type 0
AloneIn tree config found =
    IfSome found.locks (λ locks.
    IsCleanAnswer tree config.linter.rules found.violations locks.plain → WorksAlone tree config.linter.settings locks.works)

alone_where : (locks : Bool) (tree : Tree) (config : Config) (a : Assessment)
    → (IsCleanAnswer tree config.linter.rules a.violations a.plain → WorksAlone tree config.linter.settings a.works) → AloneIn tree config (findings_by locks a)
alone_where true tree config a h = h
alone_where false tree config a h = tt

prints : CleanAnswersWorkAlone → (words : List (List ℕ)) (t : List ℕ) (old new : Option (List ℕ)) → IsUtf8 t → (w : AppendsFindings words t old new) → w.found.violations ≡ [] → PrintsWorkAlone words t old new
prints law words t old new utf8 w nothing =
    let tree : Tree = w.are.answer.tree in
    let config : Config = w.are.config in
    let of_text = w.are.answer.of_text in
    let a : Assessment = assessment tree config.linter.rules config.linter.settings in
    record {
      config = config;
      named = w.are.named;
      tree = tree;
      of_text = of_text;
      found = w.found;
      are = w.are;
      locks = ap (λ (f : FindingsValue). is_some f.locks) w.are.answer.is ∙ locks_where config.locks a;
      appended = w.appended;
      no_reports = nothing;
      alone =
          subst (AloneIn tree config) (sym w.are.answer.is)
          (alone_where config.locks tree config a
          (law tree config.linter.rules config.linter.settings (record { read = of_text.1; utf8 = subst IsUtf8 (sym of_text.0) utf8 })));
    }

pub clean_for : CleanAnswersWorkAlone → (s : Status) (words : List (List ℕ)) (left : Option (List ℕ)) (old new : Option (List ℕ)) → IfSome left (λ t. InputFor s words t) → IfSome left (λ t. WrittenFor s words t old new)
    → IfSome left (λ t. CleanFor s words t old new)
clean_for law s words None old new input written = tt
clean_for law Clean words (Some t) old new input written =
    prints law words t old new input.0 written (same_reports words t written.found.violations [] (reports_among words t written.found written.are) input.1)
clean_for law Found words (Some t) old new input written = tt
clean_for law BadArguments words (Some t) old new input written = tt
clean_for law NotUtf8 words (Some t) old new input written = tt
clean_for law TooLong words (Some t) old new input written = tt
clean_for law (Unterminated at) words (Some t) old new input written = tt
clean_for law (Syntax at) words (Some t) old new input written = tt
clean_for law ReadFault words (Some t) old new input written = tt
clean_for law WriteFault words (Some t) old new input written = tt
clean_for law NoMemory words (Some t) old new input written = tt
