-- What a run does that the words ask for.
use Rattle.std.specs.Prelude.{◌≡◌, ℕ, Bool, true, false, List, Option, None, Result, Ok, Err, if◌then◌else◌}
use Rattle.std.specs.Io.KnownBytes.{Appends, Keeps}
use Rattle.check_command.specs.declared.failure.Failure.{Failure}
use Rattle.check_command.specs.declared.failure.Failure.TheVariants as failure
use Rattle.check_command.specs.Choosing.{IsChosenBy}
use Rattle.check_setup.specs.baseline_file.Leaving.{Leaves}
use Rattle.check_setup.specs.check_baseline.Written.{written}
use Rattle.check_setup.specs.check_config.Defaults.{linter_words}
use Rattle.check_print.specs.declared.style.Style.{Style}
use Rattle.check_print.specs.Printed.{printed}
use Rattle.file_answer.specs.check_run.Checks.{Answers}
use Rattle.file_answer.specs.check_run.Runs.{AreAnswers, AreLeft, Devices, HasRun, HasWrittenPart}
use Rattle.check_setup.specs.declared.setup.Setup.{Setup}
use Rattle.check_setup.specs.SetUp.{IsRefusedFor, IsSetUp}
use Rattle.check_print.specs.check_words.declared.asked.Asked.{Asked}
use Rattle.check_print.specs.check_words.declared.asked.Asked.TheVariants.{Check, Help, Version, Refused}
use Rattle.check_print.specs.check_words.declared.request.Color.{Color}
use Rattle.check_print.specs.check_words.declared.request.Color.TheVariants.{Auto, Always, Never}
use Rattle.check_print.specs.check_words.declared.request.FailOn.{FailOn}
use Rattle.check_print.specs.check_words.declared.request.FailOn.TheVariants as fail_on
use Rattle.check_print.specs.check_words.declared.request.Request.{Request}
use Rattle.refused_word.specs.code_choice.Choices.{code_choices_of}
use Rattle.refused_word.specs.code_choice.declared.choices.CodeChoices.{CodeChoices}
use Rattle.check_print.specs.checked_file.declared.checked.Checked.{Checked}
use Rattle.check_print.specs.checked_file.declared.status.Status.{Status}
use Rattle.check_print.specs.checked_file.declared.status.Status.TheVariants as status
use Rattle.check_print.specs.checked_file.Statuses.{forgiven}
use Rattle.refused_word.specs.Messages.{line_of}
use Rattle.refused_word.specs.squawk_run.declared.stop.Stop.{Stop}
use Rattle.refused_word.specs.squawk_run.declared.stop.Stop.TheVariants.{BadArguments, NotUtf8, TooLong, ReadFault, WriteFault, NoMemory}
use Rattle.refused_word.specs.devices.Faults.{Rose}
use Rattle.refused_word.specs.devices.Parts.{AppendsPart}
use Rattle.file_answer.specs.declared.linter.FileLinter.{FileLinter}
use Rattle.file_answer.specs.Answers.{IsLintedAs}

abbrev pub is_painted_by : Color → Bool → Bool
is_painted_by Auto painted = painted
is_painted_by Always painted = true
is_painted_by Never painted = false

-- the style of what is written, by whether colours are expected where no word says
abbrev pub style_of : Request → Bool → Style
style_of request painted = record {
  format = request.format;
  color = is_painted_by request.color painted;
  quiet = request.quiet;
  statistics = request.statistics;
}

-- what is written of files: the baseline that knows all of their reports, or the findings in a style
abbrev pub printed_by : Bool → Style → List Checked → List ℕ
printed_by true style files = written files
printed_by false style files = printed style files

abbrev pub printed_for : Request → Bool → List Checked → List ℕ
printed_for request painted files = printed_by request.write_baseline (style_of request painted) files

-- the linter with what is chosen, by whether each line is read as SQL
abbrev pub linter_by : CodeChoices → Bool → FileLinter
linter_by chosen is_strict = record {
  linter = record { linter = record { rules = chosen.choices.rules; settings = chosen.choices.settings }; hazards = chosen.hazards };
  is_strict = is_strict;
}

-- the answers that it has
abbrev pub answers_by : CodeChoices → Bool → Answers
answers_by chosen is_strict bytes linted = IsLintedAs is_strict (linter_by chosen is_strict).linter bytes linted

-- which reports make a run fail: none where they are written to a baseline
abbrev pub fails_on : Request → FailOn
fails_on request = if request.write_baseline then fail_on.Never else request.fail_on

-- the status of a run, by the greatest of its files and by which reports make it fail
abbrev pub status_by : FailOn → Status → Status
status_by fail_on.Warning greatest = greatest
status_by fail_on.Never greatest = forgiven greatest

-- the same, where nothing stopped it
abbrev pub ended_by : FailOn → Result Status Stop → Result Status Failure
ended_by fails (Ok greatest) = Ok (status_by fails greatest)
ended_by fails (Err stop) = Err (failure.Stop stop)

-- what is left of the answers of a run, under these choices and after this setup
abbrev pub AreLeftAnswers : CodeChoices → Setup → Devices → Request → List Checked → Type 0
AreLeftAnswers choices setup d request files =
    AreLeft (AreAnswers (answers_by choices request.strict) d setup.config.excluded_paths request) (Leaves setup.filter.baseline) files

-- The configuration and the words for the linter choose rules, hazards and settings. Under these each file has its answer that the configuration
-- does not leave out; without the reports that the baseline knows all of them were written, and the status is by the greatest of theirs.
pub record HasChecked (request : Request) (painted : Bool) (d : Devices) (old new : Option (List ℕ)) (result : Status) : Type 0 where
  pub setup : Setup
  pub set_up : IsSetUp d.content request setup
  pub choices : CodeChoices
  pub chosen : IsChosenBy setup.config request.linter choices
  pub greatest : Status
  pub run : HasRun (AreLeftAnswers choices setup d request) (printed_for request painted) old new greatest
  pub ended : result ≡ status_by (fails_on request) greatest

-- The same, but a write failed.
pub record HasCheckedPart (request : Request) (painted : Bool) (d : Devices) (old new : Option (List ℕ)) (before now : ℕ) : Type 0 where
  pub setup : Setup
  pub set_up : IsSetUp d.content request setup
  pub choices : CodeChoices
  pub chosen : IsChosenBy setup.config request.linter choices
  pub part : HasWrittenPart (AreLeftAnswers choices setup d request) (printed_for request painted) old new before now

-- what was done for words that are taken, by what they ask for; `help` and `version` are the texts that are printed for these
abbrev pub DoneFor : Asked → List ℕ → List ℕ → Bool → Devices → Option (List ℕ) → Option (List ℕ) → Status → Type 0
DoneFor (Check request) help version painted d old new result = HasChecked request painted d old new result
DoneFor Help help version painted d old new result = (result ≡ status.Clean) × Appends old new help
DoneFor Version help version painted d old new result = (result ≡ status.Clean) × Appends old new version
DoneFor (Refused fault) help version painted d old new result = ⊥

-- words that the linter refuses beside the configuration
abbrev pub AreRefused : Asked → Devices → Type 0
AreRefused (Check request) d = (setup : Setup) × IsSetUp d.content request setup × (code_choices_of (linter_words setup.config request.linter) ≡ None)
AreRefused Help d = ⊥
AreRefused Version d = ⊥
AreRefused (Refused fault) d = ⊥

-- a word that is refused, the configuration or the baseline, and the line that says why
abbrev pub HasRefused : Asked → Devices → List ℕ → Type 0
HasRefused (Check request) d line = IsRefusedFor d.content d.files_before d.files_now request line
HasRefused Help d line = ⊥
HasRefused Version d line = ⊥
HasRefused (Refused fault) d line = line ≡ line_of fault

-- what was written before a write failed
abbrev pub PartFor : Asked → List ℕ → List ℕ → Bool → Devices → Option (List ℕ) → Option (List ℕ) → ℕ → ℕ → Type 0
PartFor (Check request) help version painted d old new before now = HasCheckedPart request painted d old new before now
PartFor Help help version painted d old new before now = AppendsPart old new help × Rose before now
PartFor Version help version painted d old new before now = AppendsPart old new version × Rose before now
PartFor (Refused fault) help version painted d old new before now = ⊥

-- why a run stopped, and what it left
abbrev pub StoppedFor : Asked → List ℕ → List ℕ → Bool → Devices → Option (List ℕ) → Option (List ℕ) → ℕ → ℕ → Failure → Type 0
StoppedFor asked help version painted d old new before now (failure.Refused line) = HasRefused asked d line.items × Keeps old new
StoppedFor asked help version painted d old new before now (failure.Stop BadArguments) = AreRefused asked d × Keeps old new
StoppedFor asked help version painted d old new before now (failure.Stop NotUtf8) = ⊥
StoppedFor asked help version painted d old new before now (failure.Stop TooLong) = ⊥
StoppedFor asked help version painted d old new before now (failure.Stop ReadFault) = ⊥
StoppedFor asked help version painted d old new before now (failure.Stop WriteFault) = PartFor asked help version painted d old new before now
StoppedFor asked help version painted d old new before now (failure.Stop NoMemory) = Keeps old new
