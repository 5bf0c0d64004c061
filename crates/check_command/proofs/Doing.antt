-- From a run over files to what a run does that the words ask for.
use Rattle.std.proofs.Common.{◌≡◌, ◌≤◌, ap, refl, subst, sym, ℕ, Bool, List, Option, Some, None, Result, Ok, Err, IfOk, IfErr}
use Rattle.check_setup.specs.baseline_file.Leaving.{Leaves}
use Rattle.check_command.specs.declared.failure.Failure.{Failure}
use Rattle.check_command.specs.declared.failure.Failure.TheVariants as failure
use Rattle.check_command.specs.Choosing.{IsChosenBy, IsUnchosen}
use Rattle.check_command.specs.Command.{AreLeftAnswers, DoneFor, HasChecked, StoppedFor, answers_by, ended_by, fails_on, linter_by, printed_by, printed_for, status_by, style_of}
use Rattle.check_command.specs.Failures.{IsWordFailure, failure_of}
use Rattle.check_print.specs.declared.style.Style.{Style}
use Rattle.file_answer.specs.check_run.Checks.{Answers}
use Rattle.file_answer.specs.check_run.Runs.{AreAnswers, AreLeft, Devices, HasRun, HasStopped, HasWrittenPart}
use Rattle.file_answer.proofs.of_check_run.Moved.{answers_moved}
use Rattle.check_setup.specs.declared.setup.Setup.{Setup}
use Rattle.check_setup.specs.SetUp.{IsRefusedSetup, IsSetUp}
use Rattle.check_print.specs.check_words.declared.asked.Asked.{Asked}
use Rattle.check_print.specs.check_words.declared.asked.Asked.TheVariants.{Check, Refused}
use Rattle.check_print.specs.check_words.declared.fault.WordFault.{WordFault}
use Rattle.check_print.specs.check_words.declared.request.FailOn.{FailOn}
use Rattle.check_print.specs.check_words.declared.request.Request.{Request}
use Rattle.check_print.specs.checked_file.declared.checked.Checked.{Checked}
use Rattle.check_print.specs.checked_file.declared.status.Status.{Status}
use Rattle.check_setup.specs.config_file.declared.error.LoadError.{LoadError}
use Rattle.check_setup.specs.config_file.declared.error.LoadError.TheVariants as load
use Rattle.file_answer.specs.declared.linter.FileLinter.{FileLinter}
use Rattle.file_answer.specs.Answers.{IsLintedAs}
use Rattle.refused_word.specs.devices.Contents.{Content, KeepsContents}
use Rattle.refused_word.specs.squawk_run.declared.stop.Stop.{Stop}
use Rattle.refused_word.specs.squawk_run.declared.stop.Stop.TheVariants.{BadArguments, NotUtf8, TooLong, ReadFault, WriteFault, NoMemory}
use Rattle.refused_word.specs.code_choice.declared.choices.CodeChoices.{CodeChoices}
use Rattle.refused_word.specs.squawk_words.Words.{Text}
use Rattle.std.specs.Io.KnownBytes.{Keeps}

-- the answers of a linter
abbrev pub answers_of : FileLinter → Answers
answers_of linter bytes linted = IsLintedAs linter.is_strict linter.linter bytes linted

-- what a run reads
abbrev pub devices : (Text → Content) → ℕ → ℕ → Option (List ℕ) → ℕ → ℕ → Devices
devices content before last left input input_now = record {
  content = content;
  files_before = before;
  files_now = last;
  left = left;
  input_before = input;
  input_now = input_now;
}

run_weaker : (Are Be : List Checked → Type 0) (printed : List Checked → List ℕ) (old new : Option (List ℕ)) (status : Status) → ((files : List Checked) → Are files → Be files)
    → HasRun Are printed old new status → HasRun Be printed old new status
run_weaker Are Be printed old new status f h = record { files = h.files; are = f h.files h.are; sound = h.sound; worst_of = h.worst_of; appended = h.appended }

part_weaker : (Are Be : List Checked → Type 0) (printed : List Checked → List ℕ) (old new : Option (List ℕ)) (before now : ℕ) → ((files : List Checked) → Are files → Be files)
    → HasWrittenPart Are printed old new before now → HasWrittenPart Be printed old new before now
part_weaker Are Be printed old new before now f h = record { files = h.files; are = f h.files h.are; sound = h.sound; part = h.part; cause = h.cause }

left_weaker : (Are Be : List Checked → Type 0) (leaves : List Checked → List Checked → Type 0) (left : List Checked) → ((files : List Checked) → Are files → Be files) → AreLeft Are leaves left
    → AreLeft Be leaves left
left_weaker Are Be leaves left f h = record { files = h.files; are = f h.files h.are; filtered = h.filtered }

-- what is left of answers over files that hold what they held earlier
left_moved : (choices : CodeChoices) (setup : Setup) (content now : Text → Content) (before first last : ℕ) (left : Option (List ℕ)) (input input_now : ℕ) (request : Request) (files : List Checked)
    → KeepsContents content now → before ≤ first → AreLeftAnswers choices setup (devices now first last left input input_now) request files
    → AreLeftAnswers choices setup (devices content before last left input input_now) request files
left_moved choices setup content now before first last left input input_now request files kept later h =
    let patterns = setup.config.excluded_paths in
    left_weaker (AreAnswers (answers_by choices request.strict) (devices now first last left input input_now) patterns request)
    (AreAnswers (answers_by choices request.strict) (devices content before last left input input_now) patterns request) (Leaves setup.filter.baseline) files
    (λ fs are. answers_moved (answers_by choices request.strict) content now before first last left input input_now patterns request fs kept later are) h

-- A run over files, after the configuration and the baseline were read from them.
pub has_checked : (request : Request) (painted : Bool) (content now : Text → Content) (before first last : ℕ) (left : Option (List ℕ)) (input input_now : ℕ) (old new : Option (List ℕ)) (greatest : Status)
    (setup : Setup) (choices : CodeChoices) (linter : FileLinter) (style : Style) (fails : FailOn) → IsSetUp content request setup → KeepsContents content now → before ≤ first
    → IsChosenBy setup.config request.linter choices → linter ≡ linter_by choices request.strict → style ≡ style_of request painted → fails ≡ fails_on request
    → HasRun (AreLeft (AreAnswers (answers_of linter) (devices now first last left input input_now) setup.config.excluded_paths request) (Leaves setup.filter.baseline))
    (printed_by request.write_baseline style) old new greatest
    → HasChecked request painted (devices content before last left input input_now) old new (status_by fails greatest)
has_checked request painted content now before first last left input input_now old new greatest setup choices linter style fails set_up kept later chosen by in_style in_fails ran =
    let d = devices now first last left input input_now in
    let patterns = setup.config.excluded_paths in
    let leaves = Leaves setup.filter.baseline in
    let run = subst (λ (s : Style). HasRun (AreLeft (AreAnswers (answers_by choices request.strict) d patterns request) leaves) (printed_by request.write_baseline s) old new greatest) in_style
    (subst (λ (j : FileLinter). HasRun (AreLeft (AreAnswers (answers_of j) d patterns request) leaves) (printed_by request.write_baseline style) old new greatest) by ran) in
    record {
      setup = setup;
      set_up = set_up;
      choices = choices;
      chosen = chosen;
      greatest = greatest;
      run = run_weaker (AreLeftAnswers choices setup d request) (AreLeftAnswers choices setup (devices content before last left input input_now) request)
          (printed_for request painted) old new greatest (λ files h. left_moved choices setup content now before first last left input input_now request files kept later h) run;
      ended = ap (λ (f : FailOn). status_by f greatest) in_fails;
    }

-- what an end says of the greatest status, and what it says of the status
pub ended_ok : (fails : FailOn) (done : Result Status Stop) (result : Result Status Failure) (P Q : Status → Type 0) → result ≡ ended_by fails done
    → ((s : Status) → P s → Q (status_by fails s)) → IfOk done P → IfOk result Q
ended_ok fails (Ok s) result P Q e f h = rw e (f s h)
ended_ok fails (Err stop) result P Q e f h = rw e h

pub ended_err : (fails : FailOn) (done : Result Status Stop) (result : Result Status Failure) (P : Stop → Type 0) (Q : Failure → Type 0) → result ≡ ended_by fails done
    → ((s : Stop) → P s → Q (failure.Stop s)) → IfErr done P → IfErr result Q
ended_err fails (Ok s) result P Q e f h = rw e h
ended_err fails (Err stop) result P Q e f h = rw e (f stop h)

pub has_stopped : (request : Request) (help version : List ℕ) (painted : Bool) (content now : Text → Content) (before first last : ℕ) (left : Option (List ℕ)) (input input_now : ℕ) (old new : Option (List ℕ))
    (out_before out_now : ℕ) (stop : Stop) (setup : Setup) (choices : CodeChoices) (linter : FileLinter) (style : Style) → IsSetUp content request setup → KeepsContents content now → before ≤ first
    → IsChosenBy setup.config request.linter choices → linter ≡ linter_by choices request.strict → style ≡ style_of request painted
    → HasStopped (AreLeft (AreAnswers (answers_of linter) (devices now first last left input input_now) setup.config.excluded_paths request) (Leaves setup.filter.baseline))
    (printed_by request.write_baseline style) old new out_before out_now stop
    → StoppedFor (Check request) help version painted (devices content before last left input input_now) old new out_before out_now (failure.Stop stop)
has_stopped request help version painted content now before first last left input input_now old new out_before out_now BadArguments setup choices linter style set_up kept later chosen by in_style h = absurd h
has_stopped request help version painted content now before first last left input input_now old new out_before out_now NotUtf8 setup choices linter style set_up kept later chosen by in_style h = h
has_stopped request help version painted content now before first last left input input_now old new out_before out_now TooLong setup choices linter style set_up kept later chosen by in_style h = h
has_stopped request help version painted content now before first last left input input_now old new out_before out_now ReadFault setup choices linter style set_up kept later chosen by in_style h = h
has_stopped request help version painted content now before first last left input input_now old new out_before out_now NoMemory setup choices linter style set_up kept later chosen by in_style h = h
has_stopped request help version painted content now before first last left input input_now old new out_before out_now WriteFault setup choices linter style set_up kept later chosen by in_style h =
    let d = devices now first last left input input_now in
    let patterns = setup.config.excluded_paths in
    let leaves = Leaves setup.filter.baseline in
    let part = subst (λ (s : Style). HasStopped (AreLeft (AreAnswers (answers_by choices request.strict) d patterns request) leaves) (printed_by request.write_baseline s) old new out_before out_now WriteFault) in_style
    (subst (λ (j : FileLinter). HasStopped (AreLeft (AreAnswers (answers_of j) d patterns request) leaves) (printed_by request.write_baseline style) old new out_before out_now WriteFault) by h) in
    record {
      setup = setup;
      set_up = set_up;
      choices = choices;
      chosen = chosen;
      part = part_weaker (AreLeftAnswers choices setup d request) (AreLeftAnswers choices setup (devices content before last left input input_now) request)
          (printed_for request painted) old new out_before out_now (λ files p. left_moved choices setup content now before first last left input input_now request files kept later p) part;
    }

-- ---- runs that end before

-- words that are refused beside the configuration
pub has_unchosen : (request : Request) (help version : List ℕ) (painted : Bool) (d : Devices) (old new : Option (List ℕ)) (before now : ℕ) (setup : Setup) (stop : Stop) → IsSetUp d.content request setup
    → IsUnchosen setup.config request.linter stop → Keeps old new → StoppedFor (Check request) help version painted d old new before now (failure.Stop stop)
has_unchosen request help version painted d old new before now setup BadArguments set_up h kept = ((setup, set_up, h), kept)
has_unchosen request help version painted d old new before now setup NotUtf8 set_up h kept = absurd h
has_unchosen request help version painted d old new before now setup TooLong set_up h kept = absurd h
has_unchosen request help version painted d old new before now setup ReadFault set_up h kept = absurd h
has_unchosen request help version painted d old new before now setup WriteFault set_up h kept = absurd h
has_unchosen request help version painted d old new before now setup NoMemory set_up h kept = kept

-- a configuration or a baseline that is refused
pub has_refused : (request : Request) (help version : List ℕ) (painted : Bool) (d : Devices) (old new : Option (List ℕ)) (before now : ℕ) (error : LoadError)
    → IsRefusedSetup d.content d.files_before d.files_now request error → Keeps old new → StoppedFor (Check request) help version painted d old new before now (failure_of error)
has_refused request help version painted d old new before now (load.Refused line) h kept = (h, kept)
has_refused request help version painted d old new before now load.NoMemory h kept = kept

pub same_kept : (o : Option (List ℕ)) → Keeps o o
same_kept None = tt
same_kept (Some xs) = refl

-- a word that is refused
fault_told : (fault : WordFault) (help version : List ℕ) (painted : Bool) (d : Devices) (old new : Option (List ℕ)) (before now : ℕ) (stop : Failure) → IsWordFailure fault stop → Keeps old new
    → StoppedFor (Refused fault) help version painted d old new before now stop
fault_told fault help version painted d old new before now (failure.Refused line) h kept = (h, kept)
fault_told fault help version painted d old new before now (failure.Stop BadArguments) h kept = absurd h
fault_told fault help version painted d old new before now (failure.Stop NotUtf8) h kept = h
fault_told fault help version painted d old new before now (failure.Stop TooLong) h kept = h
fault_told fault help version painted d old new before now (failure.Stop ReadFault) h kept = h
fault_told fault help version painted d old new before now (failure.Stop WriteFault) h kept = h
fault_told fault help version painted d old new before now (failure.Stop NoMemory) h kept = kept

pub word_refused : (asked : Asked) (fault : WordFault) (help version : List ℕ) (painted : Bool) (d : Devices) (old new : Option (List ℕ)) (before now : ℕ) (stop : Failure)
    → asked ≡ Refused fault → IsWordFailure fault stop → Keeps old new → StoppedFor asked help version painted d old new before now stop
word_refused asked fault help version painted d old new before now stop is h kept =
    subst (λ (a : Asked). StoppedFor a help version painted d old new before now stop) (sym is) (fault_told fault help version painted d old new before now stop h kept)

-- ---- the words that ask for a request

-- what was done for a request was done for the words that ask for it
pub done_for : (asked : Asked) (request : Request) (help version : List ℕ) (painted : Bool) (d : Devices) (old new : Option (List ℕ)) (result : Status)
    → asked ≡ Check request → HasChecked request painted d old new result → DoneFor asked help version painted d old new result
done_for asked request help version painted d old new result is h = subst (λ (a : Asked). DoneFor a help version painted d old new result) (sym is) h

pub stopped_for : (asked : Asked) (request : Request) (help version : List ℕ) (painted : Bool) (d : Devices) (old new : Option (List ℕ)) (before now : ℕ) (stop : Failure)
    → asked ≡ Check request → StoppedFor (Check request) help version painted d old new before now stop → StoppedFor asked help version painted d old new before now stop
stopped_for asked request help version painted d old new before now stop is h = subst (λ (a : Asked). StoppedFor a help version painted d old new before now stop) (sym is) h
