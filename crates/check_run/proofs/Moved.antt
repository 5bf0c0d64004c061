-- Answers over devices that were used before.
use Rattle.std.proofs.Common.{◌≤◌, arith, ℕ, Bool, true, false, List, Option}
use Rattle.checked_file.specs.declared.checked.Checked.{Checked}
use Rattle.check_words.specs.declared.request.Request.{Request}
use Rattle.sql_files.specs.devices.Contents.{Content, KeepsContents}
use Rattle.sql_files.proofs.Moved.{named_moved}
use Rattle.sql_files.specs.squawk_words.Words.{Text}
use Rattle.check_run.specs.Checks.{Answers}
use Rattle.check_run.specs.Inputs.{reads_input}
use Rattle.check_run.specs.Runs.{AreAnswers, AreAnswersBy, AreFileAnswers}
use Rattle.file_choice.specs.Choice.{chosen_of}
use Rattle.check_run.proofs.Lists.{all_moved}

files_moved : (A : Answers) (content now : Text → Content) (before first last : ℕ) (patterns words : List Text) (files : List Checked) → KeepsContents content now → before ≤ first
    → AreFileAnswers A now first last patterns words files → AreFileAnswers A content before last patterns words files
files_moved A content now before first last patterns words files kept later h =
    record {
      names = h.names;
      named = h.named;
      are_named = named_moved content now before first h.named words h.names kept later h.are_named;
      came = all_moved A content now h.named last h.named (chosen_of patterns h.names) files kept (omega arith) h.came;
    }

moved_by : (b : Bool) (A : Answers) (content now : Text → Content) (before first last : ℕ) (left : Option (List ℕ)) (input input_now : ℕ) (patterns : List Text) (request : Request) (files : List Checked)
    → KeepsContents content now → before ≤ first
    → AreAnswersBy b A (record { content = now; files_before = first; files_now = last; left = left; input_before = input; input_now = input_now }) patterns request files
    → AreAnswersBy b A (record { content = content; files_before = before; files_now = last; left = left; input_before = input; input_now = input_now }) patterns request files
moved_by true A content now before first last left input input_now patterns request files kept later h = h
moved_by false A content now before first last left input input_now patterns request files kept later h = files_moved A content now before first last patterns request.files files kept later h

-- Answers of a run over files that hold what they held earlier, as answers of a run that began then.
pub answers_moved : (A : Answers) (content now : Text → Content) (before first last : ℕ) (left : Option (List ℕ)) (input input_now : ℕ) (patterns : List Text) (request : Request) (files : List Checked)
    → KeepsContents content now → before ≤ first
    → AreAnswers A (record { content = now; files_before = first; files_now = last; left = left; input_before = input; input_now = input_now }) patterns request files
    → AreAnswers A (record { content = content; files_before = before; files_now = last; left = left; input_before = input; input_now = input_now }) patterns request files
answers_moved A content now before first last left input input_now patterns request files kept later h =
    moved_by (reads_input request.files) A content now before first last left input input_now patterns request files kept later h
