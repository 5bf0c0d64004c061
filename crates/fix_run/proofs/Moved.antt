-- A run over files that were used before.
use Rattle.std.proofs.Common.{◌≤◌, arith, ℕ, Bool, true, false, List, Option}
use Rattle.gate_files.specs.checked_file.declared.status.Status.{Status}
use Rattle.gate_files.specs.file_choice.Choice.{chosen_of}
use Rattle.fix_output.specs.devices.Contents.{Content, KeepsContents}
use Rattle.fix_output.specs.declared.file.FixedFile.{FixedFile}
use Rattle.fix_run.specs.declared.stop.FixStop.{FixStop}
use Rattle.fix_run.specs.Giving.{Sinks}
use Rattle.fix_run.specs.Inputs.{reads_input}
use Rattle.fix_run.specs.Outcomes.{Answers}
use Rattle.fix_run.specs.Runs.{AllOutcomes, AllOutcomesBy, Early, FilesOutcomes, HasFixed, HasStopped, Late}
use Rattle.fix_run.proofs.Lists.{have_moved}
use Rattle.fix_words.specs.declared.request.Request.{Request}
use Rattle.gate_files.specs.declared.read.Unread.{Unread}
use Rattle.gate_files.proofs.of_sql_files.Moved.{named_moved}
use Rattle.gate_files.specs.squawk_words.Words.{Text}

module _ (A : Answers) (content now : Text → Content) (before first last : ℕ) (left : Option (List ℕ)) (input input_now : ℕ) (patterns : List Text)
    (kept : KeepsContents content now) (later : before ≤ first) where
  files_moved : (words : List Text) (fixed : List FixedFile) (unread : List Unread) → FilesOutcomes A now first last patterns words fixed unread
      → FilesOutcomes A content before last patterns words fixed unread
  files_moved words fixed unread h = record {
    names = h.names;
    named = h.named;
    are_named = record {
      given = h.are_named.given;
      result = h.are_named.result;
      named = named_moved content now before first h.named words h.are_named.given kept later h.are_named.named;
      in_order = h.are_named.in_order;
      once = h.are_named.once;
    };
    come = have_moved A content now h.named last h.named (chosen_of patterns h.names) fixed unread kept (omega arith) h.come;
  }

  by : (b : Bool) (words : List Text) (fixed : List FixedFile) (unread : List Unread)
      → AllOutcomesBy b A (record { content = now; files_before = first; files_now = last; left = left; input_before = input; input_now = input_now }) patterns words fixed unread
      → AllOutcomesBy b A (record { content = content; files_before = before; files_now = last; left = left; input_before = input; input_now = input_now }) patterns words fixed unread
  by true words fixed unread h = h
  by false words fixed unread h = files_moved words fixed unread h

  came_moved : (words : List Text) (fixed : List FixedFile) (unread : List Unread)
      → AllOutcomes A (record { content = now; files_before = first; files_now = last; left = left; input_before = input; input_now = input_now }) patterns words fixed unread
      → AllOutcomes A (record { content = content; files_before = before; files_now = last; left = left; input_before = input; input_now = input_now }) patterns words fixed unread
  came_moved words fixed unread h = by (reads_input words) words fixed unread h

  -- what a run did that began later is what one did that began before
  pub fixed_moved : (request : Request) (old new : Sinks) (status : Status) (lines : List ℕ)
      → HasFixed A patterns request (record { content = now; files_before = first; files_now = last; left = left; input_before = input; input_now = input_now }) old new status lines
      → HasFixed A patterns request (record { content = content; files_before = before; files_now = last; left = left; input_before = input; input_now = input_now }) old new status lines
  fixed_moved request old new status lines h = record {
    fixed = h.fixed;
    unread = h.unread;
    came = came_moved request.files h.fixed h.unread h.came;
    given = h.given;
    status_is = h.status_is;
    lines_are = h.lines_are;
  }

  pub stopped_moved : (request : Request) (old new : Sinks) (stop : FixStop)
      → HasStopped A patterns request (record { content = now; files_before = first; files_now = last; left = left; input_before = input; input_now = input_now }) old new stop
      → HasStopped A patterns request (record { content = content; files_before = before; files_now = last; left = left; input_before = input; input_now = input_now }) old new stop
  stopped_moved request old new stop (Early ran kept_out kept_files) = Early ran kept_out kept_files
  stopped_moved request old new stop (Late fixed unread came cut) = Late fixed unread (came_moved request.files fixed unread came) cut
