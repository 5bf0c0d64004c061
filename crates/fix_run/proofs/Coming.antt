-- What came of a name, by how it came.
use Rattle.std.proofs.Common.{◌≡◌, ◌^◌, inl, inr, subst, sym, ℕ, List, [], Option, Some, None}
use Rattle.std.specs.Str.{IsUtf8}
use Rattle.fix_output.specs.devices.Contents.{Content, IsBytes}
use Rattle.fix_output.specs.devices.declared.store.FileError.{FileError}
use Rattle.fix_output.specs.devices.declared.store.FileError.TheVariants as error
use Rattle.fix_output.specs.devices.Refused.{MayBeLong, RefusedFits}
use Rattle.fix_run.specs.declared.outcome.FileOutcome.{FileOutcome}
use Rattle.fix_run.specs.declared.outcome.FileOutcome.TheVariants as outcome
use Rattle.fix_run.specs.declared.fixer.TextOutcome.TheVariants.{Fixed, Refused}
use Rattle.fix_run.specs.Inputs.{input_content}
use Rattle.fix_run.specs.Outcomes.{Answers, IsOutcome, IsNoText, IsOfBytes, IsOfError, IsOfStop, IsOfText, IsStoppedBy}
use Rattle.gate_files.specs.Read.{IsUnread, IsUnreadBy}
use Rattle.gate_files.specs.source_file.declared.refusal.Refusal.{Refusal}
use Rattle.fix_words.proofs.of_squawk_run.Runs.{took_fits}
use Rattle.fix_words.specs.squawk_run.declared.stop.Stop.{Stop}
use Rattle.fix_words.specs.squawk_run.declared.stop.Stop.TheVariants.{BadArguments, NotUtf8, TooLong, ReadFault, WriteFault, NoMemory}
use Rattle.fix_words.specs.squawk_run.Ends.{ReadFor, SourceCause, Stopped}
use Rattle.fix_output.specs.devices.Reading.{Took}
use Rattle.gate_files.specs.squawk_words.Words.{Text}

module _ (answers : Answers) (content : Content) (before now : ℕ) (name : Text) where
  -- ---- a text

  text_came : (bytes : List ℕ) (c : FileOutcome) → IsBytes content bytes → IsUtf8 bytes → IsOfText answers name bytes c → IsOutcome answers content before now name c
  text_came bytes (outcome.Fixed file) held u (n, o, m) = record {
    named = n;
    held = subst (IsBytes content) (sym o) held;
    utf8 = subst IsUtf8 (sym o) u;
    made = subst (λ (t : Text). answers t (Fixed file.new file.others)) (sym o) m;
  }
  text_came bytes (outcome.Unread v) held u (n, f, m) = (
    n,
    inr (record {
      held = subst (IsBytes content) (sym f) held;
      utf8 = subst IsUtf8 (sym f) u;
      refused = subst (λ (t : Text). answers t (Refused v.refusal)) (sym f) m;
    }),
  )

  no_text : (bytes : List ℕ) (c : FileOutcome) → IsBytes content bytes → IsNoText name bytes c → IsOutcome answers content before now name c
  no_text bytes (outcome.Fixed file) held bad = absurd bad
  no_text bytes (outcome.Unread v) held (at, n, r, bad) =
      (n, inl (subst (λ (x : Refusal). IsUnread content before now v.front x) (sym r) (record { bytes = bytes; held = held; no_text = bad })))

  pub read_came : (bytes : List ℕ) (c : FileOutcome) → IsBytes content bytes → IsOfBytes answers name bytes c → IsOutcome answers content before now name c
  read_came bytes c held of = elim of [
    | inl t ↦ text_came bytes c held t.0 t.1
    | inr bad ↦ no_text bytes c held bad
  ]

  -- ---- a file that could not be read

  unread_by : (e : FileError) (front : Text) (r : Refusal) → RefusedFits e content before now → front ≡ [] → IsUnreadBy e r → IsUnread content before now front r
  unread_by error.Missing front r fits f by = subst (λ (x : Refusal). IsUnread content before now front x) (sym by) (fits, f)
  unread_by error.Fault front r fits f by = subst (λ (x : Refusal). IsUnread content before now front x) (sym by) (fits, f)
  unread_by error.TooLong front r fits f by = subst (λ (x : Refusal). IsUnread content before now front x) (sym by) (fits, f)
  unread_by error.NoMemory front r fits f by = absurd by

  pub error_came : (e : FileError) (c : FileOutcome) → RefusedFits e content before now → IsOfError name e c → IsOutcome answers content before now name c
  error_came e (outcome.Fixed file) fits of = absurd of
  error_came e (outcome.Unread u) fits (n, f, by) = (n, inl (unread_by e u.front u.refusal fits f by))

-- ---- an input that was not read to its end

long_input : (left new : Option (List ℕ)) → Took left new (2 ^ 32) → MayBeLong (input_content left)
long_input None new took = tt
long_input (Some all) new took = took_fits all new (2 ^ 32) took

stopped_by : (left new : Option (List ℕ)) (before now : ℕ) (stop : Stop) (front : Text) (r : Refusal) → ReadFor (Stopped stop) left new → SourceCause (Stopped stop) before now → front ≡ []
    → IsStoppedBy stop r → IsUnread (input_content left) before now front r
stopped_by left new before now TooLong front r read cause f by = subst (λ (x : Refusal). IsUnread (input_content left) before now front x) (sym by) (long_input left new read, f)
stopped_by left new before now ReadFault front r read cause f by = subst (λ (x : Refusal). IsUnread (input_content left) before now front x) (sym by) (cause, f)
stopped_by left new before now NoMemory front r read cause f by = absurd by
stopped_by left new before now BadArguments front r read cause f by = absurd by
stopped_by left new before now NotUtf8 front r read cause f by = absurd by
stopped_by left new before now WriteFault front r read cause f by = absurd by

pub stop_came : (answers : Answers) (left new : Option (List ℕ)) (before now : ℕ) (name : Text) (stop : Stop) (c : FileOutcome) → ReadFor (Stopped stop) left new → SourceCause (Stopped stop) before now
    → IsOfStop name stop c → IsOutcome answers (input_content left) before now name c
stop_came answers left new before now name stop (outcome.Fixed file) read cause of = absurd of
stop_came answers left new before now name stop (outcome.Unread u) read cause (n, f, by) = (n, inl (stopped_by left new before now stop u.front u.refusal read cause f by))
