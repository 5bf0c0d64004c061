-- Lines, and a note before them or after them.
use Rattle.std.proofs.Common.{◌≡◌, ◌≤◌, ℕ, List, Option, Some, None, arith, inl, subst, sym}
use Rattle.std.proofs.KnownBytes.{Appends-trans}
use Rattle.config_file.specs.devices.Faults.{Rose}
use Rattle.fix_asked.specs.Command.{AnswersBy, HasDone, HasRun}
use Rattle.fix_asked.specs.Failures.{line_of}
use Rattle.fix_asked.specs.declared.failure.Failure.{Failure}
use Rattle.fix_asked.specs.declared.note.Note.{Note}
use Rattle.fix_asked.specs.declared.note.Note.TheVariants.{NewAlone, SafeAlone}
use Rattle.fix_asked.specs.declared.note.TheConstants.{NEW_ALONE, SAFE_ALONE}
use Rattle.fix_asked.specs.Noted.{HasBegun, HasEnded, HasFailedBy, HasSaid, HasSaidBoth, HasSaidBy, HasSaidFailure, HasSaidFor, note_of}
use Rattle.fix_run.specs.checked_file.declared.status.Status.{Status}
use Rattle.fix_run.specs.Giving.{Sinks}
use Rattle.fix_run.specs.Inputs.{Devices}
use Rattle.fix_run.specs.fix_words.declared.asked.Asked.{Asked}

rose_on : (a b c : ℕ) → b ≤ c → Rose a b → Rose a c
rose_on a b c h rose = omega (arith, h, rose)

rose_from : (a b c : ℕ) → a ≤ b → Rose b c → Rose a c
rose_from a b c h rose = omega (arith, h, rose)

both_said : (first second : List ℕ) (old between new : Option (List ℕ)) (a b c : ℕ) → HasSaid first old between a b → a ≤ b → HasSaid second between new b c → b ≤ c → HasSaidBoth first second old new a c
both_said first second old between new a b c one front other later = record {
  between = between;
  faults = b;
  one = one;
  other = other;
  whole = λ calm. Appends-trans old between new first second (one.1 (λ rose. calm (rose_on a b c later rose))) (other.1 (λ rose. calm (rose_from a b c front rose)));
}

-- the same lines, where the sink held and had failed so before
from_old : (lines : List ℕ) (old between new : Option (List ℕ)) (a b c : ℕ) → between ≡ old → b ≡ a → HasSaid lines between new b c → HasSaid lines old new a c
from_old lines old between new a b c held faults said =
    subst (λ (x : Option (List ℕ)). HasSaid lines x new a c) held (subst (λ (n : ℕ). HasSaid lines between new n c) faults said)

-- the same lines, where nothing came after them
to_new : (lines : List ℕ) (old between new : Option (List ℕ)) (a b c : ℕ) → new ≡ between → c ≡ b → HasSaid lines old between a b → HasSaid lines old new a c
to_new lines old between new a b c held faults said =
    subst (λ (x : Option (List ℕ)). HasSaid lines old x a c) (sym held) (subst (λ (n : ℕ). HasSaid lines old between a n) (sym faults) said)

failed_by : (note : Option Note) (line : List ℕ) (old between new : Option (List ℕ)) (a b c : ℕ) → HasBegun note old between a b → HasSaid line between new b c → b ≤ c
    → HasFailedBy note line old new a c
failed_by (Some NewAlone) line old between new a b c begun said later = both_said NEW_ALONE.now line old between new a b c begun.0 begun.1 said later
failed_by (Some SafeAlone) line old between new a b c begun said later = from_old line old between new a b c begun.0 begun.1 said
failed_by None line old between new a b c begun said later = from_old line old between new a b c begun.0 begun.1 said

said_by : (note : Option Note) (lines : List ℕ) (old between then new : Option (List ℕ)) (a b c d : ℕ) → HasBegun note old between a b → HasSaid lines between then b c → b ≤ c
    → HasEnded note then new c d → HasSaidBy note lines old new a d
said_by (Some NewAlone) lines old between then new a b c d begun said later ended =
    both_said NEW_ALONE.now lines old between new a b d begun.0 begun.1 (to_new lines between then new b c d ended.0 ended.1 said) (subst (λ (n : ℕ). b ≤ n) (sym ended.1) later)
said_by (Some SafeAlone) lines old between then new a b c d begun said later ended =
    both_said lines SAFE_ALONE.now old then new a c d (from_old lines old between then a b c begun.0 begun.1 said) (subst (λ (n : ℕ). n ≤ c) begun.1 later) ended.0 ended.1
said_by None lines old between then new a b c d begun said later ended =
    to_new lines old then new a c d ended.0 ended.1 (from_old lines old between then a b c begun.0 begun.1 said)

module _ (asked : Asked) (old between : Option (List ℕ)) (a b : ℕ) (begun : HasBegun (note_of asked) old between a b) where
  -- in a run that did what was asked for
  pub run_said : (then new : Option (List ℕ)) (c d : ℕ) (by : AnswersBy) (devices : Devices) (before now : Sinks) (status : Status) (lines : List ℕ)
      (own : Asked) → own ≡ asked → HasDone by own devices before now status lines → HasSaid lines between then b c → b ≤ c → HasEnded (note_of asked) then new c d
      → HasRun by asked devices before now (λ ls. HasSaidFor asked ls old new a d) status
  run_said then new c d by devices before now status lines own e done said later ended = record {
    lines = lines;
    done = subst (λ (x : Asked). HasDone by x devices before now status lines) e done;
    said = said_by (note_of asked) lines old between then new a b c d begun said later ended;
  }

  -- in one that failed
  pub failure_said : (new : Option (List ℕ)) (c : ℕ) (failure : Failure) → HasSaid (line_of failure) between new b c → b ≤ c → HasSaidFailure asked failure old new a c
  failure_said new c failure said later = inl (failed_by (note_of asked) (line_of failure) old between new a b c begun said later)
