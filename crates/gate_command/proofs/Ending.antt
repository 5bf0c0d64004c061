-- Why a run stopped.
use Rattle.std.proofs.Common.{◌≡◌, refl, subst, sym, ℕ, Bool, true, false, List, [], ◌∷◌, Option, Some, None, Result, Ok, Err, IfOk, IfErr, OnOk}
use Rattle.std.specs.Io.KnownBytes.{Appends, Keeps}
use Rattle.std.specs.Prelude.{◌&&◌}
use Rattle.refused_word.specs.devices.Contents.{Content}
use Rattle.gate_report.specs.squawk_linter.declared.linter.Linter.{Linter}
use Rattle.refused_word.specs.squawk_run.declared.stop.Stop.{Stop as AnyStop}
use Rattle.refused_word.specs.squawk_run.declared.stop.Stop.TheVariants.{BadArguments, NotUtf8, TooLong, ReadFault, WriteFault, NoMemory}
use Rattle.refused_word.specs.devices.Faults.{HasCause}
use Rattle.refused_word.specs.devices.Parts.{AppendsPart}
use Rattle.refused_word.specs.squawk_words.Words.{Text}
use Rattle.gate_command.specs.declared.failure.Failure.{Failure}
use Rattle.gate_command.specs.declared.failure.Failure.TheVariants.{Stop, Words}
use Rattle.gate_command.specs.declared.fault.Fault.{Fault}
use Rattle.gate_command.specs.declared.fault.Fault.TheVariants as fault
use Rattle.gate_command.specs.declared.outcome.Status.{Status}
use Rattle.gate_command.specs.declared.request.Request.{Request}
use Rattle.gate_command.specs.Asked.{asked_of}
use Rattle.gate_command.specs.Failures.{IsStop}
use Rattle.gate_command.specs.Command.{HasWritten, HasWrittenPart, IsAnswerBy, IsLineOf, IsRefusedBy, StoppedFor, fault_by, fault_of, is_beside, unfit, unfit_by}

-- ---- faults

pub no_memory_fits : (o : Option Fault) → IsRefusedBy o (Stop NoMemory)
no_memory_fits None = refl
no_memory_fits (Some f) = tt

pub unnamed : (r : Request) (o : Option Linter) (failure : Failure) → None ≡ o → IsLineOf (fault.Linter r.linter) failure → IsRefusedBy (fault_by r o) failure
unnamed r o failure e told = subst (λ (l : Option Linter). IsRefusedBy (fault_by r l) failure) e told

pub unfit_for : (r : Request) (l : Linter) (f : Fault) (failure : Failure) → unfit r l ≡ Some f → IsLineOf f failure → IsRefusedBy (fault_by r (Some l)) failure
unfit_for r l f failure e told = subst (λ (o : Option Fault). IsRefusedBy o failure) (sym e) told

not_both : (a b : Bool) → (a && b) ≡ false → a ≡ true → b ≡ false
not_both true true e is = e
not_both true false e is = refl
not_both false b e is = absurd cc

not_beside : (files : List Text) (b : Bool) → unfit_by files b ≡ None → b ≡ false
not_beside [] b e = absurd cc
not_beside (file ∷ files) true e = absurd cc
not_beside (file ∷ files) false e = refl

-- what fits is apart
pub apart_by : (r : Request) (l : Linter) → unfit r l ≡ None → r.one_session ≡ true → l.settings.assume_in_transaction ≡ false
apart_by r l e asked = not_both r.one_session l.settings.assume_in_transaction (not_beside r.files (is_beside r l) e) asked

-- ---- stops

stop_in : (o : Option Fault) (s : AnyStop) → IsRefusedBy o (Stop s) → s ≡ NoMemory
stop_in None s h = h
stop_in (Some f) NoMemory h = refl
stop_in (Some f) BadArguments h = absurd h
stop_in (Some f) NotUtf8 h = absurd h
stop_in (Some f) TooLong h = absurd h
stop_in (Some f) ReadFault h = absurd h
stop_in (Some f) WriteFault h = absurd h

stopped_at : (words : List Text) (content : Text → Content) (before now : ℕ) (old new : Option (List ℕ)) (f g : ℕ) (s : AnyStop) → s ≡ NoMemory → Keeps old new
    → StoppedFor words content before now old new f g (Stop s)
stopped_at words content before now old new f g NoMemory e k = k
stopped_at words content before now old new f g BadArguments e k = absurd cc
stopped_at words content before now old new f g NotUtf8 e k = absurd cc
stopped_at words content before now old new f g TooLong e k = absurd cc
stopped_at words content before now old new f g ReadFault e k = absurd cc
stopped_at words content before now old new f g WriteFault e k = absurd cc

pub stopped_by : (words : List Text) (content : Text → Content) (before now : ℕ) (old new : Option (List ℕ)) (f g : ℕ) (failure : Failure) → IsRefusedBy (fault_of words) failure → Keeps old new
    → StoppedFor words content before now old new f g failure
stopped_by words content before now old new f g (Words line) r k = (r, k)
stopped_by words content before now old new f g (Stop s) r k = stopped_at words content before now old new f g s (stop_in (fault_of words) s r) k

-- ---- what was written

pub written_by : (words : List Text) (content : Text → Content) (before now : ℕ) (old new : Option (List ℕ)) (status : Status) (bytes : List ℕ) (r : Result Status Failure)
    → IsAnswerBy (asked_of words) content before now status bytes → OnOk r (Appends old new bytes) → IfOk r (λ s. s ≡ status) → IfOk r (HasWritten words content before now old new)
written_by words content before now old new status bytes (Ok s) answer wrote is =
    record { bytes = bytes; answer = subst (λ (x : Status). IsAnswerBy (asked_of words) content before now x bytes) (sym is) answer; appended = wrote }
written_by words content before now old new status bytes (Err failure) answer wrote is = tt

part_by : (words : List Text) (content : Text → Content) (before now : ℕ) (old new : Option (List ℕ)) (f g : ℕ) (failure : Failure) → failure ≡ Stop WriteFault
    → HasWrittenPart words content before now old new f g → StoppedFor words content before now old new f g failure
part_by words content before now old new f g failure is part = subst (λ (x : Failure). StoppedFor words content before now old new f g x) (sym is) part

pub cut_by : (words : List Text) (content : Text → Content) (before now : ℕ) (old new : Option (List ℕ)) (f g : ℕ) (status : Status) (bytes : List ℕ) (r : Result Status Failure)
    → IsAnswerBy (asked_of words) content before now status bytes → IfErr r (IsStop WriteFault) → AppendsPart old new bytes → HasCause f g r
    → IfErr r (StoppedFor words content before now old new f g)
cut_by words content before now old new f g status bytes (Ok s) answer stop part cause = tt
cut_by words content before now old new f g status bytes (Err failure) answer stop part cause =
    part_by words content before now old new f g failure stop (record { status = status; bytes = bytes; answer = answer; appended = part; cause = cause.failed })
