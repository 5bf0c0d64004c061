-- One file after another.
use Rattle.std.proofs.Common.{◌≡◌, ℕ, zero, suc, ◌+◌, ◌<◌, ◌≤◌, Bool, true, false, List, [], ◌∷◌, length, get_or, take, refl, sym, ◌∙◌, subst, arith}
use Rattle.std.proofs.lemmas.Option.{slice_get_read}
use Rattle.devices.specs.Contents.{Content, KeepsContents}
use Rattle.devices.specs.declared.writer.WriteError.{WriteError}
use Rattle.devices.specs.declared.writer.WriteError.TheVariants as error
use Rattle.devices.specs.Writes.{IsRefusal}
use Rattle.fix_output.specs.declared.file.FixedFile.{FixedFile}
use Rattle.fix_output.specs.Differences.{HasDiffIf, HasDiffs, is_changed}
use Rattle.fix_output.specs.declared.write.WriteStop.{WriteStop}
use Rattle.fix_output.specs.Writing.{AreWritten, HasStopped, IsWrittenIf, IsWrittenUpTo, stop_at}
use Rattle.devices.specs.Faults.{Rose}

-- the differences of the first files, and of one more
pub diffs_more : (files : List FixedFile) (i : ℕ) (file : FixedFile) (first before after : List ℕ) → i < length files → file ≡ get_or files i file
    → HasDiffs (take i files) first before → HasDiffIf (is_changed file) file before after → HasDiffs (take (i + 1) files) first after
diffs_more [] i file first before after h e ds d = absurd (omega arith)
diffs_more (x ∷ xs) zero file first before after h e ds d =
    let same : file ≡ x = e in
    (after, subst (λ (y : FixedFile). HasDiffIf (is_changed y) y first after) same (subst (λ (b : List ℕ). HasDiffIf (is_changed file) file b after) ds d), refl)
diffs_more (x ∷ xs) (suc i) file first before after h e ds d =
    let next : suc i + 1 ≡ suc (i + 1) = omega arith in
    rw next ((ds.0, ds.1, diffs_more xs i file ds.0 before after (omega arith) e ds.2 d))

keeps_again : (old middle new : List ℕ → Content) → KeepsContents old middle → KeepsContents middle new → KeepsContents old new
keeps_again old middle new h k name = k name ∙ h name

-- what nothing was done to
first_kept : (b : Bool) (file : FixedFile) (old middle new : List ℕ → Content) → KeepsContents old middle → IsWrittenIf b file middle new → IsWrittenIf b file old new
first_kept true file old middle new h w = record { here = w.here; others = λ other apart. w.others other apart ∙ h other }
first_kept false file old middle new h w = keeps_again old middle new h w

-- the first files are written, and one more
pub written_more : (files : List FixedFile) (i : ℕ) (file : FixedFile) (old middle new : List ℕ → Content) → i < length files → file ≡ get_or files i file
    → AreWritten (take i files) old middle → IsWrittenIf (is_changed file) file middle new → AreWritten (take (i + 1) files) old new
written_more [] i file old middle new h e ws w = absurd (omega arith)
written_more (x ∷ xs) zero file old middle new h e ws w =
    let same : file ≡ x = e in
    (new, subst (λ (y : FixedFile). IsWrittenIf (is_changed y) y old new) same (first_kept (is_changed file) file old middle new ws w), λ name. refl)
written_more (x ∷ xs) (suc i) file old middle new h e ws w =
    let next : suc i + 1 ≡ suc (i + 1) = omega arith in
    rw next ((ws.0, ws.1, written_more xs i file ws.0 middle new (omega arith) e ws.2 w))

-- the last one is kept
pub written_kept : (files : List FixedFile) (old middle new : List ℕ → Content) → AreWritten files old middle → KeepsContents middle new → AreWritten files old new
written_kept [] old middle new ws k = keeps_again old middle new ws k
written_kept (x ∷ xs) old middle new ws k = (ws.0, ws.1, written_kept xs ws.0 middle new ws.2 k)

-- the write of one file stopped
pub stopped_at : (files : List FixedFile) (i : ℕ) (file : FixedFile) (old middle new : List ℕ → Content) (before first now : ℕ) (e : WriteError) (stop : WriteStop) → i < length files
    → file ≡ get_or files i file → stop ≡ stop_at e i → AreWritten (take i files) old middle → KeepsContents middle new → is_changed file ≡ true → before ≤ first → IsRefusal e first now
    → HasStopped stop files old new before now
stopped_at files i file old middle new before first now error.Fault stop h at s ws k ch l r =
    let rose : Rose before now = omega (arith, l, r) in
    let up_to : IsWrittenUpTo files i file old new = record { at = slice_get_read files (length files) i file refl h at; changed = ch; before = written_kept (take i files) old middle new ws k } in
    subst (λ (x : WriteStop). HasStopped x files old new before now) (sym s) ((file, up_to), rose)
stopped_at files i file old middle new before first now error.NoMemory stop h at s ws k ch l r =
    subst (λ (x : WriteStop). HasStopped x files old new before now) (sym s) (i, written_kept (take i files) old middle new ws k)
