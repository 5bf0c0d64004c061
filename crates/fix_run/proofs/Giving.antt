-- Why something was not printed.
use Rattle.std.proofs.Common.{◌≡◌, ◌∙◌, ◌<◌, ℕ, List, Option, Some, ap, length, refl, sym}
use Rattle.std.proofs.lemmas.Option.{slice_get_within}
use Rattle.fix_output.specs.devices.Contents.{Content, KeepsContents}
use Rattle.fix_output.specs.declared.file.FixedFile.{FixedFile}
use Rattle.fix_output.specs.declared.write.WriteStop.TheVariants.{Fault}
use Rattle.fix_output.specs.Writing.{HasStopped, IsWrittenUpTo}
use Rattle.fix_run.specs.declared.stop.FixStop.{FixStop}
use Rattle.fix_run.specs.declared.stop.FixStop.TheVariants.{Any, File}
use Rattle.fix_run.specs.Giving.{AreDiffs, StopsDiffs, StopsFiles, StopsWriting}
use Rattle.fix_run.specs.Stops.{IsAny, IsFailedAt, failed_line}
use Rattle.fix_words.specs.squawk_run.declared.stop.Stop.{Stop}
use Rattle.fix_words.specs.squawk_run.declared.stop.Stop.TheVariants.{BadArguments, NotUtf8, TooLong, ReadFault, WriteFault, NoMemory}
use Rattle.gate_files.specs.squawk_words.Words.{Text}

pub diffs_stopped : (files : List FixedFile) (bytes : List ℕ) (old new : Option (List ℕ)) (before now : ℕ) (stop : Stop) → AreDiffs files bytes
    → StopsWriting stop bytes old new before now → StopsDiffs stop files old new before now
diffs_stopped files bytes old new before now BadArguments are h = absurd h
diffs_stopped files bytes old new before now NotUtf8 are h = absurd h
diffs_stopped files bytes old new before now TooLong are h = absurd h
diffs_stopped files bytes old new before now ReadFault are h = absurd h
diffs_stopped files bytes old new before now WriteFault are h = (bytes, are, h)
diffs_stopped files bytes old new before now NoMemory are h = h

pub any_stopped : (files : List FixedFile) (bytes : List ℕ) (old new : Option (List ℕ)) (before now : ℕ) (stop : FixStop) → AreDiffs files bytes
    → IsAny (λ s. StopsWriting s bytes old new before now) stop → IsAny (λ s. StopsDiffs s files old new before now) stop
any_stopped files bytes old new before now (Any stop) are h = diffs_stopped files bytes old new before now stop are h
any_stopped files bytes old new before now (File line) are h = absurd h

-- ---- files that are written

pub number_within : (files : List FixedFile) (number : ℕ) (old new : Text → Content) → (file : FixedFile) × IsWrittenUpTo files number file old new → number < length files
number_within files number old new h = slice_get_within files number h.0 h.1.at

same_file : {x y : FixedFile} → Some x ≡ Some y → x ≡ y
same_file e = cc

-- the write of a file failed, and its line was made, or memory ran out
pub files_stopped : (files : List FixedFile) (number : ℕ) (old new : Text → Content) (before now : ℕ) (stop : FixStop) → HasStopped (Fault number) files old new before now
    → IsFailedAt files number stop → StopsFiles stop files old new before now
files_stopped files number old new before now (File line) h at =
    let same : at.0 ≡ h.0.0 = same_file (sym at.1 ∙ h.0.1.at) in
    (record { number = number; file = h.0.0; up_to = h.0.1; line_is = at.2 ∙ ap (λ (f : FixedFile). failed_line f.name) same }, h.1)
files_stopped files number old new before now (Any BadArguments) h at = let no : BadArguments ≡ NoMemory = at in absurd (cc)
files_stopped files number old new before now (Any NotUtf8) h at = let no : NotUtf8 ≡ NoMemory = at in absurd (cc)
files_stopped files number old new before now (Any TooLong) h at = let no : TooLong ≡ NoMemory = at in absurd (cc)
files_stopped files number old new before now (Any ReadFault) h at = let no : ReadFault ≡ NoMemory = at in absurd (cc)
files_stopped files number old new before now (Any WriteFault) h at = let no : WriteFault ≡ NoMemory = at in absurd (cc)
files_stopped files number old new before now (Any NoMemory) h at = (number, h.0.1.before)

-- no name holds anything else, where nothing was done
pub kept_same : (content : Text → Content) → KeepsContents content content
kept_same content name = refl
