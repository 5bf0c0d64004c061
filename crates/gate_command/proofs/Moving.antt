-- What was read of a store that was used before.
use Rattle.std.proofs.Common.{◌≤◌, arith, subst, ℕ, List, [], ◌∷◌}
use Rattle.refused_word.specs.devices.Contents.{Content, KeepsContents}
use Rattle.refused_word.specs.source_file.declared.refusal.Refusal.{Refusal}
use Rattle.refused_word.specs.source_file.declared.refusal.Refusal.TheVariants as refusal
use Rattle.refused_word.specs.devices.Faults.{Rose}
use Rattle.refused_word.specs.squawk_words.Words.{Text}
use Rattle.gate_files.specs.declared.read.MigrationFile.{MigrationFile}
use Rattle.gate_files.specs.declared.read.Reading.{Reading}
use Rattle.gate_files.specs.declared.read.Reading.TheVariants.{Files, Unread as NotRead}
use Rattle.gate_files.specs.Read.{AreRead, IsRead, IsReading, IsUnread}

files_moved : (content now : Text → Content) (names : List Text) (files : List MigrationFile) → KeepsContents content now → AreRead now names files → AreRead content names files
files_moved content now [] [] kept h = tt
files_moved content now [] (file ∷ files) kept h = h
files_moved content now (name ∷ names) [] kept h = h
files_moved content now (name ∷ names) (file ∷ files) kept h =
    (subst (λ (c : Content). IsRead c name file) (kept name) h.0, files_moved content now names files kept h.1)

rose_earlier : (f h g : ℕ) → f ≤ h → Rose h g → Rose f g
rose_earlier f h g a r = omega arith

unread_earlier : (content : Content) (f h g : ℕ) (front : Text) (r : Refusal) → f ≤ h → IsUnread content h g front r → IsUnread content f g front r
unread_earlier content f h g front refusal.Missing a u = u
unread_earlier content f h g front refusal.Unreadable a u = (rose_earlier f h g a u.0, u.1)
unread_earlier content f h g front refusal.TooLong a u = u
unread_earlier content f h g front (refusal.NotUtf8 at) a u = u
unread_earlier content f h g front (refusal.Unterminated at) a u = u
unread_earlier content f h g front (refusal.Syntax at) a u = u

-- the store holds what it held, and the time is longer
pub reading_moved : (content now : Text → Content) (f h g : ℕ) (names : List Text) (reading : Reading) → KeepsContents content now → f ≤ h → IsReading now h g names reading
    → IsReading content f g names reading
reading_moved content now f h g names (Files files) kept a r = files_moved content now names files.items kept r
reading_moved content now f h g names (NotRead unread) kept a r =
    record {
      earlier = r.earlier;
      later = r.later;
      files = r.files;
      here = r.here;
      were = files_moved content now r.earlier r.files kept r.were;
      told = unread_earlier (content unread.name) f h g unread.front unread.refusal a
          (subst (λ (c : Content). IsUnread c h g unread.front unread.refusal) (kept unread.name) r.told);
      short = r.short;
    }
