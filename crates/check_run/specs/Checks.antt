-- What comes of files.
use Rattle.std.specs.Prelude.{◌≡◌, ◌≤◌, ◌⊎◌, ℕ, List, [], ◌∷◌, None}
use Rattle.sql_files.specs.devices.Contents.{Content, IsBytes}
use Rattle.sql_files.specs.devices.Refused.{MayBeLong, MayMiss}
use Rattle.sql_files.specs.devices.declared.store.FileError.{FileError}
use Rattle.sql_files.specs.devices.declared.store.FileError.TheVariants as error
use Rattle.checked_file.specs.declared.answer.Answer.{Answer}
use Rattle.checked_file.specs.declared.answer.Answer.TheVariants.{Reports, Partial, Refused}
use Rattle.checked_file.specs.declared.checked.Checked.{Checked}
use Rattle.checked_file.specs.declared.checked.Linted.{Linted}
use Rattle.checked_file.specs.Files.{linted_of}
use Rattle.checked_file.specs.source_file.declared.refusal.Refusal.TheVariants as refusal
use Rattle.sql_files.specs.devices.Faults.{Rose}
use Rattle.sql_files.specs.squawk_words.Words.{Text}

-- which answers there are for which bytes
abbrev pub Answers : Type 1
Answers = List ℕ → Linted → Type 0

-- why a file was not read: it is not there; or a call failed, which shows in the count of failures; or it has 2^32 bytes or more
abbrev pub IsUnread : Content → ℕ → ℕ → Answer → Type 0
IsUnread content before now (Reports reports) = ⊥
IsUnread content before now (Partial p) = ⊥
IsUnread content before now (Refused refusal.Missing) = MayMiss content
IsUnread content before now (Refused refusal.Unreadable) = Rose before now
IsUnread content before now (Refused refusal.TooLong) = MayBeLong content
IsUnread content before now (Refused (refusal.NotUtf8 at)) = ⊥
IsUnread content before now (Refused (refusal.Unterminated at)) = ⊥
IsUnread content before now (Refused (refusal.Syntax at)) = ⊥

-- the answer of a file that was not read, by the error
abbrev pub IsUnreadBy : FileError → Answer → Type 0
IsUnreadBy error.Missing answer = answer ≡ Refused refusal.Missing
IsUnreadBy error.Fault answer = answer ≡ Refused refusal.Unreadable
IsUnreadBy error.TooLong answer = answer ≡ Refused refusal.TooLong
IsUnreadBy error.NoMemory answer = ⊥

-- the bytes of the file, and what came of them
pub record IsAnswered (answers : Answers) (content : Content) (file : Checked) : Type 0 where
  pub bytes : List ℕ
  pub held : IsBytes content bytes
  pub answer : answers bytes (linted_of file)

-- the file has no bytes, and nothing in it was passed over
pub record IsEmpty (file : Checked) : Type 0 where
  pub bytes : file.bytes.items ≡ []
  pub passed : file.passed ≡ None

-- the file was not read, and this is why
pub record IsUnreadFile (content : Content) (before now : ℕ) (file : Checked) : Type 0 where
  pub why : IsUnread content before now file.answer
  pub empty : IsEmpty file

-- this came of a name that holds this content: it was read and answered, or it was not read
pub record IsChecked (answers : Answers) (content : Content) (before now : ℕ) (name : Text) (file : Checked) : Type 0 where
  pub named : file.name ≡ name
  pub came : IsAnswered answers content file ⊎ IsUnreadFile content before now file

-- This came of these names, one by one. The count of failures goes on from name to name, so that for each file that could not be read a call
-- of its own failed, and no other file pays for it.
abbrev pub AreChecked : Answers → (Text → Content) → ℕ → ℕ → List Text → List Checked → Type 0
AreChecked answers content before now [] [] = before ≤ now
AreChecked answers content before now [] (file ∷ files) = ⊥
AreChecked answers content before now (name ∷ names) [] = ⊥
AreChecked answers content before now (name ∷ names) (file ∷ files) =
    (mid : ℕ) × IsChecked answers (content name) before mid name file × AreChecked answers content mid now names files
