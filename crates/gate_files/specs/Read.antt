-- What was read of files.
use Rattle.std.specs.Prelude.{◌≡◌, ◌<◌, ◌^◌, ℕ, List, [], ◌∷◌, ◌++◌, length, ⊤}
use Rattle.std.specs.Str.{IsUtf8}
use Rattle.std.specs.Str.Lossy.{utf8_valid_len}
use Rattle.checked_file.specs.Files.{readable_of}
use Rattle.sql_files.specs.devices.Contents.{Content, IsBytes}
use Rattle.sql_files.specs.devices.Refused.{MayBeLong, MayMiss}
use Rattle.sql_files.specs.devices.declared.store.FileError.{FileError}
use Rattle.sql_files.specs.devices.declared.store.FileError.TheVariants as error
use Rattle.checked_file.specs.source_file.declared.refusal.Refusal.{Refusal}
use Rattle.checked_file.specs.source_file.declared.refusal.Refusal.TheVariants as refusal
use Rattle.sql_files.specs.devices.Faults.{Rose}
use Rattle.sql_files.specs.squawk_words.Words.{Text}
use Rattle.gate_files.specs.declared.read.Outcome.{Outcome}
use Rattle.gate_files.specs.declared.read.Outcome.TheVariants as came
use Rattle.gate_files.specs.declared.read.MigrationFile.{MigrationFile}
use Rattle.gate_files.specs.declared.read.Reading.{Reading}
use Rattle.gate_files.specs.declared.read.Reading.TheVariants.{Files, Unread as NotRead}
use Rattle.gate_files.specs.declared.read.Unread.{Unread}

-- ---- a file that was read

abbrev pub IsFile : Text → Text → MigrationFile → Type 0
IsFile name text file = (file.name ≡ name) × (file.text ≡ text)

-- the file has this name, and its text are the bytes that the name holds
pub record IsRead (content : Content) (name : Text) (file : MigrationFile) : Type 0 where
  pub named : file.name ≡ name
  pub bytes : IsBytes content file.text
  pub utf8 : IsUtf8 file.text
  pub short : length file.text < 2 ^ 32

-- these are the files of these names, one by one
abbrev pub AreRead : (Text → Content) → List Text → List MigrationFile → Type 0
AreRead content [] [] = ⊤
AreRead content [] (file ∷ files) = ⊥
AreRead content (name ∷ names) [] = ⊥
AreRead content (name ∷ names) (file ∷ files) = IsRead (content name) name file × AreRead content names files

-- ---- a file that was not read

abbrev pub IsUnreadAs : Text → Text → Refusal → Unread → Type 0
IsUnreadAs name front r unread = (unread.name ≡ name) × (unread.front ≡ front) × (unread.refusal ≡ r)

-- the refusal of each error of a store
abbrev pub IsUnreadBy : FileError → Refusal → Type 0
IsUnreadBy error.Missing r = r ≡ refusal.Missing
IsUnreadBy error.Fault r = r ≡ refusal.Unreadable
IsUnreadBy error.TooLong r = r ≡ refusal.TooLong
IsUnreadBy error.NoMemory r = ⊥

-- these bytes are not UTF-8, from this place on
pub record IsNotUtf8 (bytes front : Text) (at : ℕ) : Type 0 where
  pub bad : ¬ (IsUtf8 bytes)
  pub place : at ≡ utf8_valid_len bytes
  pub front_is : front ≡ readable_of bytes

pub record HoldsNoText (content : Content) (front : Text) (at : ℕ) : Type 0 where
  pub bytes : Text
  pub held : IsBytes content bytes
  pub no_text : IsNotUtf8 bytes front at

-- Why a file was not read: it is not there; or a call failed, which shows in the count of failures; or it has 2^32 bytes or more; or it
-- is not UTF-8.
abbrev pub IsUnread : Content → ℕ → ℕ → Text → Refusal → Type 0
IsUnread content before now front refusal.Missing = MayMiss content × (front ≡ [])
IsUnread content before now front refusal.Unreadable = Rose before now × (front ≡ [])
IsUnread content before now front refusal.TooLong = MayBeLong content × (front ≡ [])
IsUnread content before now front (refusal.NotUtf8 at) = HoldsNoText content front at
IsUnread content before now front (refusal.Unterminated at) = ⊥
IsUnread content before now front (refusal.Syntax at) = ⊥

-- ---- one file

-- what comes of these bytes
abbrev pub IsTextOf : Text → Text → Outcome → Type 0
IsTextOf name bytes (came.Read file) = IsFile name bytes file × IsUtf8 bytes
IsTextOf name bytes (came.Unread unread) =
    (at : ℕ) × (unread.name ≡ name) × (unread.refusal ≡ refusal.NotUtf8 at) × IsNotUtf8 bytes unread.front at × (length unread.front < 2 ^ 32)

-- what came of a name that holds this content
abbrev pub IsOutcome : Content → ℕ → ℕ → Text → Outcome → Type 0
IsOutcome content before now name (came.Read file) = IsRead content name file
IsOutcome content before now name (came.Unread unread) =
    (unread.name ≡ name) × IsUnread content before now unread.front unread.refusal × (length unread.front < 2 ^ 32)

-- ---- files

-- the files before this one were read, and this is why it was not
pub record IsFirstUnread (content : Text → Content) (before now : ℕ) (names : List Text) (unread : Unread) : Type 0 where
  pub earlier : List Text
  pub later : List Text
  pub files : List MigrationFile
  pub here : names ≡ earlier ++ unread.name ∷ later
  pub were : AreRead content earlier files
  pub told : IsUnread (content unread.name) before now unread.front unread.refusal
  pub short : length unread.front < 2 ^ 32

-- what was read of such files: all of them, or the first one that can't be read
abbrev pub IsReading : (Text → Content) → ℕ → ℕ → List Text → Reading → Type 0
IsReading content before now names (Files files) = AreRead content names files.items
IsReading content before now names (NotRead unread) = IsFirstUnread content before now names unread
