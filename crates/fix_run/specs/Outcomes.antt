-- What comes of a file.
use Rattle.std.specs.Prelude.{◌≡◌, ◌<◌, ◌≤◌, ◌^◌, ◌⊎◌, ℕ, All, List, [], ◌∷◌, length}
use Rattle.std.specs.Str.{IsCharBoundary, IsUtf8}
use Rattle.fix_output.specs.devices.Contents.{Content, IsBytes}
use Rattle.fix_output.specs.devices.declared.store.FileError.{FileError}
use Rattle.fix_output.specs.declared.file.FixedFile.{FixedFile}
use Rattle.fix_run.specs.declared.outcome.FileOutcome.{FileOutcome}
use Rattle.fix_run.specs.declared.outcome.FileOutcome.TheVariants as outcome
use Rattle.fix_run.specs.declared.fixer.TextOutcome.{TextOutcome}
use Rattle.fix_run.specs.declared.fixer.TextOutcome.TheVariants.{Fixed, Refused}
use Rattle.fix_output.specs.other_fix.declared.other.OtherFix.{OtherFix}
use Rattle.gate_files.specs.declared.read.Unread.{Unread}
use Rattle.gate_files.specs.Read.{IsNotUtf8, IsUnread, IsUnreadBy}
use Rattle.gate_files.specs.source_file.declared.refusal.Refusal.{Refusal}
use Rattle.gate_files.specs.source_file.declared.refusal.Refusal.TheVariants as refusal
use Rattle.gate_files.specs.source_file.Refusals.{place_of}
use Rattle.fix_words.specs.squawk_run.declared.stop.Stop.{Stop}
use Rattle.fix_words.specs.squawk_run.declared.stop.Stop.TheVariants.{BadArguments, NotUtf8, TooLong, ReadFault, WriteFault, NoMemory}
use Rattle.gate_files.specs.squawk_words.Words.{Text}

-- what comes of which text
abbrev pub Answers : Type 1
Answers = Text → TextOutcome → Type 0

-- each of these is at a place of the text
abbrev pub ArePlacedIn : Text → List OtherFix → Type 0
ArePlacedIn text others = All (λ other. IsCharBoundary text other.at) others

-- a refusal is at a place of the text, and so is each fix that is not made
abbrev pub IsPlacedIn : Text → TextOutcome → Type 0
IsPlacedIn text (Fixed new others) = ArePlacedIn text others.items
IsPlacedIn text (Refused r) = IsCharBoundary text (place_of r)

-- ---- one file

-- the file has this name, its text is what the name holds, and its new text and the fixes that are not made are what comes of that
pub record IsFixedFile (answers : Answers) (content : Content) (name : Text) (file : FixedFile) : Type 0 where
  pub named : file.name ≡ name
  pub held : IsBytes content file.old
  pub utf8 : IsUtf8 file.old
  pub made : answers file.old (Fixed file.new file.others)

-- the name holds this text, which is refused
pub record IsRefused (answers : Answers) (content : Content) (text : Text) (r : Refusal) : Type 0 where
  pub held : IsBytes content text
  pub utf8 : IsUtf8 text
  pub refused : answers text (Refused r)

-- why nothing is made of what a name holds: it was not read as a text, or the text is refused
abbrev pub IsUnfixed : Answers → Content → ℕ → ℕ → Text → Refusal → Type 0
IsUnfixed answers content before now front r = IsUnread content before now front r ⊎ IsRefused answers content front r

-- what came of a name that holds this content
abbrev pub IsOutcome : Answers → Content → ℕ → ℕ → Text → FileOutcome → Type 0
IsOutcome answers content before now name (outcome.Fixed file) = IsFixedFile answers content name file
IsOutcome answers content before now name (outcome.Unread u) = (u.name ≡ name) × IsUnfixed answers content before now u.front u.refusal

-- ---- how it came

-- what comes of this text
abbrev pub IsOfText : Answers → Text → Text → FileOutcome → Type 0
IsOfText answers name text (outcome.Fixed file) = (file.name ≡ name) × (file.old ≡ text) × answers text (Fixed file.new file.others)
IsOfText answers name text (outcome.Unread u) = (u.name ≡ name) × (u.front ≡ text) × answers text (Refused u.refusal)

-- bytes of a file that are not UTF-8
abbrev pub IsNoText : Text → Text → FileOutcome → Type 0
IsNoText name bytes (outcome.Fixed file) = ⊥
IsNoText name bytes (outcome.Unread u) = (at : ℕ) × (u.name ≡ name) × (u.refusal ≡ refusal.NotUtf8 at) × IsNotUtf8 bytes u.front at

-- what comes of these bytes
abbrev pub IsOfBytes : Answers → Text → Text → FileOutcome → Type 0
IsOfBytes answers name bytes c = (IsUtf8 bytes × IsOfText answers name bytes c) ⊎ IsNoText name bytes c

-- no byte of the file was read
abbrev pub IsUnplaced : Refusal → Type 0
IsUnplaced r = place_of r ≡ 0

-- a file of which no byte was read, for this reason
abbrev pub IsUnreadOutcome : Text → Refusal → FileOutcome → Type 0
IsUnreadOutcome name r (outcome.Fixed file) = ⊥
IsUnreadOutcome name r (outcome.Unread u) = (u.name ≡ name) × (u.front ≡ []) × (u.refusal ≡ r)

-- the same, by the error of the store
abbrev pub IsOfError : Text → FileError → FileOutcome → Type 0
IsOfError name e (outcome.Fixed file) = ⊥
IsOfError name e (outcome.Unread u) = (u.name ≡ name) × (u.front ≡ []) × IsUnreadBy e u.refusal

-- the refusal of an input that was not read to its end
abbrev pub IsStoppedBy : Stop → Refusal → Type 0
IsStoppedBy TooLong r = r ≡ refusal.TooLong
IsStoppedBy ReadFault r = r ≡ refusal.Unreadable
IsStoppedBy NoMemory r = ⊥
IsStoppedBy BadArguments r = ⊥
IsStoppedBy NotUtf8 r = ⊥
IsStoppedBy WriteFault r = ⊥

-- what comes of an input that was not read to its end
abbrev pub IsOfStop : Text → Stop → FileOutcome → Type 0
IsOfStop name stop (outcome.Fixed file) = ⊥
IsOfStop name stop (outcome.Unread u) = (u.name ≡ name) × (u.front ≡ []) × IsStoppedBy stop u.refusal

-- ---- soundness

-- the front that was read is short, and the refusal is at a place of it
pub record IsSound (u : Unread) : Type 0 where
  pub short : length u.front < 2 ^ 32
  pub placed : IsCharBoundary u.front (place_of u.refusal)

-- the text that was read is short, and each fix that is not made is at a place of it
pub record IsSoundFile (file : FixedFile) : Type 0 where
  pub short : length file.old < 2 ^ 32
  pub placed : ArePlacedIn file.old file.others.items

-- the same of what came of a file
abbrev pub IsSoundOutcome : FileOutcome → Type 0
IsSoundOutcome (outcome.Fixed file) = IsSoundFile file
IsSoundOutcome (outcome.Unread u) = IsSound u

-- ---- files

-- What came of these names, one by one. The count of failures goes on from name to name, so that for each file that could not be read a call
-- of its own failed, and no other file pays for it.
abbrev pub AreOutcomes : Answers → (Text → Content) → ℕ → ℕ → List Text → List FileOutcome → Type 0
AreOutcomes answers content before now [] [] = before ≤ now
AreOutcomes answers content before now [] (c ∷ cs) = ⊥
AreOutcomes answers content before now (name ∷ names) [] = ⊥
AreOutcomes answers content before now (name ∷ names) (c ∷ cs) =
    (mid : ℕ) × IsOutcome answers (content name) before mid name c × AreOutcomes answers content mid now names cs

-- those of which something is made
abbrev pub fixed_of : List FileOutcome → List FixedFile
fixed_of [] = []
fixed_of (outcome.Fixed file ∷ cs) = file ∷ fixed_of cs
fixed_of (outcome.Unread u ∷ cs) = fixed_of cs

-- the others
abbrev pub unread_of : List FileOutcome → List Unread
unread_of [] = []
unread_of (outcome.Fixed file ∷ cs) = unread_of cs
unread_of (outcome.Unread u ∷ cs) = u ∷ unread_of cs

-- Each of these names has its outcome: these are the files that were fixed, and these the others, both in order.
pub record HaveOutcomes (answers : Answers) (content : Text → Content) (before now : ℕ) (names : List Text) (fixed : List FixedFile) (unread : List Unread) : Type 0 where
  pub all : List FileOutcome
  pub are : AreOutcomes answers content before now names all
  pub fixed_are : fixed ≡ fixed_of all
  pub unread_are : unread ≡ unread_of all
