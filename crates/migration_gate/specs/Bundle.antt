-- Bundles: migration files in one text, one entry after another.
use Rattle.std.specs.Prelude.{◌≡◌, ◌≢◌, ◌<◌, ◌≤◌, ◌^◌, ℕ, All, List, ◌++◌, codes, decimal, flat_map, length, map, Result, Ok, Err}
use Rattle.std.specs.Str.{IsUtf8}
use Rattle.migration_gate.specs.declared.bundle.BundleError.{BundleError}
use Rattle.migration_gate.specs.declared.bundle.BundleError.TheVariants.{Bad, NoMemory}
use Rattle.migration_gate.specs.declared.file.GateFile.{GateFile}

-- ---- entries

-- a file, by the bytes of its name and of its text
pub record Entry : Type 0 where
  pub name : List ℕ
  pub text : List ℕ

-- one line of 1 to 255 bytes
pub record IsName (name : List ℕ) : Type 0 where
  pub some : 1 ≤ length name
  pub short : length name ≤ 255
  pub one_line : All (λ b. b ≢ 10) name

-- A file that an entry may give. Its text is UTF-8, so it begins and ends between two characters, and its length has ten digits at most.
pub record IsEntry (e : Entry) : Type 0 where
  pub is_name : IsName e.name
  pub utf8 : IsUtf8 e.text
  pub short : length e.text < 10 ^ 10

-- the start of an entry, up to its name: how many bytes the text has
abbrev pub head_bytes : ℕ → List ℕ
head_bytes len = codes "file " ++ decimal len ++ codes " "

-- the entry of a file
abbrev pub entry_bytes : Entry → List ℕ
entry_bytes e = head_bytes (length e.text) ++ e.name ++ codes "\n" ++ e.text ++ codes "\n"

-- ---- bundles

-- The text is these entries, one after another.
pub record IsBundle (text : List ℕ) (entries : List Entry) : Type 0 where
  pub each : All IsEntry entries
  pub is : text ≡ flat_map entry_bytes entries

-- no entry is at the start of a text
abbrev pub BeginsNoEntry : List ℕ → Type 0
BeginsNoEntry text = (e : Entry) (rest : List ℕ) → IsEntry e → text ≢ entry_bytes e ++ rest

-- The text is no bundle: behind some entries there is something left, at this byte, that begins with no entry.
pub record IsBadAt (text : List ℕ) (at : ℕ) : Type 0 where
  pub before : List Entry
  pub left : List ℕ
  pub each : All IsEntry before
  pub is : text ≡ flat_map entry_bytes before ++ left
  pub place : at ≡ length (flat_map entry_bytes before)
  pub some : 0 < length left
  pub no_entry : BeginsNoEntry left

-- ---- answers

abbrev pub entry_of : GateFile → Entry
entry_of f = record { name = f.name.now; text = f.text.now }

abbrev pub entries_of : List GateFile → List Entry
entries_of files = map entry_of files

-- each refusal with its cause
abbrev pub IsRefused : List ℕ → BundleError → Type 0
IsRefused text (Bad at) = IsBadAt text at
IsRefused text NoMemory = Unit {0}

-- this value, unless memory ran out
abbrev pub OkOrNoMemory : {X : Type 0} → Result X BundleError → (X → Type 0) → Type 0
OkOrNoMemory (Ok x) P = P x
OkOrNoMemory (Err NoMemory) P = Unit {0}
OkOrNoMemory (Err (Bad at)) P = ⊥

-- this place, unless memory ran out
abbrev pub BadOrNoMemory : {X : Type 0} → Result X BundleError → ℕ → Type 0
BadOrNoMemory (Ok x) at = ⊥
BadOrNoMemory (Err NoMemory) at = Unit {0}
BadOrNoMemory (Err (Bad place)) at = place ≡ at
