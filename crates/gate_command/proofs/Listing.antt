-- Files as they were read and as the gate takes them.
use Rattle.std.proofs.Common.{◌≡◌, ◌<◌, ◌^◌, arith, subst, sym, ℕ, zero, suc, List, [], ◌∷◌, length, map}
use Rattle.std.proofs.lemmas.List.Elements.{All-cons, All-nil, All-head, All-tail}
use Rattle.std.specs.Prelude.{All, slice_index_or}
use Rattle.refused_word.specs.devices.Contents.{Content}
use Rattle.refused_word.specs.squawk_words.Words.{Text}
use Rattle.gate_files.specs.declared.read.MigrationFile.{MigrationFile}
use Rattle.gate_files.specs.Read.{AreRead}
use Rattle.gate_report.specs.squawk_linter.declared.linter.Linter.{Linter}
use Rattle.gate_command.specs.declared.outcome.Status.{Status}
use Rattle.gate_command.specs.declared.request.Request.{Request}
use Rattle.gate_command.specs.Answers.{IsToldOf}

abbrev IsShort : Text → Type 0
IsShort t = length t < 2 ^ 32

abbrev HasShort : MigrationFile → Type 0
HasShort file = length file.text < 2 ^ 32

pub short_read : (content : Text → Content) (names : List Text) (files : List MigrationFile) → AreRead content names files → All (λ f. length f.text < 2 ^ 32) files
short_read content names [] h = All-nil HasShort
short_read content [] (file ∷ files) h = absurd h
short_read content (name ∷ names) (file ∷ files) h = All-cons HasShort file files h.0.short (short_read content names files h.1)

short_map : (files : List MigrationFile) → All HasShort files → All IsShort (map (λ f. f.text) files)
short_map [] h = All-nil IsShort
short_map (file ∷ files) h = All-cons IsShort file.text (map (λ f. f.text) files) (All-head HasShort file files h) (short_map files (All-tail HasShort file files h))

pub short_texts : (files : List MigrationFile) (ts : List Text) → map (λ f. f.text) files ≡ ts → All (λ f. length f.text < 2 ^ 32) files → All (λ t. length t < 2 ^ 32) ts
short_texts files ts e h = subst (λ (xs : List Text). All IsShort xs) e (short_map files h)

-- the same names and texts
pub told_as : (request : Request) (linter : Linter) (ns ms ts us : List Text) (status : Status) (bytes : List ℕ) → ns ≡ ms → ts ≡ us → IsToldOf request linter ns ts status bytes
    → IsToldOf request linter ms us status bytes
told_as request linter ns ms ts us status bytes e f h =
    subst (λ (xs : List Text). IsToldOf request linter xs us status bytes) e (subst (λ (xs : List Text). IsToldOf request linter ns xs status bytes) f h)

-- the same files
pub told_slice : (request : Request) (linter : Linter) (slice files : List MigrationFile) (status : Status) (bytes : List ℕ) → slice ≡ files
    → IsToldOf request linter (map (λ f. f.name) slice) (map (λ f. f.text) slice) status bytes → IsToldOf request linter (map (λ f. f.name) files) (map (λ f. f.text) files) status bytes
told_slice request linter slice files status bytes e h =
    subst (λ (fs : List MigrationFile). IsToldOf request linter (map (λ f. f.name) fs) (map (λ f. f.text) fs) status bytes) e h

pub short_slice : (slice files : List MigrationFile) → slice ≡ files → All (λ f. length f.text < 2 ^ 32) files → All (λ f. length f.text < 2 ^ 32) slice
short_slice slice files e h = subst (λ (fs : List MigrationFile). All HasShort fs) (sym e) h

pub short_at : (ts : List Text) (i : ℕ) → All (λ t. length t < 2 ^ 32) ts → length (slice_index_or ts i []) < 2 ^ 32
short_at [] i h = omega arith
short_at (t ∷ ts) zero h = All-head IsShort t ts h
short_at (t ∷ ts) (suc i) h = short_at ts i (All-tail IsShort t ts h)
