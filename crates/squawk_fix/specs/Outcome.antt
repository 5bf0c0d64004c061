-- What each status says of an input, of what was written of it, and of the count of fixes.
use Rattle.std.specs.Prelude.{◌≡◌, ℕ, ◌^◌, ◌<◌, List, [], ◌∷◌, length, Option, ⊤}
use Rattle.std.specs.Str.{IsUtf8}
use Rattle.std.specs.Io.KnownBytes.{Appends}
use Rattle.squawk_run.specs.devices.Parts.{AppendsPart}
use Rattle.law_next_fix.specs.sql_token.Token.{OpenAt}
use Rattle.law_next_fix.specs.sql_tree.Statement.{IsSyntaxAt}
use Rattle.squawk_run.specs.lint_base.declared.violation.Violation.{Violation}
use Rattle.law_next_fix.specs.squawk_linter.declared.linter.Linter.{Linter}
use Rattle.squawk_run.specs.declared.status.Status.{Status}
use Rattle.squawk_run.specs.declared.status.Status.TheVariants.{Clean, Found, NotUtf8, Unterminated, Syntax, WriteFault, NoMemory}
use Rattle.squawk_fix.specs.Chosen.{NamesLinter}
use Rattle.squawk_fix.specs.Fixing.{FixedValue, IsFixedText}

-- how a run ends that writes its text, by what is still reported
abbrev pub status_by : List Violation → Status
status_by [] = Clean
status_by (v ∷ vs) = Found

-- what fixing a text under a linter makes of it
abbrev pub IsFixedBy : Linter → List ℕ → FixedValue → Type 0
IsFixedBy linter t fixed = IsFixedText t linter.rules linter.settings fixed

-- The text was fixed, and the fixed text was appended. The status is that of what is still reported, and P holds of the count of fixes.
pub record Writes (status : Status) (linter : Linter) (t : List ℕ) (old new : Option (List ℕ)) (P : ℕ → Type 0) : Type 0 where
  pub fixed : FixedValue
  pub is : IsFixedBy linter t fixed
  pub status_is : status_by fixed.left ≡ status
  pub appended : Appends old new fixed.text
  pub counted : P fixed.applied

-- The beginning of the fixed text was appended.
pub record WritesPart (linter : Linter) (t : List ℕ) (old new : Option (List ℕ)) : Type 0 where
  pub fixed : FixedValue
  pub is : IsFixedBy linter t fixed
  pub appended : AppendsPart old new fixed.text

-- what was written of a fixed text
abbrev pub WroteAs : Status → FixedValue → Option (List ℕ) → Option (List ℕ) → Type 0
WroteAs Clean fixed old new = (status_by fixed.left ≡ Clean) × Appends old new fixed.text
WroteAs Found fixed old new = (status_by fixed.left ≡ Found) × Appends old new fixed.text
WroteAs WriteFault fixed old new = AppendsPart old new fixed.text
WroteAs _ fixed old new = ⊥

-- what is known of an input that was read, under a linter
abbrev pub AnsweredAs : Status → Linter → List ℕ → Option (List ℕ) → Option (List ℕ) → (ℕ → Type 0) → Type 0
AnsweredAs Clean linter t old new P = IsUtf8 t × Writes Clean linter t old new P
AnsweredAs Found linter t old new P = IsUtf8 t × Writes Found linter t old new P
AnsweredAs WriteFault linter t old new P = IsUtf8 t × WritesPart linter t old new
AnsweredAs NotUtf8 linter t old new P = ¬ (IsUtf8 t)
AnsweredAs (Unterminated at) linter t old new P = IsUtf8 t × OpenAt t at
AnsweredAs (Syntax at) linter t old new P = IsUtf8 t × IsSyntaxAt t at
AnsweredAs NoMemory linter t old new P = ⊤
AnsweredAs _ linter t old new P = ⊥

-- what the input is, and what was written of it; P holds of the count of fixes where the run ends well
abbrev pub AnsweredFor : Status → List (List ℕ) → List ℕ → Option (List ℕ) → Option (List ℕ) → (ℕ → Type 0) → Type 0
AnsweredFor Clean words t old new P = NamesLinter words (λ linter. AnsweredAs Clean linter t old new P)
AnsweredFor Found words t old new P = NamesLinter words (λ linter. AnsweredAs Found linter t old new P)
AnsweredFor WriteFault words t old new P = NamesLinter words (λ linter. AnsweredAs WriteFault linter t old new P)
AnsweredFor NotUtf8 words t old new P = (length t < 2 ^ 32) × (¬ (IsUtf8 t))
AnsweredFor (Unterminated at) words t old new P = (length t < 2 ^ 32) × IsUtf8 t × OpenAt t at
AnsweredFor (Syntax at) words t old new P = IsUtf8 t × IsSyntaxAt t at
AnsweredFor _ words t old new P = ⊤
