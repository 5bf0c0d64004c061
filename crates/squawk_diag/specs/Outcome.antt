-- What each status says of an input, and of what was written of it.
use Rattle.std.specs.Prelude.{◌≡◌, ◌≢◌, ℕ, ◌^◌, ◌<◌, List, [], length, Option, Some, ⊤}
use Rattle.std.specs.Str.{IsUtf8}
use Rattle.std.specs.Io.KnownBytes.{Appends}
use Rattle.squawk_run.specs.devices.Parts.{AppendsPart}
use Rattle.squawk_linter.specs.sql_token.Token.{OpenAt}
use Rattle.squawk_linter.specs.sql_tree.Statement.{IsSyntaxAt}
use Rattle.squawk_linter.specs.declared.linter.Linter.{Linter}
use Rattle.diag_report.specs.diag_json.declared.diagnostic.Diagnostic.{Diagnostic}
use Rattle.squawk_diag.specs.Written.{printed}
use Rattle.squawk_run.specs.declared.status.Status.{Status}
use Rattle.squawk_run.specs.declared.status.Status.TheVariants.{Clean, Found, NotUtf8, Unterminated, Syntax, WriteFault, NoMemory}
use Rattle.squawk_diag.specs.Chosen.{linter_of}
use Rattle.squawk_diag.specs.Diagnosed.{AreDiagnostics}

-- the diagnostics that a linter has for a text
abbrev pub AreFor : Linter → List ℕ → List Diagnostic → Type 0
AreFor linter t diagnostics = AreDiagnostics t linter.rules linter.settings diagnostics

-- The text has diagnostics, and their line was appended.
pub record PrintsSome (linter : Linter) (t : List ℕ) (old new : Option (List ℕ)) : Type 0 where
  pub diagnostics : List Diagnostic
  pub are : AreFor linter t diagnostics
  pub some : diagnostics ≢ []
  pub appended : Appends old new (printed diagnostics)

-- The beginning of the line of its diagnostics was appended.
pub record PrintsPart (linter : Linter) (t : List ℕ) (old new : Option (List ℕ)) : Type 0 where
  pub diagnostics : List Diagnostic
  pub are : AreFor linter t diagnostics
  pub appended : AppendsPart old new (printed diagnostics)

-- what is known of an input that was read, under a linter
abbrev pub AnsweredAs : Status → Linter → List ℕ → Option (List ℕ) → Option (List ℕ) → Type 0
AnsweredAs Clean linter t old new = IsUtf8 t × AreFor linter t [] × Appends old new (printed [])
AnsweredAs Found linter t old new = IsUtf8 t × PrintsSome linter t old new
AnsweredAs WriteFault linter t old new = IsUtf8 t × PrintsPart linter t old new
AnsweredAs NotUtf8 linter t old new = ¬ (IsUtf8 t)
AnsweredAs (Unterminated at) linter t old new = IsUtf8 t × OpenAt t at
AnsweredAs (Syntax at) linter t old new = IsUtf8 t × IsSyntaxAt t at
AnsweredAs NoMemory linter t old new = ⊤
AnsweredAs _ linter t old new = ⊥

-- the words name a linter, of which this holds
pub record NamesLinter (words : List (List ℕ)) (P : Linter → Type 0) : Type 0 where
  pub linter : Linter
  pub named : linter_of words ≡ Some linter
  pub holds : P linter

-- what the input is, and what was written of it
abbrev pub AnsweredFor : Status → List (List ℕ) → List ℕ → Option (List ℕ) → Option (List ℕ) → Type 0
AnsweredFor Clean words t old new = NamesLinter words (λ linter. AnsweredAs Clean linter t old new)
AnsweredFor Found words t old new = NamesLinter words (λ linter. AnsweredAs Found linter t old new)
AnsweredFor WriteFault words t old new = NamesLinter words (λ linter. AnsweredAs WriteFault linter t old new)
AnsweredFor NotUtf8 words t old new = (length t < 2 ^ 32) × (¬ (IsUtf8 t))
AnsweredFor (Unterminated at) words t old new = (length t < 2 ^ 32) × IsUtf8 t × OpenAt t at
AnsweredFor (Syntax at) words t old new = IsUtf8 t × IsSyntaxAt t at
AnsweredFor _ words t old new = ⊤
