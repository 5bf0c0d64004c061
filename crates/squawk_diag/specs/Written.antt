-- What is written of some diagnostics.
use Rattle.std.specs.Prelude.{◌≡◌, ℕ, List, [], ◌∷◌, ◌++◌, Option, codes, ⊤}
use Rattle.std.specs.Io.KnownBytes.{Appends}
use Rattle.squawk_run.specs.devices.Parts.{AppendsPart}
use Rattle.diag_report.specs.diag_json.declared.diagnostic.Diagnostic.{Diagnostic}
use Rattle.diag_report.specs.diag_json.Json.{json_text}
use Rattle.squawk_run.specs.declared.status.Status.{Status}
use Rattle.squawk_run.specs.declared.status.Status.TheVariants.{Clean, Found, WriteFault, NoMemory}

-- their JSON and a line feed
abbrev pub printed : List Diagnostic → List ℕ
printed diagnostics = json_text diagnostics ++ codes "\n"

-- how a run ends that writes them
abbrev pub status_by : List Diagnostic → Status
status_by [] = Clean
status_by (d ∷ ds) = Found

-- what was written of them
abbrev pub WroteAs : Status → List Diagnostic → Option (List ℕ) → Option (List ℕ) → Type 0
WroteAs Clean diagnostics old new = (status_by diagnostics ≡ Clean) × Appends old new (printed diagnostics)
WroteAs Found diagnostics old new = (status_by diagnostics ≡ Found) × Appends old new (printed diagnostics)
WroteAs WriteFault diagnostics old new = AppendsPart old new (printed diagnostics)
WroteAs NoMemory diagnostics old new = ⊤
WroteAs _ diagnostics old new = ⊥
