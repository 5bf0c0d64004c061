-- What a verdict shows, and what files are by their parts.
use Rattle.std.specs.Prelude.{ℕ, List, map, Result, Ok, Err}
use Rattle.squawk_linter.specs.sql_token.Token.{Text}
use Rattle.migration_gate.specs.declared.file.GateFile.{GateFile}
use Rattle.migration_gate.specs.declared.verdict.GateWork.{GateWork}
use Rattle.migration_gate.specs.declared.verdict.Verdict.{Verdict}
use Rattle.migration_gate.specs.declared.verdict.Verdict.TheVariants as verdict
use Rattle.migration_gate.specs.declared.verdict.Why.{Why}

-- what a verdict shows: the works, or the file and why it does not pass
abbrev pub Shown : Type 0
Shown = Result (List GateWork) (ℕ × Why)

abbrev pub shown : Verdict → Shown
shown (verdict.Accepted works) = Ok works.items
shown (verdict.Rejected file w) = Err (file, w)

abbrev pub names_of : List GateFile → List (List ℕ)
names_of files = map (λ f. f.name.now) files

abbrev pub texts_of : List GateFile → List Text
texts_of files = map (λ f. f.text.now) files
