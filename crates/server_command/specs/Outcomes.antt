-- The exit status and the line of each outcome.
use Rattle.std.specs.Prelude.{ℕ, List, []}
use Rattle.lsp_serve.specs.Ends as ends
use Rattle.server_command.specs.declared.outcome.Refusal.{Refusal}
use Rattle.server_command.specs.declared.outcome.Refusal.TheVariants as refusal
use Rattle.server_command.specs.declared.outcome.Outcome.{Outcome}
use Rattle.server_command.specs.declared.outcome.Outcome.TheVariants.{Printed, Served, Refused, Failed}
use Rattle.refused_word.specs.squawk_run.Stops as stops

-- the line of a refusal
abbrev pub refusal_line : Refusal → List ℕ
refusal_line (refusal.Words line) = line.items
refusal_line (refusal.Config line) = line.items

-- the exit status of an outcome
abbrev pub code_of : Outcome → ℕ
code_of Printed = 0
code_of (Served end) = ends.code_of end
code_of (Refused line) = 2
code_of (Failed why) = stops.code_of why

-- the line of an outcome on the error sink
abbrev pub line_of : Outcome → List ℕ
line_of Printed = []
line_of (Served end) = ends.line_of end
line_of (Refused line) = line.items
line_of (Failed why) = stops.line_of why
