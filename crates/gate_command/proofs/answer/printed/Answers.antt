use Rattle.std.proofs.Common.{◌<◌, ◌^◌, List, ℕ, length, subst, sym}
use Rattle.gate_report.specs.migration_gate.Verdict.{texts_of}
use Rattle.gate_command.proofs.Listing.{short_at}
use Rattle.gate_command.proofs.answer.printed.Goals as goal

pub print_refused-requires : goal.print_refused-requires
print_refused-requires c =
    subst (λ (t : List ℕ). length t < 2 ^ 32) (sym c.file_at-refused.ensures.text) (short_at (texts_of c.args.files.now) c.in-Refused.file c.requires.short)
