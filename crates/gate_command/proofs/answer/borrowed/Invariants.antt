use Rattle.std.proofs.Common.{◌≡◌, length, map, take}
use Rattle.gate_report.specs.migration_gate.Verdict.{names_of, texts_of}
use Rattle.gate_command.proofs.answer.borrowed.Given as goal

-- the files so far, by their names and texts
abbrev pub invariant-loop-file : goal.invariant-loop-file
invariant-loop-file l = record {
  names : names_of l.all.items ≡ map (λ f. f.name) (take l.file-index l.files);
  texts : texts_of l.all.items ≡ map (λ f. f.text) (take l.file-index l.files);
  count : length l.all.items ≡ l.file-index;
}
