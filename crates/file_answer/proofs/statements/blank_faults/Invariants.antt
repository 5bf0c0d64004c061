use Rattle.std.proofs.Common.{All}
use Rattle.std.specs.Str.{IsCharBoundary}
use Rattle.check_run.specs.source_file.Refusals.{place_of}
use Rattle.file_answer.proofs.Going.{Going, StaysWhole}
use Rattle.file_answer.proofs.statements.blank_faults.Given as goal

-- the faults of the statements so far, and the text in which those are blank that have one
abbrev pub invariant-loop-span : goal.invariant-loop-span
invariant-loop-span l = record {
  going : Going l.text l.toks l.spans l.span-index l.faults.items l.bytes.items;
  whole : StaysWhole l.text l.bytes.items;
  placed : All (λ f. IsCharBoundary l.text (place_of f)) l.faults.items;
}
