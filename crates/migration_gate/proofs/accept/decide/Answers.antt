use Rattle.std.proofs.Common.{◌∙◌, ◌≤◌, arith, length}
use Rattle.std.proofs.lemmas.List.{length-map}
use Rattle.migration_gate.specs.Verdict.{texts_of}
use Rattle.migration_gate.proofs.Steps.{all_accepted, next_at, stopped_at}
use Rattle.migration_gate.proofs.accept.decide.Goals as goal

pub returns-in-Some-clause-verdict : goal.returns-in-Some-clause-verdict
returns-in-Some-clause-verdict c =
    stopped_at c.loop-file.linter c.args.linter.now (texts_of c.args.files.now) c.loop-file.file c.text_of-text.result.now c.loop-file.works.items c.judge.new.works.items c.in_ok-why.field-0
    c.in-Some.why c.loop-file.invariant.kept c.text_of-text.ensures c.loop-file.invariant.so_far c.in-Some.is c.in_ok-why.ensures.told

pub loop-file-preserved : goal.loop-file-preserved
loop-file-preserved c = record {
  kept = c.judge.ensures.linter ∙ c.loop-file.invariant.kept;
  so_far =
      next_at c.loop-file.linter c.args.linter.now (texts_of c.args.files.now) c.loop-file.file c.text_of-text.result.now c.loop-file.works.items c.judge.new.works.items c.in_ok-why.field-0
      c.loop-file.invariant.kept c.text_of-text.ensures c.loop-file.invariant.so_far c.in-None.is c.in_ok-why.ensures.told;
}

pub returns-clause-verdict : goal.returns-clause-verdict
returns-clause-verdict c =
    let count = length-map c.args.files.now (λ f. f.text.now) in
    let past : length (texts_of c.args.files.now) ≤ c.loop-file.file = omega (arith, c.loop-file-test.false, c.requires.few, count) in
    all_accepted c.args.linter.now.rules c.args.linter.now.settings (texts_of c.args.files.now) c.loop-file.file c.loop-file.works.items past c.loop-file.invariant.so_far
