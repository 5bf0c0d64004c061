use Rattle.std.proofs.Common.{◌∙◌, ap, arith, length, sym}
use Rattle.std.proofs.lemmas.Result.{IfOk-weaker}
use Rattle.gate_report.specs.migration_gate.Verdict.{names_of, texts_of}
use Rattle.gate_command.proofs.Listing.{short_texts, told_as}
use Rattle.gate_command.proofs.answer.answer_read.Goals as goal

pub answer_of-requires-clause-few : goal.answer_of-requires-clause-few
answer_of-requires-clause-few c =
    let same = ap length c.as_slice.ensures.value in
    omega (arith, same, c.in_ok-borrowed.ensures.count)

pub answer_of-requires-clause-short : goal.answer_of-requires-clause-short
answer_of-requires-clause-short c =
    short_texts c.args.files.now _ (sym (ap texts_of c.as_slice.ensures.value ∙ c.in_ok-borrowed.ensures.texts)) c.requires.short

pub returns : goal.returns
returns c =
    IfOk-weaker c.answer_of.result _ _
    (λ a h. told_as c.args.request.now c.args.linter.now _ _ _ _ a.status a.bytes.items
    (ap names_of c.as_slice.ensures.value ∙ c.in_ok-borrowed.ensures.names) (ap texts_of c.as_slice.ensures.value ∙ c.in_ok-borrowed.ensures.texts) h)
    c.answer_of.ensures
