use Rattle.std.proofs.Common.{List, subst}
use Rattle.squawk_diag.specs.Written.{WroteAs}
use Rattle.diag_report.specs.diag_json.declared.diagnostic.Diagnostic.{Diagnostic}
use Rattle.squawk_diag.proofs.Answered.{written}
use Rattle.squawk_diag.proofs.answer.answer_text.Goals as goal

pub returns-in-Ok-clause-answered : goal.returns-in-Ok-clause-answered
returns-in-Ok-clause-answered g c =
    written c.write_diagnostics.result c.args.linter.now c.args.text.now c.in-Ok.diagnostics.items _ _ c.utf8.text c.in-Ok.ensures.ok
    (subst (λ (ds : List Diagnostic). WroteAs c.write_diagnostics.result ds (g.K.Sink.held c.args.out.now) (g.K.Sink.held c.write_diagnostics.new.out)) c.as_slice.ensures.value
    c.write_diagnostics.ensures.wrote)
