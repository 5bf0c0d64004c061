use Rattle.std.proofs.Common.{List, subst, sym, ℕ}
use Rattle.std.proofs.lemmas.Result.{IfErr-weaker, on_ok_weaker}
use Rattle.fix_run.specs.Giving.{AreDiffs}
use Rattle.fix_run.proofs.Giving.{any_stopped}
use Rattle.fix_run.proofs.give.print_diffs.Goals as goal

pub returns-in-Ok-clause-whole : goal.returns-in-Ok-clause-whole
returns-in-Ok-clause-whole g c =
    let are = subst (λ (bytes : List ℕ). AreDiffs c.args.files.now bytes) (sym c.as_slice.ensures.value) c.in-Ok.ensures in
    on_ok_weaker c.print_bytes.result (λ h. (c.as_slice.result.now, are, h)) c.print_bytes.ensures.whole

pub returns-in-Ok-clause-stop : goal.returns-in-Ok-clause-stop
returns-in-Ok-clause-stop g c =
    let are = subst (λ (bytes : List ℕ). AreDiffs c.args.files.now bytes) (sym c.as_slice.ensures.value) c.in-Ok.ensures in
    IfErr-weaker c.print_bytes.result _ _
    (λ stop h. any_stopped c.args.files.now c.as_slice.result.now (g.K.Sink.held c.args.out.now) (g.K.Sink.held c.print_bytes.new.out) (g.K.Sink.faults c.args.out.now)
    (g.K.Sink.faults c.print_bytes.new.out) stop are h)
    c.print_bytes.ensures.stop
