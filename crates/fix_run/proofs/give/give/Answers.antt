use Rattle.std.proofs.KnownBytes.{Keeps-refl}
use Rattle.std.proofs.lemmas.Result.{IfErr-weaker, on_ok_weaker}
use Rattle.fix_run.proofs.Giving.{kept_same}
use Rattle.fix_run.proofs.give.give.Goals as goal

pub returns-in-Print-clause-given : goal.returns-in-Print-clause-given
returns-in-Print-clause-given g c =
    rw c.in-Print.is (on_ok_weaker c.print_diffs.result (λ h. (h, kept_same (g.W.FileWriter.content c.args.writer.now))) c.print_diffs.ensures.whole)

pub returns-in-Print-clause-cut : goal.returns-in-Print-clause-cut
returns-in-Print-clause-cut g c =
    rw c.in-Print.is (IfErr-weaker c.print_diffs.result _ _ (λ stop h. (h, kept_same (g.W.FileWriter.content c.args.writer.now))) c.print_diffs.ensures.stop)

pub returns-in-Files-clause-given : goal.returns-in-Files-clause-given
returns-in-Files-clause-given g c =
    rw c.in-Files.is (on_ok_weaker c.write_files.result (λ h. (h, Keeps-refl (g.K.Sink.held c.args.out.now))) c.write_files.ensures.whole)

pub returns-in-Files-clause-cut : goal.returns-in-Files-clause-cut
returns-in-Files-clause-cut g c =
    rw c.in-Files.is (IfErr-weaker c.write_files.result _ _ (λ stop h. (h, Keeps-refl (g.K.Sink.held c.args.out.now))) c.write_files.ensures.stop)
