use Rattle.std.proofs.Common.{List, arith, subst}
use Rattle.std.proofs.lemmas.Result.{IfOk-weaker}
use Rattle.sql_files.specs.squawk_words.Words.{Text}
use Rattle.check_run.specs.Checks.{AreChecked}
use Rattle.check_run.proofs.Lists.{all_moved}
use Rattle.check_run.proofs.run.check_named.Goals as goal

pub returns-clause-checked : goal.returns-clause-checked
returns-clause-checked g c =
    let e = c.in_ok-named.ensures in
    let answers = g.L.Lint.answers c.args.linter.now in
    let content = g.F.FileStore.content c.args.files.now in
    let named = g.F.FileStore.faults c.expanded.new.files in
    let last = g.F.FileStore.faults c.check_files-checked.new.files in
    let names = c.in_ok-names.names in
    IfOk-weaker c.check_files-checked.result _ _
    (λ all h. record {
      names = c.in_ok-named.named;
      named = named;
      are_named = e.named;
      came = subst (λ (ns : List Text). AreChecked answers content named last ns all.items) c.in_ok-names.ensures
          (all_moved answers content (g.F.FileStore.content c.expanded.new.files) named last named names all.items e.kept (omega arith) h);
    })
    c.check_files-checked.ensures.checked
