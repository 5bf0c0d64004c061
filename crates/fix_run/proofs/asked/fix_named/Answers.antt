use Rattle.std.proofs.Common.{List, arith, subst}
use Rattle.std.proofs.lemmas.Result.{IfOk-weaker}
use Rattle.gate_files.specs.squawk_words.Words.{Text}
use Rattle.fix_run.specs.Outcomes.{HaveOutcomes}
use Rattle.fix_run.proofs.Lists.{have_moved}
use Rattle.fix_run.proofs.asked.fix_named.Goals as goal

pub returns-clause-come : goal.returns-clause-come
returns-clause-come g c =
    let e = c.in_ok-named.ensures in
    let answers = g.M.Fixer.answers c.args.fixer.now in
    let content = g.F.FileStore.content c.args.files.now in
    let named = g.F.FileStore.faults c.named_files.new.files in
    let last = g.F.FileStore.faults c.fix_files.new.files in
    let names = c.in_ok-names.names in
    IfOk-weaker c.fix_files.result _ _
    (λ all h. record {
      names = c.in_ok-named.named;
      named = named;
      are_named = e.named;
      come = subst (λ (ns : List Text). HaveOutcomes answers content named last ns all.fixed.items all.unread.items) c.in_ok-names.ensures
          (have_moved answers content (g.F.FileStore.content c.named_files.new.files) named last named names all.fixed.items all.unread.items e.kept (omega arith) h);
    })
    c.fix_files.ensures.come
