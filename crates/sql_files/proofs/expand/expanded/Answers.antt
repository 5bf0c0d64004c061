use Rattle.std.proofs.Common.{◌∙◌, arith}
use Rattle.sql_files.proofs.Naming.{all_named, goes_on}
use Rattle.sql_files.proofs.expand.expanded.Goals as goal

pub loop-i-preserved : goal.loop-i-preserved
loop-i-preserved g c =
    let l = c.loop-i in
    let e = c.in_ok-push_named.ensures in
    record {
      named = goes_on (g.F.FileStore.content c.args.files.now) (g.F.FileStore.content l.files) (g.F.FileStore.faults c.args.files.now) (g.F.FileStore.faults l.files)
          (g.F.FileStore.faults c.push_named.new.files) c.args.words.now l.i c.get.result.now l.names c.push_named.new.names
          c.get.ensures l.invariant.kept l.invariant.named e.adds;
      kept = λ name. e.kept name ∙ l.invariant.kept name;
      later = omega (arith, e.later, l.invariant.later);
    }

pub returns-clause-named : goal.returns-clause-named
returns-clause-named g c =
    let l = c.loop-i in
    all_named (g.F.FileStore.content c.args.files.now) (g.F.FileStore.faults c.args.files.now) (g.F.FileStore.faults l.files) c.args.words.now l.i l.names (omega arith) l.invariant.named
