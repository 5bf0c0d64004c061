use Rattle.std.proofs.Common.{◌∙◌, arith, subst}
use Rattle.gate_files.specs.declared.read.Outcome.{Outcome}
use Rattle.gate_files.specs.Read.{IsOutcome}
use Rattle.gate_files.proofs.Lists.{all_read, first_unread, next_read}
use Rattle.gate_files.proofs.read.read_files.Goals as goal

pub returns-in-Unread-clause-reading : goal.returns-in-Unread-clause-reading
returns-in-Unread-clause-reading g c =
    let l = c.loop-i in
    let now = g.F.FileStore.content l.files in
    let before = g.F.FileStore.faults l.files in
    let last = g.F.FileStore.faults c.read_one.new.files in
    let came = subst (λ (x : Outcome). IsOutcome (now c.get.result.now) before last c.get.result.now x) c.in-Unread.is c.in_ok-came.ensures.came in
    first_unread (g.F.FileStore.content c.args.files.now) now (g.F.FileStore.faults c.args.files.now) before last c.args.names.now l.i c.get.result.now l.all.items c.in-Unread.file
    c.get.ensures l.invariant.kept l.invariant.later l.invariant.read came.0 came.1 came.2

pub loop-i-preserved : goal.loop-i-preserved
loop-i-preserved g c =
    let l = c.loop-i in
    let e = c.in_ok-came.ensures in
    let now = g.F.FileStore.content l.files in
    let before = g.F.FileStore.faults l.files in
    let last = g.F.FileStore.faults c.read_one.new.files in
    let came = subst (λ (x : Outcome). IsOutcome (now c.get.result.now) before last c.get.result.now x) c.in-Read.is e.came in
    record {
      read = next_read (g.F.FileStore.content c.args.files.now) now c.args.names.now l.i c.get.result.now l.all.items c.push.new.self.items c.in-Read.file
          c.get.ensures l.invariant.kept c.in_ok-push-in-Read.ensures.items l.invariant.read came;
      kept = λ name. e.kept name ∙ l.invariant.kept name;
      later = omega (arith, e.later, l.invariant.later);
    }

pub returns-clause-reading : goal.returns-clause-reading
returns-clause-reading g c = all_read (g.F.FileStore.content c.args.files.now) c.args.names.now c.loop-i.i c.loop-i.all.items (omega arith) c.loop-i.invariant.read
