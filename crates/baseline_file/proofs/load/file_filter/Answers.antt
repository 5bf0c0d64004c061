use Rattle.std.proofs.Common.{List, ℕ, subst}
use Rattle.std.proofs.lemmas.Result.{IfErr-weaker}
use Rattle.baseline_file.specs.Loaded.{AreRefused}
use Rattle.baseline_file.proofs.Refusals.{read_faulty, unread}
use Rattle.baseline_file.proofs.load.file_filter.Goals as goal

pub returns-in-Ok-clause-refused : goal.returns-in-Ok-clause-refused
returns-in-Ok-clause-refused g c =
    let content = g.F.FileStore.content c.args.files.now c.args.name.now in
    let name = c.args.name.now in
    IfErr-weaker c.bytes_filter.result (AreRefused name c.as_slice.result.now) _
    (λ e h. read_faulty content (g.F.FileStore.faults c.args.files.now) (g.F.FileStore.faults c.read.new.self) name c.in-Ok.bytes.items e c.in-Ok.ensures.bytes
    (subst (λ (bytes : List ℕ). AreRefused name bytes e) c.as_slice.ensures.value h))
    c.bytes_filter.ensures.refused

pub returns-in-Err-Missing : goal.returns-in-Err-Missing
returns-in-Err-Missing g c =
    let content = g.F.FileStore.content c.args.files.now c.args.name.now in
    record {
      taken = tt;
      refused = unread content (g.F.FileStore.faults c.args.files.now) (g.F.FileStore.faults c.read.new.self) c.args.name.now c.in-Err-Missing.field-0 c.file_line.result c.refused.result
          c.in-Err-Missing.ensures.refused c.file_line.ensures c.refused.ensures;
      kept = c.read.ensures.kept;
      later = c.read.ensures.later;
    }
