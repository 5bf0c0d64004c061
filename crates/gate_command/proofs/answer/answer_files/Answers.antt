use Rattle.std.proofs.Common.{arith, subst}
use Rattle.std.proofs.lemmas.Result.{IfOk-weaker}
use Rattle.gate_files.specs.declared.read.Reading.{Reading}
use Rattle.gate_files.specs.declared.read.Reading.TheVariants.{Files, Unread}
use Rattle.gate_files.specs.Read.{IsReading}
use Rattle.gate_command.proofs.Listing.{short_read, short_slice, told_slice}
use Rattle.gate_command.proofs.Moving.{reading_moved}
use Rattle.gate_command.proofs.answer.answer_files.Goals as goal

pub answer_read-requires-clause-short : goal.answer_read-requires-clause-short
answer_read-requires-clause-short g c =
    let now = g.F.FileStore.content c.named_files.new.files in
    let before = g.F.FileStore.faults c.named_files.new.files in
    let last = g.F.FileStore.faults c.read_files.new.files in
    let names = c.in_ok-names.names in
    let read = subst (λ (r : Reading). IsReading now before last names r) c.in-Files.is c.in_ok-reading.ensures.reading in
    short_slice c.as_slice.result.now c.in-Files.read.items c.as_slice.ensures.value (short_read now names c.in-Files.read.items read)

pub answer_unread-requires : goal.answer_unread-requires
answer_unread-requires g c =
    let now = g.F.FileStore.content c.named_files.new.files in
    let before = g.F.FileStore.faults c.named_files.new.files in
    let last = g.F.FileStore.faults c.read_files.new.files in
    let read = subst (λ (r : Reading). IsReading now before last c.in_ok-names.names r) c.in-Unread.is c.in_ok-reading.ensures.reading in
    read.short

pub returns-in-Files : goal.returns-in-Files
returns-in-Files g c =
    let content = g.F.FileStore.content c.args.files.now in
    let now = g.F.FileStore.content c.named_files.new.files in
    let before = g.F.FileStore.faults c.named_files.new.files in
    let last = g.F.FileStore.faults c.read_files.new.files in
    let names = c.in_ok-names.names in
    let e = c.in_ok-names.ensures in
    let read = subst (λ (r : Reading). IsReading now before last names r) c.in-Files.is c.in_ok-reading.ensures.reading in
    IfOk-weaker c.answer_read.result _ _
    (λ a h. record {
      names = names;
      reading = Files c.in-Files.read;
      named = before;
      are_named = e.named;
      read = reading_moved content now before before last names (Files c.in-Files.read) e.kept (omega arith) read;
      told = told_slice c.args.request.now c.args.linter.now c.as_slice.result.now c.in-Files.read.items a.status a.bytes.items c.as_slice.ensures.value h;
    })
    c.answer_read.ensures

pub returns : goal.returns
returns g c =
    let content = g.F.FileStore.content c.args.files.now in
    let now = g.F.FileStore.content c.named_files.new.files in
    let before = g.F.FileStore.faults c.named_files.new.files in
    let last = g.F.FileStore.faults c.read_files.new.files in
    let names = c.in_ok-names.names in
    let e = c.in_ok-names.ensures in
    let read = subst (λ (r : Reading). IsReading now before last names r) c.in-Unread.is c.in_ok-reading.ensures.reading in
    IfOk-weaker c.answer_unread.result _ _
    (λ a h. record {
      names = names;
      reading = Unread c.in-Unread.file;
      named = before;
      are_named = e.named;
      read = reading_moved content now before before last names (Unread c.in-Unread.file) e.kept (omega arith) read;
      told = h;
    })
    c.answer_unread.ensures
