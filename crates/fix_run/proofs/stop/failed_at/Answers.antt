use Rattle.std.proofs.Common.{length, refl}
use Rattle.std.proofs.lemmas.Option.{slice_get_read}
use Rattle.fix_run.proofs.stop.failed_at.Goals as goal

pub returns-in-Ok : goal.returns-in-Ok
returns-in-Ok c =
    let files = c.args.files.now in
    let file = c.index-files-number.result in
    (file, slice_get_read files (length files) c.args.number file refl c.requires c.index-files-number.is, c.in-Ok.ensures)
