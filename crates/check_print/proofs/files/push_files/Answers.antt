use Rattle.std.proofs.Common.{◌∙◌, ◌||◌, ap}
use Rattle.check_print.proofs.Pushing.{file_pushed, files_end}
use Rattle.check_print.proofs.files.push_files.Goals as goal

pub loop-file-preserved : goal.loop-file-preserved
loop-file-preserved c =
    let l = c.loop-file in
    file_pushed c.args.style c.args.files.now l.file-index l.behind _ c.file-item.result _ _ _ c.loop-file-test.true c.file-item.is l.invariant
    c.in_ok-push_file.ensures (c.either-behind.ensures ∙ ap (λ b. l.behind || b) c.has_findings.ensures)

pub returns : goal.returns
returns c =
    let l = c.loop-file in
    files_end c.args.style c.args.files.now l.file-index l.behind _ _ c.loop-file-test.false l.invariant
