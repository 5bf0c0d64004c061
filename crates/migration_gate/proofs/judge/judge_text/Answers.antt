use Rattle.migration_gate.proofs.Judged.{judged_as, short_texts}
use Rattle.migration_gate.proofs.judge.judge_text.Goals as goal

pub judge_files-requires-clause-short : goal.judge_files-requires-clause-short
judge_files-requires-clause-short g c = short_texts c.in-Ok.files.items c.as_slice.result.now c.as_slice.ensures.value c.in-Ok.ensures.short

pub returns-in-Ok-clause-judged : goal.returns-in-Ok-clause-judged
returns-in-Ok-clause-judged g c =
    judged_as c.judge_files.result c.args.linter.now c.args.text.now c.in-Ok.files.items c.as_slice.result.now _ _ c.as_slice.ensures.value c.utf8.text c.in-Ok.ensures.ok c.judge_files.ensures.shown
