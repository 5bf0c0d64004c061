use Rattle.std.specs.Prelude.{string_bytes}
use Rattle.fix_edit.proofs.Causes.{bad_range_exactly, made_is_utf8, made_or_no_memory, overlap_exactly, too_long_exactly}
use Rattle.fix_edit.proofs.Mending.{made_mends}
use Rattle.fix_edit.proofs.apply.apply_fix.Goals as goal

pub returns-clause-utf8 : goal.returns-clause-utf8
returns-clause-utf8 c = made_is_utf8 c.edited.result

pub returns-clause-mended : goal.returns-clause-mended
returns-clause-mended c = made_mends string_bytes c.args.text.now c.args.fix.now c.edited.result c.edited.ensures

pub returns-clause-valid : goal.returns-clause-valid
returns-clause-valid c = made_or_no_memory string_bytes c.args.text.now c.args.fix.now.edits c.edited.result c.edited.ensures

pub returns-clause-bad_range : goal.returns-clause-bad_range
returns-clause-bad_range c = bad_range_exactly string_bytes c.args.text.now c.args.fix.now.edits c.edited.result c.edited.ensures

pub returns-clause-overlap : goal.returns-clause-overlap
returns-clause-overlap c = overlap_exactly string_bytes c.args.text.now c.args.fix.now.edits c.edited.result c.edited.ensures

pub returns-clause-too_long : goal.returns-clause-too_long
returns-clause-too_long c = too_long_exactly string_bytes c.args.text.now c.args.fix.now.edits c.edited.result c.edited.ensures
