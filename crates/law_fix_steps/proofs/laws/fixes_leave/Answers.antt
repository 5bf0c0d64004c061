use Rattle.law_type_fixes.specs.law_fixes.Mended.{builds, dropped, rebuilt}
use Rattle.law_fix_steps.proofs.Steps.{anywhere_leaves}
use Rattle.law_fix_steps.proofs.TypedSteps.{ints_leave, smallints_leave, timestamps_leave, varchars_leave}
use Rattle.law_fix_steps.proofs.WordSteps.{builds_leave, dropped_leave, rebuilt_leave}
use Rattle.law_fix_steps.proofs.laws.fixes_leave.Goals as goal

pub returns-clause-builds : goal.returns-clause-builds
returns-clause-builds c = anywhere_leaves builds builds_leave

pub returns-clause-dropped : goal.returns-clause-dropped
returns-clause-dropped c = anywhere_leaves dropped dropped_leave

pub returns-clause-rebuilt : goal.returns-clause-rebuilt
returns-clause-rebuilt c = anywhere_leaves rebuilt rebuilt_leave

pub returns-clause-varchars : goal.returns-clause-varchars
returns-clause-varchars c = varchars_leave

pub returns-clause-timestamps : goal.returns-clause-timestamps
returns-clause-timestamps c = timestamps_leave

pub returns-clause-ints : goal.returns-clause-ints
returns-clause-ints c = ints_leave

pub returns-clause-smallints : goal.returns-clause-smallints
returns-clause-smallints c = smallints_leave
