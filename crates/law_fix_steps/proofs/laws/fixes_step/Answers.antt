use Rattle.law_type_fixes.specs.law_fixes.Mended.{builds, detached, dropped, rebuilt}
use Rattle.law_type_fixes.specs.Rules.{type_table, ints, smallints, timestamps, varchars}
use Rattle.law_fix_steps.specs.Step.{timeouts}
use Rattle.law_fix_steps.proofs.Steps.{anywhere_leaves, anywhere_steps, leaves_step}
use Rattle.law_fix_steps.proofs.TimeoutSteps.{timeouts_step}
use Rattle.law_fix_steps.proofs.TypedSteps.{ints_leave, smallints_leave, timestamps_leave, varchars_leave}
use Rattle.law_fix_steps.proofs.WordSteps.{builds_leave, detached_step, dropped_leave, rebuilt_leave}
use Rattle.law_fix_steps.proofs.laws.fixes_step.Goals as goal

pub returns-clause-builds : goal.returns-clause-builds
returns-clause-builds c = leaves_step builds (anywhere_leaves builds builds_leave)

pub returns-clause-dropped : goal.returns-clause-dropped
returns-clause-dropped c = leaves_step dropped (anywhere_leaves dropped dropped_leave)

pub returns-clause-rebuilt : goal.returns-clause-rebuilt
returns-clause-rebuilt c = leaves_step rebuilt (anywhere_leaves rebuilt rebuilt_leave)

pub returns-clause-detached : goal.returns-clause-detached
returns-clause-detached c = anywhere_steps detached detached_step

pub returns-clause-varchars : goal.returns-clause-varchars
returns-clause-varchars c = leaves_step (type_table varchars) varchars_leave

pub returns-clause-timestamps : goal.returns-clause-timestamps
returns-clause-timestamps c = leaves_step (type_table timestamps) timestamps_leave

pub returns-clause-ints : goal.returns-clause-ints
returns-clause-ints c = leaves_step (type_table ints) ints_leave

pub returns-clause-smallints : goal.returns-clause-smallints
returns-clause-smallints c = leaves_step (type_table smallints) smallints_leave

pub returns-clause-timeouts : goal.returns-clause-timeouts
returns-clause-timeouts c = anywhere_steps timeouts timeouts_step
