use Rattle.law_type_fixes.specs.Rules as rules
use Rattle.law_type_fixes.proofs.TypeReports.{is_varchars, is_timestamps, is_ints, is_smallints}
use Rattle.law_type_fixes.proofs.Tables.{types_stay}
use Rattle.law_type_fixes.proofs.laws.tables_stay.Goals as goal

pub returns-clause-varchars : goal.returns-clause-varchars
returns-clause-varchars c = types_stay rules.varchars is_varchars

pub returns-clause-timestamps : goal.returns-clause-timestamps
returns-clause-timestamps c = types_stay rules.timestamps is_timestamps

pub returns-clause-ints : goal.returns-clause-ints
returns-clause-ints c = types_stay rules.ints is_ints

pub returns-clause-smallints : goal.returns-clause-smallints
returns-clause-smallints c = types_stay rules.smallints is_smallints
