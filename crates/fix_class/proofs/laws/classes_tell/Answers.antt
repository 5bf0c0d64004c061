use Rattle.fix_class.proofs.ClassLaws.{concurrent_fixes_are_alone, safe_fixes_cut_names, timeout_fixes_spare_outside_work}
use Rattle.fix_class.proofs.laws.classes_tell.Goals as goal

pub returns-clause-safe : goal.returns-clause-safe
returns-clause-safe c = safe_fixes_cut_names

pub returns-clause-concurrent : goal.returns-clause-concurrent
returns-clause-concurrent c = concurrent_fixes_are_alone

pub returns-clause-timeouts : goal.returns-clause-timeouts
returns-clause-timeouts c = timeout_fixes_spare_outside_work
