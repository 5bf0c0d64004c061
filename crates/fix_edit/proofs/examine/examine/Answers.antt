use Rattle.std.proofs.Common.{rules}
use Rattle.fix_edit.proofs.examine.examine.Goals as goal

pub returns-then-not-is_in_text-clause-ok : goal.returns-then-not-is_in_text-clause-ok
returns-then-not-is_in_text-clause-ok c = search rules

pub returns-then-raw-place-clause-ok : goal.returns-then-raw-place-clause-ok
returns-then-raw-place-clause-ok c = search rules

pub returns-clause-ok : goal.returns-clause-ok
returns-clause-ok c = search rules

pub returns-clause-err : goal.returns-clause-err
returns-clause-err c = search rules
