use Rattle.squawk_linter.proofs.Ignoring.{bare_file, bare_line}
use Rattle.squawk_linter.proofs.laws.bare_ignores.Goals as goal

pub returns-clause-line : goal.returns-clause-line
returns-clause-line c = bare_line

pub returns-clause-file : goal.returns-clause-file
returns-clause-file c = bare_file
