use Rattle.std.proofs.Common.{arith, rules}
use Rattle.lint_ignore.proofs.index.IgnoreIndex.add.Goals as goal

pub returns-in-Line : goal.returns-in-Line
returns-in-Line c = grind arith

pub returns-in-File : goal.returns-in-File
returns-in-File c = search rules
