use Rattle.std.proofs.Common.{rules}
use Rattle.lint_ignore.proofs.index.IgnoreIndex.covers.Goals as goal

pub returns-then-contains-2 : goal.returns-then-contains-2
returns-then-contains-2 c = search rules

pub returns-then-line-gt0 : goal.returns-then-line-gt0
returns-then-line-gt0 c = search rules

pub returns-else-line-gt0 : goal.returns-else-line-gt0
returns-else-line-gt0 c = search rules
