use Rattle.std.proofs.Common.{rules}
use Rattle.lint_pass.proofs.blocks.is_version_table.Goals as goal

pub returns-in_ok-name-in-Some : goal.returns-in_ok-name-in-Some
returns-in_ok-name-in-Some c = search rules
