use Rattle.std.proofs.Common.{rules}
use Rattle.lint_pass.proofs.where_enabled.WhereEnabled.has_enabled_rule.Goals as goal

pub returns : goal.returns
returns g c = search rules
