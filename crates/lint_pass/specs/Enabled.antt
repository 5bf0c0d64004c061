-- Which passes have something to report.
use Rattle.std.specs.Prelude.{Bool, ◌&&◌}
use Rattle.std.specs.List.{list_any}
use Rattle.lint_base.specs.RuleSets.{Rules, has}
use Rattle.lint_base.specs.Rules.{all_rules}

-- whether some rule of a pass is enabled
abbrev pub some_enabled : Rules → Rules → Bool
some_enabled mine rules = list_any (λ r. has mine r && has rules r) all_rules
