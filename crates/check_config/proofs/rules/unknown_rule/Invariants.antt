use Rattle.std.proofs.Common.{◌≡◌, drop}
use Rattle.std.specs.Prelude.{find}
use Rattle.check_config.specs.Config.{is_unknown_rule}
use Rattle.check_config.proofs.rules.unknown_rule.Given as goal

-- the first of the rest is the first of all
abbrev pub invariant-loop-i : goal.invariant-loop-i
invariant-loop-i l = find is_unknown_rule (drop l.i l.names) ≡ find is_unknown_rule l.names
