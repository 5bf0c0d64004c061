use Rattle.std.proofs.Common.{◌≡◌}
use Rattle.toml.specs.View.{members_view}
use Rattle.check_config.specs.Config.{unknown_key}
use Rattle.check_config.proofs.read.unknown_key.Given as goal

-- the first of the rest is the first of all
abbrev pub invariant-loop-key : goal.invariant-loop-key
invariant-loop-key l = unknown_key (members_view l.key-iterator) ≡ unknown_key (members_view l.table.entries)
