use Rattle.std.proofs.Common.{◌≡◌, ◌++◌, drop, string_bytes}
use Rattle.std.specs.List.{join_with_byte}
use Rattle.check_config.proofs.Joins.{tail_of}
use Rattle.check_config.proofs.defaults.joined.Given as goal

-- the names so far, and those that are left after commas
abbrev pub invariant-loop-i : goal.invariant-loop-i
invariant-loop-i l = string_bytes l.text ++ tail_of (drop l.i l.names) ≡ join_with_byte 44 l.names
