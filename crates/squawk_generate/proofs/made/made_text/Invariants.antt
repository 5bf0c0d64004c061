use Rattle.std.proofs.Common.{◌≡◌}
use Rattle.squawk_generate.specs.Made.{made}
use Rattle.squawk_generate.proofs.made.made_text.Given as goal

abbrev pub invariant-loop-i : goal.invariant-loop-i
invariant-loop-i l = l.text.items ≡ made l.i
