use Rattle.std.proofs.Common.{◌≡◌, false, take}
use Rattle.std.specs.List.{list_any}
use Rattle.std.specs.Str.{bytes_eq}
use Rattle.lint_transaction.specs.Names.{name_at}
use Rattle.lint_transaction.proofs.name.is_listed.Given as goal

-- it is none of the names so far
abbrev pub invariant-loop-i : goal.invariant-loop-i
invariant-loop-i l = list_any (λ listed. bytes_eq listed (name_at l.p l.number)) (take l.i l.names) ≡ false
