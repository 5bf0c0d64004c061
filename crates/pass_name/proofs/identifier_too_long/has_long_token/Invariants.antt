use Rattle.std.proofs.Common.{◌≡◌, ◌-◌}
use Rattle.std.specs.List.{list_any}
use Rattle.pass_name.specs.IdentifierTooLong.{is_long_at, numbers_from, token_numbers}
use Rattle.pass_name.proofs.identifier_too_long.has_long_token.Given as goal

-- a token is long exactly where one that is left is
abbrev pub invariant-loop-number : goal.invariant-loop-number
invariant-loop-number l = list_any (is_long_at l.p) (numbers_from l.number (l.end - l.number)) ≡ list_any (is_long_at l.p) (token_numbers l.s)
