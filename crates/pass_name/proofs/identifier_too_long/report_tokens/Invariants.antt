use Rattle.std.proofs.Common.{◌≡◌, ◌++◌, ◌-◌}
use Rattle.lint_pass.specs.Those.{those}
use Rattle.pass_name.specs.IdentifierTooLong as spec
use Rattle.pass_name.specs.IdentifierTooLong.{reports_of_identifier_too_long, numbers_from}
use Rattle.pass_name.proofs.identifier_too_long.report_tokens.Given as goal

-- the reports so far and those of the tokens that are left are those of all
abbrev pub invariant-loop-number : goal.invariant-loop-number
invariant-loop-number l =
    l.out ++ those (spec.is_too_long l.p) (spec.report l.p) (numbers_from l.number (l.end - l.number)) ≡ l.fn.out ++ reports_of_identifier_too_long l.p l.s
