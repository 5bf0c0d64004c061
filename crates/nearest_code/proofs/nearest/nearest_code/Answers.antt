use Rattle.std.proofs.Common.{List, ap, arith, length}
use Rattle.lint_report.specs.declared.code.Code.{Code}
use Rattle.nearest_code.proofs.Steps.{some_codes}
use Rattle.nearest_code.proofs.nearest.nearest_code.Goals as goal

pub nearest_in-requires : goal.nearest_in-requires
nearest_in-requires c =
    omega (arith, ap (λ (xs : List Code). length xs) c.as_slice.ensures.value, ap (λ (xs : List Code). length xs) c.in_ok-codes.ensures, some_codes)
