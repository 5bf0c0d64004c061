use Rattle.std.proofs.Common.{◌<◌, ◌^◌, arith}
use Rattle.migration_gate.proofs.Entries.{other_digits}
use Rattle.migration_gate.proofs.Reading.{none_where}
use Rattle.migration_gate.proofs.entry.read_head.Goals as goal

pub returns-in_err-number : goal.returns-in_err-number
returns-in_err-number c =
    none_where c.from_residual-in_err-number.result _ _ c.from_residual-in_err-number.ensures
    (λ n rest l e.
    let m : n < 2 ^ 64 = omega (arith, l) in
    c.in_err-number.ensures n l
    (other_digits c.args.text.now c.in_ok-digits.digits.now c.in_ok-digits.rest.now c.in_ok-after.field-0.now rest n m c.in_ok-after.ensures c.in_ok-digits.ensures.1 c.in_ok-digits.ensures.0 e))
