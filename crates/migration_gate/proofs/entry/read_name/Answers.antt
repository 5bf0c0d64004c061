use Rattle.std.proofs.Common.{◌∙◌, ◌≤◌, sym, ap, length, arith, true≢false}
use Rattle.migration_gate.proofs.Cuts.{one_cut}
use Rattle.migration_gate.proofs.entry.read_name.Goals as goal

pub returns-else-is_name_long : goal.returns-else-is_name_long
returns-else-is_name_long c = λ name rest is same.
    let cut = one_cut 10 c.in_ok-name.name.now name c.in_ok-name.rest.now rest c.in_ok-name.ensures.0 is.one_line (sym c.in_ok-name.ensures.1 ∙ same) in
    let long = ap length cut.0 in
    let some = is.some in
    let short = is.short in
    let low : 1 ≤ length c.in_ok-name.name.now = omega (arith, long, some) in
    let high : length c.in_ok-name.name.now ≤ 255 = omega (arith, long, short) in
    true≢false (sym (c.is_name_long.ensures.1 (low, high)) ∙ c.if-is_name_long.false)
