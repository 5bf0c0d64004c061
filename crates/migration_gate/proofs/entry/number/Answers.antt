use Rattle.std.proofs.Common.{◌≡◌, ◌∙◌, ◌<◌, ◌^◌, sym, ap, arith, decimal, true≢false}
use Rattle.std.proofs.lemmas.Fmt.{parse-decimal}
use Rattle.migration_gate.proofs.Reading.{same_bytes}
use Rattle.migration_gate.proofs.entry.number.Goals as goal

pub returns-in_default : goal.returns-in_default
returns-in_default c = λ n l e.
    let m : n < 2 ^ 64 = omega (arith, l) in
    let read = parse-decimal 32 n c.args.text.now c.parse.result l m e c.parse.ensures.value.0 in
    let is = c.in_default.is in
    cc

pub returns-else-eq : goal.returns-else-eq
returns-else-eq c = λ n l e.
    let m : n < 2 ^ 64 = omega (arith, l) in
    let read = parse-decimal 32 n c.args.text.now c.parse.result l m e c.parse.ensures.value.0 in
    let is = c.in-Ok.is in
    let number : c.in-Ok.number ≡ n = cc in
    let same = same_bytes c.format.result.now c.args.text.now (c.format.ensures.text ∙ ap decimal number ∙ sym e) in
    true≢false (sym same ∙ sym c.eq.ensures ∙ c.if-eq.false)
