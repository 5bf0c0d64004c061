use Rattle.std.proofs.Common.{◌≡◌, true, ap, length, length-append, arith, rules}
use Rattle.std.proofs.lemmas.Grind.{common_steps}
use Rattle.std.specs.List.{list_all}
use Rattle.squawk_print.specs.Escaped.{escaped}
use Rattle.lint_base.specs.PlainBytes.{is_plain}
use Rattle.squawk_print.proofs.Escaping.{escaped_plain}
use Rattle.squawk_print.proofs.escape.push_escaped.Goals as goal

pub returns-in_err-extend_from_slice-clause-full : goal.returns-in_err-extend_from_slice-clause-full
returns-in_err-extend_from_slice-clause-full c =
    let text = c.args.text.now in
    let plain : list_all is_plain text ≡ true = search rules in
    let same = ap length (escaped_plain text plain) in
    let joined = length-append c.args.to.now.items (escaped text) in
    grind (arith, common_steps)
