use Rattle.std.proofs.Common.{◌≡◌, Some, subst}
use Rattle.check_baseline.specs.declared.baseline.BaselineError.{BaselineError}
use Rattle.check_baseline.specs.Known.{IsNoBaseline, bad_line}
use Rattle.baseline_file.proofs.Refusals.{text_refused}
use Rattle.baseline_file.proofs.load.text_filter.Goals as goal

pub returns-in-Err-Line-clause-refused : goal.returns-in-Err-Line-clause-refused
returns-in-Err-Line-clause-refused c =
    let number = c.in-Err-Line.number in
    let text = c.args.text.now in
    let first : bad_line text ≡ Some number = subst (λ (e : BaselineError). IsNoBaseline text e) c.in-Err-Line.field-0-is c.in-Err-Line.ensures.refused in
    text_refused c.args.name.now text number c.bad_line.result c.refused.result first c.bad_line.ensures c.refused.ensures
