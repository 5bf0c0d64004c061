use Rattle.std.proofs.Common.{◌∙◌, ap, sym}
use Rattle.serde_json.specs.View.{view}
use Rattle.diag_json.proofs.Back.{not_read}
use Rattle.diag_json.proofs.read.read_items.Goals as goal

pub returns-in-Err-Shape-clause-cause : goal.returns-in-Err-Shape-clause-cause
returns-in-Err-Shape-clause-cause c =
    not_read c.args.items.now c.loop-at.diagnostics.items c.loop-at.at c.index-items-at.result c.loop-at.invariant c.loop-at-test.true
    (λ d is same. c.in-Err-Shape.ensures.shape c.in-Err-Shape.field-0-is d is (same ∙ ap view (sym c.index-items-at.is)))
