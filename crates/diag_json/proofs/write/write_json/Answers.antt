use Rattle.std.proofs.Common.{◌∙◌, Some, ap, arith}
use Rattle.serde_json.proofs.Views.{view-Array}
use Rattle.serde_json.specs.Data.{array, depth}
use Rattle.serde_json.specs.Written.{compact_text, has_float}
use Rattle.diag_json.proofs.Shape.{no_float, not_deep}
use Rattle.diag_json.proofs.write.write_json.Goals as goal

pub returns-clause-text : goal.returns-clause-text
returns-clause-text c =
    c.in_ok-to_string.ensures.text (ap has_float (view-Array c.in_ok-values.values ∙ ap array c.in_ok-values.ensures) ∙ no_float c.args.diagnostics.now)
    ∙ ap compact_text (view-Array c.in_ok-values.values ∙ ap array c.in_ok-values.ensures)

pub returns-clause-value : goal.returns-clause-value
returns-clause-value c =
    c.in_ok-to_string.ensures.reads_back (omega (arith, ap depth (view-Array c.in_ok-values.values ∙ ap array c.in_ok-values.ensures), not_deep c.args.diagnostics.now))
    ∙ ap Some (view-Array c.in_ok-values.values ∙ ap array c.in_ok-values.ensures)
