use Rattle.std.proofs.Common.{subst}
use Rattle.std.specs.Str.{IsUtf8}
use Rattle.std.proofs.lemmas.Result.{IfOk-weaker}
use Rattle.squawk_linter.specs.Reports.{cleared}
use Rattle.squawk_linter.proofs.Tables.{reports_placed}
use Rattle.squawk_linter.proofs.linter.Linter.lint_counted.Goals as goal

pub lint_counted_by-requires-clause-lie : goal.lint_counted_by-requires-clause-lie
lint_counted_by-requires-clause-lie g c =
    c.placed.ensures.lie c.args.self.now.rules (cleared c.args.file.now c.args.self.now.settings)

pub returns-clause-places : goal.returns-clause-places
returns-clause-places g c =
    let set = cleared c.args.file.now c.args.self.now.settings in
    IfOk-weaker c.lint_counted_by.result _ _
    (λ v is. reports_placed c.args.file.now c.args.self.now.rules c.args.self.now.settings v.items c.text.ensures.tree (subst IsUtf8 c.text.ensures.value c.text.utf8) (c.placed.ensures.placed c.args.self.now.rules set) is)
    c.lint_counted_by.ensures.ok
