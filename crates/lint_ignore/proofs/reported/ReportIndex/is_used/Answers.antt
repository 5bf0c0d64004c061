use Rattle.std.proofs.Common.{◌∙◌, Bool, ap, sym}
use Rattle.std.specs.Prelude.{◌||◌}
use Rattle.lint_ignore.specs.Unused.{meets}
use Rattle.lint_ignore.proofs.Uses.{used_by_file, used_by_line}
use Rattle.lint_ignore.proofs.reported.ReportIndex.is_used.Goals as goal

pub returns-in-File : goal.returns-in-File
returns-in-File c = λ text all h. c.intersects.ensures ∙ used_by_file c.args.self.now text c.args.ignore.now c.args.rules all c.in-File.is h

pub returns-then-here : goal.returns-then-here
returns-then-here c = λ text all h.
    c.if-here.true
    ∙ (ap (λ (b : Bool). b || meets c.args.rules c.on-in-Line.result) (sym (sym c.intersects-here.ensures ∙ c.if-here.true))
    ∙ used_by_line c.args.self.now text c.args.ignore.now c.args.rules c.on.result c.on-in-Line.result all c.line-line.result c.in-Line.is h (c.line-line.ensures.line text h.lines) c.on.ensures c.on-in-Line.ensures)

pub returns-else-here : goal.returns-else-here
returns-else-here c = λ text all h.
    c.intersects-next.ensures
    ∙ (ap (λ (b : Bool). b || meets c.args.rules c.on-in-Line.result) (sym (sym c.intersects-here.ensures ∙ c.if-here.false))
    ∙ used_by_line c.args.self.now text c.args.ignore.now c.args.rules c.on.result c.on-in-Line.result all c.line-line.result c.in-Line.is h (c.line-line.ensures.line text h.lines) c.on.ensures c.on-in-Line.ensures)
