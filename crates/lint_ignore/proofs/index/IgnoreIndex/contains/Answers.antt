use Rattle.std.proofs.Common.{◌∙◌, ap, ℕ}
use Rattle.std.specs.List.{list_any}
use Rattle.sql_tree.specs.text_pos.Line.{line_of}
use Rattle.lint_ignore.specs.Covered.{covers}
use Rattle.lint_ignore.proofs.Cover.{knows_covered}
use Rattle.lint_ignore.proofs.index.IgnoreIndex.contains.Goals as goal

pub returns : goal.returns
returns c = λ text ignores h.
    c.covers.ensures
    ∙ (knows_covered c.args.self.now text ignores c.line.result c.args.rule h
    ∙ ap (λ (line : ℕ). list_any (covers text line c.args.rule) ignores) (c.line.ensures.line text h.lines ∙ ap (λ (at : ℕ). line_of text at) c.start.ensures.value))
