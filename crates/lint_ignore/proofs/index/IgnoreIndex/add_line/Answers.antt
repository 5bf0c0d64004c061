use Rattle.std.proofs.Common.{◌∙◌, ap, refl, ℕ, rules}
use Rattle.sql_tree.specs.text_pos.Line.{line_of}
use Rattle.lint_ignore.proofs.Cover.{line_added}
use Rattle.lint_ignore.proofs.index.IgnoreIndex.add_line.Goals as goal

pub returns : goal.returns
returns c =
    line_added _ _ c.args.ignore.now c.line-line.result c.named_rules.result c.requires refl refl refl
    (λ text h. c.line-line.ensures.line text h ∙ ap (λ (at : ℕ). line_of text at) c.start.ensures.value) c.named_rules.ensures c.in_ok-add.ensures

pub returns-in_err-add : goal.returns-in_err-add
returns-in_err-add c = search rules
