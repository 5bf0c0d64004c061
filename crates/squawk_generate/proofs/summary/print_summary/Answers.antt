use Rattle.std.proofs.Common.{◌++◌, ◌∙◌, ap, codes, length}
use Rattle.lint_base.specs.Rules.{all_rules}
use Rattle.squawk_generate.specs.Summary.{counted}
use Rattle.squawk_generate.proofs.Counting.{summary_is}
use Rattle.squawk_generate.proofs.summary.print_summary.Goals as goal

pub returns : goal.returns
unfolding all_rules
returns c =
    let vs = c.args.violations.now in
    c.in_ok-push_counted.ensures
    ∙ ap (λ l. l ++ counted (codes "violations") (length vs)) c.in_ok-push_rules.ensures
    ∙ summary_is _ _ vs c.new-text.ensures.items c.counts_of.ensures
