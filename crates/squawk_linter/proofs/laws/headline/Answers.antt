use Rattle.std.proofs.Common.{refl}
use Rattle.fix_edit.specs.lint_base.RuleSets.{has, with_rule, both_rules}
use Rattle.fix_edit.specs.lint_base.Rules.{number_of}
use Rattle.squawk_linter.proofs.HeadlineLaws.{headline_in}
use Rattle.squawk_linter.proofs.laws.headline.Goals as goal

pub returns : goal.returns
unfolding has with_rule both_rules number_of
returns c =
    headline_in c.starts_ascend.ensures.actions
    (record {
      first = c.not_in_headline.ensures refl refl;
      before_constraints = c.not_in_headline-2.ensures refl refl;
      after_constraints = c.not_in_headline-3.ensures refl refl;
      before_builds = c.not_in_headline-4.ensures refl refl;
      fourth = c.not_in_headline-5.ensures refl refl;
      fifth = c.not_in_headline-6.ensures refl refl;
      sixth = c.not_in_headline-7.ensures refl refl;
      seventh = c.not_in_headline-8.ensures refl refl;
      eighth = c.not_in_headline-9.ensures refl refl;
    })
