use Rattle.std.proofs.Common.{◌+◌, length, refl}
use Rattle.text_reports.specs.lint_base.Rules.{number_of}
use Rattle.text_reports.specs.lint_base.RuleSets.{both_rules, has, with_rule}
use Rattle.text_reports.specs.squawk_linter.Answers.{reports}
use Rattle.text_reports.specs.hazard_find.Findings.{findings_of}
use Rattle.text_reports.specs.Reports.{start_of, with_hazards}
use Rattle.law_reports.proofs.Ascending.{by_key_rises}
use Rattle.law_reports.proofs.Clean.{clean_texts_work_alone}
use Rattle.law_reports.proofs.Silence.{not_reported_is_not_found}
use Rattle.law_reports.proofs.laws.reports_tell.Goals as goal

pub returns-clause-order : goal.returns-clause-order
returns-clause-order c tree rules hazards settings =
    by_key_rises start_of (length tree.text + 1) (with_hazards settings tree rules hazards (reports tree rules settings) (findings_of hazards settings tree))

pub returns-clause-silence : goal.returns-clause-silence
returns-clause-silence c = not_reported_is_not_found

pub returns-clause-clean : goal.returns-clause-clean
unfolding has with_rule both_rules number_of
returns-clause-clean c = clean_texts_work_alone _ refl c.coded.ensures c.answers_placed.ensures.placed c.clean_answers.ensures
