use Rattle.squawk_cli.specs.squawk_linter.Reports.{cleared}
use Rattle.test_linter.proofs.answers.found_by.Goals as goal

pub lint_with-requires : goal.lint_with-requires
lint_with-requires g c = c.placed.ensures.lie c.args.linter.now.rules (cleared c.args.p.now c.args.linter.now.settings)
