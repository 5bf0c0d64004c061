use Rattle.test_linter.proofs.StartLaws.{start_lies}
use Rattle.test_linter.proofs.passes.starts_of.Goals as goal

pub lint_with-requires : goal.lint_with-requires
lint_with-requires c = start_lies c.args.p.now c.args.linter.now.rules
