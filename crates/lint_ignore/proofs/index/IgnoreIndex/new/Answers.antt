use Rattle.lint_ignore.proofs.Cover.{index_goes_on}
use Rattle.lint_ignore.proofs.index.IgnoreIndex.new.Goals as goal

pub loop-ignore-preserved : goal.loop-ignore-preserved
loop-ignore-preserved c = index_goes_on c.loop-ignore.index c.add.new.self c.args.text.now c.args.ignores.now c.loop-ignore.ignore-index c.ignore-item.result c.loop-ignore.invariant c.loop-ignore-test.true c.ignore-item.is c.in_ok-add.ensures
