use Rattle.std.proofs.Common.{arith}
use Rattle.fix_command.proofs.Names.{all_copied, next_copied}
use Rattle.fix_command.proofs.fixer.copied_names.Goals as goal

pub loop-i-preserved : goal.loop-i-preserved
loop-i-preserved c =
    let l = c.loop-i in
    next_copied c.args.names.now l.i c.get.result.now l.copy c.push.new.self c.get.ensures c.in_ok-push.ensures.ok l.invariant

pub returns : goal.returns
returns c = all_copied c.args.names.now c.loop-i.i c.loop-i.copy (omega arith) c.loop-i.invariant
