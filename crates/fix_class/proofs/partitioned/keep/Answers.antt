use Rattle.fix_class.proofs.Keeping.{partitioned_next}
use Rattle.fix_class.proofs.partitioned.keep.Goals as goal

pub returns-clause-kept : goal.returns-clause-kept
returns-clause-kept c = partitioned_next c.args.p.now c.args.i c.args.s.now _ _ c.requires.here c.in_ok-insert_partitioned.ensures.ok
