use Rattle.std.proofs.Common.{refl}
use Rattle.hazard_find.proofs.earlier.Earlier.new.Goals as goal

pub returns : goal.returns
returns c = λ tree. record {
  created = c.new.ensures tree;
  temporary = c.new-2.ensures.empty tree;
  dropped = c.new-3.ensures.empty tree;
  made = c.new-4.ensures.empty tree;
  lock_limited = refl;
  statement_limited = refl;
}
