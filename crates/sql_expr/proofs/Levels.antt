-- One more level inside the others.
use Rattle.std.proofs.Common.{◌≡◌, List, [], ◌∷◌, ◌++◌, refl, ap}
use Rattle.sql_tree.specs.declared.nodes.Expr.{Expr}
use Rattle.sql_expr.specs.declared.level.Level.{Level}
use Rattle.sql_expr.specs.Levels.{around, all_around}

pub one_more : (levels : List Level) (level : Level) (inner : Expr) → all_around (levels ++ level ∷ []) inner ≡ all_around levels (around level inner)
one_more [] level inner = refl
one_more (first ∷ levels) level inner = ap (around first) (one_more levels level inner)
