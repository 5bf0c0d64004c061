-- The levels of an expression's tree that hold one expression each.
use Rattle.std.specs.Prelude.{List, [], ◌∷◌}
use Rattle.sql_tree.specs.declared.nodes.Expr.{Expr}
use Rattle.sql_tree.specs.declared.nodes.Expr.TheVariants as e
use Rattle.sql_expr.specs.declared.level.Level.{Level}
use Rattle.sql_expr.specs.declared.level.Level.TheVariants.{Cast, Collate, IsNotNull}

-- the expression of this level, which holds that one
abbrev pub around : Level → Expr → Expr
around Cast inner = e.Cast inner
around Collate inner = e.Collate inner
around IsNotNull inner = e.IsNotNull inner

-- The expression of these levels, the outermost first, which hold that one.
abbrev pub all_around : List Level → Expr → Expr
all_around [] inner = inner
all_around (level ∷ levels) inner = around level (all_around levels inner)
