-- Which statements have column types.
use Rattle.std.specs.Prelude.{Bool, ◌||◌}
use Rattle.lint_pass.specs.sql_tree.declared.kinds.StmtKind.{StmtKind}
use Rattle.lint_pass.specs.sql_tree.declared.kinds.StmtKind.TheVariants as stmt
use Rattle.lint_pass.specs.lint_node.Same.{same_kind}

-- CREATE TABLE and ALTER TABLE
abbrev pub types_columns : StmtKind → Bool
types_columns kind = same_kind kind stmt.CreateTable || same_kind kind stmt.AlterTable
