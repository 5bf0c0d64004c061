-- What blocks writes since it is not done CONCURRENTLY (PostgreSQL manual, DROP INDEX, REINDEX and ALTER TABLE).
use Rattle.std.specs.Prelude.{Bool, true, false, not, ◌&&◌, is_none}
use Rattle.sql_tree.specs.declared.kinds.ActionKind.TheVariants as action
use Rattle.sql_tree.specs.declared.kinds.StmtKind.TheVariants as stmt
use Rattle.sql_tree.specs.declared.nodes.Action.{Action}
use Rattle.sql_tree.specs.declared.nodes.Body.{Body}
use Rattle.sql_tree.specs.declared.nodes.Body.TheVariants as body
use Rattle.sql_tree.specs.declared.nodes.ReindexTarget.{ReindexTarget}
use Rattle.sql_tree.specs.declared.nodes.ReindexTarget.TheVariants as target
use Rattle.sql_tree.specs.declared.nodes.Stmt.{Stmt}
use Rattle.lint_node.specs.Same.{same_action, same_kind}

abbrev pub drops_plainly : Body → Bool
drops_plainly (body.Drop word concurrently guarded paths) = not concurrently
drops_plainly _ = false

-- a DROP INDEX without CONCURRENTLY
abbrev pub is_plain_drop : Stmt → Bool
is_plain_drop s = same_kind s.kind stmt.DropIndex && drops_plainly s.body

-- REINDEX SYSTEM, which cannot be done CONCURRENTLY
abbrev pub is_system : ReindexTarget → Bool
is_system target.System = true
is_system _ = false

abbrev pub rebuilds_plainly : Body → Bool
rebuilds_plainly (body.Reindex t word concurrent valued path) = not concurrent && not (is_system t)
rebuilds_plainly _ = false

-- a REINDEX that is not concurrent, though it could be
abbrev pub is_plain_reindex : Stmt → Bool
is_plain_reindex s = rebuilds_plainly s.body

-- a DETACH PARTITION with neither CONCURRENTLY nor FINALIZE
abbrev pub is_plain_detach : Action → Bool
is_plain_detach a = same_action a.kind action.DetachPartition && is_none a.word
