use Rattle.std.proofs.Common.{◌∙◌, ◌++◌, ap, sym, Some}
use Rattle.sql_tree.proofs.TailWalks.{paths_walk, by_paths}
use Rattle.sql_tail.proofs.NextPaths.{path_put}
use Rattle.sql_tail.proofs.paths.read_paths.Goals as goal

pub loop-is_path-init : goal.loop-is_path-init
loop-is_path-init c =
    ap (λ xs. xs ++ paths_walk c.args.path.first c.args.path.last c.args.left.now) c.in_ok-paths.ensures.items
    ∙ sym (by_paths c.args.path.first c.args.path.last c.args.left.now)

pub loop-is_path-preserved-in_ok-push : goal.loop-is_path-preserved-in_ok-push
loop-is_path-preserved-in_ok-push c =
    path_put _ _ _ _ _ _ _ c.in_ok-push.ensures.items
    (sym c.in-Some.ensures.value ∙ ap (λ b. Some (b, c.in-Some.number, c.in-Some.rest.now)) c.if-is_path.true)
    c.loop-is_path.invariant
