use Rattle.std.proofs.Common.{◌≡◌, ◌++◌, drop, flat_map, map}
use Rattle.serde_json.specs.View.{view}
use Rattle.lsp_write.specs.Action.{actions_of}
use Rattle.lsp_write.proofs.action.actions.Given as goal

-- what was done, before what is still to be done, is all
abbrev pub invariant-loop-report : goal.invariant-loop-report
invariant-loop-report l =
    map view l.list.items ++ flat_map (actions_of l.uri l.start l.end) (drop l.report-index l.reports)
    ≡ flat_map (actions_of l.uri l.start l.end) l.reports
