use Rattle.std.proofs.Common.{◌≡◌, map, take}
use Rattle.serde_json.specs.View.{view}
use Rattle.lsp_write.specs.Action.{change_json}
use Rattle.lsp_write.proofs.action.change_values.Given as goal

-- the values so far
abbrev pub invariant-loop-change : goal.invariant-loop-change
invariant-loop-change l = map view l.values.items ≡ map change_json (take l.change-index l.changes)
