use Rattle.statement_place.proofs.Stops.{moved}
use Rattle.statement_place.proofs.cursor.go_past.Goals as goal

pub loop-stmt-init : goal.loop-stmt-init
loop-stmt-init c = moved c.args.file.now c.args.cursor c.args.place c.requires.cursor c.requires.behind
