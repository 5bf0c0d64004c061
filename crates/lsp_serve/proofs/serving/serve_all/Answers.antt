use Rattle.std.proofs.Common.{◌∙◌, ap, sym}
use Rattle.lsp_serve.specs.Reading.{coming}
use Rattle.lsp_serve.specs.Ends.{exit_at}
use Rattle.lsp_serve.specs.Served.{Streams}
use Rattle.lsp_serve.specs.Turns.{StopsTurn, TakesTurn}
use Rattle.lsp_serve.proofs.Turning.{begun, ends, exits, one_turn, worn_out}
use Rattle.lsp_read.specs.lsp_session.Entry.{IsTakenAs}
use Rattle.lsp_serve.proofs.serving.serve_all.Goals as goal

pub serving-init : goal.serving-init
serving-init g c =
    let shows = g.C.Checker.shows in
    let takes = IsTakenAs g.C.Enter.enters g.C.Enter.refuses in
    let checker = c.args.session.now.checker in
    let input = coming c.args.frames.now (g.S.Source.left c.args.source.now) in
    let old : Streams = record { read_faults = g.S.Source.faults c.args.source.now; held = g.K.Sink.held c.args.out.now; write_faults = g.K.Sink.faults c.args.out.now } in
    record {
      going = ap exit_at c.requires.fresh;
      so_far = begun shows takes c.args.session.now input old c.requires.fresh c.requires.none;
    }

pub serving-preserved : goal.serving-preserved
serving-preserved g c =
    let shows = g.C.Checker.shows in
    let takes = IsTakenAs g.C.Enter.enters g.C.Enter.refuses in
    let l = c.serving in
    let checker = c.args.session.now.checker in
    let input = coming c.args.frames.now (g.S.Source.left c.args.source.now) in
    let old : Streams = record { read_faults = g.S.Source.faults c.args.source.now; held = g.K.Sink.held c.args.out.now; write_faults = g.K.Sink.faults c.args.out.now } in
    let from = coming l.frames (g.S.Source.left l.source) in
    let before : Streams = record { read_faults = g.S.Source.faults l.source; held = g.K.Sink.held l.out; write_faults = g.K.Sink.faults l.out } in
    let session = c.take_turn.new.session in
    let to = coming c.take_turn.new.frames (g.S.Source.left c.take_turn.new.source) in
    let now : Streams = record { read_faults = g.S.Source.faults c.take_turn.new.source; held = g.K.Sink.held c.take_turn.new.out; write_faults = g.K.Sink.faults c.take_turn.new.out } in
    let turn : TakesTurn shows takes l.session session from to before now = c.in-Ok.ensures.done in
    let so_far = one_turn shows takes checker l.session session input from to old before now l.invariant.so_far l.invariant.going turn c.take_turn.ensures.read_later c.take_turn.ensures.write_later in
    record {
      going = sym (c.exit_at.ensures ∙ ap exit_at c.stage.ensures) ∙ c.in-None.is;
      so_far = so_far;
    }

pub returns-in-Err : goal.returns-in-Err
returns-in-Err g c =
    let shows = g.C.Checker.shows in
    let takes = IsTakenAs g.C.Enter.enters g.C.Enter.refuses in
    let l = c.serving in
    let checker = c.args.session.now.checker in
    let input = coming c.args.frames.now (g.S.Source.left c.args.source.now) in
    let old : Streams = record { read_faults = g.S.Source.faults c.args.source.now; held = g.K.Sink.held c.args.out.now; write_faults = g.K.Sink.faults c.args.out.now } in
    let from = coming l.frames (g.S.Source.left l.source) in
    let before : Streams = record { read_faults = g.S.Source.faults l.source; held = g.K.Sink.held l.out; write_faults = g.K.Sink.faults l.out } in
    let session = c.take_turn.new.session in
    let to = coming c.take_turn.new.frames (g.S.Source.left c.take_turn.new.source) in
    let now : Streams = record { read_faults = g.S.Source.faults c.take_turn.new.source; held = g.K.Sink.held c.take_turn.new.out; write_faults = g.K.Sink.faults c.take_turn.new.out } in
    let end = c.in-Err.end in
    let stops : StopsTurn end shows takes l.session session from to before now = c.in-Err.ensures.stop in
    ends shows takes checker l.session session input from to old before now end l.invariant.so_far l.invariant.going stops

pub returns-in-Some : goal.returns-in-Some
returns-in-Some g c =
    let shows = g.C.Checker.shows in
    let takes = IsTakenAs g.C.Enter.enters g.C.Enter.refuses in
    let l = c.serving in
    let checker = c.args.session.now.checker in
    let input = coming c.args.frames.now (g.S.Source.left c.args.source.now) in
    let old : Streams = record { read_faults = g.S.Source.faults c.args.source.now; held = g.K.Sink.held c.args.out.now; write_faults = g.K.Sink.faults c.args.out.now } in
    let from = coming l.frames (g.S.Source.left l.source) in
    let before : Streams = record { read_faults = g.S.Source.faults l.source; held = g.K.Sink.held l.out; write_faults = g.K.Sink.faults l.out } in
    let session = c.take_turn.new.session in
    let to = coming c.take_turn.new.frames (g.S.Source.left c.take_turn.new.source) in
    let now : Streams = record { read_faults = g.S.Source.faults c.take_turn.new.source; held = g.K.Sink.held c.take_turn.new.out; write_faults = g.K.Sink.faults c.take_turn.new.out } in
    let turn : TakesTurn shows takes l.session session from to before now = c.in-Ok.ensures.done in
    let so_far = one_turn shows takes checker l.session session input from to old before now l.invariant.so_far l.invariant.going turn c.take_turn.ensures.read_later c.take_turn.ensures.write_later in
    exits shows takes checker session input to old now c.in-Some.end so_far (sym (c.exit_at.ensures ∙ ap exit_at c.stage.ensures) ∙ c.in-Some.is)

pub returns : goal.returns
returns g c =
    let shows = g.C.Checker.shows in
    let takes = IsTakenAs g.C.Enter.enters g.C.Enter.refuses in
    let l = c.serving in
    let checker = c.args.session.now.checker in
    let input = coming c.args.frames.now (g.S.Source.left c.args.source.now) in
    let old : Streams = record { read_faults = g.S.Source.faults c.args.source.now; held = g.K.Sink.held c.args.out.now; write_faults = g.K.Sink.faults c.args.out.now } in
    let from = coming l.frames (g.S.Source.left l.source) in
    let before : Streams = record { read_faults = g.S.Source.faults l.source; held = g.K.Sink.held l.out; write_faults = g.K.Sink.faults l.out } in
    worn_out shows takes checker l.session input from old before l.invariant.so_far
