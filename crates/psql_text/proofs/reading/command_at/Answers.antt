use Rattle.std.proofs.Common.{arith}
use Rattle.std.proofs.lemmas.Str.{IsCharBoundary-before_ascii}
use Rattle.psql_text.specs.Psql.Reads.{command}
use Rattle.psql_text.specs.Reading.{state}
use Rattle.psql_text.proofs.Places.{is_backslash_at, command_some, line_whole}
use Rattle.psql_text.proofs.reading.command_at.Goals as goal

pub returns-clause-goes : goal.returns-clause-goes
returns-clause-goes c = λ ms h. (ms, h, λ ps r. command (state c.args.text.now c.args.reading ms) c.line_end-end.result ps c.requires.begins c.line_end-end.ensures r)

pub returns-clause-moves : goal.returns-clause-moves
returns-clause-moves c =
    let t = c.args.text.now in
    let at = c.args.reading.at in
    let end = c.line_end-end.result in
    let line = c.line_end-end.ensures in
    let place = c.requires.place in
    let backslash = is_backslash_at t at c.requires.begins in
    let some = command_some t at end backslash c.requires.within line in
    record {
      at = some;
      place = record { at = line.within; taken = place.taken; opened = omega (arith, place.opened); closed = omega (arith, place.closed) };
      begun = line.begun;
      some = c.requires.within;
      within = line.within;
      lines = omega arith;
      whole = λ utf8. (IsCharBoundary-before_ascii t at c.requires.within (omega arith), line_whole t at end utf8 line);
    }
