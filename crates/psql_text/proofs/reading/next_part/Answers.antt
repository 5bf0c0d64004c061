use Rattle.std.proofs.Common.{arith, [], ◌∷◌}
use Rattle.psql_text.specs.Psql.Reads.{ends}
use Rattle.psql_text.specs.Reading.{state}
use Rattle.psql_text.proofs.reading.next_part.Goals as goal

pub loop-now-init : goal.loop-now-init
loop-now-init c = record { place = c.requires; begun = omega arith; taken = omega arith; signs = λ is. absurd (cc); goes = λ ms h. (ms, h, λ ps r. r) }

pub step_at-requires-clause-place : goal.step_at-requires-clause-place
step_at-requires-clause-place c = c.loop-now.invariant.place

pub step_at-requires-clause-signs : goal.step_at-requires-clause-signs
step_at-requires-clause-signs c = c.loop-now.invariant.signs

pub loop-now-preserved : goal.loop-now-preserved
loop-now-preserved c =
    let on = c.in-Token.ensures.moves.0 in
    let before = c.loop-now.invariant in
    record {
      place = on.place;
      begun = omega (arith, on.at, before.begun);
      taken = omega (arith, on.taken, before.taken);
      signs = c.in-Token.ensures.moves.1;
      goes = λ ms h. let g = before.goes ms h in let n = c.in-Token.ensures.goes g.0 g.1 in (n.0, n.1, λ ps r. g.2 ps (n.2 ps r));
    }

pub returns-in-Part-clause-finds : goal.returns-in-Part-clause-finds
returns-in-Part-clause-finds c = λ ms h.
    let g = c.loop-now.invariant.goes ms h in
    let n = c.in-Part.ensures.goes g.0 g.1 in
    (n.0, n.1, λ ps r. g.2 (c.in-Part.found.part ∷ ps) (n.2 ps r))

pub returns-in-Part-clause-ahead : goal.returns-in-Part-clause-ahead
returns-in-Part-clause-ahead c =
    let before = c.loop-now.invariant in
    let ahead = c.in-Part.ensures.moves in
    record {
      at = omega (arith, ahead.at, before.begun);
      place = ahead.place;
      begun = ahead.begun;
      some = ahead.some;
      within = ahead.within;
      lines = omega (arith, ahead.lines, before.taken);
      whole = ahead.whole;
    }

pub returns-in-Open-clause-finds : goal.returns-in-Open-clause-finds
returns-in-Open-clause-finds c = λ ms h. let g = c.loop-now.invariant.goes ms h in g.2 [] (c.in-Open.ensures.goes g.0 g.1)

pub returns-clause-finds : goal.returns-clause-finds
returns-clause-finds c = λ ms h. let g = c.loop-now.invariant.goes ms h in g.2 [] (ends (state c.args.text.now c.loop-now.now g.0) c.loop-now-test.false)
