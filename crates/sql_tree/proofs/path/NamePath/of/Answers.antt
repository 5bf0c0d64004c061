use Rattle.std.proofs.Common.{◌+◌, length, map, ap, arith}
use Rattle.std.proofs.lemmas.List.{length-map}
use Rattle.sql_name.specs.Compared.{name_cut}
use Rattle.sql_tree.specs.Path.{path_cuts}
use Rattle.sql_tree.proofs.PathSteps.{cuts_step, cuts_long, cuts_end}
use Rattle.sql_tree.proofs.path.NamePath.of.Goals as goal

pub loop-i-preserved : goal.loop-i-preserved
loop-i-preserved c =
    let p = c.args.p.now in
    let n = ap length c.tokens.ensures.value in
    record {
      room = omega (arith, c.in_ok-push_token.ensures.capacity);
      same = cuts_step p.text p.toks (c.args.span.last + 1) c.loop-i.i (map name_cut c.loop-i.names.items) (map name_cut c.push_token.new.names.items)
          (path_cuts p.text p.toks c.args.span) (omega arith) (omega arith) c.loop-i.invariant.same c.in_ok-push_token.ensures.ok;
    }

pub returns-in_err-push_token-clause-short : goal.returns-in_err-push_token-clause-short
returns-in_err-push_token-clause-short c = λ short.
    let p = c.args.p.now in
    let n = ap length c.tokens.ensures.value in
    let long = cuts_long p.text p.toks (c.args.span.last + 1) c.loop-i.i (map name_cut c.loop-i.names.items) (path_cuts p.text p.toks c.args.span)
    (omega arith) (omega arith) c.loop-i.invariant.same in
    absurd (omega (arith, length-map c.loop-i.names.items name_cut, c.in_err-push_token.ensures.err))

pub returns-clause-names : goal.returns-clause-names
returns-clause-names c =
    let p = c.args.p.now in
    let n = ap length c.tokens.ensures.value in
    cuts_end p.text p.toks (c.args.span.last + 1) c.loop-i.i (map name_cut c.loop-i.names.items) (path_cuts p.text p.toks c.args.span)
    (omega arith) c.loop-i.invariant.same
