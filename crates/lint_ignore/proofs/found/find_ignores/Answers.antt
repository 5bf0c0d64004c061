use Rattle.std.proofs.Common.{◌≡◌, ◌∙◌, ◌<◌, ap, length, arith}
use Rattle.lint_base.specs.GrownLaws.{at_err}
use Rattle.lint_ignore.specs.Found.{lists_of, HasGrown, found_from}
use Rattle.lint_ignore.specs.Part.{part_of}
use Rattle.lint_ignore.proofs.Growth.{found_none, found_some, found_part}
use Rattle.lint_ignore.proofs.Silent.{silent_found}
use Rattle.lint_ignore.proofs.found.find_ignores.Goals as goal
use Rattle.lint_ignore.proofs.found.find_ignores.Goals.{in-Some+in_ok-add_ignore, in_default}

pub returns-then-not-may_begin_body-clause-ok : goal.returns-then-not-may_begin_body-clause-ok
returns-then-not-may_begin_body-clause-ok c = silent_found c.args.p.now (lists_of c.args.found.now) (length c.args.found.now.ignores.items) (c.may_begin_body.ensures c.if-not-may_begin_body.true)

pub returns-in_err-add_ignore-clause-err : goal.returns-in_err-add_ignore-clause-err
returns-in_err-add_ignore-clause-err c =
    let len : length c.tokens-i-end.result.now ≡ length c.args.p.now.toks = ap length c.tokens-i-end.ensures.value in
    let here : c.loop-i.i < length c.args.p.now.toks = omega (arith, c.loop-i-test.true) in
    let part : HasGrown (lists_of c.args.found.now) (lists_of c.add_ignore.new.found) (found_from (length c.args.found.now.ignores.items) c.args.p.now) =
    found_part c.args.p.now (lists_of c.args.found.now) (lists_of c.loop-i.found) (lists_of c.add_ignore.new.found) c.loop-i.i (part_of c.in-Some.rest, c.in-Some.kind) c.loop-i.invariant here c.in-Some.ensures c.in_err-add_ignore.ensures.err in
    at_err c.from_residual.result part

pub loop-i-preserved : goal.loop-i-preserved
loop-i-preserved c =
    let len : length c.tokens-i-end.result.now ≡ length c.args.p.now.toks = ap length c.tokens-i-end.ensures.value in
    let here : c.loop-i.i < length c.args.p.now.toks = omega (arith, c.loop-i-test.true) in
    elim c.match-ignore_of.branch [
      | in-Some+in_ok-add_ignore w ↦ found_some c.args.p.now (lists_of c.args.found.now) (lists_of c.loop-i.found) _ c.loop-i.i (part_of w.in-Some.rest, w.in-Some.kind) c.loop-i.invariant here w.in-Some.ensures (ap lists_of w.found-is ∙ w.in_ok-add_ignore.ensures.ok)
      | in_default w ↦ rw w.found-is (found_none c.args.p.now (lists_of c.args.found.now) (lists_of c.loop-i.found) c.loop-i.i c.loop-i.invariant here w.in_default.ensures)
    ]
