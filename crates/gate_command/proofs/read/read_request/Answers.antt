use Rattle.std.proofs.Common.{◌≡◌, ◌∙◌, ◌+◌, ap, arith, drop, sym, Result, Ok, Err}
use Rattle.gate_command.specs.declared.asked.Asked.TheVariants.{Refused}
use Rattle.gate_command.specs.declared.fault.Fault.{Fault}
use Rattle.gate_command.specs.declared.step.Reader.{Reader}
use Rattle.gate_command.specs.Asked.{read_from, start, step_then}
use Rattle.gate_command.specs.Steps.{step}
use Rattle.gate_command.proofs.Walk.{read_at, read_end}
use Rattle.gate_command.proofs.read.read_request.Goals as goal

pub returns-in-Err : goal.returns-in-Err
returns-in-Err c =
    let l = c.loop-i in
    let word = c.get.result.now in
    let words = c.args.words.now in
    let refused : step word l.reader ≡ Err c.in-Err.fault = sym c.in_ok-next.ensures ∙ c.in-Err.is in
    let told : read_from start (drop 1 words) ≡ Refused c.in-Err.fault =
    sym l.invariant ∙ (read_at l.reader words l.i word c.get.ensures
    ∙ ap (λ (o : Result Reader Fault). step_then o (λ r. read_from r (drop (l.i + 1) words))) refused) in
    sym told

pub loop-i-preserved : goal.loop-i-preserved
loop-i-preserved c =
    let l = c.loop-i in
    let word = c.get.result.now in
    let words = c.args.words.now in
    let taken : step word l.reader ≡ Ok c.in-Ok.next = sym c.in_ok-next.ensures ∙ c.in-Ok.is in
    sym (read_at l.reader words l.i word c.get.ensures
    ∙ ap (λ (o : Result Reader Fault). step_then o (λ r. read_from r (drop (l.i + 1) words))) taken) ∙ l.invariant

pub returns : goal.returns
unfolding read_from
returns c =
    let l = c.loop-i in
    c.ended.ensures ∙ (sym (read_end l.reader c.args.words.now l.i (omega arith)) ∙ l.invariant)
