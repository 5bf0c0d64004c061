use Rattle.std.proofs.Common.{◌≡◌, ◌∙◌, ◌+◌, Err, Ok, Option, ap, arith, drop, sym}
use Rattle.check_words.specs.declared.fault.WordFault.{WordFault}
use Rattle.check_words.specs.Asked.{read_from, step_then}
use Rattle.check_words.specs.Steps.{after, step}
use Rattle.check_words.proofs.Walk.{read_at, read_end}
use Rattle.check_words.proofs.read.read_request.Goals as goal

pub returns-in-Some : goal.returns-in-Some
returns-in-Some c =
    let l = c.loop-i in
    let refused : step c.get.result.now l.reader ≡ Err c.in-Some.fault = sym c.in_ok-fault.ensures ∙ ap (λ (f : Option WordFault). after f c.step.new.reader) c.in-Some.is in
    sym (sym l.invariant ∙ (read_at l.reader c.args.words.now l.i c.get.result.now c.get.ensures ∙ ap (λ s. step_then s (λ r. read_from r (drop (l.i + 1) c.args.words.now))) refused))

pub loop-i-preserved : goal.loop-i-preserved
loop-i-preserved c =
    let l = c.loop-i in
    let taken : step c.get.result.now l.reader ≡ Ok c.step.new.reader = sym c.in_ok-fault.ensures ∙ ap (λ (f : Option WordFault). after f c.step.new.reader) c.in_default.is in
    sym (read_at l.reader c.args.words.now l.i c.get.result.now c.get.ensures ∙ ap (λ s. step_then s (λ r. read_from r (drop (l.i + 1) c.args.words.now))) taken) ∙ l.invariant

pub returns : goal.returns
unfolding read_from
returns c =
    let l = c.loop-i in
    c.ended.ensures ∙ (sym (read_end l.reader c.args.words.now l.i (omega arith)) ∙ l.invariant)
