use Rattle.std.proofs.Common.{◌∙◌, ℕ, List, Option, ap, subst}
use Rattle.fix_asked.specs.Noted.{HasBegun, HasEnded, HasSaid, note_of}
use Rattle.fix_asked.specs.declared.note.Note.{Note}
use Rattle.fix_run.specs.fix_words.Asked.{asked_of}
use Rattle.fix_asked.proofs.Saying.{failure_said, run_said}
use Rattle.fix_asked.proofs.command.run.Goals as goal

pub returns-in-Ok-work-clause-done : goal.returns-in-Ok-work-clause-done
returns-in-Ok-work-clause-done g c =
    let held = g.E.Sink.held in
    let faults = g.E.Sink.faults in
    let note = c.note_of-note.ensures ∙ ap note_of c.in-Ok.ensures in
    run_said (asked_of c.args.words.now) (held c.args.err.now) (held c.say_before.new.err) (faults c.args.err.now) (faults c.say_before.new.err)
    (subst (λ (n : Option Note). HasBegun n (held c.args.err.now) (held c.say_before.new.err) (faults c.args.err.now) (faults c.say_before.new.err)) note c.say_before.ensures)
    (held c.say-in-Ok-work.new.err) (held c.say_after.new.err) (faults c.say-in-Ok-work.new.err) (faults c.say_after.new.err) _ _ _ _ _ c.in-Ok-work.done.lines.items
    c.in-Ok.asked c.in-Ok.ensures c.in-Ok-work.ensures.done
    (subst (λ (l : List ℕ). HasSaid l (held c.say_before.new.err) (held c.say-in-Ok-work.new.err) (faults c.say_before.new.err) (faults c.say-in-Ok-work.new.err))
    c.as_slice.ensures.value c.say-in-Ok-work.ensures.said)
    c.say-in-Ok-work.ensures.later
    (subst (λ (n : Option Note). HasEnded n (held c.say-in-Ok-work.new.err) (held c.say_after.new.err) (faults c.say-in-Ok-work.new.err) (faults c.say_after.new.err)) note c.say_after.ensures)

pub returns-in-Err-work-clause-line : goal.returns-in-Err-work-clause-line
returns-in-Err-work-clause-line g c =
    let held = g.E.Sink.held in
    let faults = g.E.Sink.faults in
    failure_said (asked_of c.args.words.now) (held c.args.err.now) (held c.say_before.new.err) (faults c.args.err.now) (faults c.say_before.new.err)
    (subst (λ (n : Option Note). HasBegun n (held c.args.err.now) (held c.say_before.new.err) (faults c.args.err.now) (faults c.say_before.new.err))
    (c.note_of-note.ensures ∙ ap note_of c.in-Ok.ensures) c.say_before.ensures)
    (held c.say-in-Err-work.new.err) (faults c.say-in-Err-work.new.err) c.in-Err-work.failure
    (subst (λ (l : List ℕ). HasSaid l (held c.say_before.new.err) (held c.say-in-Err-work.new.err) (faults c.say_before.new.err) (faults c.say-in-Err-work.new.err))
    c.line-in-Err-work.ensures c.say-in-Err-work.ensures.said)
    c.say-in-Err-work.ensures.later
