use Rattle.std.proofs.Common.{◌≡◌, ◌∙◌, sym}
use Rattle.std.proofs.lemmas.Result.{IfErr-weaker, IfOk-weaker}
use Rattle.check_print.specs.check_words.declared.asked.Asked.TheVariants.{Check, Refused}
use Rattle.check_print.specs.check_words.declared.help.TheConstants.{HELP, VERSION}
use Rattle.check_print.specs.check_words.Asked.{asked_of}
use Rattle.check_command.proofs.Doing.{done_for, same_kept, stopped_for, word_refused}
use Rattle.check_command.proofs.command.work.Goals as goal

pub returns-in-Ok-Check-clause-done : goal.returns-in-Ok-Check-clause-done
returns-in-Ok-Check-clause-done g c =
    let asked : asked_of c.args.words.now ≡ Check c.in-Ok-Check.request = sym c.in-Ok-Check.ensures ∙ c.in-Ok-Check.field-0-is in
    IfOk-weaker c.check_request.result _ _
    (λ s h. done_for (asked_of c.args.words.now) c.in-Ok-Check.request HELP.now VERSION.now c.args.is_painted _ _ _ s asked h)
    c.check_request.ensures.done

pub returns-in-Ok-Check-clause-stopped : goal.returns-in-Ok-Check-clause-stopped
returns-in-Ok-Check-clause-stopped g c =
    let asked : asked_of c.args.words.now ≡ Check c.in-Ok-Check.request = sym c.in-Ok-Check.ensures ∙ c.in-Ok-Check.field-0-is in
    IfErr-weaker c.check_request.result _ _
    (λ s h. stopped_for (asked_of c.args.words.now) c.in-Ok-Check.request HELP.now VERSION.now c.args.is_painted _ _ _ _ _ s asked h)
    c.check_request.ensures.stopped

pub returns-in-Ok-Refused-clause-stopped : goal.returns-in-Ok-Refused-clause-stopped
returns-in-Ok-Refused-clause-stopped g c =
    let asked : asked_of c.args.words.now ≡ Refused c.in-Ok-Refused.fault = sym c.in-Ok-Refused.ensures ∙ c.in-Ok-Refused.field-0-is in
    word_refused (asked_of c.args.words.now) c.in-Ok-Refused.fault HELP.now VERSION.now c.args.is_painted _ _ _ _ _ c.word_failure.result asked c.word_failure.ensures (same_kept (g.K.Sink.held c.args.out.now))
