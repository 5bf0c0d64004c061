use Rattle.std.proofs.Common.{◌≡◌, List, ℕ, Some, subst}
use Rattle.squawk_run.proofs.Runs.{where_same}
use Rattle.squawk_fix.specs.Chosen.{linter_of}
use Rattle.squawk_fix.specs.Outcome.{AnsweredAs, AnsweredFor}
use Rattle.squawk_fix.proofs.Answered.{named}
use Rattle.squawk_fix.proofs.command.work.Goals as goal

pub returns-in-Ok-clause-answered : goal.returns-in-Ok-clause-answered
returns-in-Ok-clause-answered g c =
    let field = c.in-Ok-Some.field-0-is in
    let linter = c.in-Ok-Some.linter-is in
    let value = c.in-Ok-Some.ensures.value in
    let name : linter_of c.args.words.now ≡ Some c.in-Ok-Some.linter = cc in
    let old = g.K.Sink.held c.args.out.now in
    let new = g.K.Sink.held c.answer_input.new.out in
    let is_count = λ (n : ℕ). n ≡ c.answer_input.result.applied in
    where_same (g.S.Source.left c.args.src.now) c.in-Ok.input.items (λ t. AnsweredFor c.answer_input.result.status c.args.words.now t old new is_count) c.in-Ok.ensures.whole
    (named c.answer_input.result.status c.args.words.now c.in-Ok-Some.linter c.in-Ok.input.items old new is_count name c.in-Ok.ensures.short
    (subst (λ (t : List ℕ). AnsweredAs c.answer_input.result.status c.in-Ok-Some.linter t old new is_count) c.as_slice.ensures.value c.answer_input.ensures.answered))
