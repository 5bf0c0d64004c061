use Rattle.std.proofs.Common.{◌≡◌, ◌∙◌, ◌+◌, Bool, ap, arith, drop, sym, Option, None, Some}
use Rattle.std.proofs.lemmas.Result.{IfOk-weaker}
use Rattle.std.specs.Option.{option_map_or}
use Rattle.fix_words.specs.declared.step.Reader.{Reader}
use Rattle.fix_words.specs.Asked.{read_from, start, unknown_word}
use Rattle.fix_words.specs.Steps.{after, step}
use Rattle.fix_words.proofs.Walk.{read_at, read_end}
use Rattle.fix_words.proofs.read.read_request.Goals as goal

pub returns-then-not-branch : goal.returns-then-not-branch
returns-then-not-branch c =
    let l = c.loop-i in
    let word = c.get-word.result.now in
    let words = c.args.words.now in
    let no_step : step word l.reader ≡ None = sym c.in_ok-step.ensures ∙ ap (λ (b : Bool). after b c.step.new.reader) c.if-not-branch.true in
    let told : read_from start (drop 1 words) ≡ unknown_word word =
    sym l.invariant ∙ (read_at l.reader words l.i word c.get-word.ensures
    ∙ ap (λ (o : Option Reader). option_map_or (λ r. read_from r (drop (l.i + 1) words)) o (unknown_word word)) no_step) in
    IfOk-weaker c.unknown_word.result _ _ (λ asked e. e ∙ sym told) c.unknown_word.ensures

pub loop-i-preserved : goal.loop-i-preserved
loop-i-preserved c =
    let l = c.loop-i in
    let word = c.get-word.result.now in
    let words = c.args.words.now in
    let taken : step word l.reader ≡ Some c.step.new.reader =
    sym c.in_ok-step.ensures ∙ ap (λ (b : Bool). after b c.step.new.reader) c.if-not-branch.false in
    sym (read_at l.reader words l.i word c.get-word.ensures
    ∙ ap (λ (o : Option Reader). option_map_or (λ r. read_from r (drop (l.i + 1) words)) o (unknown_word word)) taken) ∙ l.invariant

pub returns : goal.returns
unfolding read_from
returns c =
    let l = c.loop-i in
    c.ended.ensures ∙ (sym (read_end l.reader c.args.words.now l.i (omega arith)) ∙ l.invariant)
