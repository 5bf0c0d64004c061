use Rattle.std.proofs.Common.{◌≡◌, ◌∙◌, ◌<◌, List, [], Bor, None, ap, arith, length, map, rules, sym}
use Rattle.lint_report.specs.Codes.{code_named}
use Rattle.squawk_run.specs.squawk_words.Choices.{each, items_of}
use Rattle.squawk_run.specs.squawk_words.Words.{Text}
use Rattle.squawk_run.proofs.of_squawk_words.Each.{each_fails, each_more}
use Rattle.code_choice.proofs.lists.code_list.Goals as goal

pub returns-in-None : goal.returns-in-None
returns-in-None c =
    let items = c.deref-item-items.result.now in
    let within : c.loop-item.item-index < length items = omega arith in
    let all : map (λ s. s.now) items ≡ items_of c.args.list.now = ap (map (λ (s : Bor Text). s.now)) c.deref-item-items.ensures.value ∙ c.in_ok-items.ensures in
    let none : each code_named (map (λ s. s.now) items) ≡ None = each_fails (λ (s : Bor Text). s.now) code_named items c.loop-item.item-index _ within (sym c.in-None.ensures) in
    sym (rw all at none)

pub loop-item-preserved : goal.loop-item-preserved
loop-item-preserved c =
    let items = c.deref-item-items.result.now in
    let within : c.loop-item.item-index < length items = omega arith in
    each_more (λ (s : Bor Text). s.now) code_named [] items c.loop-item.item-index _ c.loop-item.found.items c.in-Some.code within c.loop-item.invariant (sym c.in-Some.ensures)
    ∙ ap (λ rs. Rattle.std.proofs.Common.Some rs) (sym c.in_ok-push-in-Some.ensures.items)
