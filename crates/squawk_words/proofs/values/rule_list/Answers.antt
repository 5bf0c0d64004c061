use Rattle.std.proofs.Common.{◌≡◌, ◌∙◌, ◌<◌, List, [], Bor, None, ap, arith, length, map, rules, sym}
use Rattle.lint_base.specs.RuleNames.{rule_named}
use Rattle.squawk_words.specs.Choices.{each, items_of}
use Rattle.squawk_words.specs.Words.{Text}
use Rattle.squawk_words.proofs.Each.{each_fails, each_more}
use Rattle.squawk_words.proofs.values.rule_list.Goals as goal

pub returns-in-Err : goal.returns-in-Err
returns-in-Err c =
    let items = c.deref-item-items.result.now in
    let within : c.loop-item.item-index < length items = omega arith in
    let all : map (λ s. s.now) items ≡ items_of c.args.list.now = ap (map (λ (s : Bor Text). s.now)) c.deref-item-items.ensures.value ∙ c.in_ok-items.ensures in
    let none : each rule_named (map (λ s. s.now) items) ≡ None = each_fails (λ (s : Bor Text). s.now) rule_named items c.loop-item.item-index _ within (sym c.in-Err.ensures.value) in
    sym (rw all at none)

pub loop-item-preserved : goal.loop-item-preserved
loop-item-preserved c =
    let items = c.deref-item-items.result.now in
    let within : c.loop-item.item-index < length items = omega arith in
    each_more (λ (s : Bor Text). s.now) rule_named [] items c.loop-item.item-index _ c.loop-item.rules.items c.in-Ok.rule within c.loop-item.invariant (sym c.in-Ok.ensures.value)
    ∙ ap (λ rs. Rattle.std.proofs.Common.Some rs) (sym c.in_ok-push-in-Ok.ensures.items)
