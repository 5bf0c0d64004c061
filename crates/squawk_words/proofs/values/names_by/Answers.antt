use Rattle.std.proofs.Common.{◌≡◌, ◌∙◌, ◌<◌, ◌==◌, true, false, refl, Bor, None, Some, ap, arith, length, map, sym}
use Rattle.lint_base.specs.Settings.{standard_names}
use Rattle.squawk_words.specs.Choices.{each, full_item, items_of}
use Rattle.squawk_words.specs.Words.{Text}
use Rattle.squawk_words.proofs.Each.{each_fails, each_more}
use Rattle.squawk_words.proofs.values.names_by.Goals as goal

empty_is_none : (item : Text) → true ≡ (length item == 0) → full_item item ≡ None
empty_is_none item h = rw (← h) refl

full_is_itself : (item : Text) → false ≡ (length item == 0) → full_item item ≡ Some item
full_is_itself item h = rw (← h) refl

pub returns-then-is_empty : goal.returns-then-is_empty
returns-then-is_empty c =
    let items = c.deref-item-items.result.now in
    let within : c.loop-item.item-index < length items = omega arith in
    let all : map (λ s. s.now) items ≡ items_of c.in-Some.list.now = ap (map (λ (s : Bor Text). s.now)) c.deref-item-items.ensures.value ∙ c.in_ok-items.ensures in
    let none : each full_item (map (λ s. s.now) items) ≡ None = each_fails (λ (s : Bor Text). s.now) full_item items c.loop-item.item-index _ within (empty_is_none _ c.if-is_empty.ensures) in
    let here : each full_item (items_of c.in-Some.list.now) ≡ None = rw all at none in
    rw (c.in-Some.is, here) refl

pub loop-item-preserved : goal.loop-item-preserved
loop-item-preserved c =
    let items = c.deref-item-items.result.now in
    let within : c.loop-item.item-index < length items = omega arith in
    each_more (λ (s : Bor Text). s.now) full_item standard_names items c.loop-item.item-index _ c.loop-item.names _ within c.loop-item.invariant (full_is_itself _ c.if-is_empty.ensures)
    ∙ ap (λ rs. Some rs) (sym c.in_ok-push.ensures.ok)
