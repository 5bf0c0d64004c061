use Rattle.std.proofs.Common.{◌≡◌, ◌∙◌, ◌<◌, sym, arith, []}
use Rattle.lint_base.specs.Rules.{rule_count}
use Rattle.lint_base.specs.RuleSets.{rules_from}
use Rattle.lint_base.proofs.RuleSets.{fewer, place-lt, rules_from-in, rules_from-out, rules_from-end}
use Rattle.lint_base.proofs.rule_set.RuleSetIterIterator.next.Goals as goal

pub overflow_add-self : goal.overflow_add-self
overflow_add-self c = let low : c.loop-rule.self-inside.next < rule_count = place-lt c.loop-rule.self-inside.next c.in-Some.rule (sym c.in-Some.ensures) in grind arith

pub returns-then-contains-clause-steps : goal.returns-then-contains-clause-steps
returns-then-contains-clause-steps c =
    sym c.loop-rule.invariant ∙ rules_from-in c.loop-rule.self-inside.set c.loop-rule.self-inside.next c.in-Some.rule (sym c.in-Some.ensures) (sym c.contains.ensures ∙ c.if-contains.true)

pub returns-then-contains-clause-goes : goal.returns-then-contains-clause-goes
returns-then-contains-clause-goes c =
    record { on = λ _. (tt, tt, fewer _ _ _ (returns-then-contains-clause-steps c)); keeps = tt; rests = λ _. tt }

pub loop-rule-smaller : goal.loop-rule-smaller
loop-rule-smaller c = let low : c.loop-rule.self-inside.next < rule_count = place-lt c.loop-rule.self-inside.next c.in-Some.rule (sym c.in-Some.ensures) in omega arith

pub loop-rule-preserved : goal.loop-rule-preserved
loop-rule-preserved c =
    sym (rules_from-out c.loop-rule.self-inside.set c.loop-rule.self-inside.next c.in-Some.rule (sym c.in-Some.ensures) (sym c.contains.ensures ∙ c.if-contains.false)) ∙ c.loop-rule.invariant

pub returns-clause-steps : goal.returns-clause-steps
returns-clause-steps c =
    let none : rules_from c.loop-rule.self-inside.set c.loop-rule.self-inside.next ≡ [] = rules_from-end c.loop-rule.self-inside.set c.loop-rule.self-inside.next (sym c.in_default.ensures) in
    (sym c.loop-rule.invariant ∙ none, none)
