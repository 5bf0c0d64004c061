use Rattle.std.proofs.Common.{sym, ◌∙◌, ap, ℕ, slice_get, arith}
use Rattle.lint_base.specs.Rules.{all_rules}
use Rattle.lint_base.specs.RuleSlots.{candidate}
use Rattle.lint_base.proofs.RuleSlots.{found_first, none_short, none_without, none_other}
use Rattle.lint_base.proofs.rule_name.rule_with_name.Goals as goal

pub returns-then-text-lt-SHORTEST_NAME : goal.returns-then-text-lt-SHORTEST_NAME
returns-then-text-lt-SHORTEST_NAME c = none_short c.args.text.now (omega arith)

pub returns-in_err-rule : goal.returns-in_err-rule
returns-in_err-rule c =
    c.from_residual.ensures
    ∙ none_without c.args.text.now (ap candidate (sym c.as_bytes.ensures.value) ∙ (ap (λ (n : ℕ). slice_get all_rules n) (sym c.number_named.ensures) ∙ (sym c.with_number.ensures ∙ c.in_err-rule.was)))

pub returns-then-is_printed_name : goal.returns-then-is_printed_name
returns-then-is_printed_name c = found_first c.args.text.now c.in_ok-rule.rule (sym c.is_printed_name.ensures ∙ c.if-is_printed_name.true)

pub returns-else-is_printed_name : goal.returns-else-is_printed_name
returns-else-is_printed_name c =
    none_other c.args.text.now c.in_ok-rule.rule (ap candidate (sym c.as_bytes.ensures.value) ∙ (ap (λ (n : ℕ). slice_get all_rules n) (sym c.number_named.ensures) ∙ (sym c.with_number.ensures ∙ c.in_ok-rule.was))) (sym c.is_printed_name.ensures ∙ c.if-is_printed_name.false)
