-- A pass none of whose rules is enabled reports nothing.
use Rattle.std.specs.Prelude.{◌≡◌, ℕ, zero, suc, ◌<◌, true, false, All, List, [], ◌∷◌, ◌++◌, ◌&&◌, refl}
use Rattle.std.proofs.Common.{◌∙◌, inl, inr, arith, get_or}
use Rattle.std.proofs.lemmas.Bool.{cases_lt}
use Rattle.std.proofs.lemmas.List.Elements.{All-head}
use Rattle.std.proofs.lemmas.List.Folds.{list_any_at}
use Rattle.std.proofs.lemmas.Option.{get_or_from_slice_get, slice_get_within}
use Rattle.lint_base.specs.declared.rule.Rule.{Rule}
use Rattle.lint_base.specs.declared.violation.Violation.{Violation}
use Rattle.lint_base.specs.Rules.{all_rules, number_of}
use Rattle.lint_base.specs.RuleSets.{Rules, has}
use Rattle.lint_base.proofs.RuleSets.{rule_at-number_of}
use Rattle.lint_transaction.specs.Earlier.{concat_below}
use Rattle.lint_pass.specs.Enabled.{some_enabled}
use Rattle.lint_pass.specs.Laws.{IsOf}

-- a rule of the pass that is enabled is some rule
enabled_is_some : (mine rules : Rules) (r : Rule) → has mine r ≡ true → has rules r ≡ true → some_enabled mine rules ≡ true
enabled_is_some mine rules r own enabled =
    let at : get_or all_rules (number_of r) r ≡ r = get_or_from_slice_get all_rules (number_of r) r r (rule_at-number_of r) in
    let both : (has mine (get_or all_rules (number_of r) r) && has rules (get_or all_rules (number_of r) r)) ≡ true = rw (at, own, enabled) refl in
    list_any_at (λ q. has mine q && has rules q) all_rules (number_of r) r (slice_get_within all_rules (number_of r) r (rule_at-number_of r)) both

-- so there is no report
pub silent_table : (mine rules : Rules) (table : List Violation) → some_enabled mine rules ≡ false → All (IsOf mine rules) table → table ≡ []
silent_table mine rules [] off coded = refl
silent_table mine rules (v ∷ vs) off coded =
    let is : IsOf mine rules v = All-head (IsOf mine rules) v vs coded in
    let on : some_enabled mine rules ≡ true = enabled_is_some mine rules v.code is.own is.enabled in
    absurd (cc)

-- a list that joins two and is empty joins two that are
prefix_is_empty : {A : Type 0} (xs ys : List A) → xs ++ ys ≡ [] → xs ≡ []
prefix_is_empty [] ys h = refl
prefix_is_empty (x ∷ xs) ys h = absurd (cc)

rest_is_empty : {A : Type 0} (xs ys : List A) → xs ++ ys ≡ [] → ys ≡ []
rest_is_empty [] ys h = h
rest_is_empty (x ∷ xs) ys h = absurd (cc)

-- each piece of an empty table is empty
empty_piece : {A : Type 0} (piece : ℕ → List A) (n i : ℕ) → i < n → concat_below piece n ≡ [] → piece i ≡ []
empty_piece piece zero i within h = absurd (omega arith)
empty_piece piece (suc n) i within h =
    elim (cases_lt i n) [
      | inl l ↦ empty_piece piece n i l (prefix_is_empty (concat_below piece n) (piece n) h)
      | inr l ↦ let e : i ≡ n = omega arith in rw e (rest_is_empty (concat_below piece n) (piece n) h)
    ]

-- a pass none of whose rules is enabled has no piece
pub silent_piece : (mine rules : Rules) (piece : ℕ → List Violation) (tail table : List Violation) (n i : ℕ) → some_enabled mine rules ≡ false
    → All (IsOf mine rules) table → concat_below piece n ++ tail ≡ table → i < n → piece i ≡ []
silent_piece mine rules piece tail table n i off coded whole within =
    empty_piece piece n i within (prefix_is_empty (concat_below piece n) tail (whole ∙ silent_table mine rules table off coded))

-- nor a tail
pub silent_tail : (mine rules : Rules) (piece : ℕ → List Violation) (tail table : List Violation) (n : ℕ) → some_enabled mine rules ≡ false
    → All (IsOf mine rules) table → concat_below piece n ++ tail ≡ table → tail ≡ []
silent_tail mine rules piece tail table n off coded whole =
    rest_is_empty (concat_below piece n) tail (whole ∙ silent_table mine rules table off coded)
