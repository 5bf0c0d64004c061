-- What is in a set of rules after a change.
use Rattle.std.proofs.Common.{◌∙◌, sym, Bool, ◌≤◌, ◌≡◌, ◌≢◌, ◌==◌, ◌&&◌, ◌||◌, max, min, ℕ, ◌^◌, ◌*◌, ◌%◌, ◌<◌, true, false, List, Some, None, slice_get, refl, ap, bit_and, bit_or, arith, lit<, not, filter, inl, inr, take, get_or, length, [], ◌∷◌, ◌+◌, ◌-◌, zero, suc, drop}
use Rattle.std.specs.List.{list_any}
use Rattle.std.proofs.lemmas.Bool.{agree_below_at, cases_Bool, cases_eq, cases_lt, eqb-true}
use Rattle.std.proofs.lemmas.Bool.Decides.{nat_tests}
use Rattle.std.proofs.lemmas.List.Folds.{list_any_at}
use Rattle.std.proofs.lemmas.Option.{slice_get_within}
use Rattle.std.proofs.lemmas.List.{append-nil}
use Rattle.std.proofs.Math.Nat.{mod-eq_of_lt}
use Rattle.std.proofs.Math.Pow.{pow-lt}
use Rattle.std.proofs.lemmas.List.Elements.{filter_more}
use Rattle.std.proofs.lemmas.Grind.{common_steps, fold-append}
use Rattle.std.specs.Int.{bit_at, bit_not, w128}
use Rattle.std.proofs.lemmas.Nat.Bits.{bit_at_set_same, bit_at_set_other, bit_at_clear_same, bit_at_clear_other, bit_at-zero, bit_at-lt, bit_at_or, bit_at_and, bit_at_ones, bit_at_ones_above, same_from_bits}
use Rattle.lint_base.specs.declared.rule.Rule.{Rule}
use Rattle.lint_base.specs.declared.rule.Rule.TheVariants as rule
use Rattle.lint_base.specs.Rules.{all_rules, facts_of, is_opt_in, number_of, rule_count}
use Rattle.lint_base.specs.RuleSets.{Rules, has, no_rules, both_rules, with_rule, without_rule, default_rules, rules_in, rules_from}

-- the rule at a rule's number
pub rule_at-number_of : (r : Rule) → slice_get all_rules (number_of r) ≡ Some r
unfolding all_rules number_of
rule_at-number_of rule.RequireTimeoutSettings = refl
rule_at-number_of r = refl

-- a rule's number is below the count of rules
pub number_of-lt : (r : Rule) → number_of r < rule_count
unfolding number_of
number_of-lt rule.RequireTimeoutSettings = lit< tt
number_of-lt r = lit< tt

-- rules with one number are one rule
pub rule_from_number : (q r : Rule) → number_of q ≡ number_of r → q ≡ r
rule_from_number q r e =
    let at_q : slice_get all_rules (number_of q) ≡ Some q = rule_at-number_of q in
    let at_r : slice_get all_rules (number_of r) ≡ Some r = rule_at-number_of r in
    let at_same : slice_get all_rules (number_of q) ≡ slice_get all_rules (number_of r) = ap (slice_get all_rules) e in
    cc

pub has-no_rules : (q : Rule) → has no_rules q ≡ false
unfolding has
has-no_rules q = rw (bit_at-zero (number_of q)) refl

-- a shifted one
one_shifted : (n : ℕ) → n < rule_count → 1 * 2 ^ n % 2 ^ 128 ≡ 2 ^ n
one_shifted n l =
    let one : 1 * 2 ^ n ≡ 2 ^ n = omega arith in
    let small : 2 ^ n < 2 ^ 128 = pow-lt {j = 128} (omega arith) in
    rw one (mod-eq_of_lt small)

-- what the code writes to put a rule in
pub with_rule-bits : (set : Rules) (n : ℕ) (r : Rule) → n ≡ number_of r → record { bits = bit_or set.bits (1 * 2 ^ n % 2 ^ 128) } ≡ with_rule set r
unfolding with_rule
with_rule-bits set n r e = rw (e, one_shifted (number_of r) (number_of-lt r)) refl

-- what the code writes to take a rule out
pub without_rule-bits : (set : Rules) (n : ℕ) (r : Rule) → n ≡ number_of r → record { bits = bit_and set.bits (2 ^ 128 - 1 - 1 * 2 ^ n % 2 ^ 128) } ≡ without_rule set r
unfolding without_rule
without_rule-bits set n r e = rw (e, one_shifted (number_of r) (number_of-lt r)) refl

-- other rules have other numbers
number_of-other : (q r : Rule) → q ≢ r → number_of q ≢ number_of r
number_of-other q r d e = d (rule_from_number q r e)

pub has-with_rule_same : (set : Rules) (r : Rule) → has (with_rule set r) r ≡ true
unfolding has with_rule
has-with_rule_same set r =
    let at : bit_at (bit_or set.bits (2 ^ number_of r)) (number_of r) ≡ 1 = rw (one_shifted (number_of r) (number_of-lt r)) at (bit_at_set_same w128 set.bits (number_of r) (omega (arith, number_of-lt r))) in
    rw at refl

pub has-with_rule_other : (set : Rules) (q r : Rule) → q ≢ r → has (with_rule set r) q ≡ has set q
unfolding has with_rule
has-with_rule_other set q r d =
    let at : bit_at (bit_or set.bits (2 ^ number_of r)) (number_of q) ≡ bit_at set.bits (number_of q) = rw (one_shifted (number_of r) (number_of-lt r)) at (bit_at_set_other w128 set.bits (number_of r) (omega (arith, number_of-lt r)) (number_of q) (number_of-other q r d)) in
    rw at refl

pub has-without_rule_same : (set : Rules) (r : Rule) → has (without_rule set r) r ≡ false
unfolding has without_rule
has-without_rule_same set r =
    let at : bit_at (bit_and set.bits (bit_not w128 (2 ^ number_of r))) (number_of r) ≡ 0 = rw (one_shifted (number_of r) (number_of-lt r)) at (bit_at_clear_same w128 set.bits (number_of r) (omega (arith, number_of-lt r))) in
    rw at refl

pub has-without_rule_other : (set : Rules) (q r : Rule) → q ≢ r → has (without_rule set r) q ≡ has set q
unfolding has without_rule
has-without_rule_other set q r d =
    let at : bit_at (bit_and set.bits (bit_not w128 (2 ^ number_of r))) (number_of q) ≡ bit_at set.bits (number_of q) = rw (one_shifted (number_of r) (number_of-lt r)) at (bit_at_clear_other w128 set.bits (number_of r) (omega (arith, number_of-lt r)) (number_of q) (omega (arith, number_of-lt q)) (number_of-other q r d)) in
    rw at refl

-- the default set has the rules that are not opt-in
pub has_default_rules : (q : Rule) → has default_rules q ≡ not (is_opt_in q)
unfolding has with_rule number_of all_rules facts_of
has_default_rules rule.RequireTimeoutSettings = refl
has_default_rules r = refl

-- one more rule of a list, which is not opt-in
pub rules_in-more : (rules : List Rule) (i : ℕ) (d : Rule) → i < length rules → is_opt_in (get_or rules i d) ≡ false → rules_in (filter (λ r. not (is_opt_in r)) (take (i + 1) rules)) ≡ with_rule (rules_in (filter (λ r. not (is_opt_in r)) (take i rules))) (get_or rules i d)
rules_in-more rules i d l e =
    rw (filter_more (λ r. not (is_opt_in r)) rules i d l, e) (fold-append with_rule no_rules (filter (λ r. not (is_opt_in r)) (take i rules)) (get_or rules i d ∷ []))

-- one more rule of a list, which is opt-in
pub rules_in-same : (rules : List Rule) (i : ℕ) (d : Rule) → i < length rules → is_opt_in (get_or rules i d) ≡ true → rules_in (filter (λ r. not (is_opt_in r)) (take (i + 1) rules)) ≡ rules_in (filter (λ r. not (is_opt_in r)) (take i rules))
rules_in-same rules i d l e =
    rw (filter_more (λ r. not (is_opt_in r)) rules i d l, e) (simp append-nil)

-- what is left from a number at which there is a rule
drop-at : (rules : List Rule) (n : ℕ) (r : Rule) → slice_get rules n ≡ Some r → drop n rules ≡ r ∷ drop (n + 1) rules
drop-at [] n r h = absurd (cc)
drop-at (x ∷ rules) zero r h = let e : x ≡ r = cc in rw e refl
drop-at (x ∷ rules) (suc n) r h = let next : suc n + 1 ≡ suc (n + 1) = omega arith in rw next (drop-at rules n r h)

-- no rule is left from a number at which there is none
drop-past : (rules : List Rule) (n : ℕ) → slice_get rules n ≡ None → drop n rules ≡ []
drop-past [] n h = grind (arith, common_steps)
drop-past (x ∷ rules) zero h = absurd (cc)
drop-past (x ∷ rules) (suc n) h = drop-past rules n h

-- a rule of the set comes first
pub rules_from-in : (set : Rules) (n : ℕ) (r : Rule) → slice_get all_rules n ≡ Some r → has set r ≡ true → rules_from set n ≡ r ∷ rules_from set (n + 1)
rules_from-in set n r h e = rw (drop-at all_rules n r h, e) refl

-- a rule that is not in the set is passed over
pub rules_from-out : (set : Rules) (n : ℕ) (r : Rule) → slice_get all_rules n ≡ Some r → has set r ≡ false → rules_from set n ≡ rules_from set (n + 1)
rules_from-out set n r h e = rw (drop-at all_rules n r h, e) refl

-- after the last rule none is left
pub rules_from-end : (set : Rules) (n : ℕ) → slice_get all_rules n ≡ None → rules_from set n ≡ []
rules_from-end set n h = rw (drop-past all_rules n h) refl

-- a rule's place is below the count of rules
pub place-lt : (n : ℕ) (r : Rule) → slice_get all_rules n ≡ Some r → n < rule_count
unfolding all_rules
place-lt n r h = slice_get_within all_rules n r h

-- a list without its first rule is shorter
pub fewer : (rules left : List Rule) (r : Rule) → rules ≡ r ∷ left → length left < length rules
fewer rules left r e = rw e (omega arith)

-- the greater of two bits
max_is_one : (x y : ℕ) → x < 2 → y < 2 → (max x y == 1) ≡ (x == 1 || y == 1)
max_is_one zero zero l m = refl
max_is_one zero (suc zero) l m = refl
max_is_one (suc zero) zero l m = refl
max_is_one (suc zero) (suc zero) l m = refl
max_is_one (suc (suc x)) y l m = absurd (omega arith)
max_is_one x (suc (suc y)) l m = absurd (omega arith)

pub has-both_rules : (a b : Rules) (q : Rule) → has (both_rules a b) q ≡ (has a q || has b q)
unfolding has both_rules
has-both_rules a b q =
    rw (bit_at_or a.bits b.bits (number_of q)) (max_is_one _ _ (bit_at-lt a.bits (number_of q)) (bit_at-lt b.bits (number_of q)))

-- what the code writes to join two sets
pub both_rules-bits : (a b : Rules) → record { bits = bit_or a.bits b.bits } ≡ both_rules a b
unfolding both_rules
both_rules-bits a b = refl

-- ---- rules in both sets

-- the number of the rule at a place is the place
pub number_of-at : (i : ℕ) (d : Rule) → i < rule_count → number_of (get_or all_rules i d) ≡ i
unfolding all_rules number_of
number_of-at i d l = eqb-true _ _ (agree_below_at (λ k. number_of (get_or all_rules k d) == k) (λ k. true) rule_count i refl l)

-- the lesser of two bits
min_is_one : (x y : ℕ) → x < 2 → y < 2 → (min (min x y) 1 == 1) ≡ (x == 1 && y == 1)
min_is_one zero zero l m = refl
min_is_one zero (suc zero) l m = refl
min_is_one (suc zero) zero l m = refl
min_is_one (suc zero) (suc zero) l m = refl
min_is_one (suc (suc x)) y l m = absurd (omega arith)
min_is_one x (suc (suc y)) l m = absurd (omega arith)

-- the bits that two sets have in common, of rules alone
abbrev common_bits : Rules → Rules → ℕ
common_bits a b = bit_and (bit_and a.bits b.bits) (2 ^ rule_count - 1)

common_bits-at : (a b : Rules) (i : ℕ) → i < rule_count → (bit_at (common_bits a b) i == 1) ≡ (bit_at a.bits i == 1 && bit_at b.bits i == 1)
common_bits-at a b i l =
    rw (bit_at_and (bit_and a.bits b.bits) (2 ^ rule_count - 1) i, bit_at_and a.bits b.bits i, bit_at_ones rule_count i l) (min_is_one _ _ (bit_at-lt a.bits i) (bit_at-lt b.bits i))

common_bits-above : (a b : Rules) (i : ℕ) → rule_count ≤ i → bit_at (common_bits a b) i ≡ 0
common_bits-above a b i l =
    rw (bit_at_and (bit_and a.bits b.bits) (2 ^ rule_count - 1) i, bit_at_ones_above rule_count i l) (omega arith)

no_bit : (x : ℕ) → x < 2 → (x == 1) ≡ false → x ≡ 0
no_bit zero l h = refl
no_bit (suc zero) l h = absurd (cc)
no_bit (suc (suc x)) l h = absurd (omega arith)

none_of : (p : Rule → Bool) (rules : List Rule) → ((r : Rule) → p r ≡ false) → list_any p rules ≡ false
none_of p [] h = refl
none_of p (r ∷ rules) h = rw (h r) (none_of p rules h)

-- no rule is in both sets where they have no bit in common
common_bits-none : (a b : Rules) → common_bits a b ≡ 0 → list_any (λ r. has a r && has b r) all_rules ≡ false
unfolding has
common_bits-none a b e =
    none_of (λ r. has a r && has b r) all_rules (λ r. sym (common_bits-at a b (number_of r) (number_of-lt r)) ∙ (rw (e, bit_at-zero (number_of r)) refl))

-- they have none in common where no rule is in both
common_bits-zero : (a b : Rules) → list_any (λ r. has a r && has b r) all_rules ≡ false → common_bits a b ≡ 0
unfolding has all_rules
common_bits-zero a b none = same_from_bits (common_bits a b) 0 (λ i. each i)
  where
    at_rule : (i : ℕ) (d : Rule) → i < rule_count → (bit_at (common_bits a b) i == 1) ≡ true → ⊥
    at_rule i d l h =
        let n : number_of (get_or all_rules i d) ≡ i = number_of-at i d l in
        let both : (has a (get_or all_rules i d) && has b (get_or all_rules i d)) ≡ true = rw n (sym (common_bits-at a b i l) ∙ h) in
        let some : list_any (λ r. has a r && has b r) all_rules ≡ true = list_any_at (λ r. has a r && has b r) all_rules i d l both in
        absurd (cc)

    each : (i : ℕ) → bit_at (common_bits a b) i ≡ bit_at 0 i
    each i =
        rw (bit_at-zero i) (elim (cases_lt i rule_count) [
          | inl l ↦ elim (cases_Bool (bit_at (common_bits a b) i == 1)) [
            | inl holds ↦ absurd (at_rule i rule.UnusedIgnore l holds)
            | inr fails ↦ no_bit _ (bit_at-lt (common_bits a b) i) fails
          ]
          | inr l ↦ common_bits-above a b i l
        ])

-- what the code computes to tell whether some rule is in both
pub intersects-bits : (a b : Rules) → not (bit_and (bit_and a.bits b.bits) (2 ^ rule_count - 1) == 0) ≡ list_any (λ r. has a r && has b r) all_rules
intersects-bits a b =
    elim (cases_Bool (list_any (λ r. has a r && has b r) all_rules)) [
      | inl holds ↦ rw holds (some holds)
      | inr fails ↦ rw (fails, common_bits-zero a b fails) refl
    ]
  where
    some : list_any (λ r. has a r && has b r) all_rules ≡ true → not (common_bits a b == 0) ≡ true
    some holds =
        elim (cases_eq (common_bits a b) 0) [
          | inl e ↦ let no : list_any (λ r. has a r && has b r) all_rules ≡ false = common_bits-none a b e in absurd (cc)
          | inr e ↦ grind (arith, nat_tests)
        ]
