-- Which rules are in a set after the rules of a list were put in or taken out.
use Rattle.std.proofs.Common.{◌≡◌, ◌≢◌, ◌∙◌, Bool, true, false, not, List, [], ◌∷◌, filter, fold, refl, ap, sym, inl, inr, rules}
use Rattle.std.specs.Prelude.{◌&&◌, ◌||◌}
use Rattle.std.specs.List.{list_any}
use Rattle.std.proofs.Math.Bool.{and-false, and-true, and_assoc, or-false, or-true, or_assoc}
use Rattle.std.proofs.lemmas.Bool.{cases_Bool}
use denote.Enum.Bare.{same_true, same_false}
use Rattle.lint_base.specs.contracts.rule.Rule.{the_type}
use Rattle.lint_base.specs.declared.rule.Rule.{Rule}
use Rattle.lint_base.specs.declared.rule.Rule.TheVariants as rule
use Rattle.lint_base.specs.RuleNames.{same_rule}
use Rattle.lint_base.specs.RuleSets.{Rules, default_rules, has, no_rules, rules_in, with_rule, without_rule}
use Rattle.lint_base.specs.Rules.{all_rules, facts_of, is_opt_in, number_of}
use Rattle.lint_base.proofs.RuleSets.{has-no_rules, has-with_rule_same, has-with_rule_other, has-without_rule_same, has-without_rule_other, has_default_rules}
use Rattle.lint_base.specs.RuleChoice.{is_alias, is_chosen, is_named, rules_that, with_expansions}
use Rattle.lint_base.proofs.OfRules.{put_is_of_rules, put_rules, same_rules, taken_is_of_rules}

-- ---- membership

same_is : (q r : Rule) → same_rule q r ≡ true → q ≡ r
unfolding same_rule
same_is q r e = same_true the_type (search rules) q r e

other_is : (q r : Rule) → same_rule q r ≡ false → q ≢ r
unfolding same_rule
other_is q r e = same_false the_type q r e

has-with : (set : Rules) (r q : Rule) → has (with_rule set q) r ≡ (has set r || same_rule r q)
has-with set r q =
    elim (cases_Bool (same_rule r q)) [
      | inl same ↦ rw (same, same_is r q same, has-with_rule_same) (sym (or-true (has set q)))
      | inr other ↦ rw (other, has-with_rule_other set r q (other_is r q other)) (sym (or-false (has set r)))
    ]

has-without : (set : Rules) (r q : Rule) → has (without_rule set q) r ≡ (has set r && not (same_rule r q))
has-without set r q =
    elim (cases_Bool (same_rule r q)) [
      | inl same ↦ rw (same, same_is r q same, has-without_rule_same) (sym (and-false (has set q)))
      | inr other ↦ rw (other, has-without_rule_other set r q (other_is r q other)) (sym (and-true (has set r)))
    ]

-- the rules of a list, put in
has-put : (rules : List Rule) (set : Rules) (r : Rule) → has (fold with_rule set rules) r ≡ (has set r || list_any (same_rule r) rules)
has-put [] set r = sym (or-false (has set r))
has-put (q ∷ rules) set r =
    has-put rules (with_rule set q) r ∙ (rw (has-with set r q) (or_assoc (has set r) (same_rule r q) (list_any (same_rule r) rules)))

not-or : (a b : Bool) → not (a || b) ≡ (not a && not b)
not-or true b = refl
not-or false b = refl

-- the rules of a list, taken out
has-taken : (rules : List Rule) (set : Rules) (r : Rule) → has (fold without_rule set rules) r ≡ (has set r && not (list_any (same_rule r) rules))
has-taken [] set r = sym (and-true (has set r))
has-taken (q ∷ rules) set r =
    has-taken rules (without_rule set q) r ∙
    (rw (has-without set r q, not-or (same_rule r q) (list_any (same_rule r) rules))
    (and_assoc (has set r) (not (same_rule r q)) (not (list_any (same_rule r) rules))))

-- a rule is found among those that pass a test where it passes
found_where : (test : Rule → Bool) (list : List Rule) (r : Rule) → list_any (same_rule r) (filter test list) ≡ (test r && list_any (same_rule r) list)
found_where test [] r = sym (and-false (test r))
found_where test (q ∷ list) r = go (test q) refl (same_rule r q) refl (found_where test list r)
  where
    go : (a : Bool) → test q ≡ a → (b : Bool) → same_rule r q ≡ b
        → list_any (same_rule r) (filter test list) ≡ (test r && list_any (same_rule r) list)
        → list_any (same_rule r) (filter test (q ∷ list)) ≡ (test r && list_any (same_rule r) (q ∷ list))
    go true passes true same below = let here : test r ≡ true = ap test (same_is r q same) ∙ passes in rw (passes, same, here) refl
    go true passes false other below = rw (passes, other) below
    go false fails true same below = let here : test r ≡ false = ap test (same_is r q same) ∙ fails in rw (fails, here) (rw here at below)
    go false fails false other below = rw (fails, other) below

-- every rule is found among all rules
found_in_all : (r : Rule) → list_any (same_rule r) all_rules ≡ true
unfolding all_rules same_rule
found_in_all rule.RequireTimeoutSettings = refl
found_in_all r = refl

found_that : (test : Rule → Bool) (r : Rule) → list_any (same_rule r) (filter test all_rules) ≡ test r
found_that test r = found_where test all_rules r ∙ rw (found_in_all r) (and-true (test r))

-- the set of the rules that pass a test
pub has-rules_that : (test : Rule → Bool) (r : Rule) → has (rules_that test) r ≡ test r
has-rules_that test r = has-put (filter test all_rules) no_rules r ∙ rw (has-no_rules r) (found_that test r)

-- ---- the rules of a linter

-- the set that is made of what is included and what is excluded
abbrev pub chosen_set : List Rule → List Rule → Rules
chosen_set include exclude = fold without_rule (fold without_rule (fold with_rule default_rules (with_expansions include)) (with_expansions exclude)) (filter is_alias all_rules)

has-chosen_set : (include exclude : List Rule) (r : Rule) → has (chosen_set include exclude) r ≡ is_chosen include exclude r
has-chosen_set include exclude r =
    rw (has-taken (filter is_alias all_rules), has-taken (with_expansions exclude), has-put (with_expansions include), has_default_rules r, found_that is_alias r) refl

pub chosen_set_is : (include exclude : List Rule) → chosen_set include exclude ≡ rules_that (is_chosen include exclude)
chosen_set_is include exclude =
    same_rules _ _
    (taken_is_of_rules (filter is_alias all_rules) _ (taken_is_of_rules (with_expansions exclude) _ (put_is_of_rules (with_expansions include) default_rules (put_rules (filter (λ r. not (is_opt_in r)) all_rules)))))
    (put_rules (filter (is_chosen include exclude) all_rules))
    (λ r. has-chosen_set include exclude r ∙ sym (has-rules_that (is_chosen include exclude) r))

-- the set that is made of nothing
pub chosen_set-nothing : chosen_set [] [] ≡ default_rules
unfolding all_rules facts_of number_of with_rule without_rule
chosen_set-nothing = refl

pub named_set_is : (list : List Rule) → rules_in (with_expansions list) ≡ rules_that (is_named list)
named_set_is list =
    let named : (r : Rule) → has (rules_in (with_expansions list)) r ≡ is_named list r =
    λ r. has-put (with_expansions list) no_rules r ∙ rw (has-no_rules r) refl in
    same_rules _ _ (put_rules (with_expansions list)) (put_rules (filter (is_named list) all_rules)) (λ r. named r ∙ sym (has-rules_that (is_named list) r))
