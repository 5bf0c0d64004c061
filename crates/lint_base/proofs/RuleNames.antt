-- A rule is found by each of its names, and by no other text.
use Rattle.std.proofs.Common.{◌≡◌, ◌∙◌, ℕ, Bool, true, false, List, [], ◌∷◌, Some, None, Contains, find, refl, sym, lit<, zero, suc, subst, ap, inl, inr, arith, Result, Ok, Err, ◌↔◌}
use Rattle.std.specs.Result.{result_ok}
use Rattle.std.proofs.lemmas.Bool.{cases_Bool}
use Rattle.std.proofs.lemmas.Slice.Eq.{bytes_eq-Decides}
use Rattle.lint_base.specs.declared.rule_name.UnknownName.{UnknownName}
use Rattle.std.specs.List.{AllByRecursion}
use Rattle.std.specs.Str.{bytes_eq}
use Rattle.lint_base.specs.declared.rule.Rule.{Rule}
use Rattle.lint_base.specs.declared.rule.Rule.TheVariants as rule
use Rattle.lint_base.specs.Rules.{facts_of, name_of, all_rules}
use Rattle.lint_base.specs.RuleNames.{NamesRule, accepted_names, is_printed_name, rule_named, same_rule, second_spelling}

-- each name of a rule finds it
found_by_each : (r : Rule) → AllByRecursion (λ name. rule_named name ≡ Some r) (accepted_names r)
unfolding accepted_names rule_named facts_of all_rules same_rule
found_by_each rule.UnusedIgnore = tt
found_by_each rule.PreferTimestampTz = (refl, (refl, tt))
found_by_each r = (refl, tt)

-- what is found passes the test
pub find-passes : {X : Type 0} (p : X → Bool) (xs : List X) (x : X) → find p xs ≡ Some x → p x ≡ true
find-passes p [] x h = cc
find-passes p (y ∷ ys) x h =
    elim (cases_Bool (p y)) [
      | inl holds ↦ let same : y ≡ x = let e : Some y ≡ Some x = rw holds at h in cc in rw (← same) holds
      | inr fails ↦ find-passes p ys x (rw fails at h)
    ]

-- a rule's printed name names it, for all rules but one
printed_name : (r : Rule) → same_rule r rule.UnusedIgnore ≡ false → Contains (accepted_names r) (name_of r)
unfolding accepted_names same_rule
printed_name rule.UnusedIgnore h = cc
printed_name r h = (0, lit< tt, refl)

-- what holds of each element holds of one that is contained
each_contained : {X : Type 0} (P : X → Type 0) (xs : List X) (x : X) → AllByRecursion P xs → Contains xs x → P x
each_contained P [] x h (k, l, e) = absurd (omega arith)
each_contained P (y ∷ ys) x h (zero, l, e) = subst P e h.0
each_contained P (y ∷ ys) x h (suc k, l, e) = each_contained P ys x h.1 (k, (omega arith), e)

-- each name of a rule finds it
pub rule_of_name : (r : Rule) (text : List ℕ) → Contains (accepted_names r) text → rule_named text ≡ Some r
rule_of_name r text named = each_contained (λ name. rule_named name ≡ Some r) (accepted_names r) text (found_by_each r) named

-- the second spelling names its rule
second_spelling-named : (r : Rule) (text : List ℕ) → rule.PreferTimestampTz ≡ r → text ≡ second_spelling → Contains (accepted_names r) text
unfolding accepted_names
second_spelling-named r text e t = rw (← e, t) (1, lit< tt, refl)

-- a text that is a rule's printed name, and names it
printed_name-named : (r : Rule) (text : List ℕ) → is_printed_name text r ≡ true → Contains (accepted_names r) text
printed_name-named r text h =
    elim (cases_Bool (same_rule r rule.UnusedIgnore)) [
      | inl holds ↦ let never : false ≡ true = rw holds at h in absurd (cc)
      | inr fails ↦
          let spelled : bytes_eq (name_of r) text ≡ true = rw fails at h in
          rw (← ((bytes_eq-Decides (name_of r) text).0 spelled)) (printed_name r fails)
    ]

-- the rule that a text names has it among its names
pub name_of_rule : (r : Rule) (text : List ℕ) → rule_named text ≡ Some r → Contains (accepted_names r) text
unfolding rule_named
name_of_rule r text h =
    elim (cases_Bool (bytes_eq text second_spelling)) [
      | inl holds ↦
          let second : Some rule.PreferTimestampTz ≡ Some r = rw holds at h in
          second_spelling-named r text (cc) ((bytes_eq-Decides text second_spelling).0 holds)
      | inr fails ↦
          let first : find (is_printed_name text) all_rules ≡ Some r = rw fails at h in
          printed_name-named r text (find-passes (is_printed_name text) all_rules r first)
    ]

-- what is found as `rule_named` says is found exactly by its names
pub found_exactly : {E : Type 0} (text : List ℕ) (r : Result Rule E) → result_ok r ≡ rule_named text → (q : Rule) → (r ≡ Ok q) ↔ Contains (accepted_names q) text
found_exactly text (Ok p) e q = ((λ h. name_of_rule q text (sym e ∙ ap result_ok h)), (λ h. let f : Some p ≡ Some q = e ∙ rule_of_name q text h in cc))
found_exactly text (Err u) e q = ((λ h. absurd (cc)), (λ h. let f : None ≡ Some q = e ∙ rule_of_name q text h in absurd (cc)))

-- a look-up that answers as `rule_named` does
pub names_rule : (text : List ℕ) (r : Result Rule UnknownName) → result_ok r ≡ rule_named text → NamesRule text r
names_rule text r e = record { value = e; named = found_exactly text r e }
