-- A rule is found by its printed name in the slot of the name.
use Rattle.std.proofs.Common.{◌≡◌, ℕ, ◌<◌, ◌≤◌, true, false, List, Option, Some, None, find, length, refl, sym, subst, inl, inr, lit<, arith}
use Rattle.std.proofs.lemmas.Bool.{cases_Bool}
use Rattle.std.proofs.lemmas.Slice.Eq.{bytes_eq-Decides}
use Rattle.std.specs.Str.{bytes_eq}
use Rattle.lint_base.specs.declared.rule.Rule.{Rule}
use Rattle.lint_base.specs.declared.rule.Rule.TheVariants as rule
use Rattle.lint_base.specs.Rules.{all_rules, facts_of, name_of}
use Rattle.lint_base.specs.RuleNames.{is_printed_name, same_rule}
use Rattle.lint_base.specs.RuleSlots.{candidate, number_in, slot}
use Rattle.lint_base.proofs.RuleNames.{find-passes}

-- a name that names its rule is the first of the printed names, has ten bytes at least, and is in its slot
record IsFound (r : Rule) : Type 0 where
  first : find (is_printed_name (name_of r)) all_rules ≡ Some r
  long : 10 ≤ length (name_of r)
  in_slot : candidate (name_of r) ≡ Some r

each_found : (r : Rule) → same_rule r rule.UnusedIgnore ≡ false → IsFound r
unfolding facts_of all_rules same_rule slot number_in
each_found rule.UnusedIgnore h = absurd (cc)
each_found r h = record { first = refl; long = lit< tt; in_slot = refl }

-- what a text says that is the printed name of a rule, and names it
record IsNamed (text : List ℕ) (r : Rule) : Type 0 where
  first : find (is_printed_name text) all_rules ≡ Some r
  long : 10 ≤ length text
  in_slot : candidate text ≡ Some r

printed_so : (text : List ℕ) (r : Rule) → is_printed_name text r ≡ true → IsNamed text r
printed_so text r h =
    elim (cases_Bool (same_rule r rule.UnusedIgnore)) [
      | inl holds ↦ let never : false ≡ true = rw holds at h in absurd (cc)
      | inr fails ↦
          let spelled : bytes_eq (name_of r) text ≡ true = rw fails at h in
          let found : IsFound r = each_found r fails in
          let named : IsNamed (name_of r) r = record { first = found.first; long = found.long; in_slot = found.in_slot } in
          let P : List ℕ → Type 0 = λ t. IsNamed t r in
          subst P ((bytes_eq-Decides (name_of r) text).0 spelled) named
    ]

-- the candidate, where the text is its printed name
pub found_first : (text : List ℕ) (r : Rule) → is_printed_name text r ≡ true → Some r ≡ find (is_printed_name text) all_rules
found_first text r h = sym (printed_so text r h).first

none_unless : {X : Type 0} (o : Option X) → ((x : X) → o ≡ Some x → ⊥) → None ≡ o
none_unless None h = refl
none_unless (Some x) h = absurd (h x refl)

found_named : (text : List ℕ) (r : Rule) → find (is_printed_name text) all_rules ≡ Some r → IsNamed text r
found_named text r h = printed_so text r (find-passes (is_printed_name text) all_rules r h)

-- no rule, where the text is too short
pub none_short : (text : List ℕ) → length text < 10 → None ≡ find (is_printed_name text) all_rules
none_short text l = none_unless (find (is_printed_name text) all_rules) (λ r h. let n : 10 ≤ length text = (found_named text r h).long in absurd (omega arith))

-- no rule, where there is no candidate
pub none_without : (text : List ℕ) → candidate text ≡ None → None ≡ find (is_printed_name text) all_rules
none_without text e = none_unless (find (is_printed_name text) all_rules) (λ r h. let n : candidate text ≡ Some r = (found_named text r h).in_slot in absurd (cc))

-- no rule, where the text is not the candidate's printed name
pub none_other : (text : List ℕ) (r : Rule) → candidate text ≡ Some r → is_printed_name text r ≡ false → None ≡ find (is_printed_name text) all_rules
none_other text r e differs =
    none_unless (find (is_printed_name text) all_rules) (λ q h.
    let n : candidate text ≡ Some q = (found_named text q h).in_slot in
    let same : q ≡ r = cc in
    let is_so : is_printed_name text q ≡ true = find-passes (is_printed_name text) all_rules q h in
    let not_so : is_printed_name text q ≡ false = rw same differs in
    absurd (cc))
