-- Counts of reports by rule.
use Rattle.std.proofs.Common.{◌≡◌, ◌≢◌, ◌∙◌, ℕ, ◌+◌, ◌<◌, Bool, true, false, List, get_or, set, take, length, refl, ap, sym, inl, inr, arith, lit<, get_or-set_same, get_or-set_other, replicate, [], ◌∷◌, ◌++◌, flat_map, codes}
use Rattle.std.proofs.lemmas.Bool.{cases_Bool}
use Rattle.std.proofs.lemmas.List.{get_or-replicate}
use Rattle.std.proofs.lemmas.List.Sums.{count_by_more_no, count_by_more_yes}
use denote.Enum.Bare.{same_true, same_false, tag_one}
use Rattle.lint_base.specs.contracts.rule.Rule.{the_type}
use Rattle.lint_base.specs.declared.rule.Rule.{Rule}
use Rattle.lint_base.specs.declared.rule.Rule.TheVariants as rule
use Rattle.lint_base.specs.declared.violation.Violation.{Violation}
use Rattle.lint_base.specs.RuleNames.{same_rule}
use Rattle.lint_base.specs.Rules.{all_rules, number_of, rule_count}
use Rattle.squawk_generate.specs.Summary.{count_of, counted, rule_line, summary}

pub number_fits : (r : Rule) → number_of r < rule_count
unfolding number_of
number_fits rule.RequireTimeoutSettings = lit< tt
number_fits r = lit< tt

same_number : (q r : Rule) → same_rule q r ≡ true → number_of r ≡ number_of q
unfolding same_rule
same_number q r e = ap number_of (sym (same_true the_type tt q r e))

other_number : (q r : Rule) → same_rule q r ≡ false → number_of r ≢ number_of q
unfolding same_rule number_of
other_number q r e same = same_false the_type q r e (tag_one the_type tt q r (sym same))

-- the counts of the reports below an index
abbrev pub CountsBelow : List ℕ → List Violation → ℕ → Type 0
CountsBelow counts vs i = (r : Rule) → get_or counts (number_of r) 0 ≡ count_of (take i vs) r

-- one report more
pub counts_more : (counts : List ℕ) (vs : List Violation) (i : ℕ) (v : Violation) (k : ℕ) → i < length vs → v ≡ get_or vs i v → length counts ≡ rule_count → k ≡ number_of v.code
    → CountsBelow counts vs i → CountsBelow (set counts k (get_or counts k 0 + 1)) vs (i + 1)
counts_more counts vs i v k l is n at h r =
    let test : Violation → Bool = λ w. same_rule w.code r in
    let here : test v ≡ test (get_or vs i v) = ap test is in
    elim (cases_Bool (same_rule v.code r)) [
      | inl same ↦
          let more = count_by_more_yes test vs i v l (sym here ∙ same) in
          let place : number_of r ≡ k = same_number v.code r same ∙ sym at in
          let within : k < length counts = omega (arith, number_fits v.code, n, at) in
          ap (λ j. get_or (set counts k (get_or counts k 0 + 1)) j 0) place
          ∙ get_or-set_same counts k _ 0 within
          ∙ ap (λ j. j + 1) (ap (λ j. get_or counts j 0) (sym place) ∙ h r)
          ∙ sym more
      | inr other ↦
          let more = count_by_more_no test vs i v l (sym here ∙ other) in
          let place : number_of r ≢ k = λ e. other_number v.code r other (e ∙ at) in
          get_or-set_other counts k (number_of r) _ 0 place ∙ h r ∙ sym more
    ]

-- before the first report
pub counts_none : (counts : List ℕ) (vs : List Violation) → counts ≡ replicate rule_count 0 → CountsBelow counts vs 0
counts_none counts vs e r = ap (λ l. get_or l (number_of r) 0) e ∙ get_or-replicate rule_count (number_of r) 0 0 (number_fits r)

-- lists of lines that agree at each rule
pub same_lines : (f g : Rule → List ℕ) → ((r : Rule) → f r ≡ g r) → (rules : List Rule) → flat_map f rules ≡ flat_map g rules
same_lines f g same [] = refl
same_lines f g same (r ∷ rules) = ap (λ l. l ++ flat_map f rules) (same r) ∙ ap (λ l. g r ++ l) (same_lines f g same rules)

-- the lines of all rules by their counts, and the last line, are the summary
pub summary_is : (none counts : List ℕ) (vs : List Violation) → none ≡ [] → ((r : Rule) → get_or counts (number_of r) 0 ≡ count_of vs r)
    → (none ++ flat_map (λ r. rule_line r (get_or counts (number_of r) 0)) all_rules) ++ counted (codes "violations") (length vs) ≡ summary vs
unfolding summary
summary_is none counts vs e h =
    let lines = same_lines (λ r. rule_line r (get_or counts (number_of r) 0)) (λ r. rule_line r (count_of vs r)) (λ r. ap (rule_line r) (h r)) all_rules in
    ap (λ l. (l ++ flat_map (λ r. rule_line r (get_or counts (number_of r) 0)) all_rules) ++ counted (codes "violations") (length vs)) e
    ∙ ap (λ l. l ++ counted (codes "violations") (length vs)) lines
