-- What holds of the reports of a pass of one rule.
use Rattle.std.specs.Prelude.{◌≡◌, ℕ, zero, suc, Bool, true, false, All, List, [], ◌∷◌, refl, if◌then◌else◌}
use Rattle.std.proofs.Common.{sym, ◌∙◌, subst, inl, inr, rules}
use Rattle.std.proofs.lemmas.Bool.{cases_Bool}
use Rattle.std.proofs.lemmas.List.Elements.{All-append, All-cons, All-nil, All-head, All-tail, All-weaker}
use Rattle.std.specs.List.{flat_map}
use denote.Enum.Bare.{same_true}
use Rattle.lint_base.specs.contracts.rule.Rule.{the_type}
use Rattle.lint_base.specs.declared.rule.Rule.{Rule}
use Rattle.lint_base.specs.declared.violation.Violation.{Violation}
use Rattle.lint_base.specs.RuleNames.{same_rule}
use Rattle.lint_base.specs.RuleSets.{Rules, has, no_rules, with_rule}
use Rattle.lint_base.proofs.RuleSets.{has-with_rule_same}
use Rattle.lint_transaction.specs.Earlier.{concat_below}
use Rattle.lint_pass.specs.Laws.{IsOf, HasCode, reports_by}
use Rattle.lint_pass.specs.RuleTables.{enabled_reports, table_of, where_of}

-- ---- what holds of each

pub pieces_all : {X : Type 0} (P : X → Type 0) (f : ℕ → List X) (n : ℕ) → ((i : ℕ) → All P (f i)) → All P (concat_below f n)
pieces_all P f zero h = All-nil P
pieces_all P f (suc n) h = All-append P (concat_below f n) (f n) (pieces_all P f n h) (h n)

pub where_all : {X : Type 0} (P : X → Type 0) (b : Bool) (xs : List X) → (b ≡ true → All P xs) → All P (if b then xs else [])
where_all P true xs h = h refl
where_all P false xs h = All-nil P

pub unless_all : {X : Type 0} (P : X → Type 0) (b : Bool) (xs : List X) → All P xs → All P (if b then [] else xs)
unless_all P true xs h = All-nil P
unless_all P false xs h = h

pub flat_all : {X Y : Type 0} (P : Y → Type 0) (f : X → List Y) (xs : List X) → ((x : X) → All P (f x)) → All P (flat_map f xs)
flat_all P f [] h = All-nil P
flat_all P f (x ∷ xs) h = All-append P (f x) (flat_map f xs) (h x) (flat_all P f xs h)

pub one_all : {X : Type 0} (P : X → Type 0) (x : X) → P x → All P (x ∷ [])
one_all P x h = All-cons P x [] h (All-nil P)

-- ---- the laws

coded_is : (code : Rule) (r : Rules) → has r code ≡ true → (v : Violation) → HasCode code v → IsOf (with_rule no_rules code) r v
coded_is code r e v h =
    record {
      own = subst (λ c. has (with_rule no_rules code) c ≡ true) (sym h) (has-with_rule_same no_rules code);
      enabled = subst (λ c. has r c ≡ true) (sym h) e;
    }

pub rule_coded : (code : Rule) (f : ℕ → List Violation) (r : Rules) (n : ℕ) → ((i : ℕ) → All (HasCode code) (f i)) → All (IsOf (with_rule no_rules code) r) (table_of code f r n)
rule_coded code f r n h =
    pieces_all (IsOf (with_rule no_rules code) r) (enabled_reports code f r) n
    (λ i. where_all (IsOf (with_rule no_rules code) r) (has r code) (f i)
    (λ e. All-weaker (HasCode code) (IsOf (with_rule no_rules code) r) (coded_is code r e) (f i) (h i)))

pub rule_all : (P : Violation → Type 0) (code : Rule) (f : ℕ → List Violation) (r : Rules) (n : ℕ) → ((i : ℕ) → All P (f i)) → All P (table_of code f r n)
rule_all P code f r n h = pieces_all P (enabled_reports code f r) n (λ i. where_all P (has r code) (f i) (λ _. h i))

pub same_is : (q r : Rule) → same_rule q r ≡ true → q ≡ r
unfolding same_rule
same_is q r e = same_true the_type (search rules) q r e

pub none_by : (q c : Rule) (vs : List Violation) → same_rule q c ≡ false → All (HasCode c) vs → reports_by q vs ≡ []
none_by q c [] other all = refl
none_by q c (v ∷ vs) other all =
    let is : v.code ≡ c = All-head (HasCode c) v vs all in
    (λ i. if same_rule q (is i) then v ∷ reports_by q vs else reports_by q vs)
    ∙ ((λ i. if other i then v ∷ reports_by q vs else reports_by q vs) ∙ none_by q c vs other (All-tail (HasCode c) v vs all))

pub rule_apart : (code : Rule) (f : ℕ → List Violation) (n : ℕ) (q : Rule) (some others : Rules) → has some q ≡ has others q → ((i : ℕ) → All (HasCode code) (f i))
    → reports_by q (table_of code f some n) ≡ reports_by q (table_of code f others n)
rule_apart code f n q some others same h =
    elim (cases_Bool (same_rule q code)) [
      | inl is ↦
          let agree : has some code ≡ has others code = subst (λ c. has some c ≡ has others c) (same_is q code is) same in
          λ i. reports_by q (concat_below (λ k. if agree i then f k else []) n)
      | inr other ↦
          none_by q code (table_of code f some n) other (rule_all (HasCode code) code f some n h)
          ∙ sym (none_by q code (table_of code f others n) other (rule_all (HasCode code) code f others n h))
    ]

-- ---- reports after the last statement

pub where_coded : (code : Rule) (xs : List Violation) (r : Rules) → All (HasCode code) xs → All (IsOf (with_rule no_rules code) r) (where_of code xs r)
where_coded code xs r h =
    where_all (IsOf (with_rule no_rules code) r) (has r code) xs (λ e. All-weaker (HasCode code) (IsOf (with_rule no_rules code) r) (coded_is code r e) xs h)

pub where_apart : (code : Rule) (xs : List Violation) (q : Rule) (some others : Rules) → has some q ≡ has others q → All (HasCode code) xs
    → reports_by q (where_of code xs some) ≡ reports_by q (where_of code xs others)
where_apart code xs q some others same h =
    elim (cases_Bool (same_rule q code)) [
      | inl is ↦
          let agree : has some code ≡ has others code = subst (λ c. has some c ≡ has others c) (same_is q code is) same in
          λ i. reports_by q (if agree i then xs else [])
      | inr other ↦
          none_by q code (where_of code xs some) other (where_all (HasCode code) (has some code) xs (λ _. h))
          ∙ sym (none_by q code (where_of code xs others) other (where_all (HasCode code) (has others code) xs (λ _. h)))
    ]
