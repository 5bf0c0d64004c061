-- How the reports of two passes come one after the other.
use Rattle.std.specs.Prelude.{◌≡◌, ℕ, zero, suc, Bool, true, false, ◌||◌, All, List, ◌++◌, refl}
use Rattle.std.proofs.Common.{sym, ◌∙◌, ap, subst, append_assoc}
use Rattle.std.proofs.lemmas.List.Elements.{All-append, All-weaker, filter-append}
use Rattle.lint_base.specs.Grown.{GrownBy}
use Rattle.lint_base.specs.GrownLaws.{grown_by_first, grown_by_second}
use Rattle.lint_base.specs.declared.rule.Rule.{Rule}
use Rattle.lint_base.specs.declared.violation.Violation.{Violation}
use Rattle.lint_base.specs.RuleNames.{same_rule}
use Rattle.lint_base.specs.RuleSets.{Rules, has, both_rules}
use Rattle.lint_base.proofs.RuleSets.{has-both_rules}
use Rattle.lint_transaction.specs.Earlier.{concat_below}
use Rattle.lint_pass.specs.Laws.{IsOf, reports_by}

pub pair_whole : {A : Type 0} (pieces tail table second : List A) → pieces ++ tail ≡ table → pieces ++ (tail ++ second) ≡ table ++ second
pair_whole pieces tail table second e = sym (append_assoc pieces tail second) ∙ ap (λ xs. xs ++ second) e

-- the first's tail whole, and then a prefix of the second's kept pieces
pub pair_kept : {A : Type 0} (old mid new tail kept pieces rest table : List A) → mid ≡ old ++ tail → GrownBy mid new kept → kept ≡ pieces → pieces ++ rest ≡ table → GrownBy old new (tail ++ table)
pair_kept old mid new tail kept pieces rest table m h k w =
    let front : GrownBy mid new (pieces ++ rest) = grown_by_first mid new pieces rest (subst (λ xs. GrownBy mid new xs) k h) in
    grown_by_second old mid new tail table m (subst (λ xs. GrownBy mid new xs) w front)

-- the first's tail and the second's kept pieces whole, and then a prefix of the second's tail
pub pair_rest : {A : Type 0} (old mid late new tail kept pieces rest table : List A) → mid ≡ old ++ tail → late ≡ mid ++ kept → GrownBy late new rest → kept ≡ pieces → pieces ++ rest ≡ table → GrownBy old new (tail ++ table)
pair_rest old mid late new tail kept pieces rest table m l h k w =
    let e : late ≡ mid ++ pieces = l ∙ ap (λ xs. mid ++ xs) k in
    let whole : GrownBy mid new (pieces ++ rest) = grown_by_second mid late new pieces rest e h in
    grown_by_second old mid new tail table m (subst (λ xs. GrownBy mid new xs) w whole)

-- all of it
pub pair_all : {A : Type 0} (old mid late new tail kept pieces rest table : List A) → mid ≡ old ++ tail → late ≡ mid ++ kept → new ≡ late ++ rest → kept ≡ pieces → pieces ++ rest ≡ table → new ≡ old ++ (tail ++ table)
pair_all old mid late new tail kept pieces rest table m l h k w =
    h ∙ (ap (λ xs. xs ++ rest) l ∙ (append_assoc mid kept rest ∙ (ap (λ xs. mid ++ (xs ++ rest)) k ∙ (ap (λ xs. mid ++ xs) w ∙ (ap (λ xs. xs ++ table) m ∙ append_assoc old tail table)))))

pub or_first : (a b : Bool) → a ≡ true → (a || b) ≡ true
or_first true b h = refl
or_first false b h = absurd (cc)

pub or_second : (a b : Bool) → b ≡ true → (a || b) ≡ true
or_second true b h = refl
or_second false b h = h

of_first : (a b r : Rules) (v : Violation) → IsOf a r v → IsOf (both_rules a b) r v
of_first a b r v h = record { own = has-both_rules a b v.code ∙ or_first (has a v.code) (has b v.code) h.own; enabled = h.enabled }

of_second : (a b r : Rules) (v : Violation) → IsOf b r v → IsOf (both_rules a b) r v
of_second a b r v h = record { own = has-both_rules a b v.code ∙ or_second (has a v.code) (has b v.code) h.own; enabled = h.enabled }

pub pair_coded : (a b r : Rules) (first second : List Violation) → All (IsOf a r) first → All (IsOf b r) second → All (IsOf (both_rules a b) r) (first ++ second)
pair_coded a b r first second h k =
    All-append (IsOf (both_rules a b) r) first second
    (All-weaker (IsOf a r) (IsOf (both_rules a b) r) (of_first a b r) first h)
    (All-weaker (IsOf b r) (IsOf (both_rules a b) r) (of_second a b r) second k)

-- two lists one after the other
pub pair_apart : (q : Rule) (a b c d : List Violation) → reports_by q a ≡ reports_by q b → reports_by q c ≡ reports_by q d → reports_by q (a ++ c) ≡ reports_by q (b ++ d)
pair_apart q a b c d first second = filter-append (λ x. same_rule q x.code) a c ∙ ((λ i. first i ++ second i) ∙ sym (filter-append (λ x. same_rule q x.code) b d))

-- the pieces below a number
pub pieces_apart : (q : Rule) (f g : ℕ → List Violation) (n : ℕ) → ((i : ℕ) → reports_by q (f i) ≡ reports_by q (g i)) → reports_by q (concat_below f n) ≡ reports_by q (concat_below g n)
pieces_apart q f g zero h = refl
pieces_apart q f g (suc n) h = pair_apart q (concat_below f n) (concat_below g n) (f n) (g n) (pieces_apart q f g n h) (h n)
