-- What holds of the reports of those nodes of a list that pass a test.
use Rattle.std.specs.Prelude.{Bool, All, List, [], ◌∷◌}
use Rattle.lint_base.specs.declared.violation.Violation.{Violation}
use Rattle.lint_pass.specs.RuleLaws.{flat_all, one_all, where_all}
use Rattle.lint_pass.specs.Those.{that, those}

-- what holds of each report holds of all
pub those_all : {N : Type 0} (P : Violation → Type 0) (test : N → Bool) (report : N → Violation) (nodes : List N) → ((n : N) → P (report n)) → All P (those test report nodes)
those_all P test report nodes h =
    flat_all P (that test report) nodes (λ n. where_all P (test n) (report n ∷ []) (λ _. one_all P (report n) (h n)))
