-- The first fix of the reports that are allowed.
use Rattle.std.proofs.Common.{◌≡◌, Bool, true, false, cond, List, ◌∷◌, refl, Option, Some, None, filter}
use Rattle.std.specs.Option.{option_map, option_or}
use Rattle.fix_class.specs.sql_token.Token.{Text}
use Rattle.other_fix.specs.lint_base.declared.violation.Violation.{Violation}
use Rattle.other_fix.specs.lint_base.Fixes.{FixValue}
use Rattle.law_next_fix.specs.fix_choice.Fits.{first_fitting, fitting, listed_fix, next_text, with_fix}
use Rattle.fix_text.specs.Allowed.{made_if}

-- a report with no fix to make is skipped
pub skipped : (t : Text) (p : Violation → Bool) (v : Violation) (vs : List Violation) → made_if (p v) t v ≡ None → next_text t (filter p (v ∷ vs)) ≡ next_text t (filter p vs)
skipped t p v vs none = by (p v) none
  where
    none_or : (o : Option FixValue) → option_map (with_fix t) o ≡ None → option_map (with_fix t) (option_or o (first_fitting t (filter p vs))) ≡ next_text t (filter p vs)
    none_or None e = refl
    none_or (Some f) e = let some : Some (with_fix t f) ≡ None = e in absurd (cc)

    by : (b : Bool) → made_if b t v ≡ None → next_text t (cond b (v ∷ filter p vs) (filter p vs)) ≡ next_text t (filter p vs)
    by true e = none_or (fitting t (listed_fix v)) e
    by false e = refl

-- and one with a fix is the next one
pub taken : (t s : Text) (p : Violation → Bool) (v : Violation) (vs : List Violation) → made_if (p v) t v ≡ Some s → next_text t (filter p (v ∷ vs)) ≡ Some s
taken t s p v vs some = by (p v) some
  where
    some_or : (o : Option FixValue) → option_map (with_fix t) o ≡ Some s → option_map (with_fix t) (option_or o (first_fitting t (filter p vs))) ≡ Some s
    some_or None e = let none : None ≡ Some s = e in absurd (cc)
    some_or (Some f) e = e

    by : (b : Bool) → made_if b t v ≡ Some s → next_text t (cond b (v ∷ filter p vs) (filter p vs)) ≡ Some s
    by true e = some_or (fitting t (listed_fix v)) e
    by false e = let none : None ≡ Some s = e in absurd (cc)
