-- The first fix that fits, and the text with it made.
use Rattle.std.proofs.Common.{◌≡◌, Bool, true, false, cond, List, [], ◌∷◌, refl, subst, sym, Option, Some, None}
use Rattle.std.proofs.lemmas.List.Elements.{All-head, All-tail}
use Rattle.std.specs.Prelude.{All, ◌&&◌, not}
use Rattle.std.specs.Option.{option_map, option_or}
use Rattle.fix_choice.specs.sql_token.Token.{Text}
use Rattle.fix_choice.specs.sql_tree.Statement.{Tree}
use Rattle.fix_choice.specs.lint_base.declared.settings.LinterSettings.{LinterSettings}
use Rattle.fix_choice.specs.lint_base.declared.violation.Violation.{Violation}
use Rattle.fix_choice.specs.lint_base.Fixes.{FixValue}
use Rattle.fix_choice.specs.lint_ignore.Comment.{has_disable_comment}
use Rattle.fix_choice.specs.law_fix_steps.Listed.{is_listed}
use Rattle.fix_choice.specs.Fits.{first_fitting, fits, fitting}
use Rattle.law_answer_steps.specs.squawk_linter.Reports.{cleared}
use Rattle.law_next_fix.specs.Fitting.{IfFitting}

-- ---- the first fix that fits

inside : {X : Type 0} {x y : X} → Some x ≡ Some y → x ≡ y
inside e = cc

-- It has what all of the fixes have that fit.
pub of_first : (P : FixValue → Type 0) (text : Text) (vs : List Violation) → All (IfFitting text P) vs → (f : FixValue) → first_fitting text vs ≡ Some f → P f
of_first P text [] h f e = cc
of_first P text (v ∷ vs) h f e = by (is_listed v.code) refl e (of_first P text vs (All-tail (IfFitting text P) v vs h) f)
  where
    by_fit : is_listed v.code ≡ true → (g : FixValue) → v.fix ≡ Some g → (b : Bool) → fits text g ≡ b → option_or (cond b (Some g) None) (first_fitting text vs) ≡ Some f →
        (first_fitting text vs ≡ Some f → P f) → P f
    by_fit listed g is true fit e rest = subst P (inside e) (All-head (IfFitting text P) v vs h listed g is fit)
    by_fit listed g is false fit e rest = rest e

    by_fix : is_listed v.code ≡ true → (o : Option FixValue) → v.fix ≡ o → option_or (fitting text o) (first_fitting text vs) ≡ Some f → (first_fitting text vs ≡ Some f → P f) → P f
    by_fix listed None is e rest = rest e
    by_fix listed (Some g) is e rest = by_fit listed g is (fits text g) refl e rest

    by : (b : Bool) → is_listed v.code ≡ b → option_or (fitting text (cond b v.fix None)) (first_fitting text vs) ≡ Some f → (first_fitting text vs ≡ Some f → P f) → P f
    by true listed e rest = by_fix listed v.fix refl e rest
    by false listed e rest = rest e

-- ---- the text with it made

pub chosen : {s : Text} (f : FixValue → Text) (o : Option FixValue) → option_map f o ≡ Some s → (fix : FixValue) × (o ≡ Some fix) × (s ≡ f fix)
chosen f None e = absurd (cc)
chosen {s} f (Some fix) e = (fix, refl, sym (inside e))

-- ---- the flag

and_again : (a b : Bool) → ((a && b) && b) ≡ (a && b)
and_again true true = refl
and_again true false = refl
and_again false b = refl

-- settings that a text leaves are left by it as they are
pub cleared_again : (tree : Tree) (settings : LinterSettings) → cleared tree (cleared tree settings) ≡ cleared tree settings
cleared_again tree settings = λ i. record settings { assume_in_transaction = and_again settings.assume_in_transaction (not (has_disable_comment tree)) i }
