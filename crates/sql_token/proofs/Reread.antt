-- After a change that keeps the rest of the text, the tokens stay.
use Rattle.std.proofs.Common.{◌≡◌, ℕ, ◌+◌, ◌-◌, ◌<◌, Bool, false, length, drop, length-drop, sym, ap, ◌∙◌, subst, arith}
use Rattle.std.proofs.lemmas.Grind.{common_steps}
use Rattle.std.specs.Prelude.{◌==◌}
use Rattle.sql_token.specs.declared.token.TokKind.{TokKind}
use Rattle.sql_token.specs.Token.{Text, At, Takes, kind_of}

pub not_first : (i : ℕ) → 0 < i → (i == 0) ≡ false
not_first i h = grind (arith, common_steps)

pub at_rest : (t u : Text) (i j n : ℕ) (k : TokKind) → 0 < i → 0 < j → drop i t ≡ drop j u → At t i k (i + n) → At u j k (j + n)
at_rest t u i j n k p q same here = record {
  before = omega (arith, here.before);
  within = omega (arith, here.before, here.within, ap length same, length-drop i t, length-drop j u);
  kind = here.kind ∙ (λ x. kind_of (flag x) (same x));
  takes = subst (λ (m : ℕ). Takes (j == 0) k (drop j u) m) size (subst (λ (s : Bool). Takes s k (drop j u) (i + n - i)) flag (subst (λ (z : Text). Takes (i == 0) k z (i + n - i)) same here.takes));
}
  where
    flag : (i == 0) ≡ (j == 0)
    flag = not_first i p ∙ sym (not_first j q)

    size : i + n - i ≡ j + n - j
    size = omega arith
