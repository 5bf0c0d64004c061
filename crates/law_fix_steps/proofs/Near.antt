-- Tokens that keep their distance, and edits at them.
use Rattle.std.proofs.Common.{◌≡◌, ◌∙◌, ℕ, ◌+◌, ◌-◌, ◌≤◌, max, [], ◌∷◌, refl, ap, arith}
use Rattle.law_type_fixes.specs.sql_token.declared.token.Tok.{Tok}
use Rattle.law_type_fixes.specs.sql_token.Token.{Text}
use Rattle.law_type_fixes.specs.sql_tree.Range.{span_range_of, token_at}
use Rattle.law_type_fixes.specs.sql_tree.Statement.{Tree}
use Rattle.law_type_fixes.specs.law_edit_tokens.Exchange.{tok_moved}
use Rattle.law_type_fixes.specs.lint_base.Edits.{insertion, replacement}
use Rattle.std.specs.Prelude.{Some}
use Rattle.law_fix_steps.specs.Left.{EditsFollow}

-- The token is as many bytes further on, or back.
pub record Shifts (f : ℕ → ℕ) (down up : ℕ) (tree new : Tree) (x : ℕ) : Type 0 where
  pub start : (token_at new.toks (f x)).start + down ≡ (token_at tree.toks x).start + up
  pub end : (token_at new.toks (f x)).end + down ≡ (token_at tree.toks x).end + up

-- The token x is as far from the token a as it was.
pub record Near (f : ℕ → ℕ) (tree new : Tree) (a x : ℕ) : Type 0 where
  pub start : (token_at new.toks (f x)).start + (token_at tree.toks a).start ≡ (token_at tree.toks x).start + (token_at new.toks (f a)).start
  pub end : (token_at new.toks (f x)).end + (token_at tree.toks a).start ≡ (token_at tree.toks x).end + (token_at new.toks (f a)).start

pub same_shifts : (f : ℕ → ℕ) (tree new : Tree) (x : ℕ) → token_at new.toks (f x) ≡ token_at tree.toks x → Shifts f 0 0 tree new x
same_shifts f tree new x e = record { start = ap (λ (k : Tok). k.start + 0) e; end = ap (λ (k : Tok). k.end + 0) e }

pub tok_shifts : (f : ℕ → ℕ) (tree new : Tree) (b c x : ℕ) → token_at new.toks (f x) ≡ tok_moved b c (token_at tree.toks x) → b ≤ (token_at tree.toks x).start → b ≤ (token_at tree.toks x).end → Shifts f b c tree new x
tok_shifts f tree new b c x e p q = record {
  start = ap (λ (k : Tok). k.start + b) e ∙ further b c (token_at tree.toks x).start p;
  end = ap (λ (k : Tok). k.end + b) e ∙ further b c (token_at tree.toks x).end q;
}
  where
    further : (b c s : ℕ) → b ≤ s → c + (s - b) + b ≡ s + c
    further b c s h = omega arith

same_distance : (s' s a' a down up : ℕ) → s' + down ≡ s + up → a' + down ≡ a + up → s' + a ≡ s + a'
same_distance s' s a' a down up p q = omega arith

greatest : (s' e' s e a' a : ℕ) → s' + a ≡ s + a' → e' + a ≡ e + a' → max s' e' + a ≡ max s e + a'
greatest s' e' s e a' a p q = omega arith

module _ (f : ℕ → ℕ) (tree new : Tree) (a : ℕ) where
  pub near : (down up x : ℕ) → Shifts f down up tree new a → Shifts f down up tree new x → Near f tree new a x
  near down up x p q = record {
    start = same_distance (token_at new.toks (f x)).start (token_at tree.toks x).start (token_at new.toks (f a)).start (token_at tree.toks a).start down up q.start p.start;
    end = same_distance (token_at new.toks (f x)).end (token_at tree.toks x).end (token_at new.toks (f a)).start (token_at tree.toks a).start down up q.end p.start;
  }

  last_near : (x y : ℕ) → Near f tree new a x → Near f tree new a y →
      (span_range_of new.toks (f x) (f y)).end + (token_at tree.toks a).start ≡ (span_range_of tree.toks x y).end + (token_at new.toks (f a)).start
  last_near x y p q =
      greatest (token_at new.toks (f x)).start (token_at new.toks (f y)).end (token_at tree.toks x).start (token_at tree.toks y).end (token_at new.toks (f a)).start (token_at tree.toks a).start p.start q.end

  -- a text that is put after a token
  pub insertion_follows : (text : Text) (x : ℕ) → Near f tree new a x →
      EditsFollow (token_at new.toks (f a)).start (token_at tree.toks a).start (insertion text (span_range_of new.toks (f x) (f x)).end ∷ []) (insertion text (span_range_of tree.toks x x).end ∷ [])
  insertion_follows text x p = let e = last_near x x p p in (record { text = refl; start = e; end = e }, tt)

  -- a text that is put in place of some tokens
  pub replacement_follows : (w' w : Text) (x y : ℕ) → w' ≡ w → Near f tree new a x → Near f tree new a y →
      EditsFollow (token_at new.toks (f a)).start (token_at tree.toks a).start (replacement (span_range_of new.toks (f x) (f y)) w' ∷ []) (replacement (span_range_of tree.toks x y) w ∷ [])
  replacement_follows w' w x y same p q = (record { text = ap (λ (t : Text). Some t) same; start = p.start; end = last_near x y p q }, tt)
