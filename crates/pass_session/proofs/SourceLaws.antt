-- Parts of a text are cut between its characters, and end at the last of their tokens.
use Rattle.std.proofs.Common.{◌≡◌, refl, sym, ◌∙◌, ap, subst, ℕ, zero, suc, ◌-◌, ◌<◌, ◌≤◌, nat_lt, Bool, true, false, ◌&&◌, not, cond, List, arith}
use Rattle.std.proofs.lemmas.Bool.{le-ltb, lt-ltb}
use Rattle.std.specs.Str.{IsUtf8}
use Rattle.lint_pass.specs.text_pos.Range.{Range}
use Rattle.lint_pass.specs.sql_tree.Range.{span_range_of}
use Rattle.lint_pass.specs.sql_tree.Statement.{Tree, IsTree}
use Rattle.lint_pass.specs.lint_ignore.Places.{IsPlace}
use Rattle.lint_pass.specs.PlaceLaws.{span_place}
use Rattle.pass_session.specs.Tokens.{is_word_at, last_word}

-- the range of some tokens is a place of the text
pub source_place : (tree : Tree) (text : List ℕ) (range : Range) (first last : ℕ) → IsTree tree → text ≡ tree.text → IsUtf8 text → range ≡ span_range_of tree.toks first last → IsPlace text range
source_place tree text range first last is e utf8 at =
    let place = span_place tree (record { read = is; utf8 = subst IsUtf8 e utf8 }) first last in
    subst (λ (t : List ℕ). IsPlace t range) (sym e) (subst (λ (r : Range). IsPlace tree.text r) (sym at) place)

-- ---- the last word

module _ (tree : Tree) (first : ℕ) where
  -- a token that is no word is passed over
  pub word_before : (n : ℕ) → first < n → is_word_at tree n ≡ false → last_word tree first (n - 1) ≡ last_word tree first n
  unfolding last_word
  word_before zero l e = absurd (omega arith)
  word_before (suc n) l e =
      let less : suc n - 1 ≡ n = omega arith in
      rw less (sym (λ i. cond (lt-ltb first (suc n) l i && not (e i)) (last_word tree first n) (suc n)))

  and_not : (b : Bool) → (b && not true) ≡ false
  and_not true = refl
  and_not false = refl

  -- a word is the last one up to itself
  pub word_here : (n : ℕ) → is_word_at tree n ≡ true → last_word tree first n ≡ n
  unfolding last_word
  word_here zero e = refl
  word_here (suc n) e =
      (λ i. cond (nat_lt first (suc n) && not (e i)) (last_word tree first n) (suc n))
      ∙ ap (λ b. cond b (last_word tree first n) (suc n)) (and_not (nat_lt first (suc n)))

  -- no token before the first one is looked at
  pub word_first : (n : ℕ) → n ≤ first → last_word tree first n ≡ n
  unfolding last_word
  word_first zero l = refl
  word_first (suc n) l = λ i. cond (le-ltb first (suc n) l i && not (is_word_at tree (suc n))) (last_word tree first n) (suc n)
