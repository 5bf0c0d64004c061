-- A run stays where another text has the same bytes up to one after the byte that ends it.
use Rattle.std.proofs.Common.{◌≡◌, ℕ, ◌+◌, ◌-◌, ◌<◌, ◌≤◌, length, get_or, sym, refl, ap, ◌∙◌, arith}
use Rattle.std.specs.Prelude.{not, ◌==◌, ◌&&◌}
use Rattle.std.specs.Char.{is_ascii_digit}
use Rattle.sql_token.specs.declared.token.TokKind.{TokKind}
use Rattle.sql_token.specs.declared.token.TokKind.TheVariants.{Blank, LineComment, Word, Param, Number, Op}
use Rattle.sql_token.specs.Token.{Text, IsRun, runs_over, is_blank, is_word, is_op, begins_comment, goes_on}

-- the first m bytes are the same, and both texts have them
pub record Agree (z y : Text) (m : ℕ) : Type 0 where
  pub here : m ≤ length z
  pub there : m ≤ length y
  pub same : (i : ℕ) → i < m → get_or z i 0 ≡ get_or y i 0

pub runs_same : (k : TokKind) (z y : Text) (m i : ℕ) → Agree z y m → i + 1 < m → runs_over k z i ≡ runs_over k y i
runs_same Blank z y m i a h = ap is_blank (a.same i (omega arith))
runs_same LineComment z y m i a h = ap (λ (b : ℕ). not (b == 10)) (a.same i (omega arith))
runs_same Word z y m i a h = ap is_word (a.same i (omega arith))
runs_same Param z y m i a h = ap is_ascii_digit (a.same i (omega arith))
runs_same Number z y m i a h =
    let before = a.same (i - 1) (omega arith) in
    let now = a.same i (omega arith) in
    let after = a.same (i + 1) h in
    λ x. goes_on (before x) (now x) (after x)
runs_same Op z y m i a h =
    let now = a.same i (omega arith) in
    let after = a.same (i + 1) h in
    λ x. is_op (now x) && not (begins_comment (now x) (after x))
runs_same _ z y m i a h = refl

pub run_same : (k : TokKind) (z y : Text) (m from n : ℕ) → Agree z y m → n + 1 < m → IsRun k z from n → IsRun k y from n
run_same k z y m from n a h run = record {
  begun = run.begun;
  within = let there = a.there in omega arith;
  each = λ i low high. sym (runs_same k z y m i a (omega arith)) ∙ run.each i low high;
  stops = λ _. sym (runs_same k z y m n a h) ∙ run.stops (let here = a.here in omega arith);
}
