-- Signs that an operator lost: they come after it, each one a token.
use Rattle.std.specs.Prelude.{◌≡◌, ◌≤◌, ◌<◌, ℕ, Bool, true, false, not, ◌&&◌, List, length, slice_index}
use Rattle.sql_token.specs.declared.token.Tok.{Tok}
use Rattle.sql_token.specs.declared.token.TokKind.TheVariants.{Op}
use Rattle.sql_token.specs.Token.{Text, Leads, is_sign, begins_comment, runs_over}

-- a sign that begins no comment
abbrev pub begins_sign : Text → Bool
begins_sign z = is_sign (slice_index z 0) && not (begins_comment (slice_index z 0) (slice_index z 1))

-- from i to before e are there signs alone, and there a run of operator bytes ends
pub record Signs (t : Text) (i e : ℕ) : Type 0 where
  pub begun : i ≤ e
  pub within : e ≤ length t
  pub signs : (n : ℕ) → i ≤ n → n < e → is_sign (slice_index t n) ≡ true
  pub runs : (n : ℕ) → i ≤ n → n < e → runs_over Op t n ≡ true
  pub stops : e < length t → runs_over Op t e ≡ false

abbrev pub SignsFrom : Text → ℕ → Type 0
SignsFrom t i = (e : ℕ) × Signs t i e

-- Signs that an operator lost may come after these tokens, wherever they lead to.
abbrev pub LeadsToSigns : List Tok → Type 0
LeadsToSigns ks = (t : Text) (j : ℕ) → Leads t 0 ks j → (0 < j) × SignsFrom t j
