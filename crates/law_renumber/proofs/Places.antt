-- Tokens begin at bytes that ascend.
use Rattle.std.proofs.Common.{ℕ, zero, suc, ◌<◌, ◌≤◌, List, [], ◌∷◌, get_or, length, arith}
use Rattle.sql_token.specs.declared.token.Tok.{Tok}
use Rattle.sql_token.specs.Token.{Text, Leads}
use Rattle.sql_tree.specs.Statement.{no_token}
use Rattle.law_renumber.specs.Order.{PlacesAscend}

starts_from : (t : Text) (a b : ℕ) (ks : List Tok) (j : ℕ) (d : Tok) → Leads t a ks b → j < length ks → a ≤ (get_or ks j d).start
starts_from t a b [] j d lead h = absurd (omega arith)
starts_from t a b (k ∷ ks) zero d lead h = omega (arith, lead.0)
starts_from t a b (k ∷ ks) (suc j) d lead h =
    let before = lead.1.before in
    let rest = starts_from t k.end b ks j d lead.2 (omega arith) in
    omega (arith, lead.0)

starts_ascend : (t : Text) (a b : ℕ) (ks : List Tok) (i j : ℕ) (d : Tok) → Leads t a ks b → i < j → j < length ks → (get_or ks i d).start < (get_or ks j d).start
starts_ascend t a b [] i j d lead lt h = absurd (omega arith)
starts_ascend t a b (k ∷ ks) i zero d lead lt h = absurd (omega arith)
starts_ascend t a b (k ∷ ks) zero (suc j) d lead lt h =
    let before = lead.1.before in
    let rest = starts_from t k.end b ks j d lead.2 (omega arith) in
    omega (arith, lead.0)
starts_ascend t a b (k ∷ ks) (suc i) (suc j) d lead lt h = starts_ascend t k.end b ks i j d lead.2 (omega arith) (omega arith)

pub places_ascend : PlacesAscend
places_ascend t ks i j lexed lt h = starts_ascend t 0 (length t) ks i j no_token lexed lt h
