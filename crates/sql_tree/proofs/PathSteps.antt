-- The names of a path, as far as a loop over its tokens has come.
use Rattle.std.proofs.Common.{◌≡◌, ℕ, ◌+◌, ◌<◌, ◌≤◌, min, List, ◌++◌, length, length-append, length-take, take, drop, append_assoc, append-nil, refl, sym, ap, ◌∙◌, arith}
use Rattle.std.proofs.lemmas.List.{at_drop_more, at_drop_all, get_or-take}
use Rattle.std.specs.List.{flat_map}
use Rattle.sql_token.specs.declared.token.Tok.{Tok}
use Rattle.sql_token.specs.Token.{Text}
use Rattle.sql_tree.specs.Path.{name_cuts}
use Rattle.sql_tree.specs.Range.{token_at}
use Rattle.sql_tree.specs.Statement.{no_token}

-- the names among the tokens from number i to before number n
abbrev pub cuts_from : Text → List Tok → ℕ → ℕ → List (List ℕ)
cuts_from t toks n i = flat_map (name_cuts t) (drop i (take n toks))

-- the names of token i, and then those after it
cuts_here : (t : Text) (toks : List Tok) (n i : ℕ) → i < length toks → i < n
    → cuts_from t toks n i ≡ name_cuts t (token_at toks i) ++ cuts_from t toks n (i + 1)
cuts_here t toks n i h k =
    at_drop_more (flat_map (name_cuts t)) (take n toks) i no_token (omega (arith, length-take n toks))
    ∙ ap (λ tok. name_cuts t tok ++ cuts_from t toks n (i + 1)) (get_or-take n toks i no_token k)

-- the names so far and those of token i are the names so far
pub cuts_step : (t : Text) (toks : List Tok) (n i : ℕ) (now new all : List (List ℕ)) → i < length toks → i < n
    → now ++ cuts_from t toks n i ≡ all → new ≡ now ++ name_cuts t (token_at toks i) → new ++ cuts_from t toks n (i + 1) ≡ all
cuts_step t toks n i now new all h k p q =
    ap (λ l. l ++ cuts_from t toks n (i + 1)) q ∙ append_assoc now (name_cuts t (token_at toks i)) (cuts_from t toks n (i + 1))
    ∙ ap (λ l. now ++ l) (sym (cuts_here t toks n i h k)) ∙ p

-- and they are no more than all
pub cuts_long : (t : Text) (toks : List Tok) (n i : ℕ) (now all : List (List ℕ)) → i < length toks → i < n
    → now ++ cuts_from t toks n i ≡ all → length now + length (name_cuts t (token_at toks i)) ≤ length all
cuts_long t toks n i now all h k p =
    let e = ap length (cuts_step t toks n i now (now ++ name_cuts t (token_at toks i)) all h k p refl) in
    omega (arith, length-append (now ++ name_cuts t (token_at toks i)) (cuts_from t toks n (i + 1)), length-append now (name_cuts t (token_at toks i)))

pub cuts_end : (t : Text) (toks : List Tok) (n i : ℕ) (now all : List (List ℕ)) → min (length toks) n ≤ i
    → now ++ cuts_from t toks n i ≡ all → now ≡ all
cuts_end t toks n i now all h p =
    sym (append-nil now) ∙ ap (λ l. now ++ l) (sym (at_drop_all (flat_map (name_cuts t)) (take n toks) i (omega (arith, length-take n toks)))) ∙ p
