-- A token of a text lies between two of its characters.
use Rattle.std.proofs.Common.{◌≡◌, ◌<◌, ◌≤◌, ◌∙◌, ap, ℕ, List, length, subst, sym, arith, get_or}
use Rattle.std.specs.Str.{IsUtf8, IsCharBoundary}
use Rattle.sql_token.specs.declared.token.Tok.{Tok}
use Rattle.sql_token.specs.Token.{Text, Lexed}
use Rattle.sql_tree.specs.Statement.{Tree, IsTree}
use Rattle.sql_token.proofs.Boundaries.{token_bounds, token_between}

-- the token runs forward, and begins and ends between two characters
pub record IsIn (t : Text) (tok : Tok) : Type 0 where
  pub forward : tok.start ≤ tok.end
  pub start : IsCharBoundary t tok.start
  pub end : IsCharBoundary t tok.end

pub token_in : (t : Text) (toks : List Tok) (i : ℕ) (tok : Tok) → IsUtf8 t → Lexed t toks → i < length toks → tok ≡ get_or toks i tok → IsIn t tok
token_in t toks i tok utf8 lexed within is =
    let P : Tok → Type 0 = λ (k : Tok). IsIn t k in
    let bounds = token_bounds t toks i tok lexed within in
    let between = token_between t toks i tok utf8 lexed within in
    let forward : (get_or toks i tok).start ≤ (get_or toks i tok).end = omega (arith, bounds.0) in
    subst P (sym is) (record { forward = forward; start = between.0; end = between.1 })

-- The same for a tree that is seen as another value, and a text that is its text.
pub token_of_tree : (inside seen : Tree) (t : Text) (i : ℕ) (tok : Tok) → IsTree inside → inside ≡ seen → t ≡ seen.text → IsUtf8 t → i < length seen.toks → tok ≡ get_or inside.toks i tok → IsIn t tok
token_of_tree inside seen t i tok tree same text utf8 within is =
    let is_text : t ≡ inside.text = text ∙ sym (ap (λ (x : Tree). x.text) same) in
    let P : Text → Type 0 = λ (x : Text). Lexed x inside.toks in
    let len : length inside.toks ≡ length seen.toks = ap (λ (x : Tree). length x.toks) same in
    let here : i < length inside.toks = omega arith in
    token_in t inside.toks i tok utf8 (subst P (sym is_text) tree.lexed) here is
