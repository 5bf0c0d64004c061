-- Words in the tokens of a statement, from one token to the next.
use Rattle.std.proofs.Common.{◌≡◌, ◌∙◌, sym, ap, arith, ℕ, ◌+◌, ◌<◌, min, Bool, false, ◌||◌, List, ◌∷◌, length, get_or, take, drop, length-take}
use Rattle.std.specs.List.{list_any}
use Rattle.std.proofs.lemmas.List.{at_drop_more, get_or-take}
use Rattle.lint_ignore.specs.sql_token.declared.token.Tok.{Tok}
use Rattle.lint_ignore.specs.sql_tree.Range.{token_at}
use Rattle.lint_ignore.specs.sql_tree.Statement.{Tree, no_token}
use Rattle.hazard_find.specs.Guards.{token_shows, tokens_show}

-- the first token has not the word: the others are left
pub tokens_next : (tree : Tree) (word : List ℕ) (n i limit : ℕ) (toks : List Tok) (all : Bool) → toks ≡ tree.toks → limit ≡ min (length toks) n → i < limit
    → tokens_show tree word n i ≡ all → false ≡ token_shows word tree.text (token_at tree.toks i) → tokens_show tree word n (i + 1) ≡ all
tokens_next tree word n i limit toks all is e l so none =
    let q : Tok → Bool = token_shows word tree.text in
    let xs : List Tok = take n tree.toks in
    let most : limit ≡ min (length tree.toks) n = e ∙ ap (λ (ts : List Tok). min (length ts) n) is in
    let within : i < length xs = omega (arith, length-take n tree.toks, most, l) in
    let token : get_or xs i no_token ≡ token_at tree.toks i = get_or-take n tree.toks i no_token (omega (arith, most, l)) in
    ap (λ b. b || list_any q (drop (i + 1) xs)) (none ∙ ap q (sym token)) ∙ (sym (at_drop_more (list_any q) xs i no_token within) ∙ so)
