-- The items of a list, one by one.
use Rattle.std.proofs.Common.{◌≡◌, ◌∙◌, ◌+◌, ◌<◌, ◌≤◌, ℕ, Bool, List, [], Bor, ap, drop, get_or, length, map}
use Rattle.std.proofs.lemmas.List.{drop_all, drop_more}
use Rattle.std.specs.Prelude.{is_none, if◌then◌else◌}
use Rattle.code_choice.specs.lint_report.Codes.{code_named}
use Rattle.check_words.specs.Steps.{first_unknown}

-- what is found among the items from here on, by whether this one is found
pub first_more : (xs : List (Bor (List ℕ))) (i : ℕ) (d : Bor (List ℕ)) (found : Bool) → i < length xs → is_none (code_named (get_or xs i d).now) ≡ found
    → first_unknown (map (λ (s : Bor (List ℕ)). s.now) (drop i xs)) ≡ (if found then (get_or xs i d).now else first_unknown (map (λ (s : Bor (List ℕ)). s.now) (drop (i + 1) xs)))
unfolding first_unknown
first_more xs i d found h is =
    ap (λ ys. first_unknown (map (λ (s : Bor (List ℕ)). s.now) ys)) (drop_more xs i d h)
    ∙ ap (λ (b : Bool). if b then (get_or xs i d).now else first_unknown (map (λ (s : Bor (List ℕ)). s.now) (drop (i + 1) xs))) is

pub none_left : (xs : List (Bor (List ℕ))) (i : ℕ) → length xs ≤ i → first_unknown (map (λ (s : Bor (List ℕ)). s.now) (drop i xs)) ≡ []
unfolding first_unknown
none_left xs i h = ap (λ ys. first_unknown (map (λ (s : Bor (List ℕ)). s.now) ys)) (drop_all i xs h)
