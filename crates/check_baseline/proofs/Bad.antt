-- The lines of a baseline, one by one.
use Rattle.std.proofs.Common.{◌≡◌, ◌∙◌, ◌+◌, ◌<◌, ◌≤◌, ℕ, Bool, List, Bor, Some, None, ap, drop, get_or, length, map, not}
use Rattle.std.proofs.lemmas.List.{drop_all, drop_more}
use Rattle.std.specs.Prelude.{if◌then◌else◌}
use Rattle.check_baseline.specs.Known.{bad_line_from, is_line}

-- what is found among the lines from here on, by whether this one is no line of a baseline
pub bad_more : (n : ℕ) (xs : List (Bor (List ℕ))) (i : ℕ) (d : Bor (List ℕ)) (bad : Bool) → i < length xs → not (is_line (get_or xs i d).now) ≡ bad
    → bad_line_from n (map (λ (s : Bor (List ℕ)). s.now) (drop i xs)) ≡ (if bad then Some n else bad_line_from (n + 1) (map (λ (s : Bor (List ℕ)). s.now) (drop (i + 1) xs)))
unfolding bad_line_from
bad_more n xs i d bad h is =
    ap (λ ys. bad_line_from n (map (λ (s : Bor (List ℕ)). s.now) ys)) (drop_more xs i d h)
    ∙ ap (λ (b : Bool). if b then Some n else bad_line_from (n + 1) (map (λ (s : Bor (List ℕ)). s.now) (drop (i + 1) xs))) is

pub none_bad : (n : ℕ) (xs : List (Bor (List ℕ))) (i : ℕ) → length xs ≤ i → bad_line_from n (map (λ (s : Bor (List ℕ)). s.now) (drop i xs)) ≡ None
unfolding bad_line_from
none_bad n xs i h = ap (λ ys. bad_line_from n (map (λ (s : Bor (List ℕ)). s.now) ys)) (drop_all i xs h)
