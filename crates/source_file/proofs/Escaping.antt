-- A text is written character after character.
use Rattle.std.proofs.Common.{◌≡◌, ℕ, zero, suc, ◌+◌, ◌<◌, ◌≤◌, Bool, List, [], ◌∷◌, ◌++◌, get_or, drop, length, refl, sym, ap, ◌∙◌, arith, append_assoc, append-nil}
use Rattle.std.proofs.lemmas.List.{at_drop_all, drop_more, drop-drop, get_or-drop}
use Rattle.source_file.specs.Escaped.{escaped_after, first_escaped}
use Rattle.source_file.specs.Shown.{more_len}

after_drop : (marks : Bool) (n : ℕ) (text : List ℕ) → escaped_after marks n text ≡ escaped_after marks 0 (drop n text)
unfolding escaped_after
after_drop marks zero [] = refl
after_drop marks (suc n) [] = refl
after_drop marks zero (byte ∷ rest) = refl
after_drop marks (suc n) (byte ∷ rest) = after_drop marks n rest

escaped_first : (marks : Bool) (a : ℕ) (rest : List ℕ) → escaped_after marks 0 (a ∷ rest)
    ≡ first_escaped marks a (get_or rest 0 0) (get_or rest 1 0) ++ escaped_after marks (more_len a (get_or rest 0 0) (get_or rest 1 0)) rest
unfolding escaped_after
escaped_first marks a rest = refl

escaped_at : (marks : Bool) (text : List ℕ) (i : ℕ) → i < length text → escaped_after marks 0 (drop i text)
    ≡ first_escaped marks (get_or text i 0) (get_or text (i + 1) 0) (get_or text (i + 2) 0)
    ++ escaped_after marks 0 (drop (i + (1 + more_len (get_or text i 0) (get_or text (i + 1) 0) (get_or text (i + 2) 0))) text)
escaped_at marks text i h =
    let a = get_or text i 0 in
    let b = get_or text (i + 1) 0 in
    let c = get_or text (i + 2) 0 in
    let rest = drop (i + 1) text in
    let all : List ℕ → List ℕ = escaped_after marks 0 in
    let second : get_or rest 0 0 ≡ b = get_or-drop (i + 1) text 0 0 ∙ ap (λ n. get_or text n 0) (omega arith) in
    let third : get_or rest 1 0 ≡ c = get_or-drop (i + 1) text 1 0 ∙ ap (λ n. get_or text n 0) (omega arith) in
    let later : drop (more_len a b c) rest ≡ drop (i + (1 + more_len a b c)) text =
    drop-drop (more_len a b c) (i + 1) text ∙ ap (λ n. drop n text) (omega arith) in
    ap all (drop_more text i 0 h) ∙ escaped_first marks a rest
    ∙ ap (λ n. first_escaped marks a n (get_or rest 1 0) ++ escaped_after marks (more_len a n (get_or rest 1 0)) rest) second
    ∙ ap (λ n. first_escaped marks a b n ++ escaped_after marks (more_len a b n) rest) third
    ∙ ap (λ l. first_escaped marks a b c ++ l) (after_drop marks (more_len a b c) rest ∙ ap all later)

pub escaped_pushed : (marks : Bool) (text to new all : List ℕ) (i j a b c : ℕ) → i < length text → a ≡ get_or text i 0 → b ≡ get_or text (i + 1) 0
    → c ≡ get_or text (i + 2) 0 → to ++ escaped_after marks 0 (drop i text) ≡ all → new ≡ to ++ first_escaped marks a b c
    → j ≡ i + (1 + more_len a b c) → new ++ escaped_after marks 0 (drop j text) ≡ all
escaped_pushed marks text to new all i j a b c h p q r before pushed next =
    let rest = escaped_after marks 0 (drop (i + (1 + more_len a b c)) text) in
    let step : escaped_after marks 0 (drop i text) ≡ first_escaped marks a b c ++ rest = rw (p, q, r) (escaped_at marks text i h) in
    rw (pushed, next) (append_assoc to (first_escaped marks a b c) rest ∙ ap (λ l. to ++ l) (sym step) ∙ before)

escaped_none : (marks : Bool) → escaped_after marks 0 [] ≡ []
unfolding escaped_after
escaped_none marks = refl

pub escaped_end : (marks : Bool) (text to all : List ℕ) (i : ℕ) → length text ≤ i → to ++ escaped_after marks 0 (drop i text) ≡ all → to ≡ all
escaped_end marks text to all i h before =
    sym (append-nil to) ∙ ap (λ l. to ++ l) (sym (at_drop_all (escaped_after marks 0) text i h ∙ escaped_none marks)) ∙ before
