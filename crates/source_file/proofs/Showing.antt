-- A text is shown character after character.
use Rattle.std.proofs.Common.{◌≡◌, ℕ, zero, suc, ◌+◌, ◌<◌, ◌≤◌, List, [], ◌∷◌, ◌++◌, get_or, drop, length, refl, sym, ap, ◌∙◌, arith, append_assoc, append-nil}
use Rattle.std.proofs.lemmas.List.{at_drop_all, drop_more, drop-drop, get_or-drop}
use Rattle.source_file.specs.Shown.{first_shown, more_len, shown, shown_after}

after_drop : (n : ℕ) (text : List ℕ) → shown_after n text ≡ shown (drop n text)
unfolding shown_after
after_drop zero [] = refl
after_drop (suc n) [] = refl
after_drop zero (byte ∷ rest) = refl
after_drop (suc n) (byte ∷ rest) = after_drop n rest

shown_first : (a : ℕ) (rest : List ℕ) → shown (a ∷ rest)
    ≡ first_shown a (get_or rest 0 0) (get_or rest 1 0) ++ shown_after (more_len a (get_or rest 0 0) (get_or rest 1 0)) rest
unfolding shown_after
shown_first a rest = refl

shown_at : (text : List ℕ) (i : ℕ) → i < length text → shown (drop i text)
    ≡ first_shown (get_or text i 0) (get_or text (i + 1) 0) (get_or text (i + 2) 0)
    ++ shown (drop (i + (1 + more_len (get_or text i 0) (get_or text (i + 1) 0) (get_or text (i + 2) 0))) text)
shown_at text i h =
    let a = get_or text i 0 in
    let b = get_or text (i + 1) 0 in
    let c = get_or text (i + 2) 0 in
    let rest = drop (i + 1) text in
    let second : get_or rest 0 0 ≡ b = get_or-drop (i + 1) text 0 0 ∙ ap (λ n. get_or text n 0) (omega arith) in
    let third : get_or rest 1 0 ≡ c = get_or-drop (i + 1) text 1 0 ∙ ap (λ n. get_or text n 0) (omega arith) in
    let later : drop (more_len a b c) rest ≡ drop (i + (1 + more_len a b c)) text =
    drop-drop (more_len a b c) (i + 1) text ∙ ap (λ n. drop n text) (omega arith) in
    ap shown (drop_more text i 0 h) ∙ shown_first a rest
    ∙ ap (λ n. first_shown a n (get_or rest 1 0) ++ shown_after (more_len a n (get_or rest 1 0)) rest) second
    ∙ ap (λ n. first_shown a b n ++ shown_after (more_len a b n) rest) third
    ∙ ap (λ l. first_shown a b c ++ l) (after_drop (more_len a b c) rest ∙ ap shown later)

pub shown_pushed : (text to new all : List ℕ) (i j a b c : ℕ) → i < length text → a ≡ get_or text i 0 → b ≡ get_or text (i + 1) 0 → c ≡ get_or text (i + 2) 0
    → to ++ shown (drop i text) ≡ all → new ≡ to ++ first_shown a b c → j ≡ i + (1 + more_len a b c) → new ++ shown (drop j text) ≡ all
shown_pushed text to new all i j a b c h p q r before pushed next =
    let step : shown (drop i text) ≡ first_shown a b c ++ shown (drop (i + (1 + more_len a b c)) text) = rw (p, q, r) (shown_at text i h) in
    rw (pushed, next) (append_assoc to (first_shown a b c) (shown (drop (i + (1 + more_len a b c)) text)) ∙ ap (λ l. to ++ l) (sym step) ∙ before)

shown_none : shown [] ≡ []
unfolding shown_after
shown_none = refl

pub shown_end : (text to all : List ℕ) (i : ℕ) → length text ≤ i → to ++ shown (drop i text) ≡ all → to ≡ all
shown_end text to all i h before =
    sym (append-nil to) ∙ ap (λ l. to ++ l) (sym (at_drop_all shown text i h ∙ shown_none)) ∙ before
