-- Where the names of a comment begin.
use Rattle.std.proofs.Common.{◌≡◌, ◌+◌, ◌<◌, ◌≤◌, ◌∙◌, ap, arith, subst, ℕ, List, true, codes, drop, get_or, length, nat_eq, take}
use Rattle.std.proofs.lemmas.List.{get_or-take}
use Rattle.std.proofs.lemmas.Str.{IsCharBoundary-after_ascii, IsCharBoundary-from_rest, IsUtf8-drop}
use Rattle.std.specs.Cmp.Lexicographic.{same_text}
use Rattle.std.specs.List.{starts_with}
use Rattle.std.specs.Str.{IsCharBoundary, IsUtf8}

abbrev opening : List ℕ
opening = codes "-- squawk-ignore "

-- the opening words end between two characters
pub after_opening : (text : List ℕ) (at : ℕ) → IsUtf8 text → IsCharBoundary text at → 17 ≤ length (drop at text)
    → true ≡ starts_with nat_eq (drop at text) opening → IsCharBoundary text (at + 17)
after_opening text at utf8 begins long is =
    let rest = drop at text in
    let same : opening ≡ take 17 rest = same_text opening (take 17 rest) is in
    let last : 32 ≡ get_or rest 16 0 = ap (λ (l : List ℕ). get_or l 16 0) same ∙ get_or-take 17 rest 16 0 (omega arith) in
    let space : get_or rest 16 0 < 128 = subst (λ (b : ℕ). b < 128) last (omega arith) in
    IsCharBoundary-from_rest text at 17 begins.0 (IsCharBoundary-after_ascii rest 16 (IsUtf8-drop text at utf8 begins) (omega (arith, long)) space)
