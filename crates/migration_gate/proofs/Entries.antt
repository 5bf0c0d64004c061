-- A text begins with one entry at most.
use Rattle.std.proofs.Common.{◌≡◌, ◌≢◌, ◌∙◌, ◌<◌, ◌^◌, ℕ, List, ◌∷◌, ◌++◌, length, length-append, ap, sym, subst, arith, append_assoc, codes, decimal}
use Rattle.std.specs.Prelude.{All}
use Rattle.migration_gate.specs.Bundle.{Entry, IsEntry, entry_bytes, head_bytes}
use Rattle.migration_gate.proofs.Cuts.{no_blank, one_cut, one_number, same_fronts}

-- ---- heads

pub head_parts : (n : ℕ) (rest : List ℕ) → head_bytes n ++ rest ≡ codes "file " ++ (decimal n ++ 32 ∷ rest)
head_parts n rest = simp append_assoc

behind_word : (x y : List ℕ) → codes "file " ++ x ≡ codes "file " ++ y → x ≡ y
behind_word x y e = cc

pub one_head : (m n : ℕ) (r s : List ℕ) → m < 2 ^ 64 → n < 2 ^ 64 → head_bytes m ++ r ≡ head_bytes n ++ s → (m ≡ n) × (r ≡ s)
one_head m n r s hm hn e =
    one_number m n r s hm hn (behind_word (decimal m ++ 32 ∷ r) (decimal n ++ 32 ∷ s) (sym (head_parts m r) ∙ e ∙ head_parts n s))

-- a text that has a word and other digits before a blank
pub other_digits : (text digits r x s : List ℕ) (n : ℕ) → n < 2 ^ 64 → text ≡ codes "file " ++ x → x ≡ digits ++ 32 ∷ r → All (λ b. b ≢ 32) digits
    → text ≡ head_bytes n ++ s → digits ≡ decimal n
other_digits text digits r x s n h e f none g =
    let same = behind_word x (decimal n ++ 32 ∷ s) (sym e ∙ g ∙ head_parts n s) in
    (one_cut 32 digits (decimal n) r s none (no_blank n h) (sym f ∙ same)).0

-- ---- entries

pub entry_parts : (e : Entry) (rest : List ℕ) → entry_bytes e ++ rest ≡ head_bytes (length e.text) ++ (e.name ++ 10 ∷ (e.text ++ 10 ∷ rest))
entry_parts e rest = simp append_assoc

pub fits : (e : Entry) (rest : List ℕ) (n : ℕ) → length (entry_bytes e ++ rest) < n → length e.text < n
fits e rest n h =
    let parts = ap length (entry_parts e rest) in
    let all = length-append (head_bytes (length e.text)) (e.name ++ 10 ∷ (e.text ++ 10 ∷ rest)) in
    let body = length-append e.name (10 ∷ (e.text ++ 10 ∷ rest)) in
    let text = length-append e.text (10 ∷ rest) in
    omega (arith, h, parts, all, body, text)

pub one_entry : (e f : Entry) (r s : List ℕ) → IsEntry e → IsEntry f → length (entry_bytes e ++ r) < 2 ^ 64 → entry_bytes e ++ r ≡ entry_bytes f ++ s → (e ≡ f) × (r ≡ s)
one_entry e f r s he hf h same =
    let le : length e.text < 2 ^ 64 = fits e r (2 ^ 64) h in
    let lf : length f.text < 2 ^ 64 = fits f s (2 ^ 64) (subst (λ x. length x < 2 ^ 64) same h) in
    let head = one_head (length e.text) (length f.text) (e.name ++ 10 ∷ (e.text ++ 10 ∷ r)) (f.name ++ 10 ∷ (f.text ++ 10 ∷ s)) le lf (sym (entry_parts e r) ∙ same ∙ entry_parts f s) in
    let line = one_cut 10 e.name f.name (e.text ++ 10 ∷ r) (f.text ++ 10 ∷ s) he.is_name.one_line hf.is_name.one_line head.1 in
    let body = same_fronts e.text f.text (10 ∷ r) (10 ∷ s) head.0 line.1 in
    let rest : r ≡ s = let b = body.1 in cc in
    (λ i. record { name = line.0 i; text = body.0 i }, rest)
