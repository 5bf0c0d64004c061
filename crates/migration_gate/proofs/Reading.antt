-- What the parts of an entry are.
use Rattle.std.proofs.Common.{◌≡◌, ◌≢◌, ◌∙◌, ◌<◌, ◌^◌, ℕ, List, [], ◌∷◌, ◌++◌, length, length-append, get_or, refl, ap, sym, subst, arith, Bor, MatchOption, Option, Some, None}
use Rattle.std.specs.Prelude.{All, nat_eq, true, ◌&&◌}
use Rattle.std.specs.Cmp.Lexicographic.{pointwise}
use Rattle.std.proofs.lemmas.Bool.{eq-eqb}
use Rattle.std.proofs.lemmas.List.Elements.{All-from_get_or}
use Rattle.std.proofs.lemmas.Str.Pattern.{IsSplitOnceResult, split_parts}
use Rattle.migration_gate.specs.Bundle.{BeginsNoEntry, Entry, IsName, entry_bytes, head_bytes}
use Rattle.migration_gate.proofs.Cuts.{one_cut}
use Rattle.migration_gate.proofs.Entries.{entry_parts, fits, one_head}

seam : (front rest : List ℕ) (c : ℕ) → get_or (front ++ c ∷ rest) (length front) 0 ≡ c
seam [] rest c = refl
seam (x ∷ xs) rest c = seam xs rest c

within : (front rest : List ℕ) (c : ℕ) → length front < length (front ++ c ∷ rest)
within front rest c = let l = length-append front (c ∷ rest) in omega (arith, l)

lacks : (c : ℕ) (bs : List ℕ) → ((i : ℕ) → i < length bs → get_or bs i 0 ≢ c) → (front rest : List ℕ) → bs ≢ front ++ c ∷ rest
lacks c bs h front rest e =
    let P : List ℕ → Type 0 = λ b. (i : ℕ) → i < length b → get_or b i 0 ≢ c in
    subst P e h (length front) (within front rest c) (seam front rest c)

around_by : (c : ℕ) (bs : List ℕ) (r : Option (Bor (List ℕ) × Bor (List ℕ)))
    → MatchOption r ((i : ℕ) → i < length bs → get_or bs i 0 ≢ c) (λ x. (bs ≡ x.0.now ++ (c ∷ x.1.now)) × ((i : ℕ) → i < length x.0.now → get_or x.0.now i 0 ≢ c))
    → MatchOption r ((front rest : List ℕ) → bs ≢ front ++ c ∷ rest) (λ x. All (λ b. b ≢ c) x.0.now × (bs ≡ x.0.now ++ c ∷ x.1.now))
around_by c bs None h = lacks c bs h
around_by c bs (Some x) h = (All-from_get_or (λ b. b ≢ c) x.0.now 0 h.1, h.0)

pub around : (c : ℕ) (bs : List ℕ) (r : Option (Bor (List ℕ) × Bor (List ℕ))) → IsSplitOnceResult c bs r → c < 128
    → MatchOption r ((front rest : List ℕ) → bs ≢ front ++ c ∷ rest) (λ x. All (λ b. b ≢ c) x.0.now × (bs ≡ x.0.now ++ c ∷ x.1.now))
around c bs r h l = around_by c bs r (split_parts c bs r h l)

-- a fact of an answer that is nothing
pub where_none : {X : Type 0} (r : Option X) (P : Type 0) (Q : X → Type 0) → r ≡ None → MatchOption r P Q → P
where_none None P Q e h = h
where_none (Some x) P Q e h = absurd cc

pub none_where : {X : Type 0} (r : Option X) (P : Type 0) (Q : X → Type 0) → r ≡ None → P → MatchOption r P Q
none_where None P Q e h = h
none_where (Some x) P Q e h = absurd cc

-- ---- no entry

small : (e : Entry) (t rest : List ℕ) → length t < 2 ^ 32 → t ≡ entry_bytes e ++ rest → length e.text < 2 ^ 64
small e t rest l same = let m : length t < 2 ^ 64 = omega (arith, l) in fits e rest (2 ^ 64) (subst (λ x. length x < 2 ^ 64) same m)

pub no_head : (t : List ℕ) → length t < 2 ^ 32 → ((n : ℕ) (rest : List ℕ) → n < 2 ^ 32 → t ≢ head_bytes n ++ rest) → BeginsNoEntry t
no_head t l h e rest is same =
    let short : length e.text < 2 ^ 32 = fits e rest (2 ^ 32) (subst (λ x. length x < 2 ^ 32) same l) in
    h (length e.text) (e.name ++ 10 ∷ (e.text ++ 10 ∷ rest)) short (same ∙ entry_parts e rest)

-- what follows the head of an entry is its name, and its text behind that
behind : (t r rest : List ℕ) (n : ℕ) (e : Entry) → length t < 2 ^ 32 → n < 2 ^ 32 → t ≡ head_bytes n ++ r → t ≡ entry_bytes e ++ rest
    → (n ≡ length e.text) × (r ≡ e.name ++ 10 ∷ (e.text ++ 10 ∷ rest))
behind t r rest n e l hn head same =
    let m : n < 2 ^ 64 = omega (arith, hn) in
    one_head n (length e.text) r (e.name ++ 10 ∷ (e.text ++ 10 ∷ rest)) m (small e t rest l same) (sym head ∙ same ∙ entry_parts e rest)

pub no_name : (t r : List ℕ) (n : ℕ) → length t < 2 ^ 32 → n < 2 ^ 32 → t ≡ head_bytes n ++ r → ((name rest : List ℕ) → IsName name → r ≢ name ++ 10 ∷ rest) → BeginsNoEntry t
no_name t r n l hn head h e rest is same = h e.name (e.text ++ 10 ∷ rest) is.is_name (behind t r rest n e l hn head same).1

pub no_text : (t r name s : List ℕ) (n : ℕ) → length t < 2 ^ 32 → n < 2 ^ 32 → t ≡ head_bytes n ++ r → IsName name → r ≡ name ++ 10 ∷ s
    → ((front rest : List ℕ) → length front ≡ n → s ≢ front ++ 10 ∷ rest) → BeginsNoEntry t
no_text t r name s n l hn head named line h e rest is same =
    let k = behind t r rest n e l hn head same in
    let cut = one_cut 10 name e.name s (e.text ++ 10 ∷ rest) named.one_line is.is_name.one_line (sym line ∙ k.1) in
    h e.text rest (sym k.0) cut.1

pub whole_entry : (t r name s text rest : List ℕ) (n : ℕ) (e : Entry) → t ≡ head_bytes n ++ r → r ≡ name ++ 10 ∷ s → s ≡ text ++ 10 ∷ rest → length text ≡ n
    → e ≡ record { name = name; text = text } → t ≡ entry_bytes e ++ rest
whole_entry t r name s text rest n e head line body len is =
    let f : Entry = record { name = name; text = text } in
    let all : t ≡ entry_bytes f ++ rest =
    head ∙ ap (λ x. head_bytes n ++ x) (line ∙ ap (λ x. name ++ 10 ∷ x) body) ∙ ap (λ m. head_bytes m ++ (name ++ 10 ∷ (text ++ 10 ∷ rest))) (sym len) ∙ sym (entry_parts f rest) in
    subst (λ g. t ≡ entry_bytes g ++ rest) (sym is) all

same_itself : (xs : List ℕ) → pointwise nat_eq xs xs ≡ true
same_itself [] = refl
same_itself (x ∷ xs) = λ i. eq-eqb x x refl i && same_itself xs i

pub same_bytes : (xs ys : List ℕ) → xs ≡ ys → pointwise nat_eq xs ys ≡ true
same_bytes xs ys e = subst (λ zs. pointwise nat_eq xs zs ≡ true) e (same_itself xs)
