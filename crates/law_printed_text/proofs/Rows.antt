-- Rows of a text, and the empty line that ends a finding.
use Rattle.std.proofs.Common.{◌≡◌, ◌∙◌, ℕ, ◌<◌, ◌==◌, Bool, true, false, not, List, [], ◌∷◌, ◌++◌, Option, Some, None, ap, append_assoc, append-nil, arith, codes, if◌then◌else◌, length, length-append, refl, sym}
use Rattle.std.proofs.lemmas.Bool.{and_from, and_parts}
use Rattle.std.proofs.lemmas.List.Folds.{list_all-append}
use Rattle.std.specs.List.{list_all}

-- no line feed
abbrev pub is_plain : ℕ → Bool
is_plain b = not (b == 10)

-- what is after the first empty line, by whether a line begins here
abbrev pub after_empty : Bool → List ℕ → Option (List ℕ)
after_empty fresh [] = None
after_empty fresh (b ∷ bs) = if b == 10 then (if fresh then Some bs else after_empty true bs) else after_empty false bs

-- a piece of a line
pub record IsClean (t : List ℕ) : Type 0 where
  pub clean : list_all is_plain t ≡ true

-- a piece that is not empty
pub record IsPiece (t : List ℕ) : Type 0 where
  pub clean : IsClean t
  pub some : 0 < length t

-- whole lines, none of which is empty
pub record IsRows (t : List ℕ) : Type 0 where
  pub passed : (rest : List ℕ) → after_empty true (t ++ rest) ≡ after_empty true rest

pub word : (t : List ℕ) → list_all is_plain t ≡ true → IsClean t
word t e = record { clean = e }

pub piece : {t : List ℕ} → IsClean t → 0 < length t → IsPiece t
piece c h = record { clean = c; some = h }

-- ---- pieces, one after another

pub both : {a b : List ℕ} → IsClean a → IsClean b → IsClean (a ++ b)
both {a = a} {b = b} p q =
    record { clean = list_all-append is_plain a b ∙ and_from (list_all is_plain a) (list_all is_plain b) p.clean q.clean }

pub front : {a b : List ℕ} → IsPiece a → IsClean b → IsPiece (a ++ b)
front {a = a} {b = b} p q = record { clean = both p.clean q; some = omega (arith, p.some, length-append a b) }

pub back : {a b : List ℕ} → IsClean a → IsPiece b → IsPiece (a ++ b)
back {a = a} {b = b} p q = record { clean = both p q.clean; some = omega (arith, q.some, length-append a b) }

-- ---- lines

plain_not : (b : ℕ) → is_plain b ≡ true → (b == 10) ≡ false
plain_not b h = not_true (b == 10) h where
  not_true : (x : Bool) → not x ≡ true → x ≡ false
  not_true true e = cc
  not_true false e = refl

-- the rest of a line
rest_passed : (t rest : List ℕ) → list_all is_plain t ≡ true → after_empty false (t ++ rest) ≡ after_empty false rest
rest_passed [] rest e = refl
rest_passed (b ∷ t) rest e =
    let are = and_parts (is_plain b) (list_all is_plain t) e in
    let here : (b == 10) ≡ false = plain_not b are.0 in
    rw here (rest_passed t rest are.1)

-- a line that is not empty
line_passed : (t rest : List ℕ) → 0 < length t → list_all is_plain t ≡ true → after_empty true (t ++ rest) ≡ after_empty false rest
line_passed [] rest h e = absurd (omega (arith, h))
line_passed (b ∷ t) rest h e =
    let are = and_parts (is_plain b) (list_all is_plain t) e in
    let here : (b == 10) ≡ false = plain_not b are.0 in
    rw here (rest_passed t rest are.1)

pub row : {t : List ℕ} → IsPiece t → IsRows (t ++ codes "\n")
row {t = t} p = record {
  passed = λ rest. ap (after_empty true) (append_assoc t (codes "\n") rest) ∙ line_passed t (10 ∷ rest) p.some p.clean.clean;
}

pub joined : {a b : List ℕ} → IsRows a → IsRows b → IsRows (a ++ b)
joined {a = a} {b = b} p q = record { passed = λ rest. ap (after_empty true) (append_assoc a b rest) ∙ p.passed (b ++ rest) ∙ q.passed rest }

pub no_rows : IsRows []
no_rows = record { passed = λ rest. refl }

-- ---- a finding: rows, and an empty line

pub cut_off : {t : List ℕ} → IsRows t → (rest : List ℕ) → after_empty true ((t ++ codes "\n") ++ rest) ≡ Some rest
cut_off {t = t} p rest = ap (after_empty true) (append_assoc t (codes "\n") rest) ∙ p.passed (10 ∷ rest)

pub no_end : {t : List ℕ} → IsRows t → after_empty true t ≡ None
no_end {t = t} p = ap (after_empty true) (sym (append-nil t)) ∙ p.passed []
