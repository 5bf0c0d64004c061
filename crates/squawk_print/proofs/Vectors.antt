-- Bytes that do not stand for themselves, looked for in a vector.
use Rattle.std.proofs.Common.{◌≡◌, ◌∙◌, ℕ, zero, suc, ◌+◌, ◌*◌, ◌-◌, ◌%◌, ◌^◌, ◌≤◌, take, drop, Bool, true, false, ◌&&◌, not, cond, eqb, List, [], ◌∷◌, length, map, replicate, refl, ap, sym, bit_or, arith}
use Rattle.std.proofs.lemmas.Simd.{mask_l-mod}
use Rattle.std.proofs.lemmas.List.{length-map, take_all}
use Rattle.std.proofs.lemmas.List.Folds.{list_all-append}
use Rattle.std.proofs.Math.Seq.{take-add}
use Rattle.std.specs.List.{list_all}
use Rattle.lint_base.specs.PlainBytes.{is_plain}
use Rattle.std.specs.Simd.Lanes.{zip2, mask_l, top}

-- all bits where two bytes are equal
abbrev same : ℕ → ℕ → ℕ
same a b = cond (eqb a b) 255 0

some_of : (p q r s : Bool) → top 7 (bit_or (bit_or (bit_or (cond p 255 0) (cond q 255 0)) (cond r 255 0)) (cond s 255 0)) ≡ not (not p && not q && not r && not s)
some_of true true true true = refl
some_of true true true false = refl
some_of true true false true = refl
some_of true true false false = refl
some_of true false true true = refl
some_of true false true false = refl
some_of true false false true = refl
some_of true false false false = refl
some_of false true true true = refl
some_of false true true false = refl
some_of false true false true = refl
some_of false true false false = refl
some_of false false true true = refl
some_of false false true false = refl
some_of false false false true = refl
some_of false false false false = refl

-- the vector that has all bits where v has one of the four bytes
abbrev marks : ℕ → List ℕ → List ℕ
marks n v = zip2 bit_or (zip2 bit_or (zip2 bit_or (zip2 same v (replicate n 92)) (zip2 same v (replicate n 10))) (zip2 same v (replicate n 13))) (zip2 same v (replicate n 34))

each_mark : (v : List ℕ) → map (top 7) (marks (length v) v) ≡ map (λ b. not (is_plain b)) v
each_mark [] = refl
each_mark (b ∷ bs) = λ i. some_of (eqb b 92) (eqb b 10) (eqb b 13) (eqb b 34) i ∷ each_mark bs i

step : (c : Bool) (m : ℕ) (r : Bool) → not (eqb m 0) ≡ not r → not (eqb (cond (not c) 1 0 + 2 * m) 0) ≡ not (c && r)
step true m r e = grind (arith, e)
step false m r e = grind arith

marked : (v : List ℕ) → not (eqb (mask_l (map (λ b. not (is_plain b)) v)) 0) ≡ not (list_all is_plain v)
marked [] = refl
marked (b ∷ bs) = step (is_plain b) (mask_l (map (λ c. not (is_plain c)) bs)) (list_all is_plain bs) (marked bs)

pub has_mark : (v : List ℕ) (n : ℕ) → n ≡ length v → n ≤ 64 → not (eqb (mask_l (map (top 7) (marks n v)) % 2 ^ 64) 0) ≡ not (list_all is_plain v)
has_mark v n e few =
    ap (λ k. not (eqb (mask_l (map (top 7) (marks k v)) % 2 ^ 64) 0)) e
    ∙ ap (λ ms. not (eqb (mask_l ms % 2 ^ 64) 0)) (each_mark v)
    ∙ ap (λ m. not (eqb m 0)) (mask_l-mod (map (λ b. not (is_plain b)) v) 64 (omega (arith, length-map v (λ b. not (is_plain b)))))
    ∙ marked v

head_or_tail : (p b c : Bool) → (p && b) ≡ false → (b ≡ false → c ≡ false) → (p && c) ≡ false
head_or_tail true b c h f = f h
head_or_tail false b c h f = refl

and_no : (p : Bool) → (p && false) ≡ false
and_no true = refl
and_no false = refl

both : (p b c : Bool) → (p && b) ≡ true → (b ≡ true → c ≡ true) → (p && c) ≡ true
both true b c h f = f h
both false b c h f = absurd (cc)

prefix_fails : (xs : List ℕ) (n : ℕ) → list_all is_plain (take n xs) ≡ false → list_all is_plain xs ≡ false
prefix_fails [] zero h = h
prefix_fails [] (suc n) h = h
prefix_fails (x ∷ xs) zero h = absurd (cc)
prefix_fails (x ∷ xs) (suc n) h = head_or_tail (is_plain x) (list_all is_plain (take n xs)) (list_all is_plain xs) h (prefix_fails xs n)

-- where a part has a special byte, the whole has
pub part_fails : (i n : ℕ) (xs : List ℕ) → list_all is_plain (take n (drop i xs)) ≡ false → list_all is_plain xs ≡ false
part_fails zero n xs h = prefix_fails xs n h
part_fails (suc i) n [] h = prefix_fails [] n h
part_fails (suc i) n (x ∷ xs) h = ap (λ b. is_plain x && b) (part_fails i n xs h) ∙ and_no (is_plain x)

-- a front that is all plain, and the part after it
pub prefix_grows : (i n : ℕ) (xs : List ℕ) → list_all is_plain (take i xs) ≡ true → list_all is_plain (take n (drop i xs)) ≡ true
    → list_all is_plain (take (i + n) xs) ≡ true
prefix_grows i n xs h k =
    ap (list_all is_plain) (take-add i n xs) ∙ list_all-append is_plain (take i xs) (take n (drop i xs)) ∙ ap (λ b. b && list_all is_plain (take n (drop i xs))) h ∙ k

shorter_prefix : (m n : ℕ) (xs : List ℕ) → m ≤ n → list_all is_plain (take n xs) ≡ true → list_all is_plain (take m xs) ≡ true
shorter_prefix zero n xs le h = refl
shorter_prefix (suc m) zero xs le h = absurd (omega arith)
shorter_prefix (suc m) (suc n) [] le h = refl
shorter_prefix (suc m) (suc n) (x ∷ xs) le h = both (is_plain x) (list_all is_plain (take n xs)) (list_all is_plain (take m xs)) h (shorter_prefix m n xs (omega arith))

-- after a front that is all plain, no more than the last part is left
pub last_tells : (i n : ℕ) (xs : List ℕ) → list_all is_plain (take i xs) ≡ true → n ≤ length xs → length xs ≤ i + n → (b : Bool)
    → b ≡ list_all is_plain (take n (drop (length xs - n) xs)) → b ≡ list_all is_plain xs
last_tells i n xs h few most false e = sym (part_fails (length xs - n) n xs (sym e))
last_tells i n xs h few most true e =
    let k = prefix_grows (length xs - n) n xs (shorter_prefix (length xs - n) i xs (omega arith) h) (sym e) in
    sym k ∙ ap (list_all is_plain) (take_all (length xs - n + n) xs (omega arith))

pub is_where : (r b : Bool) → r ≡ not b → r ≡ false → b ≡ true
is_where r true e h = refl
is_where r false e h = absurd (cc)

pub is_not_where : (r b : Bool) → r ≡ not b → r ≡ true → b ≡ false
is_not_where r true e h = absurd (cc)
is_not_where r false e h = refl

pub not_not : (r b : Bool) → r ≡ not b → not r ≡ b
not_not r true e = ap not e
not_not r false e = ap not e
