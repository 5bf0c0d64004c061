-- Pieces at the front of two texts.
use Rattle.std.proofs.Common.{◌≡◌, ℕ, ◌+◌, ◌-◌, ◌<◌, Bool, true, false, List, [], ◌∷◌, ◌++◌, length, get_or, take, drop, map, refl, sym, ap, ◌∙◌, arith, length-drop, append_assoc, append-nil, if◌then◌else◌}
use Rattle.std.proofs.lemmas.List.{map-append, take-append-drop, take_all, take_more}
use Rattle.std.proofs.Math.Seq.{take-add}
use Rattle.std.proofs.lemmas.Slice.Eq.{bytes_eq-Decides}
use Rattle.std.specs.Prelude.{not}
use Rattle.std.specs.Str.{bytes_eq}

-- one line more at the front of both
pub taken_more : {A B : Type 0} (f : A → B) (xs ys : List A) (i : ℕ) (x y : A) → i < length xs → i < length ys → f (get_or xs i x) ≡ f (get_or ys i y)
    → map f (take i xs) ≡ map f (take i ys) → map f (take (i + 1) xs) ≡ map f (take (i + 1) ys)
taken_more f xs ys i x y in_xs in_ys same before =
    rw (take_more xs i x in_xs, take_more ys i y in_ys, map-append, map-append, before) (ap (λ z. map f (take i ys) ++ z ∷ []) same)

-- a piece of some lines and of some after them
pub two_pieces : {A B : Type 0} (f : A → B) (xs : List A) (k r : ℕ) (before middle after : List B) → middle ≡ before ++ map f (take k xs)
    → after ≡ middle ++ map f (take r (take (length xs - k) (drop k xs))) → after ≡ before ++ map f (take (k + r) xs)
two_pieces f xs k r before middle after p q =
    let whole : take (length xs - k) (drop k xs) ≡ drop k xs = take_all (length xs - k) (drop k xs) (omega (arith, length-drop k xs)) in
    let e : after ≡ middle ++ map f (take r (drop k xs)) = rw whole at q in
    rw (take-add k r xs, map-append) (e ∙ rw p (append_assoc before (map f (take k xs)) (map f (take r (drop k xs)))))

-- the lines that are left are those after the piece
pub rest_left : {A B : Type 0} (f : A → B) (xs : List A) (k : ℕ) (before after all : List B)
    → before ++ map f xs ≡ all → after ≡ before ++ map f (take k xs) → after ++ map f (take (length xs - k) (drop k xs)) ≡ all
rest_left f xs k before after all p q =
    let rest : take (length xs - k) (drop k xs) ≡ drop k xs = take_all (length xs - k) (drop k xs) (omega (arith, length-drop k xs)) in
    let whole : map f (take k xs) ++ map f (drop k xs) ≡ map f xs = sym (map-append f (take k xs) (drop k xs)) ∙ ap (map f) (take-append-drop k xs) in
    rw (q, rest) (append_assoc before (map f (take k xs)) (map f (drop k xs)) ∙ ap (λ l. before ++ l) whole ∙ p)

-- two lines that a test found the same
pub not_apart : (test : Bool) (xs ys : List ℕ) → test ≡ not (bytes_eq xs ys) → test ≡ false → xs ≡ ys
not_apart test xs ys is false_is = (bytes_eq-Decides xs ys).0 (by (bytes_eq xs ys) (sym is ∙ false_is))
  where
    by : (b : Bool) → not b ≡ false → b ≡ true
    by true e = refl
    by false e = sym e
