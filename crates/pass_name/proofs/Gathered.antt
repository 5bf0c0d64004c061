-- One more element joins its group, or opens one at the end.
use Rattle.std.proofs.Common.{◌≡◌, ◌∙◌, sym, ap, subst, refl, Bool, true, false, not, ◌&&◌, ◌||◌, cond, true≢false, List, [], ◌∷◌, ◌++◌, map, filter}
use Rattle.std.proofs.lemmas.List.{append-nil, map-append}
use Rattle.std.specs.Prelude.{All}
use Rattle.std.proofs.lemmas.List.Elements.{All-cons, All-head, All-nil, All-tail, filter-append}
use Rattle.std.proofs.lemmas.Map.Views.{any-filter_same}
use Rattle.std.proofs.lemmas.Simd.{map-map}
use Rattle.std.specs.List.{list_any}
use Rattle.pass_name.specs.Gathered.{put}
use Rattle.pass_name.specs.Groups.{alike, are_apart, firsts, groups, is_repeated}

module _ {K A : Type 0} (eq : K → K → Bool) (exact : (a b : K) → eq a b ≡ true → a ≡ b) (reflexive : (a : K) → eq a a ≡ true) (key : A → K) where
  abbrev same : A → A → Bool
  same x y = eq (key x) (key y)

  abbrev entry_of : List A → A → K × List A
  entry_of xs x = (key x, alike same xs x)

  -- each key with its elements
  abbrev pub gathered : List A → List (K × List A)
  gathered xs = map (entry_of xs) (firsts same xs)

  same-sym : (x y : A) → same x y ≡ true → same y x ≡ true
  same-sym x y h = subst (λ (k : K). eq (key y) k ≡ true) (sym (exact (key x) (key y) h)) (reflexive (key y))

  -- equal elements are equal to the same
  same-left : (x y z : A) → same x y ≡ true → same x z ≡ same y z
  same-left x y z h = ap (λ (k : K). eq k (key z)) (exact (key x) (key y) h)

  same-right : (x y z : A) → same x y ≡ true → same z x ≡ same z y
  same-right x y z h = ap (λ (k : K). eq (key z) k) (exact (key x) (key y) h)

  abbrev is_seen : A → List A → Bool
  is_seen z xs = list_any (λ y. same y z) xs

  new_first : (b c : Bool) (z : A) (n : A → Bool) → n z ≡ not c → filter n (cond b [] (z ∷ [])) ≡ cond (c || b) [] (z ∷ [])
  new_first true true z n e = refl
  new_first true false z n e = refl
  new_first false true z n e = ap (λ (b : Bool). cond b (z ∷ []) []) e
  new_first false false z n e = ap (λ (b : Bool). cond b (z ∷ []) []) e

  firsts-snoc : (xs : List A) (z : A) → firsts same (xs ++ z ∷ []) ≡ firsts same xs ++ cond (is_seen z xs) [] (z ∷ [])
  unfolding firsts
  firsts-snoc [] z = refl
  firsts-snoc (x ∷ xs) z =
      let n : A → Bool = λ y. not (same x y) in
      ap (λ ys. x ∷ filter n ys) (firsts-snoc xs z)
      ∙ ap (λ ys. x ∷ ys) (filter-append n (firsts same xs) (cond (is_seen z xs) [] (z ∷ [])))
      ∙ ap (λ ys. x ∷ (filter n (firsts same xs) ++ ys)) (new_first (is_seen z xs) (same x z) z n refl)

  -- an element is equal to a first one exactly where it is equal to any
  seen-firsts : (xs : List A) (z : A) → is_seen z (firsts same xs) ≡ is_seen z xs
  unfolding firsts
  seen-firsts [] z = refl
  seen-firsts (x ∷ xs) z = by (seen-firsts xs z) (same x z) refl
    where
      by : is_seen z (firsts same xs) ≡ is_seen z xs → (b : Bool) → same x z ≡ b → (same x z || is_seen z (filter (λ y. not (same x y)) (firsts same xs))) ≡ (same x z || is_seen z xs)
      by ih true e = ap (λ c. c || is_seen z (filter (λ y. not (same x y)) (firsts same xs))) e ∙ ap (λ c. c || is_seen z xs) (sym e)
      by ih false e =
          let apart : (y : A) → same y z ≡ true → not (same x y) ≡ true = λ y h. ap not (same-right y z x h ∙ e) in
          ap (λ c. same x z || c) (any-filter_same (λ y. same y z) (λ y. not (same x y)) true apart (firsts same xs) ∙ ih)

  abbrev IsApart : A → List A → Type 0
  IsApart x [] = Unit {0}
  IsApart x (y ∷ ys) = (same x y ≡ false) × IsApart x ys

  -- no two are equal
  abbrev AreApart : List A → Type 0
  AreApart [] = Unit {0}
  AreApart (x ∷ xs) = IsApart x xs × AreApart xs

  apart-filter : (p : A → Bool) (x : A) (ys : List A) → IsApart x ys → IsApart x (filter p ys)
  apart-filter p x [] h = tt
  apart-filter p x (y ∷ ys) h =
      elim (p y) as (λ (b : Bool). IsApart x (cond b (y ∷ filter p ys) (filter p ys))) [ true ↦ (h.0, apart-filter p x ys h.1) | false ↦ apart-filter p x ys h.1 ]

  all_apart-filter : (p : A → Bool) (ys : List A) → AreApart ys → AreApart (filter p ys)
  all_apart-filter p [] h = tt
  all_apart-filter p (y ∷ ys) h =
      elim (p y) as (λ (b : Bool). AreApart (cond b (y ∷ filter p ys) (filter p ys))) [ true ↦ (apart-filter p y ys h.0, all_apart-filter p ys h.1) | false ↦ all_apart-filter p ys h.1 ]

  apart-others : (x : A) (ys : List A) → IsApart x (filter (λ y. not (same x y)) ys)
  apart-others x [] = tt
  apart-others x (y ∷ ys) = by (apart-others x ys) (same x y) refl
    where
      by : IsApart x (filter (λ w. not (same x w)) ys) → (b : Bool) → same x y ≡ b → IsApart x (cond (not (same x y)) (y ∷ filter (λ w. not (same x w)) ys) (filter (λ w. not (same x w)) ys))
      by ih true e = subst (λ (b : Bool). IsApart x (cond (not b) (y ∷ filter (λ w. not (same x w)) ys) (filter (λ w. not (same x w)) ys))) (sym e) ih
      by ih false e = subst (λ (b : Bool). IsApart x (cond (not b) (y ∷ filter (λ w. not (same x w)) ys) (filter (λ w. not (same x w)) ys))) (sym e) (e, ih)

  apart-firsts : (xs : List A) → AreApart (firsts same xs)
  unfolding firsts
  apart-firsts [] = tt
  apart-firsts (x ∷ xs) = (apart-others x (firsts same xs), all_apart-filter (λ y. not (same x y)) (firsts same xs) (apart-firsts xs))

  alike-same : (xs : List A) (y z : A) → same y z ≡ true → alike same (xs ++ z ∷ []) y ≡ alike same xs y ++ z ∷ []
  alike-same xs y z e = filter-append (same y) xs (z ∷ []) ∙ ap (λ (b : Bool). alike same xs y ++ cond b (z ∷ []) []) e

  alike-other : (xs : List A) (y z : A) → same y z ≡ false → alike same (xs ++ z ∷ []) y ≡ alike same xs y
  alike-other xs y z e = filter-append (same y) xs (z ∷ []) ∙ ap (λ (b : Bool). alike same xs y ++ cond b (z ∷ []) []) e ∙ append-nil (alike same xs y)

  none-alike : (xs : List A) (z : A) → is_seen z xs ≡ false → alike same xs z ≡ []
  none-alike [] z h = refl
  none-alike (x ∷ xs) z h = by (none-alike xs z) (same x z) (same z x) refl refl
    where
      by : (is_seen z xs ≡ false → alike same xs z ≡ []) → (b c : Bool) → same x z ≡ b → same z x ≡ c → cond (same z x) (x ∷ alike same xs z) (alike same xs z) ≡ []
      by ih true c e f = absurd (true≢false (sym (ap (λ (d : Bool). d || is_seen z xs) e) ∙ h))
      by ih false true e f = absurd (true≢false (sym (same-sym z x f) ∙ e))
      by ih false false e f =
          ap (λ (d : Bool). cond d (x ∷ alike same xs z) (alike same xs z)) f ∙ ih (sym (ap (λ (d : Bool). d || is_seen z xs) e) ∙ h)

  -- where y is equal to z, the elements that are apart from y get nothing by z
  others-stay : (xs : List A) (y z : A) → same y z ≡ true → (ys : List A) → IsApart y ys → map (entry_of (xs ++ z ∷ [])) ys ≡ map (entry_of xs) ys
  others-stay xs y z e [] h = refl
  others-stay xs y z e (w ∷ ys) h = by (others-stay xs y z e ys h.1) (same w z) refl
    where
      by : map (entry_of (xs ++ z ∷ [])) ys ≡ map (entry_of xs) ys → (b : Bool) → same w z ≡ b → map (entry_of (xs ++ z ∷ [])) (w ∷ ys) ≡ map (entry_of xs) (w ∷ ys)
      by ih true f = absurd (true≢false (sym e ∙ sym (same-right w z y f) ∙ h.0))
      by ih false f = λ i. (key w, alike-other xs w z f i) ∷ ih i

  put-apart : (xs ys : List A) (z : A) → AreApart ys
      → put eq (map (entry_of xs) ys) (key z) z ≡ map (entry_of (xs ++ z ∷ [])) ys ++ cond (is_seen z ys) [] ((key z, z ∷ []) ∷ [])
  put-apart xs [] z h = refl
  put-apart xs (y ∷ ys) z h = by (put-apart xs ys z h.1) (same z y) refl
    where
      not_back : (b : Bool) → same y z ≡ b → same z y ≡ false → same y z ≡ false
      not_back true g e = absurd (true≢false (sym (same-sym y z g) ∙ e))
      not_back false g e = g

      by : put eq (map (entry_of xs) ys) (key z) z ≡ map (entry_of (xs ++ z ∷ [])) ys ++ cond (is_seen z ys) [] ((key z, z ∷ []) ∷ [])
          → (b : Bool) → same z y ≡ b
          → cond (same z y) ((key y, alike same xs y ++ z ∷ []) ∷ map (entry_of xs) ys) (entry_of xs y ∷ put eq (map (entry_of xs) ys) (key z) z)
          ≡ entry_of (xs ++ z ∷ []) y ∷ (map (entry_of (xs ++ z ∷ [])) ys ++ cond (same y z || is_seen z ys) [] ((key z, z ∷ []) ∷ []))
      by ih true e =
          let f : same y z ≡ true = same-sym z y e in
          ap (λ (b : Bool). cond b ((key y, alike same xs y ++ z ∷ []) ∷ map (entry_of xs) ys) (entry_of xs y ∷ put eq (map (entry_of xs) ys) (key z) z)) e
          ∙ (λ i. (key y, sym (alike-same xs y z f) i) ∷ sym (others-stay xs y z f ys h.0) i)
          ∙ ap (λ es. entry_of (xs ++ z ∷ []) y ∷ es) (sym (append-nil (map (entry_of (xs ++ z ∷ [])) ys)))
          ∙ ap (λ (b : Bool). entry_of (xs ++ z ∷ []) y ∷ (map (entry_of (xs ++ z ∷ [])) ys ++ cond (b || is_seen z ys) [] ((key z, z ∷ []) ∷ []))) (sym f)
      by ih false e =
          let f : same y z ≡ false = not_back (same y z) refl e in
          ap (λ (b : Bool). cond b ((key y, alike same xs y ++ z ∷ []) ∷ map (entry_of xs) ys) (entry_of xs y ∷ put eq (map (entry_of xs) ys) (key z) z)) e
          ∙ (λ i. (key y, sym (alike-other xs y z f) i) ∷ ih i)
          ∙ ap (λ (b : Bool). entry_of (xs ++ z ∷ []) y ∷ (map (entry_of (xs ++ z ∷ [])) ys ++ cond (b || is_seen z ys) [] ((key z, z ∷ []) ∷ []))) (sym f)

  -- one more element
  pub gathered-snoc : (xs : List A) (z : A) → gathered (xs ++ z ∷ []) ≡ put eq (gathered xs) (key z) z
  gathered-snoc xs z =
      let E : A → K × List A = entry_of (xs ++ z ∷ []) in
      ap (map E) (firsts-snoc xs z) ∙ map-append E (firsts same xs) (cond (is_seen z xs) [] (z ∷ []))
      ∙ ap (λ es. map E (firsts same xs) ++ es) (by (is_seen z xs) refl)
      ∙ ap (λ (b : Bool). map E (firsts same xs) ++ cond b [] ((key z, z ∷ []) ∷ [])) (sym (seen-firsts xs z))
      ∙ sym (put-apart xs (firsts same xs) z (apart-firsts xs))
    where
      by : (b : Bool) → is_seen z xs ≡ b → map (entry_of (xs ++ z ∷ [])) (cond (is_seen z xs) [] (z ∷ [])) ≡ cond (is_seen z xs) [] ((key z, z ∷ []) ∷ [])
      by true e = ap (λ (b : Bool). map (entry_of (xs ++ z ∷ [])) (cond b [] (z ∷ []))) e ∙ ap (λ (b : Bool). cond b [] ((key z, z ∷ []) ∷ [])) (sym e)
      by false e =
          ap (λ (b : Bool). map (entry_of (xs ++ z ∷ [])) (cond b [] (z ∷ []))) e
          ∙ (λ i. (key z, (alike-same xs z z (reflexive (key z)) ∙ ap (λ ys. ys ++ z ∷ []) (none-alike xs z e)) i) ∷ [])
          ∙ ap (λ (b : Bool). cond b [] ((key z, z ∷ []) ∷ [])) (sym e)

  -- the elements of the gathered
  pub gathered-alike : (xs : List A) → map (λ e. e.1) (gathered xs) ≡ map (alike same xs) (firsts same xs)
  gathered-alike xs = map-map (λ (e : K × List A). e.1) (entry_of xs) (firsts same xs)

  -- ---- lists in which no two elements are equal

  not_alike : (x : A) (xs : List A) → list_any (same x) xs ≡ false → alike same xs x ≡ []
  not_alike x [] h = refl
  not_alike x (y ∷ ys) h = by (not_alike x ys) (same x y) refl
    where
      by : (list_any (same x) ys ≡ false → alike same ys x ≡ []) → (b : Bool) → same x y ≡ b → alike same (y ∷ ys) x ≡ []
      by ih true e = absurd (true≢false (sym (ap (λ (b : Bool). b || list_any (same x) ys) e) ∙ h))
      by ih false e = ap (λ (b : Bool). cond b (y ∷ alike same ys x) (alike same ys x)) e ∙ ih (sym (ap (λ (b : Bool). b || list_any (same x) ys) e) ∙ h)

  abbrev IsSingle : List A → A → Type 0
  IsSingle xs y = is_repeated (alike same xs y) ≡ false

  -- an element that is not equal to x is as alone with x in front
  single_more : (x y : A) (xs : List A) → same x y ≡ false → IsSingle xs y → IsSingle (x ∷ xs) y
  single_more x y xs e h = by (same y x) refl
    where
      by : (b : Bool) → same y x ≡ b → IsSingle (x ∷ xs) y
      by true f = absurd (true≢false (sym (same-sym y x f) ∙ e))
      by false f = ap (λ (b : Bool). is_repeated (cond b (x ∷ alike same xs y) (alike same xs y))) f ∙ h

  singles_more : (x : A) (xs ys : List A) → All (IsSingle xs) ys → All (IsSingle (x ∷ xs)) (filter (λ y. not (same x y)) ys)
  singles_more x xs [] h = All-nil (IsSingle (x ∷ xs))
  singles_more x xs (y ∷ ys) h = by (singles_more x xs ys (All-tail (IsSingle xs) y ys h)) (same x y) refl
    where
      rest : List A
      rest = filter (λ y. not (same x y)) ys

      by : All (IsSingle (x ∷ xs)) rest → (b : Bool) → same x y ≡ b → All (IsSingle (x ∷ xs)) (cond (not (same x y)) (y ∷ rest) rest)
      by ih true e = subst (λ (b : Bool). All (IsSingle (x ∷ xs)) (cond (not b) (y ∷ rest) rest)) (sym e) ih
      by ih false e =
          subst (λ (b : Bool). All (IsSingle (x ∷ xs)) (cond (not b) (y ∷ rest) rest)) (sym e)
          (All-cons (IsSingle (x ∷ xs)) y rest (single_more x y xs e (All-head (IsSingle xs) y ys h)) ih)

  all_single : (xs : List A) → are_apart same xs ≡ true → All (IsSingle xs) (firsts same xs)
  unfolding firsts are_apart
  all_single [] h = All-nil (IsSingle [])
  all_single (x ∷ xs) h = by (all_single xs) (list_any (same x) xs) refl
    where
      alone : list_any (same x) xs ≡ false → IsSingle (x ∷ xs) x
      alone e = λ i. is_repeated (cond (reflexive (key x) i) (x ∷ not_alike x xs e i) (not_alike x xs e i))

      by : (are_apart same xs ≡ true → All (IsSingle xs) (firsts same xs)) → (b : Bool) → list_any (same x) xs ≡ b → All (IsSingle (x ∷ xs)) (firsts same (x ∷ xs))
      by ih true e = absurd (true≢false (sym h ∙ ap (λ (b : Bool). not b && are_apart same xs) e))
      by ih false e =
          All-cons (IsSingle (x ∷ xs)) x (filter (λ y. not (same x y)) (firsts same xs)) (alone e)
          (singles_more x xs (firsts same xs) (ih (sym (ap (λ (b : Bool). not b && are_apart same xs) e) ∙ h)))

  none_repeated : (xs ys : List A) → All (IsSingle xs) ys → filter is_repeated (map (alike same xs) ys) ≡ []
  none_repeated xs [] h = refl
  none_repeated xs (y ∷ ys) h =
      let more : List (List A) = filter is_repeated (map (alike same xs) ys) in
      ap (λ (b : Bool). cond b (alike same xs y ∷ more) more) (All-head (IsSingle xs) y ys h) ∙ none_repeated xs ys (All-tail (IsSingle xs) y ys h)

  -- where no two elements are equal, there are no groups
  pub apart_groups : (xs : List A) → are_apart same xs ≡ true → groups same xs ≡ []
  unfolding groups
  apart_groups xs h = none_repeated xs (firsts same xs) (all_single xs h)
