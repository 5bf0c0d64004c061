-- How what holds after a history goes on by one event.
use Rattle.std.proofs.Common.{◌≡◌, ◌∙◌, sym, ap, refl, Bool, true, false, ◌&&◌, ◌||◌, not, cond, List, [], ◌∷◌, ◌++◌, Option, Some, None, append_assoc, subst, ℕ, zero, suc, ◌+◌, ◌<◌, length, take, drop, map, get_or}
use Rattle.std.proofs.lemmas.List.{append-nil, map-append, take_more, take-append-drop}
use Rattle.std.proofs.lemmas.List.Folds.{list_any-append}
use Rattle.std.specs.List.{list_any}
use Rattle.std.specs.Option.{option_or}
use Rattle.lint_base.specs.Grown.{GrownBy}
use Rattle.lint_base.specs.GrownLaws.{grown_by_first, grown_by_second}
use Rattle.lint_transaction.specs.Earlier.{concat_below}
use Rattle.lint_transaction.specs.Events.{each_event, any_event, since_event, last_event}

or_assoc : (a b c : Bool) → (a || (b || c)) ≡ ((a || b) || c)
or_assoc true b c = refl
or_assoc false b c = refl

pub or_false : (a : Bool) → (a || false) ≡ a
or_false true = refl
or_false false = refl

module _ {E A : Type 0} (f : List E → E → List A) where
  -- the pieces of some events, and then of those after them
  pub each_event-append : (before xs ys : List E) → each_event f before (xs ++ ys) ≡ each_event f before xs ++ each_event f (before ++ xs) ys
  each_event-append before [] ys = ap (λ b. each_event f b ys) (sym (append-nil before))
  each_event-append before (x ∷ xs) ys =
      ap (λ r. f before x ++ r) (each_event-append (before ++ x ∷ []) xs ys ∙ ap (λ b. each_event f (before ++ x ∷ []) xs ++ each_event f b ys) (append_assoc before (x ∷ []) xs))
      ∙ sym (append_assoc (f before x) (each_event f (before ++ x ∷ []) xs) (each_event f (before ++ x ∷ xs) ys))

  -- one more event
  pub each_event-next : (before xs : List E) (x : E) → each_event f before (xs ++ x ∷ []) ≡ each_event f before xs ++ f (before ++ xs) x
  each_event-next before xs x = each_event-append before xs (x ∷ []) ∙ ap (λ r. each_event f before xs ++ r) (append-nil (f (before ++ xs) x))

module _ {E : Type 0} (f : List E → E → Bool) where
  -- one more event
  pub any_event-next : (before xs : List E) (x : E) → any_event f before (xs ++ x ∷ []) ≡ (any_event f before xs || f (before ++ xs) x)
  any_event-next before [] x = or_false (f before x) ∙ ap (λ b. f b x) (sym (append-nil before))
  any_event-next before (y ∷ ys) x =
      ap (λ r. f before y || r) (any_event-next (before ++ y ∷ []) ys x ∙ ap (λ b. any_event f (before ++ y ∷ []) ys || f b x) (append_assoc before (y ∷ []) ys))
      ∙ or_assoc (f before y) (any_event f (before ++ y ∷ []) ys) (f (before ++ y ∷ ys) x)

module _ {E : Type 0} (mark reset : E → Bool) where
  marked : (m r s a b : Bool) → ((m && not (a || r)) || (b || (s && not r))) ≡ (b || (((m && not a) || s) && not r))
  marked m r s a true = tauto m r s a
    where
      tauto : (m r s a : Bool) → ((m && not (a || r)) || true) ≡ true
      tauto true true s true = refl
      tauto true true s false = refl
      tauto true false s true = refl
      tauto true false s false = refl
      tauto false r s a = refl
  marked true true true true false = refl
  marked true true true false false = refl
  marked true true false true false = refl
  marked true true false false false = refl
  marked true false true true false = refl
  marked true false true false false = refl
  marked true false false true false = refl
  marked true false false false false = refl
  marked false r s a false = refl

  -- one more event: it is marked, or it was so before and this one does not reset
  pub since_event-next : (xs : List E) (x : E) → since_event mark reset (xs ++ x ∷ []) ≡ (mark x || (since_event mark reset xs && not (reset x)))
  since_event-next [] x = by (mark x)
    where
      by : (m : Bool) → ((m && true) || false) ≡ (m || false)
      by true = refl
      by false = refl
  since_event-next (y ∷ ys) x =
      (λ i. (mark y && not (list_any-append reset ys (x ∷ []) i)) || since_event-next ys x i)
      ∙ ap (λ r. (mark y && not (list_any reset ys || r)) || (mark x || (since_event mark reset ys && not (reset x)))) (or_false (reset x))
      ∙ marked (mark y) (reset x) (since_event mark reset ys) (list_any reset ys) (mark x)

module _ {E : Type 0} (p : E → Bool) where
  or_some : (b : Bool) (x : E) (o q : Option E) → option_or (cond b (Some x) o) q ≡ cond b (Some x) (option_or o q)
  or_some true x o q = refl
  or_some false x o q = refl

  -- one more event
  pub last_event-next : (xs : List E) (x : E) → last_event p (xs ++ x ∷ []) ≡ cond (p x) (Some x) (last_event p xs)
  last_event-next [] x = refl
  last_event-next (y ∷ ys) x =
      ap (λ o. option_or o (cond (p y) (Some y) None)) (last_event-next ys x) ∙ or_some (p x) x (last_event p ys) (cond (p y) (Some y) None)

  -- one more event: some event passes
  pub list_any-next : (xs : List E) (x : E) → list_any p (xs ++ x ∷ []) ≡ (list_any p xs || p x)
  list_any-next xs x = list_any-append p xs (x ∷ []) ∙ ap (λ b. list_any p xs || b) (or_false (p x))

-- ---- a loop over what makes the events

module _ {E X A : Type 0} (f : List E → E → List A) (g : X → E) (xs : List X) (k : ℕ) (x : X) (within : k < length xs) (is : x ≡ get_or xs k x) (es : List E) where
  -- the events so far
  abbrev so_far : List E
  so_far = map g (take k xs)

  one_more : map g (take (k + 1) xs) ≡ so_far ++ g x ∷ []
  one_more = ap (map g) (take_more xs k x within ∙ ap (λ y. take k xs ++ y ∷ []) (sym is)) ∙ map-append g (take k xs) (x ∷ [])

  pub history_next : (es ++ so_far) ++ g x ∷ [] ≡ es ++ map g (take (k + 1) xs)
  history_next = append_assoc es so_far (g x ∷ []) ∙ ap (λ ys. es ++ ys) (sym one_more)

  -- the pieces so far, and this one
  each_so_far : each_event f es (map g (take (k + 1) xs)) ≡ each_event f es so_far ++ f (es ++ so_far) (g x)
  each_so_far = ap (each_event f es) one_more ∙ each_event-next f es so_far (g x)

  pub pieces_next : (old mid new : List A) → mid ≡ old ++ each_event f es so_far → new ≡ mid ++ f (es ++ so_far) (g x) → new ≡ old ++ each_event f es (map g (take (k + 1) xs))
  pieces_next old mid new m n =
      n ∙ ap (λ r. r ++ f (es ++ so_far) (g x)) m ∙ append_assoc old (each_event f es so_far) (f (es ++ so_far) (g x)) ∙ ap (λ r. old ++ r) (sym each_so_far)

  all_pieces : (each_event f es so_far ++ f (es ++ so_far) (g x)) ++ each_event f (es ++ map g (take (k + 1) xs)) (map g (drop (k + 1) xs)) ≡ each_event f es (map g xs)
  all_pieces =
      ap (λ r. r ++ each_event f (es ++ map g (take (k + 1) xs)) (map g (drop (k + 1) xs))) (sym each_so_far)
      ∙ sym (each_event-append f es (map g (take (k + 1) xs)) (map g (drop (k + 1) xs)))
      ∙ ap (each_event f es) (sym (map-append g (take (k + 1) xs) (drop (k + 1) xs)) ∙ ap (map g) (take-append-drop (k + 1) xs))

  -- the pieces so far, and then a prefix of this one, are a prefix of all
  pub pieces_front : (old mid new : List A) → mid ≡ old ++ each_event f es so_far → GrownBy mid new (f (es ++ so_far) (g x)) → GrownBy old new (each_event f es (map g xs))
  pieces_front old mid new m h =
      subst (λ r. GrownBy old new r) all_pieces
      (grown_by_first old new (each_event f es so_far ++ f (es ++ so_far) (g x)) (each_event f (es ++ map g (take (k + 1) xs)) (map g (drop (k + 1) xs)))
      (grown_by_second old mid new (each_event f es so_far) (f (es ++ so_far) (g x)) m h))

-- ---- a history in parts

-- the pieces of the parts are those of the whole
pub history_whole : {E A : Type 0} (f : List E → E → List A) (h : ℕ → List E) (n : ℕ) → concat_below (λ i. each_event f (concat_below h i) (h i)) n ≡ each_event f [] (concat_below h n)
history_whole f h zero = refl
history_whole f h (suc n) = ap (λ r. r ++ each_event f (concat_below h n) (h n)) (history_whole f h n) ∙ sym (each_event-append f [] (concat_below h n) (h n))
