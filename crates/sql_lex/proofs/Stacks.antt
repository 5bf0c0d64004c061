-- Counting back finds what a stack has on top.
use Rattle.std.proofs.Common.{◌≡◌, ℕ, suc, zero, ◌+◌, ◌-◌, ◌<◌, ◌≤◌, ◌==◌, Bool, true, false, not, ◌&&◌, nat_le, nat_lt, if◌then◌else◌, List, [], ◌∷◌, length, take, drop, get_or, refl, sym, ap, ◌∙◌, arith, Option, Some, None, ◌⊎◌, inl, inr}
use Rattle.std.specs.Prelude.{option_map}
use Rattle.std.proofs.lemmas.Bool.Decides.{nat_tests}
use Rattle.std.proofs.lemmas.List.{take_rest}
use Rattle.sql_token.specs.declared.terminal.Symbol.{Symbol}
use Rattle.sql_token.specs.declared.terminal.Symbol.TheVariants as s
use Rattle.sql_token.specs.declared.terminal.Terminal.{Terminal}
use Rattle.sql_token.specs.sql_keyword.declared.words.TheConstants.Keyword.{BEGIN}
use Rattle.sql_token.specs.Terminal.{is_keyword, is_opener, is_closer, is_round, is_unicode_name, is_opener_symbol, is_closer_symbol}
use Rattle.sql_token.specs.Sound.{partner, matches, opened, closed, sound_from, is_sound, begins_atomic}
use Rattle.sql_lex.specs.Stack.{StandsAnywhere, nests, popped, none_open}

tail : List Bool → List Bool
tail [] = []
tail (b ∷ bs) = bs

-- the open brackets, the innermost first
unclosed : List Terminal → List Bool
unclosed [] = []
unclosed (t ∷ earlier) = if is_opener t then is_round t ∷ unclosed earlier else (if is_closer t then tail (unclosed earlier) else unclosed earlier)

nth : List Bool → ℕ → Option Bool
nth [] d = None
nth (b ∷ bs) zero = Some b
nth (b ∷ bs) (suc d) = nth bs d

nth_tail : (bs : List Bool) (d : ℕ) → nth (tail bs) d ≡ nth bs (suc d)
unfolding nth tail
nth_tail [] d = refl
nth_tail (b ∷ bs) d = refl

found_zero : (o c : Bool) (t : Terminal) (bs : List Bool) (p q : Option Terminal) → option_map is_round p ≡ nth bs 1 → option_map is_round q ≡ nth bs 0
    → option_map is_round (if o then Some t else (if c then p else q)) ≡ nth (if o then is_round t ∷ bs else (if c then tail bs else bs)) 0
unfolding nth
found_zero true c t bs p q e f = refl
found_zero false true t bs p q e f = e ∙ sym (nth_tail bs 0)
found_zero false false t bs p q e f = f

found_suc : (o c : Bool) (t : Terminal) (bs : List Bool) (d : ℕ) (r p q : Option Terminal) → option_map is_round r ≡ nth bs d → option_map is_round p ≡ nth bs (suc (suc d)) → option_map is_round q ≡ nth bs (suc d)
    → option_map is_round (if o then r else (if c then p else q)) ≡ nth (if o then is_round t ∷ bs else (if c then tail bs else bs)) (suc d)
unfolding nth
found_suc true c t bs d r p q g e f = g
found_suc false true t bs d r p q g e f = e ∙ sym (nth_tail bs (suc d))
found_suc false false t bs d r p q g e f = f

-- Counting back over d of them finds the one that is there.
found : (d : ℕ) (earlier : List Terminal) → option_map is_round (partner d earlier) ≡ nth (unclosed earlier) d
unfolding unclosed nth
found zero [] = refl
found (suc d) [] = refl
found zero (t ∷ earlier) = found_zero (is_opener t) (is_closer t) t (unclosed earlier) _ _ (found 1 earlier) (found 0 earlier)
found (suc d) (t ∷ earlier) = found_suc (is_opener t) (is_closer t) t (unclosed earlier) d _ _ _ (found d earlier) (found (suc (suc d)) earlier) (found (suc d) earlier)

flip : (w b : Bool) → (if not w then b else false) ≡ (if w then false else b)
flip true b = refl
flip false b = refl

which : (b : Bool) → (b ≡ true) ⊎ (b ≡ false)
which true = inl refl
which false = inr refl

open_case : (x y l : ℕ) (a b : Bool) → l + y ≡ x → a ≡ b → (if nat_lt x (y + 128) then a else false) ≡ (if nat_le 128 l then false else b)
open_case x y l a b h e = grind (arith, nat_tests)

close_case : (p : Option Terminal) (st : List Bool) (t : Terminal) (a : Bool) (f : List Bool → Bool) → option_map is_round p ≡ nth st 0 → (0 < length st → a ≡ f (tail st))
    → (if matches p t then a else false) ≡ popped st (is_round t) f
unfolding nth tail
close_case None [] t a f e h = refl
close_case None (b ∷ bs) t a f e h = cc
close_case (Some o) [] t a f e h = cc
close_case (Some o) (b ∷ bs) t a f e h =
    let is : is_round o ≡ b = cc in
    rw (is, h (omega arith)) refl

even : (st : List Bool) (x y : ℕ) → length st + y ≡ x → (x == y) ≡ none_open st
even [] x y h = grind (arith, nat_tests)
even (b ∷ bs) x y h = grind (arith, nat_tests)

plain_case : (x y : ℕ) (st : List Bool) (w a b : Bool) → length st + y ≡ x → a ≡ b → (if not (x == y && w) then a else false) ≡ (if none_open st && w then false else b)
plain_case x y st w a b h e = rw (even st x y h, e) (flip (none_open st && w) b)

shorter : (bs : List Bool) (x y : ℕ) → 0 < length bs → length bs + x ≡ y → length (tail bs) + suc x ≡ y
unfolding tail
shorter [] x y some h = absurd (omega arith)
shorter (b ∷ bs) x y some h = omega arith

symbol_not_both : (y : Symbol) → is_opener_symbol y ≡ true → is_closer_symbol y ≡ false
symbol_not_both s.OpenRound e = refl
symbol_not_both s.OpenSquare e = refl
symbol_not_both _ e = cc

not_both : (t : Terminal) → is_opener t ≡ true → is_closer t ≡ false
unfolding is_opener is_closer
not_both t e = symbol_not_both t.symbol e

bridge : (e ts : List Terminal) → length (unclosed e) + closed e ≡ opened e → sound_from e ts ≡ nests (unclosed e) ts
unfolding unclosed tail
bridge e [] h = even (unclosed e) (opened e) (closed e) h
bridge e (t ∷ ts) h =
    elim (which (is_unicode_name t)) [
      | inl u ↦ rw u refl
      | inr u ↦
          elim (which (is_opener t)) [
            | inl o ↦ (let c = not_both t o in
                let more : length (unclosed (t ∷ e)) + closed (t ∷ e) ≡ opened (t ∷ e) = rw (o, c) (omega arith) in
                let again = rw o at (bridge (t ∷ e) ts more) in
                rw (u, o) (open_case (opened e) (closed e) (length (unclosed e)) _ _ h again))
            | inr o ↦ elim (which (is_closer t)) [
              | inl c ↦ rw (u, o, c) (close_case (partner 0 e) (unclosed e) t _ (λ rest. nests rest ts) (found 0 e) (λ some.
                  let more : length (unclosed (t ∷ e)) + closed (t ∷ e) ≡ opened (t ∷ e) = rw (o, c) (shorter (unclosed e) _ _ some h) in
                  rw (o, c) at (bridge (t ∷ e) ts more)))
              | inr c ↦ (let more : length (unclosed (t ∷ e)) + closed (t ∷ e) ≡ opened (t ∷ e) = rw (o, c) h in
                  let again = rw (o, c) at (bridge (t ∷ e) ts more) in
                  rw (u, o, c) (plain_case (opened e) (closed e) (unclosed e) _ _ _ h again))
            ]
          ]
    ]

pub sound_nests : (ts : List Terminal) → nests [] ts ≡ is_sound ts
unfolding is_sound unclosed
sound_nests ts = sym (bridge [] ts refl)

never_atomic : (t : Terminal) (ts : List Terminal) → is_keyword BEGIN t ≡ false → begins_atomic t ts ≡ false
unfolding begins_atomic
never_atomic t [] h = refl
never_atomic t (u ∷ us) h = rw h refl

passed_by : (b x : Bool) → (if b && false then false else x) ≡ x
passed_by true x = refl
passed_by false x = refl

stands_anywhere : (st : List Bool) (t : Terminal) (ts : List Terminal) → StandsAnywhere t → nests st (t ∷ ts) ≡ nests st ts
stands_anywhere st t ts h = rw (h.name, h.opener, h.closer, never_atomic t ts h.begin) (passed_by (none_open st) (nests st ts))

-- a terminal at the front that may be anywhere is passed by
pub pass_by : (st : List Bool) (ts : List Terminal) (t : Terminal) → 1 ≤ length ts → StandsAnywhere (get_or ts 0 t) → nests st (take (length ts - 1) (drop 1 ts)) ≡ nests st ts
pass_by st [] t some h = absurd (omega arith)
pass_by st (u ∷ us) t some h = ap (nests st) (take_rest (u ∷ us) 1) ∙ sym (stands_anywhere st u us h)
