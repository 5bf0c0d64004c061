-- The token of a terminal, and the numbers of terminals.
use Rattle.std.proofs.Common.{◌≡◌, ℕ, suc, ◌+◌, ◌<◌, ◌≤◌, Bool, true, false, cond, List, [], ◌∷◌, ◌++◌, length, sym, refl, ap, ◌∙◌, arith}
use Rattle.law_edit_cuts.specs.sql_token.declared.token.Tok.{Tok}
use Rattle.law_edit_cuts.specs.sql_token.declared.terminal.Terminal.{Terminal}
use Rattle.law_edit_cuts.specs.sql_token.Token.{Text}
use Rattle.law_edit_cuts.specs.sql_token.Terminal.{is_significant, terminals_from}
use Rattle.law_edit_tokens.specs.Terminals.{term_of}

-- ---- tokens

-- the terminal r is the token k, which is token n + length front where the first of these has the number n
pub record TermAt (t : Text) (n : ℕ) (toks : List Tok) (xs : List Terminal) (r : Terminal) (ys : List Terminal) : Type 0 where
  pub front : List Tok
  pub k : Tok
  pub after : List Tok
  pub parts : toks ≡ front ++ k ∷ after
  pub significant : is_significant k.kind ≡ true
  pub here : r ≡ term_of t (n + length front) k
  pub earlier : xs ≡ terminals_from t n front
  pub later : ys ≡ terminals_from t (n + length front + 1) after

pub term_at : (t : Text) (n : ℕ) (toks : List Tok) (xs : List Terminal) (r : Terminal) (ys : List Terminal) → terminals_from t n toks ≡ xs ++ r ∷ ys → TermAt t n toks xs r ys
term_at t n [] [] r ys e = cc
term_at t n [] (x ∷ xs) r ys e = cc
term_at t n (k ∷ ks) xs r ys e = by (is_significant k.kind) xs refl e (λ us q. term_at t (n + 1) ks us r ys q)
  where
    next : (m : ℕ) → n + 1 + m ≡ n + suc m
    next m = omega arith

    further : (b : Bool) (us vs : List Terminal) → is_significant k.kind ≡ b → vs ≡ cond b (term_of t n k ∷ us) us → TermAt t (n + 1) ks us r ys → TermAt t n (k ∷ ks) vs r ys
    further b us vs s q h =
        let earlier = h.earlier in
        record {
          front = k ∷ h.front;
          k = h.k;
          after = h.after;
          parts = ap (λ (x : List Tok). k ∷ x) h.parts;
          significant = h.significant;
          here = h.here ∙ ap (λ (x : ℕ). term_of t x h.k) (next (length h.front));
          earlier = q ∙ (λ i. cond (sym s i) (term_of t n k ∷ earlier i) (earlier i));
          later = h.later ∙ ap (λ (x : ℕ). terminals_from t (x + 1) h.after) (next (length h.front));
        }

    by : (b : Bool) (xs : List Terminal) → is_significant k.kind ≡ b → cond b (term_of t n k ∷ terminals_from t (n + 1) ks) (terminals_from t (n + 1) ks) ≡ xs ++ r ∷ ys →
        ((us : List Terminal) → terminals_from t (n + 1) ks ≡ us ++ r ∷ ys → TermAt t (n + 1) ks us r ys) → TermAt t n (k ∷ ks) xs r ys
    by true [] s e next =
        let zero : n + 0 ≡ n = omega arith in
        record {
          front = [];
          k = k;
          after = ks;
          parts = refl;
          significant = s;
          here = first e ∙ ap (λ (x : ℕ). term_of t x k) (sym zero);
          earlier = refl;
          later = rest e ∙ ap (λ (x : ℕ). terminals_from t (x + 1) ks) (sym zero);
        }
      where
        first : {x y : Terminal} {us vs : List Terminal} → x ∷ us ≡ y ∷ vs → y ≡ x
        first e = cc

        rest : {x y : Terminal} {us vs : List Terminal} → x ∷ us ≡ y ∷ vs → vs ≡ us
        rest e = cc
    by true (x ∷ xs) s e next = further true xs (x ∷ xs) s (λ i. first e i ∷ xs) (next xs (rest e))
      where
        first : {x y : Terminal} {us vs : List Terminal} → x ∷ us ≡ y ∷ vs → y ≡ x
        first e = cc

        rest : {x y : Terminal} {us vs : List Terminal} → x ∷ us ≡ y ∷ vs → us ≡ vs
        rest e = cc
    by false xs s e next = further false xs xs s refl (next xs e)

-- the tokens of the first terminals, and the others
pub record TermsAt (t : Text) (n : ℕ) (toks : List Tok) (xs ys : List Terminal) : Type 0 where
  pub front : List Tok
  pub after : List Tok
  pub parts : toks ≡ front ++ after
  pub earlier : terminals_from t n front ≡ xs
  pub later : terminals_from t (n + length front) after ≡ ys

pub terms_at : (t : Text) (n : ℕ) (toks : List Tok) (xs ys : List Terminal) → terminals_from t n toks ≡ xs ++ ys → TermsAt t n toks xs ys
terms_at t n toks [] ys e =
    let zero : n + 0 ≡ n = omega arith in
    record { front = []; after = toks; parts = refl; earlier = refl; later = ap (λ (x : ℕ). terminals_from t x toks) zero ∙ e }
terms_at t n [] (x ∷ xs) ys e = cc
terms_at t n (k ∷ ks) (x ∷ xs) ys e = by (is_significant k.kind) refl e (λ us h. terms_at t (n + 1) ks us ys h)
  where
    next : (m : ℕ) → n + 1 + m ≡ n + suc m
    next m = omega arith

    first : {x y : Terminal} {us vs : List Terminal} → x ∷ us ≡ y ∷ vs → x ≡ y
    first e = cc

    rest : {x y : Terminal} {us vs : List Terminal} → x ∷ us ≡ y ∷ vs → us ≡ vs
    rest e = cc

    by : (b : Bool) → is_significant k.kind ≡ b → cond b (term_of t n k ∷ terminals_from t (n + 1) ks) (terminals_from t (n + 1) ks) ≡ x ∷ (xs ++ ys) →
        ((us : List Terminal) → terminals_from t (n + 1) ks ≡ us ++ ys → TermsAt t (n + 1) ks us ys) → TermsAt t n (k ∷ ks) (x ∷ xs) ys
    by true s e more =
        let r = more xs (rest e) in
        let earlier = r.earlier in
        let here = first e in
        record {
          front = k ∷ r.front;
          after = r.after;
          parts = ap (λ (l : List Tok). k ∷ l) r.parts;
          earlier = (λ i. cond (s i) (term_of t n k ∷ terminals_from t (n + 1) r.front) (terminals_from t (n + 1) r.front)) ∙ (λ i. here i ∷ earlier i);
          later = ap (λ (m : ℕ). terminals_from t m r.after) (sym (next (length r.front))) ∙ r.later;
        }
    by false s e more =
        let r = more (x ∷ xs) e in
        record {
          front = k ∷ r.front;
          after = r.after;
          parts = ap (λ (l : List Tok). k ∷ l) r.parts;
          earlier = (λ i. cond (s i) (term_of t n k ∷ terminals_from t (n + 1) r.front) (terminals_from t (n + 1) r.front)) ∙ r.earlier;
          later = ap (λ (m : ℕ). terminals_from t m r.after) (sym (next (length r.front))) ∙ r.later;
        }

-- ---- bounds

unfoldable pub AtLeast : ℕ → List Terminal → Type 0
AtLeast lo [] = Unit {0}
AtLeast lo (t ∷ ts) = (lo ≤ t.number) × AtLeast lo ts

unfoldable pub Under : ℕ → List Terminal → Type 0
Under hi [] = Unit {0}
Under hi (t ∷ ts) = (t.number < hi) × Under hi ts

pub least_parts : (lo : ℕ) (ts us : List Terminal) → AtLeast lo (ts ++ us) → AtLeast lo ts × AtLeast lo us
unfolding AtLeast
least_parts lo [] us h = (tt, h)
least_parts lo (t ∷ ts) us h = let p = least_parts lo ts us h.1 in ((h.0, p.0), p.1)

pub under_parts : (hi : ℕ) (ts us : List Terminal) → Under hi (ts ++ us) → Under hi ts × Under hi us
unfolding Under
under_parts hi [] us h = (tt, h)
under_parts hi (t ∷ ts) us h = let p = under_parts hi ts us h.1 in ((h.0, p.0), p.1)

pub under_both : (hi : ℕ) (ts us : List Terminal) → Under hi ts → Under hi us → Under hi (ts ++ us)
unfolding Under
under_both hi [] us h g = g
under_both hi (t ∷ ts) us h g = (h.0, under_both hi ts us h.1 g)

pub least_weaker : (lo low : ℕ) (ts : List Terminal) → low ≤ lo → AtLeast lo ts → AtLeast low ts
unfolding AtLeast
least_weaker lo low [] h g = tt
least_weaker lo low (t ∷ ts) h g = let p = g.0 in (omega arith, least_weaker lo low ts h g.1)

pub under_weaker : (hi high : ℕ) (ts : List Terminal) → hi ≤ high → Under hi ts → Under high ts
unfolding Under
under_weaker hi high [] h g = tt
under_weaker hi high (t ∷ ts) h g = let p = g.0 in (omega arith, under_weaker hi high ts h g.1)

pub least_none : (ts : List Terminal) → AtLeast 0 ts
unfolding AtLeast
least_none [] = tt
least_none (t ∷ ts) = (omega arith, least_none ts)

pub terms_least : (t : Text) (n : ℕ) (ks : List Tok) → AtLeast n (terminals_from t n ks)
unfolding AtLeast
terms_least t n [] = tt
terms_least t n (k ∷ ks) = by (is_significant k.kind) (least_weaker (n + 1) n (terminals_from t (n + 1) ks) (omega arith) (terms_least t (n + 1) ks))
  where
    by : (b : Bool) → AtLeast n (terminals_from t (n + 1) ks) → AtLeast n (cond b (term_of t n k ∷ terminals_from t (n + 1) ks) (terminals_from t (n + 1) ks))
    by true h = (omega arith, h)
    by false h = h

pub terms_under : (t : Text) (n : ℕ) (ks : List Tok) → Under (n + length ks) (terminals_from t n ks)
unfolding Under
terms_under t n [] = tt
terms_under t n (k ∷ ks) = by (is_significant k.kind) (under_weaker (n + 1 + length ks) (n + suc (length ks)) (terminals_from t (n + 1) ks) (omega arith) (terms_under t (n + 1) ks))
  where
    by : (b : Bool) → Under (n + suc (length ks)) (terminals_from t (n + 1) ks) → Under (n + suc (length ks)) (cond b (term_of t n k ∷ terminals_from t (n + 1) ks) (terminals_from t (n + 1) ks))
    by true h = (omega arith, h)
    by false h = h
