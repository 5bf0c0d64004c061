-- Tokens and paths where the word was inserted.
use Rattle.std.proofs.Common.{◌≡◌, ℕ, zero, suc, ◌+◌, ◌-◌, ◌<◌, ◌≤◌, ◌⊎◌, inl, inr, cond, List, [], ◌∷◌, ◌++◌, map, length, get_or, take, drop, length-append, length-drop, append_assoc, sym, refl, ap, ◌∙◌, subst, arith}
use Rattle.std.proofs.lemmas.Bool.{cases_lt}
use Rattle.std.proofs.lemmas.Bool.Decides.{nat_tests}
use Rattle.std.proofs.lemmas.List.{drop-drop, take-append-le, take-append-drop, length-take-le, map-append, take-map, drop-map, get_or_append_left, get_or-append_right, get_or-take, get_or-drop, get_or-map, length-map, take_more, drop_more}
use Rattle.std.specs.List.{flat_map}
use Rattle.law_edit_inserts.specs.sql_token.declared.token.Span.{Span}
use Rattle.law_edit_inserts.specs.sql_token.declared.token.Tok.{Tok}
use Rattle.law_edit_inserts.specs.sql_token.Terminal.{is_name_kind}
use Rattle.law_edit_inserts.specs.sql_token.Token.{Text, Leads, Lexed, text_of}
use Rattle.law_edit_inserts.proofs.of_sql_token.Ahead.{Agree}
use Rattle.law_edit_inserts.specs.sql_tree.Path.{name_cuts, tokens_in, path_cuts}
use Rattle.pass_concurrent.specs.sql_name.Name.{cut_name}
use Rattle.law_edit_inserts.specs.sql_tree.Range.{token_at}
use Rattle.law_edit_inserts.specs.sql_tree.Statement.{no_token}
use Rattle.law_edit_inserts.specs.law_renumber.Moved.{span_moved}
use Rattle.law_edit_inserts.specs.law_edit_tokens.Exchange.{exchanged, tok_moved, made_text, made_toks, reread}
use Rattle.law_edit_inserts.specs.law_edit_tokens.Edits.{concurrently_made}
use Rattle.law_edit_inserts.specs.Built.{room_after}
use Rattle.law_edit_inserts.proofs.of_law_edit_tokens.Same.{agree_drop, take_same}
use Rattle.law_edit_inserts.proofs.of_law_edit_tokens.Prefix.{leads_grow}
use Rattle.law_edit_inserts.proofs.of_law_edit_tokens.After.{exchanged_after, exchanged_agrees, leads_append}
use Rattle.law_edit_inserts.proofs.of_law_edit_tokens.After.{leads_split}

-- ---- the places of tokens

pub record PlaceIn (lo hi : ℕ) (k : Tok) : Type 0 where
  pub low : lo ≤ k.start
  pub some : k.start < k.end
  pub high : k.end ≤ hi

wider : (lo hi low high : ℕ) (k : Tok) → low ≤ lo → hi ≤ high → PlaceIn lo hi k → PlaceIn low high k
wider lo hi low high k p q h = let a = h.low in let b = h.high in record { low = omega arith; some = h.some; high = omega arith }

pub placed : (t : Text) (i e : ℕ) (ks : List Tok) (x : ℕ) → Leads t i ks e → x < length ks → PlaceIn i e (get_or ks x no_token)
placed t i e [] x lead h = absurd (omega arith)
placed t i e (k ∷ ks) zero lead h =
    let before = lead.1.before in let start = lead.0 in let grows = leads_grow t k.end e ks lead.2 in
    record { low = omega arith; some = omega arith; high = omega arith }
placed t i e (k ∷ ks) (suc x) lead h =
    let before = lead.1.before in let start = lead.0 in
    wider k.end e i e (get_or ks x no_token) (omega arith) (omega arith) (placed t k.end e ks x lead.2 (omega arith))

pub ordered : (t : Text) (i e : ℕ) (ks : List Tok) (x y : ℕ) → Leads t i ks e → x < y → y < length ks → (get_or ks x no_token).end ≤ (get_or ks y no_token).start
ordered t i e [] x y lead h g = absurd (omega arith)
ordered t i e (k ∷ ks) x zero lead h g = absurd (omega arith)
ordered t i e (k ∷ ks) zero (suc y) lead h g = (placed t k.end e ks y lead.2 (omega arith)).low
ordered t i e (k ∷ ks) (suc x) (suc y) lead h g = ordered t k.end e ks x y lead.2 (omega arith) (omega arith)

pub starts_ascend : (t : Text) (ks : List Tok) (x y : ℕ) → Lexed t ks → x < y → y < length ks → (get_or ks x no_token).start < (get_or ks y no_token).start
starts_ascend t ks x y lexed h g =
    let some = (placed t 0 (length t) ks x lexed (omega arith)).some in
    let above = ordered t 0 (length t) ks x y lexed h g in
    omega arith

-- ---- names

pub text_prefix : (t u : Text) (c : ℕ) (k : Tok) → Agree t u c → k.start ≤ k.end → k.end ≤ c → text_of t k ≡ text_of u k
text_prefix t u c k a p q = take_same (drop k.start t) (drop k.start u) (c - k.start) (k.end - k.start) (omega arith) (agree_drop t u c k.start (omega arith) a)

pub text_after : (t u : Text) (b c : ℕ) (k : Tok) → drop b t ≡ drop c u → b ≤ k.start → k.start ≤ k.end → text_of t k ≡ text_of u (tok_moved b c k)
text_after t u b c k same p q =
    let place : b + (k.start - b) ≡ k.start = omega arith in
    let size : c + (k.end - b) - (c + (k.start - b)) ≡ k.end - k.start = omega arith in
    let rest : drop k.start t ≡ drop (c + (k.start - b)) u =
    sym (drop-drop (k.start - b) b t ∙ ap (λ (x : ℕ). drop x t) place) ∙ ap (λ (x : Text). drop (k.start - b) x) same ∙ drop-drop (k.start - b) c u in
    ap (λ (x : Text). take (k.end - k.start) x) rest ∙ ap (λ (x : ℕ). take x (drop (c + (k.start - b)) u)) (sym size)

same_cuts : (t u : Text) (k l : Tok) → k.kind ≡ l.kind → text_of t k ≡ text_of u l → name_cuts u l ≡ name_cuts t k
same_cuts t u k l p q = let kind = sym p in let text = sym q in λ i. cond (is_name_kind (kind i)) (cut_name (text i) ∷ []) []

cuts_prefix : (t u : Text) (c i e : ℕ) (ks : List Tok) → Agree t u c → Leads t i ks e → e ≤ c → map (name_cuts u) ks ≡ map (name_cuts t) ks
cuts_prefix t u c i e [] a lead h = refl
cuts_prefix t u c i e (k ∷ ks) a lead h =
    let before = lead.1.before in let start = lead.0 in let grows = leads_grow t k.end e ks lead.2 in
    let here = same_cuts t u k k refl (text_prefix t u c k a (omega arith) (omega arith)) in
    let rest = cuts_prefix t u c k.end e ks a lead.2 h in
    λ i. here i ∷ rest i

cuts_after : (t u : Text) (b c i e : ℕ) (ks : List Tok) → drop b t ≡ drop c u → b ≤ i → Leads t i ks e → map (name_cuts u) (map (tok_moved b c) ks) ≡ map (name_cuts t) ks
cuts_after t u b c i e [] same low lead = refl
cuts_after t u b c i e (k ∷ ks) same low lead =
    let before = lead.1.before in let start = lead.0 in
    let here = same_cuts t u k (tok_moved b c k) refl (text_after t u b c k same (omega arith) (omega arith)) in
    let rest = cuts_after t u b c k.end e ks same (omega arith) lead.2 in
    λ i. here i ∷ rest i

-- ---- windows of a list

window : {A : Type 0} (f b : List A) (x y : ℕ) → drop (length f + x) (take (length f + y) (f ++ b)) ≡ drop x (take y b)
window [] b x y = let p : 0 + x ≡ x = omega arith in let q : 0 + y ≡ y = omega arith in λ i. drop (p i) (take (q i) b)
window (a ∷ f) b x y =
    let p : suc (length f) + x ≡ suc (length f + x) = omega arith in let q : suc (length f) + y ≡ suc (length f + y) = omega arith in
    (λ i. drop (p i) (take (q i) (a ∷ (f ++ b)))) ∙ window f b x y

window_at : {A : Type 0} (f b : List A) (n x y : ℕ) → length f ≡ n → drop (n + x) (take (n + y) (f ++ b)) ≡ drop x (take y b)
window_at f b n x y e = let s = sym e in (λ i. drop (s i + x) (take (s i + y) (f ++ b))) ∙ window f b x y

flat : {A : Type 0} → List (List A) → List A
flat [] = []
flat (x ∷ xs) = x ++ flat xs

flat_is : {A B : Type 0} (g : A → List B) (xs : List A) → flat_map g xs ≡ flat (map g xs)
unfolding flat
flat_is g [] = refl
flat_is g (x ∷ xs) = ap (λ (y : List _). g x ++ y) (flat_is g xs)

cuts_window : (t : Text) (toks : List Tok) (span : Span) → path_cuts t toks span ≡ flat (drop span.first (take (span.last + 1) (map (name_cuts t) toks)))
cuts_window t toks span =
    flat_is (name_cuts t) (tokens_in toks span)
    ∙ ap flat (sym (drop-map (name_cuts t) span.first (take (span.last + 1) toks)))
    ∙ ap (λ (x : List (List (List ℕ))). flat (drop span.first x)) (sym (take-map (name_cuts t) (span.last + 1) toks))

number_low : (n x : ℕ) → x < n + 1 → room_after n x ≡ x
number_low n x h = grind (arith, nat_tests)

number_high : (n x : ℕ) → n + 1 ≤ x → room_after n x ≡ x + 2
number_high n x h = grind (arith, nat_tests)

-- ---- the word after token n

module _ (t : Text) (toks : List Tok) (n : ℕ) (lexed : Lexed t toks) (within : n < length toks) where
  abbrev pub at : ℕ
  at = (token_at toks n).end

  abbrev pub text : Text
  text = exchanged t at at (made_text concurrently_made)

  abbrev pub all : List Tok
  all = reread (take (n + 1) toks) (made_toks at concurrently_made) at (at + length (made_text concurrently_made)) (drop (n + 1) toks)

  record Around : Type 0 where
    pub front : Leads t 0 (take (n + 1) toks) at
    pub after : Leads t at (drop (n + 1) toks) (length t)
    pub low : at ≤ length t
    pub size : length (take (n + 1) toks) ≡ n + 1

  around : Around
  around =
      let whole : toks ≡ take n toks ++ token_at toks n ∷ drop (n + 1) toks =
      sym (take-append-drop n toks) ∙ ap (λ (x : List Tok). take n toks ++ x) (drop_more toks n no_token within) in
      let lead = leads_split t 0 (length t) (take n toks) (token_at toks n) (drop (n + 1) toks) (subst (λ (x : List Tok). Leads t 0 x (length t)) whole lexed) in
      let k : Tok = token_at toks n in
      record {
        front = subst (λ (x : List Tok). Leads t 0 x at) (sym (take_more toks n no_token within)) (leads_append t 0 k.start at (take n toks) (k ∷ []) lead.0 (refl, lead.1.1, refl));
        after = lead.1.2;
        low = lead.1.1.within;
        size = length-take-le (n + 1) toks (omega arith);
      }

  below_at : (x : ℕ) → x < n + 1 → (token_at toks x).end ≤ at
  below_at x h = by (cases_lt x n)
    where
      by : (x < n) ⊎ (n ≤ x) → (token_at toks x).end ≤ at
      by (inl p) =
          let above = ordered t 0 (length t) toks x n lexed p within in
          let some = (placed t 0 (length t) toks n lexed within).some in
          omega arith
      by (inr p) = let same : x ≡ n = omega arith in omega (arith, ap (λ (y : ℕ). (token_at toks y).end) same)

  -- of the tokens up to that one
  pub record Low (x : ℕ) : Type 0 where
    pub token : token_at all (room_after n x) ≡ token_at toks x
    pub start : (token_at toks x).start < at
    pub end : (token_at toks x).end ≤ at

  pub low_token : (x : ℕ) → x < n + 1 → Low x
  low_token x h =
      let r = around in
      let size = r.size in
      let moved : room_after n x ≡ x = number_low n x h in
      let some = (placed t 0 (length t) toks x lexed (omega arith)).some in
      let below = below_at x h in
      record {
        token = ap (λ (y : ℕ). token_at all y) moved
            ∙ get_or_append_left (take (n + 1) toks) (made_toks at concurrently_made ++ map (tok_moved at (at + length (made_text concurrently_made))) (drop (n + 1) toks)) no_token x (omega arith)
            ∙ get_or-take (n + 1) toks x no_token h;
        start = omega arith;
        end = below;
      }

  -- of the tokens after it
  pub record High (x : ℕ) : Type 0 where
    pub token : token_at all (room_after n x) ≡ tok_moved at (at + length (made_text concurrently_made)) (token_at toks x)
    pub start : at ≤ (token_at toks x).start
    pub end : at < (token_at toks x).end

  pub high_token : (x : ℕ) → n + 1 ≤ x → x < length toks → High x
  high_token x h g =
      let r = around in
      let size = r.size in
      let moved : room_after n x ≡ x + 2 = number_high n x h in
      let some = (placed t 0 (length t) toks x lexed g).some in
      let above = ordered t 0 (length t) toks n x lexed (omega arith) g in
      let made : List Tok = made_toks at concurrently_made in
      let rest : List Tok = map (tok_moved at (at + length (made_text concurrently_made))) (drop (n + 1) toks) in
      let place : x + 2 - (n + 3) ≡ x - (n + 1) = omega arith in
      let back : n + 1 + (x - (n + 1)) ≡ x = omega arith in
      record {
        token = ap (λ (y : ℕ). token_at all y) moved
            ∙ ap (λ (ks : List Tok). get_or ks (x + 2) no_token) (sym (append_assoc (take (n + 1) toks) made rest))
            ∙ get_or-append_right (take (n + 1) toks ++ made) rest (n + 3) (x + 2) no_token (omega (arith, length-append (take (n + 1) toks) made)) (omega arith)
            ∙ ap (λ (y : ℕ). get_or rest y no_token) place
            ∙ get_or-map (tok_moved at (at + length (made_text concurrently_made))) (drop (n + 1) toks) (x - (n + 1)) no_token no_token (omega (arith, length-drop (n + 1) toks))
            ∙ ap (λ (k : Tok). tok_moved at (at + length (made_text concurrently_made)) k) (get_or-drop (n + 1) toks (x - (n + 1)) no_token ∙ ap (λ (y : ℕ). token_at toks y) back);
        start = above;
        end = omega arith;
      }

  -- ---- paths

  abbrev cuts_low : List (List (List ℕ))
  cuts_low = map (name_cuts t) (take (n + 1) toks)

  abbrev cuts_high : List (List (List ℕ))
  cuts_high = map (name_cuts t) (drop (n + 1) toks)

  abbrev cuts_made : List (List (List ℕ))
  cuts_made = map (name_cuts text) (made_toks at concurrently_made)

  cuts_old : map (name_cuts t) toks ≡ cuts_low ++ cuts_high
  cuts_old = ap (λ (x : List Tok). map (name_cuts t) x) (sym (take-append-drop (n + 1) toks)) ∙ map-append (name_cuts t) (take (n + 1) toks) (drop (n + 1) toks)

  cuts_new : map (name_cuts text) all ≡ cuts_low ++ (cuts_made ++ cuts_high)
  cuts_new =
      let r = around in
      let made : List Tok = made_toks at concurrently_made in
      let rest : List Tok = map (tok_moved at (at + length (made_text concurrently_made))) (drop (n + 1) toks) in
      let low = cuts_prefix t text at 0 at (take (n + 1) toks) (exchanged_agrees t (made_text concurrently_made) at at r.low) r.front (omega arith) in
      let high = cuts_after t text at (at + length (made_text concurrently_made)) at (length t) (drop (n + 1) toks) (sym (exchanged_after t (made_text concurrently_made) at at r.low)) (omega arith) r.after in
      map-append (name_cuts text) (take (n + 1) toks) (made ++ rest)
      ∙ ap (λ (x : List (List (List ℕ))). map (name_cuts text) (take (n + 1) toks) ++ x) (map-append (name_cuts text) made rest)
      ∙ (λ i. low i ++ (cuts_made ++ high i))

  cuts_size : length cuts_low ≡ n + 1
  cuts_size = length-map (take (n + 1) toks) (name_cuts t) ∙ (let r = around in r.size)

  pub low_path : (span : Span) → span.first < n + 1 → span.last < n + 1 → path_cuts text all (span_moved (room_after n) span) ≡ path_cuts t toks span
  low_path span p q =
      let first : room_after n span.first ≡ span.first = number_low n span.first p in
      let last : room_after n span.last ≡ span.last = number_low n span.last q in
      let size = cuts_size in
      let same : take (span.last + 1) (cuts_low ++ (cuts_made ++ cuts_high)) ≡ take (span.last + 1) (cuts_low ++ cuts_high) =
      take-append-le (span.last + 1) cuts_low (cuts_made ++ cuts_high) (omega arith) ∙ sym (take-append-le (span.last + 1) cuts_low cuts_high (omega arith)) in
      (λ i. path_cuts text all (record { first = first i; last = last i }))
      ∙ cuts_window text all span
      ∙ ap (λ (x : List (List (List ℕ))). flat (drop span.first (take (span.last + 1) x))) cuts_new
      ∙ ap (λ (x : List (List (List ℕ))). flat (drop span.first x)) same
      ∙ ap (λ (x : List (List (List ℕ))). flat (drop span.first (take (span.last + 1) x))) (sym cuts_old)
      ∙ sym (cuts_window t toks span)

  pub high_path : (span : Span) → n + 1 ≤ span.first → n + 1 ≤ span.last → path_cuts text all (span_moved (room_after n) span) ≡ path_cuts t toks span
  high_path span p q =
      let first : room_after n span.first ≡ n + 3 + (span.first - (n + 1)) = number_high n span.first p ∙ omega arith in
      let last : room_after n span.last + 1 ≡ n + 3 + (span.last - n) = ap (λ (x : ℕ). x + 1) (number_high n span.last q) ∙ omega arith in
      let first' : span.first ≡ n + 1 + (span.first - (n + 1)) = omega arith in
      let last' : span.last + 1 ≡ n + 1 + (span.last - n) = omega arith in
      let size = cuts_size in
      let longer : length (cuts_low ++ cuts_made) ≡ n + 3 = omega (arith, length-append cuts_low cuts_made) in
      cuts_window text all (span_moved (room_after n) span)
      ∙ ap (λ (x : List (List (List ℕ))). flat (drop (room_after n span.first) (take (room_after n span.last + 1) x))) (cuts_new ∙ sym (append_assoc cuts_low cuts_made cuts_high))
      ∙ (λ i. flat (drop (first i) (take (last i) ((cuts_low ++ cuts_made) ++ cuts_high))))
      ∙ ap flat (window_at (cuts_low ++ cuts_made) cuts_high (n + 3) (span.first - (n + 1)) (span.last - n) longer)
      ∙ ap flat (sym (window_at cuts_low cuts_high (n + 1) (span.first - (n + 1)) (span.last - n) size))
      ∙ (λ i. flat (drop (sym first' i) (take (sym last' i) (cuts_low ++ cuts_high))))
      ∙ ap (λ (x : List (List (List ℕ))). flat (drop span.first (take (span.last + 1) x))) (sym cuts_old)
      ∙ sym (cuts_window t toks span)
