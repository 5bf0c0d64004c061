-- Tokens where a run of them became a word.
use Rattle.std.proofs.Common.{◌≡◌, ℕ, ◌+◌, ◌-◌, ◌<◌, ◌≤◌, ◌⊎◌, inl, inr, max, List, ◌++◌, map, length, get_or, take, drop, append-nil, append_assoc, length-append, length-drop, sym, ap, ◌∙◌, arith}
use Rattle.std.proofs.lemmas.Bool.{cases_lt}
use Rattle.std.proofs.lemmas.Bool.Decides.{nat_tests}
use Rattle.std.proofs.lemmas.List.{length-take-le, get_or_append_left, get_or-append_right, get_or-take, get_or-drop, get_or-map}
use Rattle.std.proofs.Math.Seq.{take-append_seam}
use Rattle.pass_data_type.specs.sql_token.declared.token.Tok.{Tok}
use Rattle.pass_data_type.specs.sql_token.declared.token.TokKind.TheVariants.{Word}
use Rattle.pass_data_type.specs.sql_token.Token.{Text, Lexed, text_of}
use Rattle.pass_data_type.specs.sql_tree.Range.{token_at, span_range_of}
use Rattle.pass_data_type.specs.sql_tree.Statement.{no_token}
use Rattle.law_edit_types.specs.law_edit_tokens.Exchange.{exchanged, tok_moved, made_text, made_toks, reread}
use Rattle.law_edit_types.proofs.of_law_edit_tokens.After.{exchanged_after, exchanged_agrees, exchanged_at}
use Rattle.law_edit_types.specs.Runs.{fused, word_made}
use Rattle.law_fixes.proofs.Tokens.{placed, ordered, text_prefix, text_after}
use Rattle.law_type_fixes.specs.Moved.{Replaced, byte_moved, range_moved}
use Rattle.law_edit_types.proofs.Runs.{fused_first}

-- ---- numbers and places

pub fused_low : (n m x : ℕ) → x < n → fused n m x ≡ x
fused_low n m x h = grind (arith, nat_tests)

pub fused_high : (n m x : ℕ) → n ≤ m → m + 1 ≤ x → fused n m x ≡ n + (x - m)
fused_high n m x h g = grind (arith, nat_tests)

pub place_low : (a b w x : ℕ) → x < b → x ≡ byte_moved (record { from = a; until = b; size = w }) x
place_low a b w x h = grind (arith, nat_tests)

pub place_high : (a b w x : ℕ) → b ≤ x → a + w + (x - b) ≡ byte_moved (record { from = a; until = b; size = w }) x
place_high a b w x h = grind (arith, nat_tests)

max_low : (s e a b : ℕ) → s < e → e ≤ a → a < b → max s e < b
max_low s e a b p q r = omega arith

max_high : (c b s e : ℕ) → b ≤ s → b ≤ e → max (c + (s - b)) (c + (e - b)) ≡ c + (max s e - b)
max_high c b s e p q = omega arith

above_max : (b s e : ℕ) → b ≤ s → b ≤ max s e
above_max b s e p = omega arith

module _ (t : Text) (toks : List Tok) (n m : ℕ) (w : Text) (lexed : Lexed t toks) (order : n ≤ m) (within : m < length toks) where
  -- where the run begins and ends
  abbrev pub from : ℕ
  from = (token_at toks n).start

  abbrev pub until : ℕ
  until = (token_at toks m).end

  abbrev size : ℕ
  size = length (made_text (word_made w))

  abbrev text : Text
  text = exchanged t from until (made_text (word_made w))

  abbrev rest : List Tok
  rest = map (tok_moved until (from + size)) (drop (m + 1) toks)

  abbrev all : List Tok
  all = reread (take n toks) (made_toks from (word_made w)) until (from + size) (drop (m + 1) toks)

  abbrev moved : Replaced
  moved = record { from = from; until = until; size = length w }

  size_is : size ≡ length w
  size_is = ap length (append-nil w)

  pub record Bounds : Type 0 where
    pub first : (token_at toks n).start < (token_at toks n).end
    pub last : (token_at toks m).start < (token_at toks m).end
    pub grows : from < until
    pub low : from ≤ length t
    pub high : until ≤ length t

  pub bounds : Bounds
  bounds =
      let first = placed t 0 (length t) toks n lexed (omega arith) in
      let last = placed t 0 (length t) toks m lexed within in
      let a = first.some in let b = first.high in let c = last.some in let d = last.high in
      record { first = a; last = c; grows = by (cases_lt n m) a c; low = omega arith; high = d }
    where
      by : (n < m) ⊎ (m ≤ n) → (token_at toks n).start < (token_at toks n).end → (token_at toks m).start < (token_at toks m).end → from < until
      by (inl h) a c = let o = ordered t 0 (length t) toks n m lexed h within in omega arith
      by (inr h) a c = let same : n ≡ m = omega arith in let e = ap (λ (x : ℕ). (token_at toks x).end) same in omega arith

  front_size : length (take n toks) ≡ n
  front_size = length-take-le n toks (omega arith)

  -- ---- tokens before the run

  pub record Low (x : ℕ) : Type 0 where
    pub token : token_at all (fused n m x) ≡ token_at toks x
    pub some : (token_at toks x).start < (token_at toks x).end
    pub end : (token_at toks x).end ≤ from

  pub low_token : (x : ℕ) → x < n → Low x
  low_token x h =
      let few = front_size in
      record {
        token = ap (λ (y : ℕ). token_at all y) (fused_low n m x h)
            ∙ get_or_append_left (take n toks) (made_toks from (word_made w) ++ rest) no_token x (omega arith)
            ∙ get_or-take n toks x no_token h;
        some = (placed t 0 (length t) toks x lexed (omega arith)).some;
        end = ordered t 0 (length t) toks x n lexed h (omega arith);
      }

  -- ---- tokens after the run

  pub record High (x : ℕ) : Type 0 where
    pub token : token_at all (fused n m x) ≡ tok_moved until (from + size) (token_at toks x)
    pub start : until ≤ (token_at toks x).start
    pub some : (token_at toks x).start < (token_at toks x).end

  pub high_token : (x : ℕ) → m + 1 ≤ x → x < length toks → High x
  high_token x h g =
      let few = front_size in
      let made : List Tok = made_toks from (word_made w) in
      let place : n + (x - m) - (n + 1) ≡ x - (m + 1) = omega arith in
      let back : m + 1 + (x - (m + 1)) ≡ x = omega arith in
      record {
        token = ap (λ (y : ℕ). token_at all y) (fused_high n m x order h)
            ∙ ap (λ (ks : List Tok). get_or ks (n + (x - m)) no_token) (sym (append_assoc (take n toks) made rest))
            ∙ get_or-append_right (take n toks ++ made) rest (n + 1) (n + (x - m)) no_token (omega (arith, length-append (take n toks) made)) (omega arith)
            ∙ ap (λ (y : ℕ). get_or rest y no_token) place
            ∙ get_or-map (tok_moved until (from + size)) (drop (m + 1) toks) (x - (m + 1)) no_token no_token (omega (arith, length-drop (m + 1) toks))
            ∙ ap (λ (k : Tok). tok_moved until (from + size) k) (get_or-drop (m + 1) toks (x - (m + 1)) no_token ∙ ap (λ (y : ℕ). token_at toks y) back);
        start = ordered t 0 (length t) toks m x lexed (omega arith) g;
        some = (placed t 0 (length t) toks x lexed g).some;
      }

  -- ---- the word

  word_token : token_at all n ≡ record { kind = Word; start = from; end = from + length w }
  word_token =
      let none : n - n ≡ 0 = omega arith in
      get_or-append_right (take n toks) (made_toks from (word_made w) ++ rest) n n no_token front_size (omega arith)
      ∙ ap (λ (y : ℕ). get_or (made_toks from (word_made w) ++ rest) y no_token) none

  pub word_text : text_of text (token_at all n) ≡ w
  word_text =
      let b = bounds in
      let long : from + length w - from ≡ length w = omega arith in
      ap (λ (k : Tok). text_of text k) word_token
      ∙ (λ i. take (long i) (exchanged_at t (made_text (word_made w)) from until b.low i))
      ∙ ap (λ (x : Text). take (length w) (x ++ drop until t)) (append-nil w)
      ∙ take-append_seam w (drop until t)

  pub word_number : fused n m n ≡ n
  word_number = fused_first n m order

  -- ---- texts

  -- all before the run, or all after it
  abbrev pub Aside : ℕ → ℕ → Type 0
  Aside lo hi = (hi ≤ n) ⊎ ((m + 1 ≤ lo) × (hi ≤ length toks))

  pub same_text : (lo hi x : ℕ) → Aside lo hi → lo ≤ x → x < hi → text_of text (token_at all (fused n m x)) ≡ text_of t (token_at toks x)
  same_text lo hi x (inl a) p q =
      let b = bounds in
      let k = low_token x (omega arith) in
      let some = k.some in
      ap (λ (k : Tok). text_of text k) k.token
      ∙ sym (text_prefix t text from (token_at toks x) (exchanged_agrees t (made_text (word_made w)) from until b.low) (omega arith) k.end)
  same_text lo hi x (inr a) p q =
      let b = bounds in
      let c = a.0 in let d = a.1 in
      let k = high_token x (omega arith) (omega arith) in
      let some = k.some in
      ap (λ (k : Tok). text_of text k) k.token
      ∙ sym (text_after t text until (from + size) (token_at toks x) (sym (exchanged_after t (made_text (word_made w)) from until b.low)) k.start (omega arith))

  -- ---- ranges

  pub same_range : (lo hi x y : ℕ) → Aside lo hi → lo ≤ x → x < hi → lo ≤ y → y < hi →
      span_range_of all (fused n m x) (fused n m y) ≡ range_moved moved (span_range_of toks x y)
  same_range lo hi x y (inl a) p q p' q' =
      let b = bounds in let grows = b.grows in
      let k = low_token x (omega arith) in let l = low_token y (omega arith) in
      let some = k.some in let end = k.end in let end' = l.end in
      let starts = k.token in let ends = l.token in
      let top : max (token_at toks x).start (token_at toks y).end < until = omega arith in
      (λ i. record { start = (starts i).start; end = max (starts i).start (ends i).end })
      ∙ (let j = place_low from until (length w) (token_at toks x).start (omega arith) in
      let k = place_low from until (length w) (max (token_at toks x).start (token_at toks y).end) top in
      λ i. record { start = j i; end = k i })
  same_range lo hi x y (inr a) p q p' q' =
      let c = a.0 in let d = a.1 in
      let k = high_token x (omega arith) (omega arith) in let l = high_token y (omega arith) (omega arith) in
      let start = k.start in let start' = l.start in let some = l.some in
      let starts = k.token in let ends = l.token in
      let sized = size_is in
      let s : ℕ = (token_at toks x).start in
      let e : ℕ = (token_at toks y).end in
      let top = max_high (from + size) until s e start (omega arith) in
      (λ i. record { start = (starts i).start; end = max (starts i).start (ends i).end })
      ∙ (λ i. record { start = from + size + (s - until); end = top i })
      ∙ (λ i. record { start = from + sized i + (s - until); end = from + sized i + (max s e - until) })
      ∙ (let j = place_high from until (length w) s start in
      let k = place_high from until (length w) (max s e) (above_max until s e start) in
      λ i. record { start = j i; end = k i })
