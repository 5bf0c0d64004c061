-- Tokens that begin with two key words, and the terminals that they are.
use Rattle.std.proofs.Common.{◌≡◌, ◌<◌, ◌≤◌, ◌⊎◌, ◌∙◌, inl, inr, sym, ap, subst, refl, rules, arith, ℕ, zero, suc, ◌+◌, ◌-◌, Bool, true, false, cond, ◌&&◌, List, [], ◌∷◌, ◌++◌, length, get_or, take, drop, filter, drop_of_length-le, length-take, Option, Some, None}
use Rattle.std.proofs.lemmas.Bool.{and_parts, cases_lt, false≢true}
use Rattle.std.proofs.lemmas.List.{drop-take}
use denote.Enum.Bare.{same_true}
use Rattle.law_renumber.specs.sql_keyword.contracts.words.Object as objects
use Rattle.law_renumber.specs.sql_keyword.contracts.words.Other as others
use Rattle.law_renumber.specs.sql_keyword.contracts.words.Verb as verbs
use Rattle.law_renumber.specs.sql_keyword.declared.words.Keyword.{Keyword}
use Rattle.law_renumber.specs.sql_keyword.declared.words.Keyword.TheVariants as k
use Rattle.law_renumber.specs.sql_keyword.Find.{keyword_of}
use Rattle.law_renumber.specs.sql_keyword.Same.{same_keyword}
use Rattle.law_renumber.specs.sql_token.declared.terminal.Symbol.{Symbol}
use Rattle.law_renumber.specs.sql_token.declared.terminal.Symbol.TheVariants as symbol
use Rattle.law_renumber.specs.sql_token.declared.terminal.Terminal.{Terminal}
use Rattle.law_renumber.specs.sql_token.declared.token.Tok.{Tok}
use Rattle.law_renumber.specs.sql_token.declared.token.TokKind.{TokKind}
use Rattle.law_renumber.specs.sql_token.declared.token.TokKind.TheVariants as kinds
use Rattle.law_renumber.specs.sql_token.Depth.{span_of}
use Rattle.law_renumber.specs.sql_token.Terminal.{is_keyword, is_keyword_symbol, is_significant, is_significant_token, symbol_of, terminals, terminals_from, word_symbol}
use Rattle.law_renumber.specs.sql_token.Token.{Text, text_of}
use Rattle.law_renumber.specs.sql_tree.Statement.{Tree}
use Rattle.law_hazards.specs.Words.{begin_with, is_key, is_this, key_by, shown}
use Rattle.law_hazards.proofs.Nodes.{both_on}

-- ---- tokens that begin with key words, and their terminals

-- the terminals begin with these key words
abbrev starts : List Keyword → List Terminal → Bool
starts [] ts = true
starts (word ∷ words) [] = false
starts (word ∷ words) (t ∷ ts) = is_keyword word t && starts words ts

key_symbol : (word : Keyword) (kind : TokKind) (bytes : List ℕ) → is_this word (key_by kind bytes) ≡ true → is_keyword_symbol word (symbol_of kind bytes) ≡ true
unfolding symbol_of
key_symbol word kinds.Word bytes h = by (keyword_of bytes) h
  where
    by : (o : Option Keyword) → is_this word o ≡ true → is_keyword_symbol word (word_symbol o) ≡ true
    by None h = absurd (false≢true h)
    by (Some found) h = h
key_symbol word _ bytes h = absurd (false≢true h)

key_terminal : (t : Text) (word : Keyword) (tok : Tok) (n : ℕ) → is_key t word tok ≡ true → is_keyword word (record { symbol = symbol_of tok.kind (text_of t tok); number = n }) ≡ true
unfolding is_keyword
key_terminal t word tok n h = key_symbol word tok.kind (text_of t tok) h

module _ (t : Text) where
  -- If the first m tokens begin with the words, the terminals do.
  abbrev Starts : List Tok → ℕ → ℕ → List Keyword → Type 0
  Starts toks n m words = begin_with t words (filter is_significant_token (take m toks)) ≡ true → starts words (terminals_from t n toks) ≡ true

  start : (words : List Keyword) (toks : List Tok) (n m : ℕ) → Starts toks n m words
  start [] toks n m h = refl
  start (word ∷ words) [] n zero h = absurd (false≢true h)
  start (word ∷ words) [] n (suc m) h = absurd (false≢true h)
  start (word ∷ words) (tok ∷ toks) n zero h = absurd (false≢true h)
  start (word ∷ words) (tok ∷ toks) n (suc m) h = by (is_significant tok.kind) (start words toks (n + 1) m) (start (word ∷ words) toks (n + 1) m) h
    where
      by : (b : Bool) → Starts toks (n + 1) m words → Starts toks (n + 1) m (word ∷ words)
          → begin_with t (word ∷ words) (cond b (tok ∷ filter is_significant_token (take m toks)) (filter is_significant_token (take m toks))) ≡ true
          → starts (word ∷ words) (cond b (record { symbol = symbol_of tok.kind (text_of t tok); number = n } ∷ terminals_from t (n + 1) toks) (terminals_from t (n + 1) toks)) ≡ true
      by true next again h =
          let both = and_parts (is_key t word tok) (begin_with t words (filter is_significant_token (take m toks))) h in
          both_on _ _ (key_terminal t word tok n both.0) (next both.1)
      by false next again h = again h

  -- one token is no two words
  not_alone : (a b : Keyword) (toks : List Tok) → begin_with t (a ∷ b ∷ []) (filter is_significant_token (take 1 toks)) ≡ true → ⊥
  not_alone a b [] h = false≢true h
  not_alone a b (tok ∷ toks) h = by (is_significant tok.kind) h
    where
      by : (c : Bool) → begin_with t (a ∷ b ∷ []) (cond c (tok ∷ []) []) ≡ true → ⊥
      by true h = false≢true (and_parts (is_key t a tok) false h).1
      by false h = false≢true h

  -- ---- the tokens from a terminal on

  record IsFrom (n : ℕ) (toks : List Tok) (x : Terminal) (rest : List Terminal) : Type 0 where
    place : ℕ
    is_number : x.number ≡ n + place
    is_rest : terminals_from t (n + place) (drop place toks) ≡ x ∷ rest

  none_there : (before : List Terminal) (x : Terminal) (rest : List Terminal) → [] ≡ before ++ (x ∷ rest) → ⊥
  none_there [] x rest h = absurd (omega (arith, ap length h))
  none_there (b ∷ before) x rest h = absurd (omega (arith, ap length h))

  later : (n : ℕ) (tok : Tok) (toks : List Tok) (x : Terminal) (rest : List Terminal) → IsFrom (n + 1) toks x rest → IsFrom n (tok ∷ toks) x rest
  later n tok toks x rest from =
      let i : ℕ = from.place in
      let same : n + 1 + i ≡ n + suc i = omega arith in
      record {
        place = suc i;
        is_number = from.is_number ∙ same;
        is_rest = ap (λ m. terminals_from t m (drop i toks)) (sym same) ∙ from.is_rest;
      }

  from_terminal : (n : ℕ) (toks : List Tok) (before : List Terminal) (x : Terminal) (rest : List Terminal) → terminals_from t n toks ≡ before ++ (x ∷ rest) → IsFrom n toks x rest
  from_terminal n [] before x rest h = absurd (none_there before x rest h)
  from_terminal n (tok ∷ toks) before x rest h = by (is_significant tok.kind) refl (λ before. from_terminal (n + 1) toks before x rest) before h
    where
      here : Terminal
      here = record { symbol = symbol_of tok.kind (text_of t tok); number = n }

      by : (b : Bool) → is_significant tok.kind ≡ b → ((before : List Terminal) → terminals_from t (n + 1) toks ≡ before ++ (x ∷ rest) → IsFrom (n + 1) toks x rest)
          → (before : List Terminal) → cond b (here ∷ terminals_from t (n + 1) toks) (terminals_from t (n + 1) toks) ≡ before ++ (x ∷ rest)
          → IsFrom n (tok ∷ toks) x rest
      by true is next [] h =
          let zero : n + 0 ≡ n = omega arith in
          record {
            place = 0;
            is_number = sym (ap (λ (ts : List Terminal). (get_or ts 0 x).number) h) ∙ sym zero;
            is_rest = ap (λ m. terminals_from t m (tok ∷ toks)) zero ∙ (ap (λ b. cond b (here ∷ terminals_from t (n + 1) toks) (terminals_from t (n + 1) toks)) is ∙ h);
          }
      by true is next (b ∷ before) h = later n tok toks x rest (next before (ap (drop 1) h))
      by false is next before h = later n tok toks x rest (next before h)

-- a part of a list, from its front
part : (i m : ℕ) (toks : List Tok) → drop i (take m toks) ≡ take (m - i) (drop i toks)
part i m toks = by (cases_lt m i)
  where
    by : (m < i) ⊎ (i ≤ m) → drop i (take m toks) ≡ take (m - i) (drop i toks)
    by (inl less) =
        let cut = length-take m toks in
        let none : m - i ≡ 0 = omega (arith, less) in
        drop_of_length-le (take m toks) (omega (arith, cut, less)) ∙ sym (ap (λ n. take n (drop i toks)) none)
    by (inr le) =
        let whole : i + (m - i) ≡ m = omega (arith, le) in
        sym (ap (λ n. drop i (take n toks)) whole) ∙ drop-take i (m - i) toks

-- ---- words

word_is : (v w : Keyword) → same_keyword v w ≡ true → v ≡ w
unfolding same_keyword
word_is (k.Verb a) (k.Verb b) h = ap k.Verb (same_true verbs.the_type (search rules) a b h)
word_is (k.Object a) (k.Object b) h = ap k.Object (same_true objects.the_type (search rules) a b h)
word_is (k.Other a) (k.Other b) h = ap k.Other (same_true others.the_type (search rules) a b h)
word_is v w h = absurd (false≢true h)

-- the terminal of this number that is the key word
abbrev pub key : Keyword → ℕ → Terminal
key word n = record { symbol = symbol.Keyword word; number = n }

symbol_is : (word : Keyword) (x : Symbol) → is_keyword_symbol word x ≡ true → x ≡ symbol.Keyword word
symbol_is word (symbol.Keyword w) h = ap (λ (y : Keyword). symbol.Keyword y) (word_is w word h)
symbol_is word x h = absurd (false≢true h)

terminal_is : (word : Keyword) (t : Terminal) → is_keyword word t ≡ true → t ≡ key word t.number
unfolding is_keyword
terminal_is word t h = ap (λ (x : Symbol). record { symbol = x; number = t.number }) (symbol_is word t.symbol h)

-- ---- terminals of a text that follow one another

-- The first two are these key words.
pub record IsBegun (first second : Keyword) (own : List Terminal) : Type 0 where
  pub m : ℕ
  pub n : ℕ
  pub rest : List Terminal
  pub is : own ≡ key first m ∷ key second n ∷ rest

module _ (tree : Tree) (first second : Keyword) where
  -- The tokens from one number to the other begin with the two words.
  abbrev pub Says : ℕ → ℕ → Type 0
  Says from last = begin_with tree.text (first ∷ second ∷ []) (shown tree from (last + 1)) ≡ true

  one_alone : (n : ℕ) → Says n n → ⊥
  unfolding shown
  one_alone n h =
      let one : n + 1 - n ≡ 1 = omega arith in
      not_alone tree.text first second (drop n tree.toks)
      (sym (ap (λ toks. begin_with tree.text (first ∷ second ∷ []) (filter is_significant_token toks)) (part n (n + 1) tree.toks ∙ ap (λ m. take m (drop n tree.toks)) one)) ∙ h)

  both_there : (i last : ℕ) (x y : Terminal) (ts : List Terminal) → terminals_from tree.text i (drop i tree.toks) ≡ x ∷ y ∷ ts → Says i last
      → (is_keyword first x ≡ true) × (is_keyword second y ≡ true)
  unfolding shown
  both_there i last x y ts h says =
      let words : List Keyword = first ∷ second ∷ [] in
      let begun : begin_with tree.text words (filter is_significant_token (take (last + 1 - i) (drop i tree.toks))) ≡ true =
      sym (ap (λ toks. begin_with tree.text words (filter is_significant_token toks)) (part i (last + 1) tree.toks)) ∙ says
      in
      let started : starts words (x ∷ y ∷ ts) ≡ true =
      sym (ap (starts words) h) ∙ start tree.text words (drop i tree.toks) i (last + 1 - i) begun
      in
      let one = and_parts (is_keyword first x) (is_keyword second y && true) started in
      (one.0, (and_parts (is_keyword second y) true one.1).0)

  -- If the tokens of the terminals begin with the two words, the terminals do.
  pub begun : (before own after : List Terminal) → terminals tree.text tree.toks ≡ before ++ (own ++ after) → Says (span_of own).first (span_of own).last
      → IsBegun first second own
  unfolding terminals
  begun before [] after parts says = absurd (one_alone 0 says)
  begun before (x ∷ []) after parts says = absurd (one_alone x.number says)
  begun before (x ∷ y ∷ ts) after parts says =
      let from = from_terminal tree.text 0 tree.toks before x (y ∷ ts ++ after) parts in
      let i : ℕ = from.place in
      let same : 0 + i ≡ i = omega arith in
      let last : ℕ = (span_of (x ∷ y ∷ ts)).last in
      let rest : terminals_from tree.text i (drop i tree.toks) ≡ x ∷ y ∷ (ts ++ after) =
      ap (λ m. terminals_from tree.text m (drop i tree.toks)) (sym same) ∙ from.is_rest
      in
      let both = both_there i last x y (ts ++ after) rest (subst (λ n. Says n last) (from.is_number ∙ same) says) in
      record {
        m = x.number;
        n = y.number;
        rest = ts;
        is = λ i. terminal_is first x both.0 i ∷ terminal_is second y both.1 i ∷ ts;
      }
