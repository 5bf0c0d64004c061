-- Words of a text by the numbers of their tokens, and by its tokens one after another.
use Rattle.std.proofs.Common.{◌≡◌, ◌∙◌, sym, ap, refl, arith, ltb, ltb-false, ℕ, zero, suc, ◌+◌, ◌-◌, ◌<◌, ◌≤◌, ◌⊎◌, inl, inr, drop_of_length-le, Bool, true, false, cond, ◌&&◌, List, [], ◌∷◌, length, get_or, take, drop, filter, position, Option, Some, None, is_some, drop-drop, get_or-drop, get_or-take, length-drop, length-take, unwrap_or, option_map, option_and_then}
use Rattle.std.specs.List.{position_or_len}
use Rattle.std.proofs.lemmas.Bool.{and_right, cases_lt, false≢true, true≢false}
use Rattle.std.proofs.lemmas.List.{drop_more, get_or_past}
use Rattle.std.proofs.lemmas.List.Quantifiers.{position-Some}
use Rattle.std.proofs.lemmas.List.Sums.{fails_before_first}
use Rattle.law_renumber.specs.sql_keyword.declared.words.Keyword.{Keyword}
use Rattle.law_renumber.specs.sql_token.declared.token.Tok.{Tok}
use Rattle.law_renumber.specs.sql_token.declared.token.TokKind.{TokKind}
use Rattle.law_renumber.specs.sql_token.declared.token.TokKind.TheVariants as kinds
use Rattle.law_renumber.specs.sql_token.Terminal.{is_significant, is_significant_token}
use Rattle.law_renumber.specs.sql_token.Token.{Text, text_of}
use Rattle.law_renumber.specs.sql_tree.Range.{token_at}
use Rattle.law_renumber.specs.sql_tree.Statement.{Tree, no_token}
use Rattle.hazard_find.proofs.of_lint_transaction.EarlierLaws.{and_true}
use Rattle.hazard_find.specs.Look.{after_optional, after_words, begins, is_word_at, token_from}
use Rattle.law_hazards.specs.Words.{begin_with, is_key, is_this, key_by, shown}

-- ---- the first element that passes

module _ {X : Type 0} (p : X → Bool) where
  -- a filter from the first element that passes on
  filter_first : (xs : List X) (i : ℕ) (d : X) → i < length xs → p (get_or xs i d) ≡ true → ((k : ℕ) → k < i → p (get_or xs k d) ≡ false)
      → filter p xs ≡ get_or xs i d ∷ filter p (drop (i + 1) xs)
  filter_first [] i d l on off = absurd (omega (arith, l))
  filter_first (x ∷ xs) zero d l on off = ap (λ b. cond b (x ∷ filter p xs) (filter p xs)) on
  filter_first (x ∷ xs) (suc i) d l on off =
      let step : suc (i + 1) ≡ suc i + 1 = omega arith in
      ap (λ b. cond b (x ∷ filter p xs) (filter p xs)) (off 0 (omega arith))
      ∙ (filter_first xs i d (omega (arith, l)) on (λ k m. off (suc k) (omega (arith, m)))
      ∙ ap (λ n. get_or xs i d ∷ filter p (drop n (x ∷ xs))) step)

  filter_empty : (xs : List X) → ((k : ℕ) (d : X) → k < length xs → p (get_or xs k d) ≡ false) → filter p xs ≡ []
  filter_empty [] off = refl
  filter_empty (x ∷ xs) off =
      ap (λ b. cond b (x ∷ filter p xs) (filter p xs)) (off 0 x (omega arith))
      ∙ filter_empty xs (λ k d m. off (suc k) d (omega (arith, m)))

  -- where no element passes
  missing : (xs : List X) → position p xs ≡ None → (k : ℕ) (d : X) → k < length xs → p (get_or xs k d) ≡ false
  missing xs h k d l =
      let far = cond_none (ltb (position_or_len p xs) (length xs)) (position_or_len p xs) h in
      fails_before_first p xs k d (omega (arith, l, ltb-false (position_or_len p xs) (length xs) far))
    where
      cond_none : (b : Bool) (n : ℕ) → cond b (Some n) None ≡ None → b ≡ false
      cond_none true n e = absurd (true≢false (ap is_some e))
      cond_none false n e = refl

-- ---- the next token

none_mapped : (o : Option ℕ) (i : ℕ) → option_map (λ j. i + j) o ≡ None → o ≡ None
none_mapped None i h = refl
none_mapped (Some j) i h = absurd (true≢false (ap is_some h))

pub some_mapped : (o : Option ℕ) (i k : ℕ) → option_map (λ j. i + j) o ≡ Some k → (j : ℕ) × (o ≡ Some j) × (i + j ≡ k)
some_mapped None i k h = absurd (false≢true (ap is_some h))
some_mapped (Some j) i k h = (j, refl, ap (λ o. unwrap_or o 0) h)

module _ (tree : Tree) (n i : ℕ) where
  pub none_shown : token_from tree n i ≡ None → shown tree i n ≡ []
  unfolding token_from shown
  none_shown h =
      filter_empty is_significant_token (drop i (take n tree.toks))
      (missing is_significant_token (drop i (take n tree.toks)) (none_mapped (position is_significant_token (drop i (take n tree.toks))) i h))

  -- The token of number k is the next one.
  pub record IsNext (k : ℕ) : Type 0 where
    pub least : i ≤ k
    pub within : k < length tree.toks
    pub below : k < n
    pub shows : shown tree i n ≡ token_at tree.toks k ∷ shown tree (k + 1) n

  pub some_shown : (k : ℕ) → token_from tree n i ≡ Some k → IsNext k
  unfolding token_from shown
  some_shown k h =
      let xs : List Tok = drop i (take n tree.toks) in
      let found = some_mapped (position is_significant_token xs) i k h in
      let j : ℕ = found.0 in
      let sum : i + j ≡ k = found.2 in
      let first = position-Some is_significant_token xs j no_token found.1 in
      let long : length xs ≡ length (take n tree.toks) - i = length-drop i (take n tree.toks) in
      let cut = length-take n tree.toks in
      let inside : j < length xs = first.0 in
      let below : k < n = omega (arith, inside, long, cut, sum) in
      let here : get_or xs j no_token ≡ token_at tree.toks k =
      get_or-drop i (take n tree.toks) j no_token
      ∙ (ap (λ m. get_or (take n tree.toks) m no_token) sum ∙ get_or-take n tree.toks k no_token below)
      in
      let rest : drop (j + 1) xs ≡ drop (k + 1) (take n tree.toks) =
      drop-drop (j + 1) i (take n tree.toks) ∙ ap (λ m. drop m (take n tree.toks)) (omega (arith, sum))
      in
      record {
        least = omega (arith, sum);
        within = omega (arith, inside, long, cut, sum);
        below = below;
        shows = filter_first is_significant_token xs j no_token first.0 first.1 first.2
            ∙ (ap (λ t. t ∷ filter is_significant_token (drop (j + 1) xs)) here
            ∙ ap (λ ys. token_at tree.toks k ∷ filter is_significant_token ys) rest);
      }

  -- A token is shown first: it is the next one.
  pub record IsFirst (tok : Tok) (rest : List Tok) : Type 0 where
    pub number : ℕ
    pub found : token_from tree n i ≡ Some number
    pub is_token : token_at tree.toks number ≡ tok
    pub is_rest : shown tree (number + 1) n ≡ rest

  pub first_shown : (tok : Tok) (rest : List Tok) → shown tree i n ≡ tok ∷ rest → IsFirst tok rest
  first_shown tok rest h = by_option (token_from tree n i) refl
    where
      by_option : (o : Option ℕ) → token_from tree n i ≡ o → IsFirst tok rest
      by_option None e = absurd (omega (arith, ap length (sym (none_shown e) ∙ h)))
      by_option (Some k) e =
          let both = sym (some_shown k e).shows ∙ h in
          record { number = k; found = e; is_token = ap (λ ts. get_or ts 0 no_token) both; is_rest = ap (drop 1) both }

-- ---- words one after another

-- What it says of tokens that these words come first from number i on, or that they do not.
abbrev pub Reads : Tree → ℕ → List Keyword → ℕ → Option ℕ → Type 0
Reads tree n words i None = begin_with tree.text words (shown tree i n) ≡ false
Reads tree n words i (Some m) = (begin_with tree.text words (shown tree i n) ≡ true) × (shown tree m n ≡ drop (length words) (shown tree i n))

module _ (tree : Tree) (n : ℕ) (word : Keyword) (words : List Keyword) (rest : (k : ℕ) → Reads tree n words k (after_words tree n words k)) (i : ℕ) where
  further : (k : ℕ) → IsNext tree n i k → is_key tree.text word (token_at tree.toks k) ≡ true → (o : Option ℕ) → Reads tree n words (k + 1) o → Reads tree n (word ∷ words) i o
  further k next is None h =
      ap (begin_with tree.text (word ∷ words)) next.shows ∙ (ap (λ b. b && begin_with tree.text words (shown tree (k + 1) n)) is ∙ h)
  further k next is (Some m) h = (
    ap (begin_with tree.text (word ∷ words)) next.shows ∙ (ap (λ b. b && begin_with tree.text words (shown tree (k + 1) n)) is ∙ h.0),
    h.1 ∙ sym (ap (drop (length (word ∷ words))) next.shows),
  )

  by_word : (k : ℕ) → IsNext tree n i k → (b : Bool) → is_key tree.text word (token_at tree.toks k) ≡ b
      → Reads tree n (word ∷ words) i (option_and_then (after_words tree n words) (cond b (Some (k + 1)) None))
  by_word k next true is = further k next is (after_words tree n words (k + 1)) (rest (k + 1))
  by_word k next false is = ap (begin_with tree.text (word ∷ words)) next.shows ∙ ap (λ b. b && begin_with tree.text words (shown tree (k + 1) n)) is

  by_option : (o : Option ℕ) → token_from tree n i ≡ o
      → Reads tree n (word ∷ words) i (option_and_then (after_words tree n words) (option_and_then (λ k. cond (is_word_at tree word k) (Some (k + 1)) None) o))
  by_option None e = ap (begin_with tree.text (word ∷ words)) (none_shown tree n i e)
  by_option (Some k) e = by_word k (some_shown tree n i k e) (is_word_at tree word k) refl

pub reads : (tree : Tree) (n : ℕ) (words : List Keyword) (i : ℕ) → Reads tree n words i (after_words tree n words i)
reads tree n [] i = (refl, refl)
reads tree n (word ∷ words) i = by_option tree n word words (reads tree n words) i (token_from tree n i) refl

read_so : (tree : Tree) (n : ℕ) (words : List Keyword) (i : ℕ) (o : Option ℕ) → Reads tree n words i o → is_some o ≡ begin_with tree.text words (shown tree i n)
read_so tree n words i None h = sym h
read_so tree n words i (Some m) h = sym h.0

pub begins_so : (tree : Tree) (words : List Keyword) (first last : ℕ) → begins tree words first last ≡ begin_with tree.text words (shown tree first (last + 1))
unfolding begins
begins_so tree words first last =
    read_so tree (last + 1) words first (after_words tree (last + 1) words first) (reads tree (last + 1) words first)

pub words_so : (tree : Tree) (n : ℕ) (words : List Keyword) (i : ℕ) → is_some (after_words tree n words i) ≡ begin_with tree.text words (shown tree i n)
words_so tree n words i = read_so tree n words i (after_words tree n words i) (reads tree n words i)

-- ---- one word

key_significant : (word : Keyword) (kind : TokKind) (bytes : List ℕ) → is_this word (key_by kind bytes) ≡ true → is_significant kind ≡ true
key_significant word kinds.Word bytes h = refl
key_significant word _ bytes h = absurd (false≢true h)

-- one token alone
pub alone : (tree : Tree) (k : ℕ) → k < length tree.toks → drop k (take (k + 1) tree.toks) ≡ token_at tree.toks k ∷ []
alone tree k l =
    let cut = length-take (k + 1) tree.toks in
    drop_more (take (k + 1) tree.toks) k no_token (omega (arith, cut, l))
    ∙ (ap (λ tok. tok ∷ drop (k + 1) (take (k + 1) tree.toks)) (get_or-take (k + 1) tree.toks k no_token (omega arith))
    ∙ ap (λ ts. token_at tree.toks k ∷ ts) (drop_of_length-le (take (k + 1) tree.toks) (omega (arith, cut))))

-- a token that is a key word, alone
pub key_begins : (tree : Tree) (word : Keyword) (k : ℕ) → is_key tree.text word (token_at tree.toks k) ≡ true
    → begin_with tree.text (word ∷ []) (shown tree k (k + 1)) ≡ true
unfolding shown
key_begins tree word k h = by_place (cases_lt k (length tree.toks))
  where
    by_place : (k < length tree.toks) ⊎ (length tree.toks ≤ k) → begin_with tree.text (word ∷ []) (filter is_significant_token (drop k (take (k + 1) tree.toks))) ≡ true
    by_place (inr past) = absurd (false≢true (sym (ap (λ tok. is_key tree.text word tok) (get_or_past tree.toks k no_token past)) ∙ h))
    by_place (inl l) =
        let kept : is_significant_token (token_at tree.toks k) ≡ true = key_significant word (token_at tree.toks k).kind (text_of tree.text (token_at tree.toks k)) h in
        ap (λ ts. begin_with tree.text (word ∷ []) (filter is_significant_token ts)) (alone tree k l)
        ∙ (ap (λ b. begin_with tree.text (word ∷ []) (cond b (token_at tree.toks k ∷ []) [])) kept ∙ (and_true (is_key tree.text word (token_at tree.toks k)) ∙ h))

-- ---- words that may come first

-- two words, and then others
pub after_two : (t : Text) (a b : Keyword) (words : List Keyword) (toks : List Tok) → begin_with t (a ∷ b ∷ []) toks ≡ true
    → begin_with t (a ∷ b ∷ words) toks ≡ begin_with t words (drop 2 toks)
after_two t a b words [] h = absurd (false≢true h)
after_two t a b words (x ∷ []) h = absurd (false≢true (sym (and_right (is_key t a x) false refl) ∙ h))
after_two t a b words (x ∷ y ∷ toks) h = both_on (is_key t a x) (is_key t b y) (begin_with t words toks) h
  where
    both_on : (p q r : Bool) → (p && (q && true)) ≡ true → (p && (q && r)) ≡ r
    both_on true true r h = refl
    both_on true false r h = absurd (false≢true h)
    both_on false q r h = absurd (false≢true h)

-- what is shown after words that may come first
pub optional_shown : (tree : Tree) (n : ℕ) (words : List Keyword) (i : ℕ)
    → shown tree (after_optional tree n words i) n ≡ cond (begin_with tree.text words (shown tree i n)) (drop (length words) (shown tree i n)) (shown tree i n)
unfolding after_optional
optional_shown tree n words i = by_option (after_words tree n words i) (reads tree n words i)
  where
    by_option : (o : Option ℕ) → Reads tree n words i o
        → shown tree (unwrap_or o i) n ≡ cond (begin_with tree.text words (shown tree i n)) (drop (length words) (shown tree i n)) (shown tree i n)
    by_option None h = sym (ap (λ b. cond b (drop (length words) (shown tree i n)) (shown tree i n)) h)
    by_option (Some m) h = h.1 ∙ sym (ap (λ b. cond b (drop (length words) (shown tree i n)) (shown tree i n)) h.0)
