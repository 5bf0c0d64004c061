-- Tokens of a tree by their numbers.
use Rattle.std.proofs.Common.{◌≡◌, ◌∙◌, sym, ap, ℕ, ◌+◌, ◌-◌, ◌<◌, ◌≤◌, ◌^◌, min, List, [], ◌∷◌, length, get_or, take, drop, Option, Some, None, arith, length-take}
use Rattle.std.proofs.lemmas.List.{drop-take, drop_all, take_min, at_drop_more}
use Rattle.std.specs.List.{position}
use Rattle.std.specs.Option.{option_and_then, option_map}
use Rattle.lint_ignore.specs.sql_keyword.declared.words.Keyword.{Keyword}
use Rattle.lint_ignore.specs.sql_token.Terminal.{is_significant_token}
use Rattle.lint_ignore.specs.sql_token.declared.token.Tok.{Tok}
use Rattle.lint_ignore.specs.sql_token.Token.{Text, Leads}
use Rattle.lint_ignore.specs.sql_tree.Statement.{Tree, IsTree}
use Rattle.hazard_find.specs.Look.{after_word, after_words, token_from}

-- a token has a byte or more
toks_at_most : (t : Text) (i : ℕ) (toks : List Tok) (j : ℕ) → Leads t i toks j → length toks + i ≤ j
toks_at_most t i [] j h = omega (arith, h)
toks_at_most t i (k ∷ toks) j h = omega (arith, h.1.before, toks_at_most t k.end toks j h.2)

-- a tree has fewer than 2^32 tokens
pub toks_few : (tree : Tree) → IsTree tree → length tree.toks < 2 ^ 32
toks_few tree h = omega (arith, h.short, toks_at_most tree.text 0 tree.toks (length tree.text) h.lexed)

-- ---- words one after another

-- what the words that are left say, by the first of them
words_left : (tree : Tree) (n : ℕ) (words : List Keyword) (i at : ℕ) (d : Keyword) → i < length words
    → after_words tree n (drop i words) at ≡ option_and_then (after_words tree n (drop (i + 1) words)) (after_word tree n (get_or words i d) at)
words_left tree n words i at d within = at_drop_more (λ ws. after_words tree n ws at) words i d within

pub word_there : (tree : Tree) (n : ℕ) (words : List Keyword) (i at next : ℕ) (d : Keyword) (all : Option ℕ) → i < length words
    → after_words tree n (drop i words) at ≡ all → Some next ≡ after_word tree n (get_or words i d) at → after_words tree n (drop (i + 1) words) next ≡ all
word_there tree n words i at next d all within so there =
    ap (option_and_then (after_words tree n (drop (i + 1) words))) there ∙ (sym (words_left tree n words i at d within) ∙ so)

pub word_missing : (tree : Tree) (n : ℕ) (words : List Keyword) (i at : ℕ) (d : Keyword) (all : Option ℕ) → i < length words
    → after_words tree n (drop i words) at ≡ all → None ≡ after_word tree n (get_or words i d) at → None ≡ all
word_missing tree n words i at d all within so missing =
    ap (option_and_then (after_words tree n (drop (i + 1) words))) missing ∙ (sym (words_left tree n words i at d within) ∙ so)

-- ---- tokens of a part

part_is : (xs : List Tok) (i n limit : ℕ) → limit ≡ min (length xs) n → i ≤ limit → take (limit - i) (drop i xs) ≡ drop i (take n xs)
part_is xs i n limit is l =
    let sum : i + (limit - i) ≡ min n (length xs) = omega (arith, is, l) in
    sym (drop-take i (limit - i) xs) ∙ (ap (λ k. drop i (take k xs)) sum ∙ ap (drop i) (take_min n xs))

pub part_found : (tree : Tree) (xs ys : List Tok) (i n limit : ℕ) (found : Option ℕ) → xs ≡ tree.toks → ys ≡ tree.toks → limit ≡ min (length xs) n → i ≤ limit
    → found ≡ position is_significant_token (take (limit - i) (drop i ys)) → option_map (λ k. i + k) found ≡ token_from tree n i
unfolding token_from
part_found tree xs ys i n limit found x y is l e =
    let at : limit ≡ min (length tree.toks) n = is ∙ ap (λ (ks : List Tok). min (length ks) n) x in
    ap (option_map (λ k. i + k))
    (e ∙ (ap (λ (ks : List Tok). position is_significant_token (take (limit - i) (drop i ks))) y
    ∙ ap (position is_significant_token) (part_is tree.toks i n limit at l)))

pub part_past : (tree : Tree) (xs : List Tok) (i n limit : ℕ) → xs ≡ tree.toks → limit ≡ min (length xs) n → limit ≤ i → None ≡ token_from tree n i
unfolding token_from
part_past tree xs i n limit x is l =
    let at : limit ≡ min (length tree.toks) n = is ∙ ap (λ (ks : List Tok). min (length ks) n) x in
    let short : length (take n tree.toks) ≤ i = omega (arith, length-take n tree.toks, at, l) in
    ap (λ (ks : List Tok). option_map (λ k. i + k) (position is_significant_token ks)) (sym (drop_all i (take n tree.toks) short))
