-- Paths by the numbers of their tokens, and by tokens one after another.
use Rattle.std.proofs.Common.{◌≡◌, ◌∙◌, sym, ap, refl, arith, ℕ, zero, suc, ◌+◌, ◌-◌, ◌<◌, ◌≤◌, ◌⊎◌, inl, inr, Bool, true, false, cond, List, [], ◌∷◌, ◌++◌, codes, length, get_or, take, drop, position, Option, Some, None, is_some, drop-drop, get_or-drop, get_or-take, length-drop, length-take, take-append-drop, take-take, append-nil, subst, unwrap_or, option_map, option_and_then}
use Rattle.std.specs.List.{flat_map}
use Rattle.std.specs.Str.{bytes_eq}
use Rattle.std.proofs.lemmas.Bool.{false≢true, true≢false}
use Rattle.std.proofs.lemmas.Grind.{flat_map-append}
use Rattle.std.proofs.lemmas.List.{drop-take}
use Rattle.std.proofs.lemmas.List.Quantifiers.{position-Some}
use Rattle.law_renumber.specs.sql_keyword.declared.words.Keyword.{Keyword}
use Rattle.law_renumber.specs.sql_name.Name.{cut_name}
use Rattle.law_renumber.specs.sql_token.declared.token.Span.{Span}
use Rattle.law_renumber.specs.sql_token.declared.token.Tok.{Tok}
use Rattle.law_renumber.specs.sql_token.declared.token.TokKind.{TokKind}
use Rattle.law_renumber.specs.sql_token.declared.token.TokKind.TheVariants as kinds
use Rattle.law_renumber.specs.sql_token.Terminal.{is_name_kind, is_significant, is_significant_token}
use Rattle.law_renumber.specs.sql_token.Token.{Text, text_of}
use Rattle.law_renumber.specs.sql_tree.declared.nodes.Stmt.{Stmt}
use Rattle.law_renumber.specs.sql_tree.Path.{name_cuts, path_cuts}
use Rattle.law_renumber.specs.sql_tree.Range.{token_at}
use Rattle.law_renumber.specs.sql_tree.Statement.{Tree, no_token}
use Rattle.hazard_find.specs.Look.{after_dot, after_optional, after_words, name_after_dot, path_after, path_at, path_from, token_from}
use Rattle.law_hazards.specs.Builds.{goes_on}
use Rattle.law_hazards.specs.Views.{one_more, path_names, path_tokens}
use Rattle.law_hazards.specs.Words.{begin_with, shown, statement_tokens}
use Rattle.law_hazards.proofs.WordLaws.{Reads, alone, none_shown, optional_shown, reads, some_mapped, some_shown}

-- ---- blanks and comments give no names

no_name : (t : Text) (tok : Tok) → is_significant_token tok ≡ false → name_cuts t tok ≡ []
no_name t tok h = ap (λ b. cond b (cut_name (text_of t tok) ∷ []) []) (by_kind tok.kind h)
  where
    by_kind : (kind : TokKind) → is_significant kind ≡ false → is_name_kind kind ≡ false
    by_kind kinds.Blank h = refl
    by_kind kinds.LineComment h = refl
    by_kind kinds.BlockComment h = refl
    by_kind _ h = absurd (true≢false h)

module _ {X Y : Type 0} (p : X → Bool) (f : X → List Y) (nothing : (x : X) → p x ≡ false → f x ≡ []) where
  -- what comes of the first element that passes, and of those before it
  up_to_first : (xs : List X) (j : ℕ) (d : X) → j < length xs → ((k : ℕ) → k < j → p (get_or xs k d) ≡ false) → flat_map f (take (j + 1) xs) ≡ f (get_or xs j d)
  up_to_first [] j d l off = absurd (omega (arith, l))
  up_to_first (x ∷ xs) zero d l off = append-nil (f x)
  up_to_first (x ∷ xs) (suc j) d l off =
      let step : suc j + 1 ≡ suc (j + 1) = omega arith in
      ap (λ n. flat_map f (take n (x ∷ xs))) step
      ∙ (ap (λ ys. ys ++ flat_map f (take (j + 1) xs)) (nothing x (off 0 (omega arith)))
      ∙ up_to_first xs j d (omega (arith, l)) (λ k m. off (suc k) (omega (arith, m))))

-- ---- names from one number to another

module _ (tree : Tree) where
  -- the names among the tokens from number k to number m
  abbrev cuts : ℕ → ℕ → List (List ℕ)
  cuts k m = flat_map (name_cuts tree.text) (drop k (take (m + 1) tree.toks))

  -- up to the next token
  cuts_next : (n i k : ℕ) → token_from tree n i ≡ Some k → cuts i k ≡ name_cuts tree.text (token_at tree.toks k)
  unfolding token_from
  cuts_next n i k h =
      let xs : List Tok = drop i (take n tree.toks) in
      let found = some_mapped (position is_significant_token xs) i k h in
      let j : ℕ = found.0 in
      let sum : i + j ≡ k = found.2 in
      let first = position-Some is_significant_token xs j no_token found.1 in
      let inside : j < length xs = first.0 in
      let long = length-drop i (take n tree.toks) in
      let size = length-take n tree.toks in
      let below : k < n = omega (arith, inside, long, size, sum) in
      let upto : i + (j + 1) ≡ k + 1 = omega (arith, sum) in
      let part : take (j + 1) xs ≡ drop i (take (k + 1) tree.toks) =
      sym (drop-take i (j + 1) (take n tree.toks))
      ∙ (ap (λ m. drop i (take m (take n tree.toks))) upto ∙ ap (drop i) (take-take (k + 1) n tree.toks (omega (arith, below))))
      in
      let here : get_or xs j no_token ≡ token_at tree.toks k =
      get_or-drop i (take n tree.toks) j no_token
      ∙ (ap (λ m. get_or (take n tree.toks) m no_token) sum ∙ get_or-take n tree.toks k no_token below)
      in
      ap (flat_map (name_cuts tree.text)) (sym part)
      ∙ (up_to_first is_significant_token (name_cuts tree.text) (no_name tree.text) xs j no_token inside first.2 ∙ ap (name_cuts tree.text) here)

  -- a part of the tokens, and the next part
  parts : (k m p : ℕ) → k ≤ m + 1 → m ≤ p → drop k (take (p + 1) tree.toks) ≡ drop k (take (m + 1) tree.toks) ++ drop (m + 1) (take (p + 1) tree.toks)
  parts k m p low high =
      let size : ℕ = (m + 1) - k in
      let whole : k + size ≡ m + 1 = omega (arith, low) in
      let zs : List Tok = take (p + 1) tree.toks in
      sym (take-append-drop size (drop k zs))
      ∙ (ap (λ ys. ys ++ drop size (drop k zs))
      (sym (drop-take k size zs) ∙ (ap (λ n. drop k (take n zs)) whole ∙ ap (drop k) (take-take (m + 1) (p + 1) tree.toks (omega (arith, high)))))
      ∙ ap (λ ys. drop k (take (m + 1) tree.toks) ++ ys) (drop-drop size k zs ∙ ap (λ n. drop n zs) whole))

  cuts_parts : (k m p : ℕ) → k ≤ m + 1 → m ≤ p → cuts k p ≡ cuts k m ++ cuts (m + 1) p
  cuts_parts k m p low high =
      ap (flat_map (name_cuts tree.text)) (parts k m p low high)
      ∙ flat_map-append (name_cuts tree.text) (drop k (take (m + 1) tree.toks)) (drop (m + 1) (take (p + 1) tree.toks))

  -- ---- a dot and a name

  module _ (n : ℕ) where
    -- A dot and a token follow token k, and that token is number p.
    record Goes (k p : ℕ) : Type 0 where
      dot : ℕ
      after : k < dot
      before : dot < p
      shows : (others : List Tok → List Tok) → one_more tree.text others (shown tree (k + 1) n) ≡ token_at tree.toks dot ∷ token_at tree.toks p ∷ others (shown tree (p + 1) n)
      to_dot : cuts (k + 1) dot ≡ name_cuts tree.text (token_at tree.toks dot)
      to_name : cuts (dot + 1) p ≡ name_cuts tree.text (token_at tree.toks p)

    -- They do not.
    record Stays (k p : ℕ) : Type 0 where
      same : p ≡ k
      shows : (others : List Tok → List Tok) → one_more tree.text others (shown tree (k + 1) n) ≡ []

    module _ (k dot : ℕ) (at : token_from tree n (k + 1) ≡ Some dot) where
      abbrev is_dot : Bool
      is_dot = bytes_eq (text_of tree.text (token_at tree.toks dot)) (codes ".")

      -- what one more name is, by the tokens behind the dot
      one_more_is : (others : List Tok → List Tok) (toks : List Tok) → shown tree (dot + 1) n ≡ toks
          → one_more tree.text others (shown tree (k + 1) n) ≡ one_more tree.text others (token_at tree.toks dot ∷ toks)
      one_more_is others toks e =
          ap (one_more tree.text others) ((some_shown tree n (k + 1) dot at).shows ∙ ap (λ ts. token_at tree.toks dot ∷ ts) e)

      no_dot : (others : List Tok → List Tok) (toks : List Tok) → is_dot ≡ false → one_more tree.text others (token_at tree.toks dot ∷ toks) ≡ []
      no_dot others [] off = refl
      no_dot others (tok ∷ toks) off = ap (λ b. cond b (token_at tree.toks dot ∷ tok ∷ others toks) []) off

      by_name : is_dot ≡ true → (o : Option ℕ) → token_from tree n (dot + 1) ≡ o → Goes k (unwrap_or o k) ⊎ Stays k (unwrap_or o k)
      by_name on None e = inr (record { same = refl; shows = λ others. one_more_is others [] (none_shown tree n (dot + 1) e) })
      by_name on (Some p) e =
          let next = some_shown tree n (k + 1) dot at in
          let name = some_shown tree n (dot + 1) p e in
          let l = next.least in
          let m = name.least in
          inl
          (record {
            dot = dot;
            after = omega (arith, l);
            before = omega (arith, m);
            shows = λ others. one_more_is others (token_at tree.toks p ∷ shown tree (p + 1) n) name.shows
                ∙ ap (λ b. cond b (token_at tree.toks dot ∷ token_at tree.toks p ∷ others (shown tree (p + 1) n)) []) on;
            to_dot = cuts_next n (k + 1) dot at;
            to_name = cuts_next n (dot + 1) p e;
          })

      by_dot : (b : Bool) → is_dot ≡ b → Goes k (unwrap_or (cond b (token_from tree n (dot + 1)) None) k) ⊎ Stays k (unwrap_or (cond b (token_from tree n (dot + 1)) None) k)
      by_dot true on = by_name on (token_from tree n (dot + 1)) refl
      by_dot false off =
          inr (record { same = refl; shows = λ others. one_more_is others (shown tree (dot + 1) n) refl ∙ no_dot others (shown tree (dot + 1) n) off })

    by_token : (k : ℕ) (o : Option ℕ) → token_from tree n (k + 1) ≡ o
        → Goes k (unwrap_or (option_and_then (name_after_dot tree n) o) k) ⊎ Stays k (unwrap_or (option_and_then (name_after_dot tree n) o) k)
    by_token k None e = inr (record { same = refl; shows = λ others. ap (one_more tree.text others) (none_shown tree n (k + 1) e) })
    by_token k (Some dot) e = by_dot k dot e (is_dot k dot e) refl

    step : (k : ℕ) → Goes k (after_dot tree n k) ⊎ Stays k (after_dot tree n k)
    step k = by_token k (token_from tree n (k + 1)) refl

    -- the names up to the name behind the dot
    longer : (start k p : ℕ) (toks : List Tok) → start ≤ k → cuts start k ≡ flat_map (name_cuts tree.text) toks → (g : Goes k p)
        → cuts start p ≡ flat_map (name_cuts tree.text) (toks ++ token_at tree.toks g.dot ∷ token_at tree.toks p ∷ [])
    longer start k p toks low so g =
        let a = g.after in
        let b = g.before in
        let f : Tok → List (List ℕ) = name_cuts tree.text in
        cuts_parts start k p (omega (arith, low)) (omega (arith, a, b))
        ∙ (ap (λ ys. cuts start k ++ ys) (cuts_parts (k + 1) g.dot p (omega (arith, a)) (omega (arith, b)))
        ∙ (ap (λ ys. ys ++ (cuts (k + 1) g.dot ++ cuts (g.dot + 1) p)) so
        ∙ (ap (λ ys. flat_map f toks ++ (ys ++ cuts (g.dot + 1) p)) g.to_dot
        ∙ (ap (λ ys. flat_map f toks ++ (f (token_at tree.toks g.dot) ++ ys)) (g.to_name ∙ sym (append-nil (f (token_at tree.toks p))))
        ∙ sym (flat_map-append f toks (token_at tree.toks g.dot ∷ token_at tree.toks p ∷ []))))))

    -- ---- the names of the path that begins with token k

    module _ (k : ℕ) (l : k < length tree.toks) where
      abbrev ShowsNames : ℕ → Type 0
      ShowsNames p = cuts k p ≡ flat_map (name_cuts tree.text) (path_tokens tree.text (token_at tree.toks k ∷ shown tree (k + 1) n))

      one : cuts k k ≡ flat_map (name_cuts tree.text) (token_at tree.toks k ∷ [])
      one = ap (flat_map (name_cuts tree.text)) (alone tree k l)

      one_stays : Stays k k → ShowsNames k
      one_stays stays = one ∙ sym (ap (λ ts. flat_map (name_cuts tree.text) (token_at tree.toks k ∷ ts)) (stays.shows (one_more tree.text (λ others. []))))

      two : (m : ℕ) (g : Goes k m) → cuts k m ≡ flat_map (name_cuts tree.text) (token_at tree.toks k ∷ token_at tree.toks g.dot ∷ token_at tree.toks m ∷ [])
      two m g = longer k k m (token_at tree.toks k ∷ []) (omega arith) one g

      two_more : (m : ℕ) (g : Goes k m) (toks : List Tok) → one_more tree.text (λ others. []) (shown tree (m + 1) n) ≡ toks
          → path_tokens tree.text (token_at tree.toks k ∷ shown tree (k + 1) n) ≡ token_at tree.toks k ∷ token_at tree.toks g.dot ∷ token_at tree.toks m ∷ toks
      two_more m g toks e =
          ap (λ ts. token_at tree.toks k ∷ ts)
          (g.shows (one_more tree.text (λ others. [])) ∙ ap (λ ts. token_at tree.toks g.dot ∷ token_at tree.toks m ∷ ts) e)

      by_second : (m p : ℕ) → Goes k m → Goes m p ⊎ Stays m p → ShowsNames p
      by_second m p g (inl more) =
          let a = g.after in
          let b = g.before in
          longer k m p (token_at tree.toks k ∷ token_at tree.toks g.dot ∷ token_at tree.toks m ∷ []) (omega (arith, a, b)) (two m g) more
          ∙ sym (ap (flat_map (name_cuts tree.text)) (two_more m g (token_at tree.toks more.dot ∷ token_at tree.toks p ∷ []) (more.shows (λ others. []))))
      by_second m p g (inr stays) =
          ap (cuts k) stays.same ∙ (two m g ∙ sym (ap (flat_map (name_cuts tree.text)) (two_more m g [] (stays.shows (λ others. [])))))

      by_first : (m : ℕ) → after_dot tree n k ≡ m → Goes k m ⊎ Stays k m → ShowsNames (after_dot tree n m)
      by_first m is (inl g) = by_second m (after_dot tree n m) g (step m)
      by_first m is (inr stays) =
          let back : after_dot tree n m ≡ k = ap (after_dot tree n) stays.same ∙ (is ∙ stays.same) in
          subst ShowsNames (sym back) (one_stays (subst (Stays k) stays.same stays))

      path_so : ShowsNames (after_dot tree n (after_dot tree n k))
      path_so = by_first (after_dot tree n k) refl (step k)

    pub path_named : (i k : ℕ) → token_from tree n i ≡ Some k → path_cuts tree.text tree.toks (path_at tree n k) ≡ path_names tree.text (shown tree i n)
    path_named i k at =
        let next = some_shown tree n i k at in
        path_so k next.within ∙ sym (ap (path_names tree.text) next.shows)

-- ---- a path of one name

none_more : (t : Text) (toks : List Tok) → one_more t (λ others. []) toks ≡ [] → goes_on t toks ≡ false
none_more t [] h = refl
none_more t (dot ∷ []) h = refl
none_more t (dot ∷ tok ∷ toks) h = by (bytes_eq (text_of t dot) (codes ".")) h
  where
    by : (b : Bool) → cond b (dot ∷ tok ∷ []) [] ≡ [] → b ≡ false
    by true h = absurd (omega (arith, ap length h))
    by false h = refl

module _ (tree : Tree) (n k : ℕ) where
  not_before : (m p : ℕ) → Goes tree n k m → Goes tree n m p ⊎ Stays tree n m p → k ≡ p → ⊥
  not_before m p first (inl second) e =
      let a = first.after in
      let b = first.before in
      let c = second.after in
      let d = second.before in
      absurd (omega (arith, a, b, c, d, e))
  not_before m p first (inr stays) e =
      let a = first.after in
      let b = first.before in
      let same = stays.same in
      absurd (omega (arith, a, b, same, e))

  -- No dot and name follow it.
  pub ends_here : k ≡ after_dot tree n (after_dot tree n k) → goes_on tree.text (shown tree (k + 1) n) ≡ false
  ends_here e = by (step tree n k)
    where
      by : Goes tree n k (after_dot tree n k) ⊎ Stays tree n k (after_dot tree n k) → goes_on tree.text (shown tree (k + 1) n) ≡ false
      by (inl goes) = absurd (not_before (after_dot tree n k) (after_dot tree n (after_dot tree n k)) goes (step tree n (after_dot tree n k)) e)
      by (inr stays) = none_more tree.text (shown tree (k + 1) n) (stays.shows (λ others. []))

-- ---- the path that follows words

-- the tokens without those words, where they begin with them
abbrev pub after_these : Text → List Keyword → List Tok → List Tok
after_these t words toks = cond (begin_with t words toks) (drop (length words) toks) toks

-- The statement begins with the words, and then perhaps with others, and the names are those of the path.
abbrev pub Follows : Tree → List Keyword → List Keyword → Stmt → Span → Type 0
Follows tree words optional s span =
    (begin_with tree.text words (statement_tokens tree s) ≡ true)
    × (path_cuts tree.text tree.toks span ≡ path_names tree.text (after_these tree.text optional (drop (length words) (statement_tokens tree s))))

module _ (tree : Tree) (words optional : List Keyword) (s : Stmt) (span : Span) where
  by_start : (m : ℕ) → Reads tree (s.last + 1) words s.first (Some m) → (o : Option ℕ) → token_from tree (s.last + 1) (after_optional tree (s.last + 1) optional m) ≡ o
      → option_map (path_at tree (s.last + 1)) o ≡ Some span → Follows tree words optional s span
  by_start m read None at h = absurd (false≢true (ap is_some h))
  by_start m read (Some k) at h = (
    read.0,
    ap (path_cuts tree.text tree.toks) (sym (ap (λ o. unwrap_or o span) h))
        ∙ (path_named tree (s.last + 1) (after_optional tree (s.last + 1) optional m) k at
        ∙ ap (path_names tree.text) (optional_shown tree (s.last + 1) optional m ∙ ap (after_these tree.text optional) read.1)),
  )

  by_words : (o : Option ℕ) → Reads tree (s.last + 1) words s.first o
      → option_and_then (λ i. path_from tree (s.last + 1) (after_optional tree (s.last + 1) optional i)) o ≡ Some span → Follows tree words optional s span
  unfolding path_from
  by_words None read h = absurd (false≢true (ap is_some h))
  by_words (Some m) read h = by_start m read (token_from tree (s.last + 1) (after_optional tree (s.last + 1) optional m)) refl h

  pub path_follows : path_after tree words optional s ≡ Some span → Follows tree words optional s span
  unfolding path_after
  path_follows h = by_words (after_words tree (s.last + 1) words s.first) (reads tree (s.last + 1) words s.first) h
