-- Blocks ascend, so that a walk need only look at the next one.
use Rattle.std.proofs.Common.{◌≡◌, ◌∙◌, sym, ap, subst, refl, ℕ, zero, suc, ◌+◌, ◌-◌, ◌<◌, ◌≤◌, add-one, Bool, true, false, ◌&&◌, ◌||◌, not, cond, nat_lt, List, [], ◌∷◌, ◌++◌, length, get_or, append_assoc, ◌⊎◌, inl, inr, arith}
use Rattle.std.proofs.lemmas.Bool.{lt-ltb}
use Rattle.std.proofs.lemmas.Bool.Decides.{nat_tests}
use Rattle.std.proofs.lemmas.List.{append-nil, length-append, get_or-append-add}
use Rattle.std.proofs.lemmas.List.Folds.{list_any-append}
use Rattle.std.specs.List.{list_any}
use Rattle.std.specs.Prelude.{nat_le}
use Rattle.lint_ignore.specs.sql_tree.Statement.{Tree}
use Rattle.lint_transaction.specs.Earlier.{any_below, any_between, concat_below}
use Rattle.lint_pass.specs.declared.blocks.Block.{Block}
use Rattle.lint_pass.specs.Blocks.{begins_at, ends_at, bounds_at, stamps_at, leads_to, block_of, block_to}
use Rattle.lint_pass.specs.BlockPlace.{covers, starts_by}

le-true : (a b : ℕ) → a ≤ b → nat_le a b ≡ true
le-true a b l = grind (arith, nat_tests)

le-false : (a b : ℕ) → b < a → nat_le a b ≡ false
le-false a b l = grind (arith, nat_tests)

or_true : (a b : Bool) → b ≡ true → (a || b) ≡ true
or_true true b h = refl
or_true false b h = h

any_below_at : (p : ℕ → Bool) (n k : ℕ) → k < n → p k ≡ true → any_below p n ≡ true
any_below_at p zero k l h = absurd (omega arith)
any_below_at p (suc n) k l h = by (nat_lt k n) refl (λ lt. any_below_at p n k lt h)
  where
    by : (b : Bool) → b ≡ nat_lt k n → (k < n → any_below p n ≡ true) → any_below p (suc n) ≡ true
    by true e front = let lt : k < n = grind (arith, nat_tests) in ap (λ b. b || p n) (front lt)
    by false e front = let same : k ≡ n = grind (arith, nat_tests) in or_true (any_below p n) (p n) (ap p (sym same) ∙ h)

-- no BEGIN leads over another one
not_led : (tree : Tree) (b m e : ℕ) → b < m → m < e → begins_at tree m ≡ true → leads_to tree b e ≡ false
not_led tree b m e l g h =
    ap (λ x. begins_at tree b && not x) (any_below_at (λ k. nat_lt b k && bounds_at tree k) e m g ((λ i. lt-ltb b m l i && (h i || ends_at tree m)))) ∙ none (begins_at tree b)
  where
    none : (x : Bool) → (x && false) ≡ false
    none true = refl
    none false = refl

no_block : (tree : Tree) (e b : ℕ) → leads_to tree b e ≡ false → block_of tree e b ≡ []
no_block tree e b h = ap (λ x. cond {A = List Block} (ends_at tree e && (x && any_between (stamps_at tree) b e)) (record { first = b; last = e } ∷ []) []) h ∙ by (ends_at tree e)
  where
    by : (x : Bool) → cond {A = List Block} (x && false) (record { first = b; last = e } ∷ []) [] ≡ []
    by true = refl
    by false = refl

none_below : (tree : Tree) (e m n : ℕ) → n ≤ m → m < e → begins_at tree m ≡ true → concat_below (block_of tree e) n ≡ []
none_below tree e m zero l g h = refl
none_below tree e m (suc n) l g h = λ i. none_below tree e m n (omega arith) g h i ++ no_block tree e n (not_led tree n m e (omega arith) g h) i

-- at most one block, which ends with statement e
abbrev pub IsBlock : Tree → ℕ → List Block → Type 0
IsBlock tree e xs = (xs ≡ []) ⊎ ((b : Block) × (xs ≡ b ∷ []) × (b.last ≡ e) × (b.first < e) × (begins_at tree b.first ≡ true))

one_below : (tree : Tree) (e n : ℕ) → n ≤ e → IsBlock tree e (concat_below (block_of tree e) n)
one_below tree e zero l = inl refl
one_below tree e (suc n) l =
    by (one_below tree e n (omega arith)) (ends_at tree e) (begins_at tree n) refl (any_between (bounds_at tree) n e) (any_between (stamps_at tree) n e)
  where
    block : Block
    block = record { first = n; last = e }

    some : begins_at tree n ≡ true → (xs : List Block) → concat_below (block_of tree e) n ++ block ∷ [] ≡ xs → xs ≡ block ∷ []
    some h xs q = sym q ∙ ap (λ ys. ys ++ block ∷ []) (none_below tree e n n (omega arith) l h)

    nothing : IsBlock tree e (concat_below (block_of tree e) n) → IsBlock tree e (concat_below (block_of tree e) n ++ [])
    nothing h = subst (IsBlock tree e) (sym (append-nil (concat_below (block_of tree e) n))) h

    by : IsBlock tree e (concat_below (block_of tree e) n) → (end begin : Bool) → begin ≡ begins_at tree n → (bound stamp : Bool) → IsBlock tree e (concat_below (block_of tree e) n ++ cond (end && ((begin && not bound) && stamp)) (block ∷ []) [])
    by h true true q false true = inr (block, some (sym q) _ refl, refl, l, sym q)
    by h true true q false false = nothing h
    by h true true q true stamp = nothing h
    by h true false q bound stamp = nothing h
    by h false begin q bound stamp = nothing h

one_block : (tree : Tree) (e : ℕ) → IsBlock tree e (block_to tree e)
one_block tree e = one_below tree e e (omega arith)

-- ---- the blocks that end with statement j or one of the next k

pub rest : {A : Type 0} → (ℕ → List A) → ℕ → ℕ → List A
rest f j zero = []
rest f j (suc k) = f j ++ rest f (suc j) k

split : {A : Type 0} (f : ℕ → List A) (j k n : ℕ) → n ≡ j + k → concat_below f n ≡ concat_below f j ++ rest f j k
unfolding rest
split f j zero n e = let same : n ≡ j = omega arith in ap (concat_below f) same ∙ sym (append-nil (concat_below f j))
split f j (suc k) n e = split f (suc j) k n (omega arith) ∙ append_assoc (concat_below f j) (f j) (rest f (suc j) k)

-- after a BEGIN that comes after statement i no block covers it
uncovered_one : (tree : Tree) (i m e b : ℕ) → i < m → m < e → begins_at tree m ≡ true → list_any (covers i) (block_of tree e b) ≡ false
uncovered_one tree i m e b l g h = by (nat_lt b m) refl
  where
    at : (c : Bool) → list_any (covers i) (cond c (record { first = b; last = e } ∷ []) []) ≡ (c && (covers i (record { first = b; last = e }) || false))
    at true = refl
    at false = refl

    far : (c d : Bool) → (c && ((false && d) || false)) ≡ false
    far true d = refl
    far false d = refl

    by : (x : Bool) → x ≡ nat_lt b m → list_any (covers i) (block_of tree e b) ≡ false
    by true q = let lt : b < m = grind (arith, nat_tests) in ap (list_any (covers i)) (no_block tree e b (not_led tree b m e lt g h))
    by false q =
        let lt : i < b = grind (arith, nat_tests) in
        at (ends_at tree e && (leads_to tree b e && any_between (stamps_at tree) b e))
        ∙ ap (λ y. (ends_at tree e && (leads_to tree b e && any_between (stamps_at tree) b e)) && ((y && nat_le i e) || false)) (le-false b i lt)
        ∙ far (ends_at tree e && (leads_to tree b e && any_between (stamps_at tree) b e)) (nat_le i e)

uncovered_pieces : {A : Type 0} (p : A → Bool) (f : ℕ → List A) (n : ℕ) → ((b : ℕ) → list_any p (f b) ≡ false) → list_any p (concat_below f n) ≡ false
uncovered_pieces p f zero h = refl
uncovered_pieces p f (suc n) h = list_any-append p (concat_below f n) (f n) ∙ (λ i. uncovered_pieces p f n h i || h n i)

uncovered_rest : (tree : Tree) (i m j k : ℕ) → i < m → m < j → begins_at tree m ≡ true → list_any (covers i) (rest (block_to tree) j k) ≡ false
unfolding rest
uncovered_rest tree i m j zero l g h = refl
uncovered_rest tree i m j (suc k) l g h =
    list_any-append (covers i) (block_to tree j) (rest (block_to tree) (suc j) k)
    ∙ (λ x. uncovered_pieces (covers i) (block_of tree j) j (λ b. uncovered_one tree i m j b l g h) x || uncovered_rest tree i m (suc j) k l (omega arith) h x)

-- a statement lies in a block that ends with it or later where the first of these begins by it
covered_rest : (tree : Tree) (i j k : ℕ) → i ≤ j → list_any (covers i) (rest (block_to tree) j k) ≡ starts_by i (rest (block_to tree) j k)
unfolding rest
covered_rest tree i j zero l = refl
covered_rest tree i j (suc k) l = by (covered_rest tree i (suc j) k (omega arith)) (block_to tree j) (one_block tree j)
  where
    after : List Block
    after = rest (block_to tree) (suc j) k

    first : (b : Block) → b.last ≡ j → b.first < j → begins_at tree b.first ≡ true → (x : Bool) → x ≡ nat_le b.first i → ((x && nat_le i b.last) || list_any (covers i) after) ≡ x
    first b q lt h true e = ap (λ y. y || list_any (covers i) after) (le-true i b.last (omega arith))
    first b q lt h false e = let far : i < b.first = grind (arith, nat_tests) in uncovered_rest tree i b.first (suc j) k far (omega arith) h

    by : list_any (covers i) after ≡ starts_by i after → (xs : List Block) → IsBlock tree j xs → list_any (covers i) (xs ++ after) ≡ starts_by i (xs ++ after)
    by later xs (inl e) = subst (λ ys. list_any (covers i) (ys ++ after) ≡ starts_by i (ys ++ after)) (sym e) later
    by later xs (inr (b, e, q, lt, h)) = subst (λ ys. list_any (covers i) (ys ++ after) ≡ starts_by i (ys ++ after)) (sym e) (first b q lt h (nat_le b.first i) refl)

-- blocks that have ended cover no later statement
ended_cover : (tree : Tree) (i n : ℕ) → n ≤ i → list_any (covers i) (concat_below (block_to tree) n) ≡ false
ended_cover tree i zero l = refl
ended_cover tree i (suc n) l =
    list_any-append (covers i) (concat_below (block_to tree) n) (block_to tree n)
    ∙ (λ x. ended_cover tree i n (omega arith) x || by (block_to tree n) (one_block tree n) x)
  where
    none : (x : Bool) → ((x && false) || false) ≡ false
    none true = refl
    none false = refl

    by : (xs : List Block) → IsBlock tree n xs → list_any (covers i) xs ≡ false
    by xs (inl e) = ap (list_any (covers i)) e
    by xs (inr (b, e, q, lt, h)) = ap (list_any (covers i)) e ∙ ap (λ y. (nat_le b.first i && y) || false) (le-false i b.last (omega arith)) ∙ none (nat_le b.first i)

-- A statement lies in a block where the first block that has not ended begins by it.
pub in_block_by_next : (tree : Tree) (i n : ℕ) → i ≤ n → list_any (covers i) (concat_below (block_to tree) n) ≡ starts_by i (rest (block_to tree) i (n - i))
in_block_by_next tree i n l =
    ap (list_any (covers i)) (split (block_to tree) i (n - i) n (omega arith))
    ∙ list_any-append (covers i) (concat_below (block_to tree) i) (rest (block_to tree) i (n - i))
    ∙ (λ x. ended_cover tree i i (omega arith) x || covered_rest tree i i (n - i) (omega arith) x)

-- ---- the number of the next block

-- the first block of the rest, if there is one, ends with statement j or later
abbrev pub HasHead : ℕ → List Block → Type 0
HasHead j xs = (xs ≡ []) ⊎ ((b : Block) × (bs : List Block) × (xs ≡ b ∷ bs) × (j ≤ b.last))

rest_head : (tree : Tree) (j k : ℕ) → HasHead j (rest (block_to tree) j k)
unfolding rest
rest_head tree j zero = inl refl
rest_head tree j (suc k) = by (rest_head tree (suc j) k) (block_to tree j) (one_block tree j)
  where
    after : List Block
    after = rest (block_to tree) (suc j) k

    later : HasHead (suc j) after → HasHead j after
    later (inl e) = inl e
    later (inr (b, bs, e, l)) = inr (b, bs, e, omega arith)

    by : HasHead (suc j) after → (xs : List Block) → IsBlock tree j xs → HasHead j (xs ++ after)
    by h xs (inl e) = subst (λ ys. HasHead j (ys ++ after)) (sym e) (later h)
    by h xs (inr (b, e, q, lt, g)) = inr (b, after, ap (λ ys. ys ++ after) e, omega arith)

module _ (tree : Tree) (i n next : ℕ) (bs : List Block) (d : Block) (within : i < n) (bs_is : bs ≡ concat_below (block_to tree) n) (next_is : next ≡ length (concat_below (block_to tree) i)) where
  left : List Block
  left = rest (block_to tree) i (n - i)

  parts : bs ≡ concat_below (block_to tree) i ++ left
  unfolding left
  parts = bs_is ∙ split (block_to tree) i (n - i) n (omega arith)

  count : length bs ≡ next + length left
  count = ap length parts ∙ length-append (concat_below (block_to tree) i) left ∙ ap (λ m. m + length left) (sym next_is)

  place : next ≡ length (concat_below (block_to tree) i) + 0
  place = omega (arith, next_is)

  at_next : (b : Block) (cs : List Block) → left ≡ b ∷ cs → get_or bs next d ≡ b
  at_next b cs e = (λ x. get_or (parts x) (place x) d) ∙ get_or-append-add (concat_below (block_to tree) i) left 0 d ∙ ap (λ ys. get_or ys 0 d) e

  -- statement i lies in a block where there is a next block that begins by it
  pub in_next : next < length bs → list_any (covers i) bs ≡ nat_le (get_or bs next d).first i
  unfolding left
  in_next l =
      ap (list_any (covers i)) bs_is ∙ in_block_by_next tree i n (omega arith) ∙ by (rest_head tree i (n - i))
    where
      by : HasHead i left → starts_by i left ≡ nat_le (get_or bs next d).first i
      by (inl e) = let none : length left ≡ 0 = ap length e in absurd (omega (arith, count))
      by (inr (b, cs, e, j)) = ap (starts_by i) e ∙ ap (λ (x : Block). nat_le x.first i) (sym (at_next b cs e))

  pub in_none : length bs ≤ next → list_any (covers i) bs ≡ false
  unfolding left
  in_none l = ap (list_any (covers i)) bs_is ∙ in_block_by_next tree i n (omega arith) ∙ by (rest_head tree i (n - i))
    where
      by : HasHead i left → starts_by i left ≡ false
      by (inl e) = ap (starts_by i) e
      by (inr (b, cs, e, j)) = let some : length left ≡ suc (length cs) = ap length e in absurd (omega (arith, count))

  left_is : left ≡ block_to tree i ++ rest (block_to tree) (suc i) (n - suc i)
  unfolding left rest
  left_is = let e : n - i ≡ suc (n - suc i) = omega arith in ap (rest (block_to tree) i) e

  ended_count : length (concat_below (block_to tree) (i + 1)) ≡ next + length (block_to tree i)
  ended_count = rw add-one (length-append (concat_below (block_to tree) i) (block_to tree i) ∙ ap (λ m. m + length (block_to tree i)) (sym next_is))

  -- the next block ends with statement i, or none does
  pub next_ends : next < length bs → (get_or bs next d).last ≡ i → next + 1 ≡ length (concat_below (block_to tree) (i + 1))
  next_ends l e = by (one_block tree i) (rest_head tree (suc i) (n - suc i))
    where
      after : List Block
      after = rest (block_to tree) (suc i) (n - suc i)

      by : IsBlock tree i (block_to tree i) → HasHead (suc i) after → next + 1 ≡ length (concat_below (block_to tree) (i + 1))
      by (inr (b, is, q, lt, g)) h = let one : length (block_to tree i) ≡ 1 = ap length is in omega (arith, ended_count)
      by (inl none) (inl empty) =
          let no_left : length left ≡ 0 = ap length (left_is ∙ (λ x. none x ++ empty x)) in absurd (omega (arith, count))
      by (inl none) (inr (b, cs, is, j)) =
          let same : (get_or bs next d).last ≡ b.last = ap (λ (x : Block). x.last) (at_next b cs (left_is ∙ (λ x. none x ++ is x))) in absurd (omega arith)

  pub next_stays : ((next < length bs) → (get_or bs next d).last ≡ i → ⊥) → next ≡ length (concat_below (block_to tree) (i + 1))
  next_stays far = by (one_block tree i)
    where
      by : IsBlock tree i (block_to tree i) → next ≡ length (concat_below (block_to tree) (i + 1))
      by (inl none) = let empty : length (block_to tree i) ≡ 0 = ap length none in omega (arith, ended_count)
      by (inr (b, is, q, lt, g)) =
          let after = rest (block_to tree) (suc i) (n - suc i) in
          let head : left ≡ b ∷ after = left_is ∙ ap (λ ys. ys ++ after) is in
          let some : length left ≡ suc (length after) = ap length head in
          absurd (far (omega (arith, count)) (ap (λ (x : Block). x.last) (at_next b after head) ∙ q))
