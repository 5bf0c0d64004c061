-- A run of tokens of a statement became a word: what is reported then of all other statements.
use Rattle.std.proofs.Common.{◌≡◌, ℕ, zero, suc, ◌+◌, ◌-◌, ◌<◌, ◌≤◌, ◌⊎◌, inl, inr, Bool, true, false, List, [], ◌∷◌, ◌++◌, map, length, length-append, length-drop, append-nil, get_or, take, drop, sym, refl, ap, ◌∙◌, subst, arith}
use Rattle.std.proofs.lemmas.Bool.{cases_lt}
use Rattle.std.proofs.lemmas.Bool.Decides.{nat_tests}
use Rattle.std.proofs.lemmas.List.{get_or-append_right, length-map, length-take-le}
use Rattle.std.specs.Prelude.{◌==◌}
use Rattle.law_type_fixes.specs.sql_token.declared.token.Span.{Span}
use Rattle.law_type_fixes.specs.sql_token.declared.token.Tok.{Tok}
use Rattle.law_type_fixes.specs.sql_token.Token.{Text, text_of}
use Rattle.law_type_fixes.specs.sql_tree.declared.nodes.Stmt.{Stmt}
use Rattle.law_type_fixes.specs.sql_tree.Range.{token_at}
use Rattle.law_type_fixes.specs.sql_tree.Statement.{Tree, IsTree, no_token}
use Rattle.law_type_fixes.specs.law_renumber.Moved.{stmt_moved}
use Rattle.law_type_fixes.specs.law_edit_tokens.Exchange.{made_text, made_toks, tok_moved}
use Rattle.law_type_fixes.proofs.of_law_edit_tokens.After.{exchanged_after, exchanged_agrees}
use Rattle.law_type_fixes.specs.law_edit_inserts.Apart.{outside}
use Rattle.law_type_fixes.proofs.of_law_edit_inserts.Apart.{stays_within, statements_apart}
use Rattle.law_type_fixes.specs.law_edit_types.Runs.{fused, word_made, worded_tree}
use Rattle.law_type_fixes.specs.lint_transaction.Transaction.{no_stmt, stmt_at}
use Rattle.law_type_fixes.proofs.of_law_fixes.Tokens.{text_after, text_prefix}
use Rattle.law_type_fixes.specs.Moved.{byte_moved}
use Rattle.law_type_fixes.specs.Stays.{replaced}
use Rattle.law_type_fixes.proofs.Tokens.{bounds, high_token, low_token, place_high, place_low, fused_high, fused_low}
use Rattle.law_type_fixes.proofs.of_law_edit_types.Runs.{fused_first}
use Rattle.law_fix_steps.proofs.Alignments.{one_by_one}
use Rattle.law_fix_steps.proofs.InFront.{none_like}
use Rattle.law_fix_steps.proofs.Like.{Aligned, Like}
use Rattle.law_fix_steps.proofs.Moved.{Follows, Moves, moved_like}
use Rattle.law_fix_steps.proofs.Near.{Shifts, same_shifts, tok_shifts}
use Rattle.law_fix_steps.proofs.Paths.{path_follows}

-- the same number, of two on the same side
same_eq : (a b c d : ℕ) → (a ≡ b → c ≡ d) → (c ≡ d → a ≡ b) → (a == b) ≡ (c == d)
same_eq a b c d p q = by (a == b) (c == d) refl refl
  where
    is : (x y : ℕ) → (x == y) ≡ true → x ≡ y
    is x y h = grind (arith, nat_tests)

    are : (x y : ℕ) → x ≡ y → (x == y) ≡ true
    are x y h = grind (arith, nat_tests)

    by : (u v : Bool) → (a == b) ≡ u → (c == d) ≡ v → (a == b) ≡ (c == d)
    by true v e g = e ∙ sym (are c d (p (is a b e)))
    by false true e g = absurd (let x = are a b (q (is c d g)) in let y = sym x ∙ e in cc)
    by false false e g = e ∙ sym g

module _ (tree : Tree) (before : List Stmt) (st : Stmt) (after : List Stmt) (now : Stmt) (n m : ℕ) (w : Text) (is : IsTree tree) (parts : tree.stmts ≡ before ++ st ∷ after)
    (order : n ≤ m) (within : m < length tree.toks) where
  abbrev pub new : Tree
  new = worded_tree tree n m w before now after

  abbrev pub f : ℕ → ℕ
  f = fused n m

  abbrev pub move : ℕ → ℕ
  move = byte_moved (replaced tree n m w)

  abbrev pub from : ℕ
  from = (token_at tree.toks n).start

  abbrev pub until : ℕ
  until = (token_at tree.toks m).end

  abbrev pub size : ℕ
  size = length (made_text (word_made w))

  size_is : size ≡ length w
  size_is = ap length (append-nil w)

  pub low_follows : (x : ℕ) → x < n → Follows move f tree new x
  low_follows x h =
      let b = bounds tree.text tree.toks n m w is.lexed order within in
      let k = low_token tree.text tree.toks n m w is.lexed order within x h in
      let grows = b.grows in let some = k.some in let end = k.end in
      record {
        kind = ap (λ (t : Tok). t.kind) k.token;
        start = ap (λ (t : Tok). t.start) k.token ∙ place_low from until (length w) (token_at tree.toks x).start (omega (arith, grows, some, end));
        text = ap (λ (t : Tok). text_of new.text t) k.token
            ∙ sym (text_prefix tree.text new.text from (token_at tree.toks x) (exchanged_agrees tree.text (made_text (word_made w)) from until b.low) (omega (arith, some)) end);
      }

  pub high_follows : (x : ℕ) → m + 1 ≤ x → x < length tree.toks → Follows move f tree new x
  high_follows x h lt =
      let b = bounds tree.text tree.toks n m w is.lexed order within in
      let k = high_token tree.text tree.toks n m w is.lexed order within x h lt in
      let some = k.some in let start = k.start in
      let s = size_is in
      record {
        kind = ap (λ (t : Tok). t.kind) k.token;
        start = ap (λ (t : Tok). t.start) k.token ∙ (λ i. from + s i + ((token_at tree.toks x).start - until)) ∙ place_high from until (length w) (token_at tree.toks x).start start;
        text = ap (λ (t : Tok). text_of new.text t) k.token
            ∙ sym (text_after tree.text new.text until (from + size) (token_at tree.toks x) (sym (exchanged_after tree.text (made_text (word_made w)) from until b.low)) start (omega (arith, some)));
      }

  pub low_shifts : (x : ℕ) → x < n → Shifts f 0 0 tree new x
  low_shifts x h = same_shifts f tree new x (low_token tree.text tree.toks n m w is.lexed order within x h).token

  pub high_shifts : (x : ℕ) → m + 1 ≤ x → x < length tree.toks → Shifts f until (from + size) tree new x
  high_shifts x h lt =
      let k = high_token tree.text tree.toks n m w is.lexed order within x h lt in
      let start = k.start in let some = k.some in
      tok_shifts f tree new until (from + size) x k.token start (omega (arith, start, some))

  -- the word begins where the run began
  pub word_start : (token_at new.toks (f n)).start ≡ move (token_at tree.toks n).start
  word_start =
      let b = bounds tree.text tree.toks n m w is.lexed order within in
      let none : n - n ≡ 0 = omega arith in
      let few : length (take n tree.toks) ≡ n = length-take-le n tree.toks (omega (arith, order, within)) in
      ap (λ (y : ℕ). (token_at new.toks y).start) (fused_first n m order)
      ∙ ap (λ (k : Tok). k.start) (get_or-append_right (take n tree.toks) (made_toks from (word_made w) ++ map (tok_moved until (from + size)) (drop (m + 1) tree.toks)) n n no_token few (omega arith))
      ∙ ap (λ (y : ℕ). (get_or (made_toks from (word_made w) ++ map (tok_moved until (from + size)) (drop (m + 1) tree.toks)) y no_token).start) none
      ∙ place_low from until (length w) from b.grows

  -- all tokens but those in the run begin where they began
  pub starts_follow : (x : ℕ) → (x ≤ n) ⊎ (m + 1 ≤ x) → x < length tree.toks → (token_at new.toks (f x)).start ≡ move (token_at tree.toks x).start
  starts_follow x (inl h) lt = by (cases_lt x n)
    where
      by : (x < n) ⊎ (n ≤ x) → (token_at new.toks (f x)).start ≡ move (token_at tree.toks x).start
      by (inl p) = (low_follows x p).start
      by (inr p) = let e : n ≡ x = omega (arith, h, p) in subst (λ (y : ℕ). (token_at new.toks (f y)).start ≡ move (token_at tree.toks y).start) e word_start
  starts_follow x (inr h) lt = (high_follows x h lt).start

  pub new_count : length new.toks ≡ n + 1 + (length tree.toks - (m + 1))
  new_count =
      let few : length (take n tree.toks) ≡ n = length-take-le n tree.toks (omega (arith, order, within)) in
      let all = length-append (take n tree.toks) (made_toks from (word_made w) ++ map (tok_moved until (from + size)) (drop (m + 1) tree.toks)) in
      let some = length-map (drop (m + 1) tree.toks) (tok_moved until (from + size)) in
      let rest = length-drop (m + 1) tree.toks in
      omega (arith, few, all, some, rest)

  pub low_moves : (lo hi : ℕ) → hi ≤ n → Moves move f lo hi tree new
  low_moves lo hi top = record {
    tokens = λ x a b. low_follows x (omega (arith, b, top));
    down = 0;
    up = 0;
    shifts = λ x a b. low_shifts x (omega (arith, b, top));
    paths = λ span e.
        (let u = stays_within lo hi span.first (ap (λ (s : Span). s.first) e) in
        let v = stays_within lo hi span.last (ap (λ (s : Span). s.last) e) in
        path_follows move f tree new lo hi (omega (arith, top, order, within)) (λ x a b. low_follows x (omega (arith, b, top)))
        (λ x a b. fused_low n m (suc x) (omega (arith, b, top)) ∙ ap suc (sym (fused_low n m x (omega (arith, b, top)))))
        (λ x a b. (let l = fused_low n m x (omega (arith, b, top)) in let c = new_count in omega (arith, l, c, b, top)))
        span u.0 u.1 v.0 v.1);
    apart = λ x y a b c d.
        (let p = fused_low n m x (omega (arith, b, top)) in let q = fused_low n m y (omega (arith, d, top)) in λ i. p i == q i);
  }

  pub high_moves : (lo hi : ℕ) → m + 1 ≤ lo → hi ≤ length tree.toks → Moves move f lo hi tree new
  high_moves lo hi low top = record {
    tokens = λ x a b. high_follows x (omega (arith, low, a)) (omega (arith, b, top));
    down = until;
    up = from + size;
    shifts = λ x a b. high_shifts x (omega (arith, low, a)) (omega (arith, b, top));
    paths = λ span e.
        (let u = stays_within lo hi span.first (ap (λ (s : Span). s.first) e) in
        let v = stays_within lo hi span.last (ap (λ (s : Span). s.last) e) in
        path_follows move f tree new lo hi top (λ x a b. high_follows x (omega (arith, low, a)) (omega (arith, b, top)))
        (λ x a b. (let p = fused_high n m x order (omega (arith, low, a)) in let q = fused_high n m (suc x) order (omega (arith, low, a)) in omega (arith, p, q, low, a)))
        (λ x a b. (let p = fused_high n m x order (omega (arith, low, a)) in let c = new_count in omega (arith, p, c, low, a, b, top)))
        span u.0 u.1 v.0 v.1);
    apart = λ x y a b c d.
        (let p = fused_high n m x order (omega (arith, low, a)) in let q = fused_high n m y order (omega (arith, low, c)) in
        same_eq (f x) (f y) x y (λ e. omega (arith, p, q, e, low, a, c)) (λ e. ap f e));
  }

  -- ---- all other statements

  module _ (exact : Bool) (gone : ℕ) (first : st.first ≤ n) (last : m < st.last + 1) where
    stmts_first : {x y : Stmt} {xs ys : List Stmt} → x ∷ xs ≡ y ∷ ys → x ≡ y
    stmts_first e = cc

    stmts_rest : {x y : Stmt} {xs ys : List Stmt} → x ∷ xs ≡ y ∷ ys → xs ≡ ys
    stmts_rest e = cc

    abbrev L : Stmt → Stmt → Type 0
    L x y = Like exact move gone tree new x y

    side_like : (lo hi : ℕ) → Moves move f lo hi tree new → (ss : List Stmt) → map (stmt_moved (outside lo hi)) ss ≡ ss → (i : ℕ) → L (get_or ss i no_stmt) (get_or (map (stmt_moved f) ss) i no_stmt)
    side_like lo hi mv [] e i = none_like exact move gone tree new
    side_like lo hi mv (x ∷ xs) e zero = moved_like exact move f gone lo hi tree new mv x (stmts_first e)
    side_like lo hi mv (x ∷ xs) e (suc i) = side_like lo hi mv xs (stmts_rest e) i

    list_like : (lo hi : ℕ) → Moves move f lo hi tree new → L st now → (xs ys : List Stmt) → map (stmt_moved (outside lo hi)) xs ≡ xs →
        ((i : ℕ) → L (get_or ys i no_stmt) (get_or (map (stmt_moved f) ys) i no_stmt)) → (i : ℕ) → L (get_or (xs ++ st ∷ ys) i no_stmt) (get_or (map (stmt_moved f) xs ++ now ∷ map (stmt_moved f) ys) i no_stmt)
    list_like lo hi mv this [] ys e others zero = this
    list_like lo hi mv this [] ys e others (suc i) = others i
    list_like lo hi mv this (x ∷ xs) ys e others zero = moved_like exact move f gone lo hi tree new mv x (stmts_first e)
    list_like lo hi mv this (x ∷ xs) ys e others (suc i) = list_like lo hi mv this xs ys (stmts_rest e) others i

    count : length new.stmts ≡ length tree.stmts
    count =
        omega (
          arith,
          length-append (map (stmt_moved f) before) (now ∷ map (stmt_moved f) after),
          length-map before (stmt_moved f),
          length-map after (stmt_moved f),
          length-append before (st ∷ after),
          ap length parts,
        )

    pub worded_aligned : (assumed : Bool) → L st now → Aligned exact move gone assumed tree new
    worded_aligned assumed this = one_by_one exact move gone assumed tree new likes count
      where
        likes : (i : ℕ) → L (stmt_at tree i) (stmt_at new i)
        likes i =
            let a = statements_apart tree before st after is parts in
            subst (λ (ss : List Stmt). L (get_or ss i no_stmt) (stmt_at new i)) (sym parts)
            (list_like 0 st.first (low_moves 0 st.first first) this before after a.before_is
            (side_like (st.last + 1) (length tree.toks) (high_moves (st.last + 1) (length tree.toks) (omega (arith, last)) (omega arith)) after a.after_is) i)
