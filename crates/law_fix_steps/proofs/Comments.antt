-- An edit that makes no comment makes none that says that no transaction is to be assumed, and no ignore comment.
use Rattle.std.proofs.Common.{◌≡◌, ℕ, zero, suc, get_or, ◌+◌, ◌-◌, ◌<◌, ◌≤◌, Bool, true, false, cond, List, [], ◌∷◌, ◌++◌, map, length, take, drop, sym, refl, ap, ◌∙◌, subst, arith}
use Rattle.std.proofs.lemmas.List.{drop-drop, drop_more, take-append-drop, take_more}
use Rattle.std.specs.Prelude.{◌||◌}
use Rattle.std.specs.List.{list_any, starts_with}
use Rattle.law_type_fixes.proofs.of_sql_token.Ahead.{Agree}
use Rattle.law_type_fixes.specs.sql_token.declared.token.Tok.{Tok}
use Rattle.law_type_fixes.specs.sql_token.declared.token.TokKind.{TokKind}
use Rattle.law_type_fixes.specs.sql_token.declared.token.TokKind.TheVariants.{LineComment, BlockComment}
use Rattle.law_type_fixes.specs.sql_token.Token.{Text, Leads, Lexed, text_of}
use Rattle.law_type_fixes.specs.sql_tree.declared.nodes.Stmt.{Stmt}
use Rattle.law_type_fixes.specs.sql_tree.Statement.{Tree, IsTree, no_token}
use Rattle.law_type_fixes.specs.law_edit_inserts.Built.{concurrently_tree}
use Rattle.law_type_fixes.specs.law_edit_inserts.SetInFront.{set_tree}
use Rattle.law_type_fixes.specs.law_edit_types.Runs.{word_made, worded_tree}
use Rattle.law_type_fixes.specs.law_edit_tokens.Edits.{concurrently_made, set_made}
use Rattle.law_type_fixes.specs.law_edit_tokens.Exchange.{Made, exchanged, made_text, made_toks, reread, tok_moved}
use Rattle.law_type_fixes.proofs.of_law_edit_tokens.After.{exchanged_after, exchanged_agrees, leads_append, leads_split, leads_within}
use Rattle.law_type_fixes.proofs.of_law_edit_tokens.Prefix.{leads_grow}
use Rattle.law_type_fixes.specs.lint_ignore.Comment.{inside, body_of, file_text, has_disable_comment, ignore_in, ignore_in_token, is_disable_body, is_disable_comment, line_text}
use Rattle.law_type_fixes.specs.lint_ignore.declared.ignore.IgnoreKind.{IgnoreKind}
use Rattle.law_type_fixes.specs.lint_ignore.declared.ignore.IgnoreKind.TheVariants.{File, Line}
use Rattle.law_type_fixes.specs.lint_ignore.Part.{Part, part_after, part_before}
use Rattle.law_type_fixes.proofs.of_law_fixes.Tokens.{text_after, text_prefix}
use Rattle.std.specs.Option.{option_and_then}
use Rattle.std.specs.Prelude.{None, Some, is_some, nat_eq}
use Rattle.law_fix_steps.specs.Step.{has_ignore_comment}

-- ---- what a token says, by its kind and text

-- that no transaction is to be assumed
says : TokKind → ℕ → Text → Bool
says kind at bytes = is_disable_body (option_and_then (λ p. Some (body_of p)) (inside kind (record { at = at; bytes = bytes })))

-- whatever its place is
anywhere : (kind : TokKind) (at place : ℕ) (bytes : Text) → says kind at bytes ≡ says kind place bytes
unfolding says
anywhere LineComment at place bytes = refl
anywhere BlockComment at place bytes = refl
anywhere kind at place bytes = refl

-- What is asked of a test of tokens: it sees the kind and the text alone.
abbrev SeesText : (Text → Tok → Bool) → Type 0
SeesText p = (t u : Text) (k l : Tok) → l.kind ≡ k.kind → text_of u l ≡ text_of t k → p u l ≡ p t k

disable_seen : SeesText is_disable_comment
unfolding says
disable_seen t u k l kind text = (λ i. says (kind i) l.start (text i)) ∙ anywhere k.kind l.start k.start (text_of t k)

-- that it is an ignore comment
abbrev is_ignore : Text → Tok → Bool
is_ignore t k = is_some (ignore_in_token t k)

ignores : TokKind → ℕ → Text → Bool
ignores kind at bytes = is_some (option_and_then ignore_in (option_and_then (λ p. Some (body_of p)) (inside kind (record { at = at; bytes = bytes }))))

some_or : (x y : Part × IgnoreKind) (b c : Bool) → is_some (cond b (Some x) (cond c (Some y) None)) ≡ (b || c)
some_or x y true c = refl
some_or x y false true = refl
some_or x y false false = refl

ignore_is : (p : Part) → is_some (ignore_in p) ≡ (starts_with nat_eq p.bytes file_text || starts_with nat_eq p.bytes line_text)
ignore_is p = some_or (part_after (length file_text) p, File) (part_after (length line_text) p, Line) (starts_with nat_eq p.bytes file_text) (starts_with nat_eq p.bytes line_text)

ignores_anywhere : (kind : TokKind) (at place : ℕ) (bytes : Text) → ignores kind at bytes ≡ ignores kind place bytes
unfolding ignores
ignores_anywhere LineComment at place bytes =
    ignore_is (body_of (part_after 2 (record { at = at; bytes = bytes }))) ∙ sym (ignore_is (body_of (part_after 2 (record { at = place; bytes = bytes }))))
ignores_anywhere BlockComment at place bytes =
    ignore_is (body_of (part_before (length bytes - 4) (part_after 2 (record { at = at; bytes = bytes }))))
    ∙ sym (ignore_is (body_of (part_before (length bytes - 4) (part_after 2 (record { at = place; bytes = bytes })))))
ignores_anywhere kind at place bytes = refl

ignore_seen : SeesText is_ignore
unfolding ignores
ignore_seen t u k l kind text = (λ i. ignores (kind i) l.start (text i)) ∙ ignores_anywhere k.kind l.start k.start (text_of t k)

any_append : (p : Tok → Bool) (xs ys : List Tok) → list_any p (xs ++ ys) ≡ (list_any p xs || list_any p ys)
any_append p [] ys = refl
any_append p (x ∷ xs) ys = ap (λ (b : Bool). p x || b) (any_append p xs ys) ∙ or_assoc (p x) (list_any p xs) (list_any p ys)
  where
    or_assoc : (a b c : Bool) → (a || (b || c)) ≡ ((a || b) || c)
    or_assoc true b c = refl
    or_assoc false b c = refl

any_drop : (p : Tok → Bool) (n : ℕ) (xs : List Tok) → list_any p (drop n xs) ≡ true → list_any p xs ≡ true
any_drop p zero xs h = h
any_drop p (suc n) [] h = h
any_drop p (suc n) (x ∷ xs) h = ap (λ (b : Bool). p x || b) (any_drop p n xs h) ∙ or_true (p x)
  where
    or_true : (a : Bool) → (a || true) ≡ true
    or_true true = refl
    or_true false = refl

-- ---- tokens before and after one

record Around (t : Text) (toks : List Tok) (n : ℕ) : Type 0 where
  pub front : Leads t 0 (take n toks) (get_or toks n no_token).start
  pub here : Leads t (get_or toks n no_token).start (get_or toks n no_token ∷ []) (get_or toks n no_token).end
  pub after : Leads t (get_or toks n no_token).end (drop (n + 1) toks) (length t)

around : (t : Text) (toks : List Tok) (n : ℕ) → Lexed t toks → n < length toks → Around t toks n
around t toks n lexed within =
    let whole : toks ≡ take n toks ++ get_or toks n no_token ∷ drop (n + 1) toks =
    sym (take-append-drop n toks) ∙ ap (λ (x : List Tok). take n toks ++ x) (drop_more toks n no_token within) in
    let lead = leads_split t 0 (length t) (take n toks) (get_or toks n no_token) (drop (n + 1) toks) (subst (λ (x : List Tok). Leads t 0 x (length t)) whole lexed) in
    record { front = lead.0; here = (refl, lead.1.1, refl); after = lead.1.2 }

either_or : (x y z : Bool) → (x || y) ≡ true → (y ≡ true → z ≡ true) → (x || z) ≡ true
either_or true y z h k = refl
either_or false y z h k = k h

-- in tokens up to number n and those from number m on
in_parts : (p : Tok → Bool) (n m : ℕ) (toks : List Tok) → n ≤ m → (list_any p (take n toks) || list_any p (drop m toks)) ≡ true → list_any p toks ≡ true
in_parts p n m toks le h =
    let e : m - n + n ≡ m = omega arith in
    ap (list_any p) (sym (take-append-drop n toks)) ∙ any_append p (take n toks) (drop n toks)
    ∙ either_or (list_any p (take n toks)) (list_any p (drop m toks)) (list_any p (drop n toks)) h
    (λ k. any_drop p (m - n) (drop n toks) (ap (list_any p) (drop-drop (m - n) n toks ∙ ap (λ (x : ℕ). drop x toks) (adds n m le)) ∙ k))
  where
    adds : (n m : ℕ) → n ≤ m → n + (m - n) ≡ m
    adds n m h = omega arith

-- ---- the three edits, and a test that no new token passes

module _ (p : Text → Tok → Bool) (seen : SeesText p) where
  abbrev says_so : Tree → Bool
  says_so tree = list_any (p tree.text) tree.toks

  front_says : (t u : Text) (c i e : ℕ) (ks : List Tok) → Agree t u c → Leads t i ks e → e ≤ c → list_any (p u) ks ≡ list_any (p t) ks
  front_says t u c i e [] a lead h = refl
  front_says t u c i e (k ∷ ks) a lead h =
      let before = lead.1.before in let start = lead.0 in let grows = leads_grow t k.end e ks lead.2 in
      let here = seen t u k k refl (sym (text_prefix t u c k a (omega arith) (omega arith))) in
      let rest = front_says t u c k.end e ks a lead.2 h in
      λ i. here i || rest i

  after_says : (t u : Text) (b c i e : ℕ) (ks : List Tok) → drop b t ≡ drop c u → b ≤ i → Leads t i ks e → list_any (p u) (map (tok_moved b c) ks) ≡ list_any (p t) ks
  after_says t u b c i e [] same low lead = refl
  after_says t u b c i e (k ∷ ks) same low lead =
      let before = lead.1.before in let start = lead.0 in
      let here = seen t u k (tok_moved b c k) refl (sym (text_after t u b c k same (omega arith) (omega arith))) in
      let rest = after_says t u b c k.end e ks same (omega arith) lead.2 in
      λ i. here i || rest i

  -- Of tokens before place a, new ones that say nothing, and tokens after place b, moved, only the old ones say so.
  says_before : (t : Text) (a b : ℕ) (front after : List Tok) (ps : List Made) → a ≤ length t → Leads t 0 front a → Leads t b after (length t) →
      list_any (p (exchanged t a b (made_text ps))) (made_toks a ps) ≡ false →
      list_any (p (exchanged t a b (made_text ps))) (reread front (made_toks a ps) b (a + length (made_text ps)) after) ≡ true →
      (list_any (p t) front || list_any (p t) after) ≡ true
  says_before t a b front after ps low before behind none now =
      let u : Text = exchanged t a b (made_text ps) in
      let f = front_says t u a 0 a front (exchanged_agrees t (made_text ps) a b low) before (omega arith) in
      let g = after_says t u b (a + length (made_text ps)) b (length t) after (sym (exchanged_after t (made_text ps) a b low)) (omega arith) behind in
      (λ i. sym f i || (sym none i || sym g i))
      ∙ sym (any_append (p u) front (made_toks a ps ++ map (tok_moved b (a + length (made_text ps))) after)
      ∙ ap (λ (x : Bool). list_any (p u) front || x) (any_append (p u) (made_toks a ps) (map (tok_moved b (a + length (made_text ps))) after)))
      ∙ now

  word_only : ((u : Text) (a : ℕ) → list_any (p u) (made_toks a concurrently_made) ≡ false) → (tree : Tree) (before : List Stmt) (now : Stmt) (after : List Stmt) (n : ℕ) → IsTree tree → n < length tree.toks → says_so (concurrently_tree tree n before now after) ≡ true → says_so tree ≡ true
  word_only none tree before now after n is within h =
      let a = around tree.text tree.toks n is.lexed within in
      let k : Tok = get_or tree.toks n no_token in
      let front : Leads tree.text 0 (take (n + 1) tree.toks) k.end =
      subst (λ (x : List Tok). Leads tree.text 0 x k.end) (sym (take_more tree.toks n no_token within)) (leads_append tree.text 0 k.start k.end (take n tree.toks) (k ∷ []) a.front a.here) in
      in_parts (p tree.text) (n + 1) (n + 1) tree.toks (omega arith)
      (says_before tree.text k.end k.end (take (n + 1) tree.toks) (drop (n + 1) tree.toks) concurrently_made (leads_within tree.text 0 k.end (take (n + 1) tree.toks) (omega arith) front) front a.after (none _ k.end) h)

  type_only : ((u : Text) (a : ℕ) (w : Text) → list_any (p u) (made_toks a (word_made w)) ≡ false) → (tree : Tree) (before : List Stmt) (now : Stmt) (after : List Stmt) (n m : ℕ) (w : Text) → IsTree tree → n ≤ m → m < length tree.toks →
      says_so (worded_tree tree n m w before now after) ≡ true → says_so tree ≡ true
  type_only none tree before now after n m w is order within h =
      let a = around tree.text tree.toks n is.lexed (omega (arith, order, within)) in
      let b = around tree.text tree.toks m is.lexed within in
      in_parts (p tree.text) n (m + 1) tree.toks (omega (arith, order))
      (says_before tree.text (get_or tree.toks n no_token).start (get_or tree.toks m no_token).end (take n tree.toks) (drop (m + 1) tree.toks) (word_made w)
      (leads_within tree.text 0 (get_or tree.toks n no_token).start (take n tree.toks) (omega arith) a.front) a.front b.after (none _ (get_or tree.toks n no_token).start w) h)

  set_only : ((u : Text) (a : ℕ) (name : Text) (digit : ℕ) (ending : Text) → list_any (p u) (made_toks a (set_made name digit ending)) ≡ false) → (tree : Tree) (name ending : Text) (digit : ℕ) (front : List Tok) (k : Tok) (after : List Tok) → IsTree tree → tree.toks ≡ front ++ k ∷ after → says_so (set_tree tree name digit ending front k after) ≡ true → says_so tree ≡ true
  set_only none tree name ending digit front k after is parts h =
      let lead = leads_split tree.text 0 (length tree.text) front k after (subst (λ (x : List Tok). Leads tree.text 0 x (length tree.text)) parts is.lexed) in
      ap (list_any (p tree.text)) parts ∙ any_append (p tree.text) front (k ∷ after)
      ∙ says_before tree.text k.start k.start front (k ∷ after) (set_made name digit ending) (leads_within tree.text 0 k.start front (omega arith) lead.0) lead.0 lead.1 (none _ k.start name digit ending) h

module _ (tree : Tree) (before : List Stmt) (now : Stmt) (after : List Stmt) (n : ℕ) (is : IsTree tree) (within : n < length tree.toks) where
  pub word_says : has_disable_comment (concurrently_tree tree n before now after) ≡ true → has_disable_comment tree ≡ true
  word_says = word_only is_disable_comment disable_seen (λ u a. refl) tree before now after n is within

  pub word_ignores : has_ignore_comment (concurrently_tree tree n before now after) ≡ true → has_ignore_comment tree ≡ true
  word_ignores = word_only is_ignore ignore_seen (λ u a. refl) tree before now after n is within

module _ (tree : Tree) (before : List Stmt) (now : Stmt) (after : List Stmt) (n m : ℕ) (w : Text) (is : IsTree tree) (order : n ≤ m) (within : m < length tree.toks) where
  pub type_says : has_disable_comment (worded_tree tree n m w before now after) ≡ true → has_disable_comment tree ≡ true
  type_says = type_only is_disable_comment disable_seen (λ u a v. refl) tree before now after n m w is order within

  pub type_ignores : has_ignore_comment (worded_tree tree n m w before now after) ≡ true → has_ignore_comment tree ≡ true
  type_ignores = type_only is_ignore ignore_seen (λ u a v. refl) tree before now after n m w is order within

module _ (tree : Tree) (name ending : Text) (digit : ℕ) (front : List Tok) (k : Tok) (after : List Tok) (is : IsTree tree) (parts : tree.toks ≡ front ++ k ∷ after) where
  pub set_says : has_disable_comment (set_tree tree name digit ending front k after) ≡ true → has_disable_comment tree ≡ true
  set_says = set_only is_disable_comment disable_seen (λ u a x d e. refl) tree name ending digit front k after is parts

  pub set_ignores : has_ignore_comment (set_tree tree name digit ending front k after) ≡ true → has_ignore_comment tree ≡ true
  set_ignores = set_only is_ignore ignore_seen (λ u a x d e. refl) tree name ending digit front k after is parts
