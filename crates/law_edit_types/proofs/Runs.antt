-- A run of tokens of one statement becomes one word: the new text, its terminals and its tree.
use Rattle.std.proofs.Common.{◌≡◌, ◌≤◌, ◌<◌, ℕ, ◌+◌, ◌-◌, ◌^◌, Bool, true, List, [], ◌∷◌, ◌++◌, map, length, take, drop, get_or, length-append, append_assoc, sym, refl, ap, ◌∙◌, subst, arith, Some, Ok}
use Rattle.std.proofs.lemmas.Bool.Decides.{nat_tests}
use Rattle.std.proofs.lemmas.List.{map-append, take_at, drop_at, get_or_at}
use Rattle.law_edit_inserts.specs.sql_keyword.declared.words.TheConstants.Keyword as keyword
use Rattle.law_edit_inserts.specs.sql_token.declared.token.Tok.{Tok}
use Rattle.law_edit_inserts.specs.sql_token.declared.token.TokKind.TheVariants.{Word}
use Rattle.law_edit_inserts.specs.sql_token.declared.terminal.Symbol.{Symbol}
use Rattle.law_edit_inserts.specs.sql_token.declared.terminal.Symbol.TheVariants as s
use Rattle.law_edit_inserts.specs.sql_token.declared.terminal.Terminal.{Terminal}
use Rattle.law_edit_inserts.specs.sql_token.Token.{Text, Leads, is_word, text_of}
use Rattle.law_edit_inserts.specs.sql_token.Terminal.{symbol_of, is_significant, terminals, terminals_from, is_opener, is_closer, is_name, is_dot}
use Rattle.law_edit_inserts.specs.sql_token.Depth.{statements}
use Rattle.law_edit_inserts.specs.sql_tree.declared.nodes.Stmt.{Stmt}
use Rattle.law_edit_inserts.specs.sql_tree.Range.{token_at}
use Rattle.law_edit_inserts.specs.sql_tree.Statement.{Tree, IsTree, statement, all_statements, no_token}
use Rattle.law_edit_inserts.specs.law_renumber.Moved.{stmt_moved}
use Rattle.law_edit_inserts.specs.law_renumber.Renumber.{renumber}
use Rattle.law_edit_inserts.proofs.of_law_renumber.Seen.{numbers}
use Rattle.law_edit_inserts.proofs.of_law_renumber.Readings.{statements_renumber, NoneEmpty, statements_full}
use Rattle.law_edit_inserts.specs.law_edit_tokens.Beside.{ends_with_name, ends_with_name_or_dot}
use Rattle.law_edit_inserts.specs.law_edit_tokens.Exchange.{exchanged, made_text, made_toks, Cut, reread}
use Rattle.law_edit_inserts.specs.law_edit_tokens.Terminals.{made_terms, moved_number}
use Rattle.law_edit_inserts.proofs.of_law_edit_tokens.After.{exchanged_at, leads_within, leads_append, leads_split}
use Rattle.law_edit_inserts.proofs.of_law_edit_tokens.Prefix.{leads_grow}
use Rattle.law_edit_inserts.proofs.of_law_edit_tokens.Beside.{letter_follows_dot, name_or_dot}
use Rattle.law_edit_inserts.proofs.of_law_edit_tokens.Edits.{word_rereads}
use Rattle.law_edit_inserts.proofs.of_law_edit_tokens.Terminals.{terminals_reread, made_terminals}
use Rattle.law_edit_inserts.specs.law_edit_cuts.Exchanges.{joined}
use Rattle.law_edit_inserts.proofs.of_law_edit_cuts.CutLaws.{statement_exchanges}
use Rattle.law_edit_inserts.proofs.of_law_edit_cuts.Sound.{prefix_is_level}
use Rattle.law_edit_inserts.proofs.Apart.{lasts}
use Rattle.law_edit_inserts.proofs.TakenConcurrently.{parts_of}
use Rattle.law_edit_inserts.proofs.Statements.{all_renumber, joined_append, full_parts, full_rest, stmt_at_place, all_between, read_of, of_read, of_terminals, joined_at}
use Rattle.law_edit_inserts.proofs.Tokens.{term_at, AtLeast, Under, least_parts, under_parts, terms_least, terms_under}
use Rattle.law_edit_types.specs.Names.{symbol_at}
use Rattle.law_edit_types.specs.Runs.{fused, word_made, word_term, worded_tree, worded_text, IsTypeName, IsApart, IsTypeSymbol, last_or, is_type_run, ReadsAs, Worded, RunsBecomeWords, RunBecomesWord}
use Rattle.law_edit_types.specs.Runs.IsTypeSymbol.{plain, text}
use Rattle.law_edit_types.proofs.TypeRuns.{run_neutral}

-- ---- numbers

agree_under : (f g : ℕ → ℕ) (hi : ℕ) (ts : List Terminal) → Under hi ts → ((x : ℕ) → x < hi → f x ≡ g x) → map (renumber f) ts ≡ map (renumber g) ts
unfolding Under
agree_under f g hi [] h same = refl
agree_under f g hi (t ∷ ts) h same = let e = same t.number h.0 in let rest = agree_under f g hi ts h.1 same in λ i. record t { number = e i } ∷ rest i

agree_least : (f g : ℕ → ℕ) (lo : ℕ) (ts : List Terminal) → AtLeast lo ts → ((x : ℕ) → lo ≤ x → f x ≡ g x) → map (renumber f) ts ≡ map (renumber g) ts
unfolding AtLeast
agree_least f g lo [] h same = refl
agree_least f g lo (t ∷ ts) h same = let e = same t.number h.0 in let rest = agree_least f g lo ts h.1 same in λ i. record t { number = e i } ∷ rest i

same_low : (n m x : ℕ) → n ≤ m → x < n → moved_number (m + 1) (n + 1) x ≡ fused n m x
same_low n m x h low = grind (arith, nat_tests)

same_high : (n m x : ℕ) → n ≤ m → m + 1 ≤ x → moved_number (m + 1) (n + 1) x ≡ fused n m x
same_high n m x h high = grind (arith, nat_tests)

pub fused_first : (n m : ℕ) → n ≤ m → fused n m n ≡ n
fused_first n m h = grind (arith, nat_tests)

pub fused_last : (n m : ℕ) → n ≤ m → fused n m m ≡ n
fused_last n m h = grind (arith, nat_tests)

-- ---- the tokens of a run

pub last_or_append : (t : Terminal) (xs : List Terminal) (e : Terminal) (ys : List Terminal) → last_or t (xs ++ e ∷ ys) ≡ last_or e ys
last_or_append t [] e ys = refl
last_or_append t (x ∷ xs) e ys = last_or_append x xs e ys

-- the run from token n to token m, the token k to the token l
record RunTokens (t : Text) (toks : List Tok) (n m : ℕ) (xs : List Terminal) (r : Terminal) (ys : List Terminal) : Type 0 where
  pub front : List Tok
  pub run : List Tok
  pub after : List Tok
  pub parts : toks ≡ front ++ (run ++ after)
  pub k : Tok
  pub l : Tok
  pub more : List Tok
  pub begun : toks ≡ front ++ k ∷ more
  pub cut : Cut t k.start l.end front run after
  pub grows : k.start < l.end
  pub order : n ≤ m
  pub size : length front ≡ n
  pub whole : length front + length run ≡ m + 1
  pub first_is : token_at toks n ≡ k
  pub last_is : token_at toks m ≡ l
  pub significant : is_significant k.kind ≡ true
  pub symbol : r.symbol ≡ symbol_of k.kind (text_of t k)
  pub earlier : terminals_from t 0 front ≡ xs
  pub later : terminals_from t (m + 1) after ≡ ys

one_token : (t : Text) (toks : List Tok) (n m : ℕ) (xs : List Terminal) (r : Terminal) (ys : List Terminal) → Leads t 0 toks (length t) → terminals_from t 0 toks ≡ xs ++ r ∷ ys → r.number ≡ n → r.number ≡ m → RunTokens t toks n m xs r ys
one_token t toks n m xs r ys lexed e p q =
    let a = term_at t 0 toks xs r ys e in
    let size : length a.front ≡ n = omega (arith, p, ap (λ (x : Terminal). x.number) a.here) in
    let same : n ≡ m = sym p ∙ q in
    let lead = leads_split t 0 (length t) a.front a.k a.after (subst (λ (x : List Tok). Leads t 0 x (length t)) a.parts lexed) in
    let here = lead.1.1 in
    let token : token_at toks n ≡ a.k = (λ i. get_or (a.parts i) (sym size i) no_token) ∙ get_or_at a.front a.k a.after no_token (length a.front) refl in
    let next : 0 + length a.front + 1 ≡ m + 1 = omega (arith, size, same) in
    record {
      front = a.front;
      run = a.k ∷ [];
      after = a.after;
      parts = a.parts;
      k = a.k;
      l = a.k;
      more = a.after;
      begun = a.parts;
      cut = record { until_run = lead.0; in_run = (refl, lead.1.1, refl); after_run = lead.1.2 };
      grows = (let before = here.before in omega arith);
      order = omega (arith, same);
      size = size;
      whole = omega (arith, size, same);
      first_is = token;
      last_is = ap (λ (x : ℕ). token_at toks x) (sym same) ∙ token;
      significant = a.significant;
      symbol = ap (λ (x : Terminal). x.symbol) a.here;
      earlier = sym a.earlier;
      later = ap (λ (x : ℕ). terminals_from t x a.after) (sym next) ∙ sym a.later;
    }

several_tokens : (t : Text) (toks : List Tok) (n m : ℕ) (xs : List Terminal) (r : Terminal) (rs : List Terminal) (z : Terminal) (ys : List Terminal) → Leads t 0 toks (length t) → terminals_from t 0 toks ≡ xs ++ r ∷ (rs ++ z ∷ ys) → r.number ≡ n → z.number ≡ m →
    RunTokens t toks n m xs r ys
several_tokens t toks n m xs r rs z ys lexed e p q =
    let a = term_at t 0 toks xs r (rs ++ z ∷ ys) e in
    let size : length a.front ≡ n = omega (arith, p, ap (λ (x : Terminal). x.number) a.here) in
    let b = term_at t (0 + length a.front + 1) a.after rs z ys (sym a.later) in
    let last : length a.front + 1 + length b.front ≡ m = omega (arith, q, ap (λ (x : Terminal). x.number) b.here) in
    let lead = leads_split t 0 (length t) a.front a.k a.after (subst (λ (x : List Tok). Leads t 0 x (length t)) a.parts lexed) in
    let lead' = leads_split t a.k.end (length t) b.front b.k b.after (subst (λ (x : List Tok). Leads t a.k.end x (length t)) b.parts lead.1.2) in
    let here = lead.1.1 in
    let there = lead'.1.1 in
    let run : List Tok = a.k ∷ (b.front ++ b.k ∷ []) in
    let whole : toks ≡ a.front ++ (run ++ b.after) =
    a.parts ∙ ap (λ (x : List Tok). a.front ++ a.k ∷ x) (b.parts ∙ sym (append_assoc b.front (b.k ∷ []) b.after)) in
    let far : toks ≡ (a.front ++ a.k ∷ b.front) ++ b.k ∷ b.after =
    a.parts ∙ ap (λ (x : List Tok). a.front ++ a.k ∷ x) b.parts ∙ sym (append_assoc a.front (a.k ∷ b.front) (b.k ∷ b.after)) in
    let token : token_at toks n ≡ a.k = (λ i. get_or (a.parts i) (sym size i) no_token) ∙ get_or_at a.front a.k a.after no_token (length a.front) refl in
    let count : length (a.front ++ a.k ∷ b.front) ≡ m = omega (arith, last, length-append a.front (a.k ∷ b.front)) in
    let token' : token_at toks m ≡ b.k = (λ i. get_or (far i) (sym count i) no_token) ∙ get_or_at (a.front ++ a.k ∷ b.front) b.k b.after no_token (length (a.front ++ a.k ∷ b.front)) refl in
    let next : 0 + length a.front + 1 + length b.front + 1 ≡ m + 1 = omega (arith, last) in
    record {
      front = a.front;
      run = run;
      after = b.after;
      parts = whole;
      k = a.k;
      l = b.k;
      more = a.after;
      begun = a.parts;
      cut = record {
        until_run = lead.0;
        in_run = (refl, lead.1.1, leads_append t a.k.end b.k.start b.k.end b.front (b.k ∷ []) lead'.0 (refl, lead'.1.1, refl));
        after_run = lead'.1.2;
      };
      grows = (let before = here.before in let before' = there.before in let grow = leads_grow t a.k.end b.k.start b.front lead'.0 in omega arith);
      order = omega (arith, last, size);
      size = size;
      whole = omega (arith, last, length-append b.front (b.k ∷ []));
      first_is = token;
      last_is = token';
      significant = a.significant;
      symbol = ap (λ (x : Terminal). x.symbol) a.here;
      earlier = sym a.earlier;
      later = ap (λ (x : ℕ). terminals_from t x b.after) (sym next) ∙ sym b.later;
    }

run_tokens : (t : Text) (toks : List Tok) (n m : ℕ) (xs : List Terminal) (r : Terminal) (rs ys : List Terminal) → Leads t 0 toks (length t) → terminals_from t 0 toks ≡ xs ++ ((r ∷ rs) ++ ys) → r.number ≡ n → (last_or r rs).number ≡ m → RunTokens t toks n m xs r ys
run_tokens t toks n m xs r [] ys lexed e p q = one_token t toks n m xs r ys lexed e p q
run_tokens t toks n m xs r (u ∷ us) ys lexed e p q =
    let l = lasts u us in
    let end : last_or r (u ∷ us) ≡ l.end = ap (λ (x : List Terminal). last_or r x) l.parts ∙ last_or_append r l.front l.end [] in
    let split : xs ++ r ∷ ((u ∷ us) ++ ys) ≡ xs ++ r ∷ (l.front ++ l.end ∷ ys) =
    ap (λ (x : List Terminal). xs ++ r ∷ (x ++ ys)) l.parts ∙ ap (λ (x : List Terminal). xs ++ r ∷ x) (append_assoc l.front (l.end ∷ []) ys) in
    several_tokens t toks n m xs r l.front l.end ys lexed (e ∙ split) p (ap (λ (x : Terminal). x.number) (sym end) ∙ q)

-- ---- the word

-- what holds of a plain word and of TEXT
pub of_type : (P : Symbol → Type 0) → P s.Word → P (s.Keyword keyword.TEXT) → (x : Symbol) → IsTypeSymbol x → P x
of_type P p q x (plain e) = subst P (sym e) p
of_type P p q x (text e) = subst P (sym e) q

pub word_run : (x : Symbol) (n : ℕ) → IsTypeSymbol x → is_type_run (record { symbol = x; number = n } ∷ []) ≡ true
unfolding is_opener is_closer is_name is_dot
word_run x n h = of_type (λ (x : Symbol). is_type_run (record { symbol = x; number = n } ∷ []) ≡ true) refl refl x h

new_terms : (n : ℕ) (w : Text) → made_terms n (word_made w) ≡ word_term w n ∷ []
unfolding made_terms
new_terms n w = refl

pub ends_append : (xs : List Terminal) (y : Terminal) (ys : List Terminal) → ends_with_name (xs ++ y ∷ ys) ≡ ends_with_name (y ∷ ys)
ends_append [] y ys = refl
ends_append (x ∷ []) y ys = refl
ends_append (x ∷ z ∷ xs) y ys = ends_append (z ∷ xs) y ys

pub parts_append : (xs : List Terminal) (y : Terminal) (ys : List Terminal) → ends_with_name_or_dot (xs ++ y ∷ ys) ≡ ends_with_name_or_dot (y ∷ ys)
parts_append [] y ys = refl
parts_append (x ∷ []) y ys = refl
parts_append (x ∷ z ∷ xs) y ys = parts_append (z ∷ xs) y ys

-- ---- the statements

-- The statements are those of the old text under their new numbers, but that the word is in the place of the run.
statements_now : (f : ℕ → ℕ) (ts : List Terminal) (earlier : List (List Terminal)) (front : List Terminal) (r : Terminal) (run tail : List Terminal) (later : List (List Terminal)) (st : Stmt) (word : Terminal) →
    is_type_run (r ∷ run) ≡ true → is_type_run (word ∷ []) ≡ true → renumber f word ≡ word → statements ts ≡ earlier ++ (front ++ ((r ∷ run) ++ tail)) ∷ later → statement (front ++ ((r ∷ run) ++ tail)) ≡ Some st →
    statements (map (renumber f) (joined earlier ++ front) ++ (word ∷ map (renumber f) (tail ++ joined later)))
    ≡ map (map (renumber f)) earlier ++ (map (renumber f) front ++ word ∷ map (renumber f) tail) ∷ map (map (renumber f)) later
statements_now f ts earlier front r run tail later st word old new fixed cut here =
    let R : Terminal → Terminal = renumber f in
    let xs : List Terminal = (joined earlier ++ front) ++ word ∷ (tail ++ joined later) in
    let level = prefix_is_level front ((r ∷ run) ++ tail) (parts_of (front ++ ((r ∷ run) ++ tail)) st here).sound in
    let recut = statement_exchanges ts earlier front r run tail later (run_neutral (r ∷ run) old) level cut word [] (run_neutral (word ∷ []) new) in
    let whole : joined (earlier ++ (front ++ word ∷ tail) ∷ later) ≡ xs =
    joined_append earlier ((front ++ word ∷ tail) ∷ later)
    ∙ ap (λ (x : List Terminal). joined earlier ++ x) (append_assoc front (word ∷ tail) (joined later))
    ∙ sym (append_assoc (joined earlier) front (word ∷ (tail ++ joined later))) in
    let list : map R (joined earlier ++ front) ++ word ∷ map R (tail ++ joined later) ≡ map R xs =
    ap (λ (x : Terminal). map R (joined earlier ++ front) ++ x ∷ map R (tail ++ joined later)) (sym fixed) ∙ sym (map-append R (joined earlier ++ front) (word ∷ (tail ++ joined later))) in
    let this : map R (front ++ word ∷ tail) ≡ map R front ++ word ∷ map R tail =
    map-append R front (word ∷ tail) ∙ ap (λ (x : Terminal). map R front ++ x ∷ map R tail) fixed in
    ap statements list
    ∙ statements_renumber (numbers f) xs
    ∙ ap (λ (x : List (List Terminal)). map (map R) x) (ap statements (sym whole) ∙ recut)
    ∙ map-append (map R) earlier ((front ++ word ∷ tail) ∷ later)
    ∙ ap (λ (x : List Terminal). map (map R) earlier ++ x ∷ map (map R) later) this

joined_run : (ts : List Terminal) (earlier : List (List Terminal)) (front : List Terminal) (r : Terminal) (run tail : List Terminal) (later : List (List Terminal)) →
    statements ts ≡ earlier ++ (front ++ ((r ∷ run) ++ tail)) ∷ later → ts ≡ (joined earlier ++ front) ++ ((r ∷ run) ++ (tail ++ joined later))
joined_run ts earlier front r run tail later e =
    joined_at ts earlier front r (run ++ tail) later e ∙ ap (λ (x : List Terminal). (joined earlier ++ front) ++ r ∷ x) (append_assoc run tail (joined later))

-- ---- the tree

abbrev tree_with : Tree → ℕ → ℕ → Text → List Stmt → Stmt → List Stmt → Tok → Tok → List Tok → List Tok → Tree
tree_with tree n m w before now after k l front rest = record {
  text = exchanged tree.text k.start l.end (made_text (word_made w));
  toks = reread front (made_toks k.start (word_made w)) l.end (k.start + length (made_text (word_made w))) rest;
  stmts = map (stmt_moved (fused n m)) before ++ now ∷ map (stmt_moved (fused n m)) after;
}

-- Each terminal of this list is what its token is in the tree.
pub record AreShown (tree : Tree) (us : List Terminal) : Type 0 where
  pub each : (xs : List Terminal) (t : Terminal) (ys : List Terminal) → us ≡ xs ++ t ∷ ys → t.symbol ≡ symbol_at tree t.number

-- the end of such a list
pub end_shown : (tree : Tree) (us xs ys : List Terminal) → us ≡ xs ++ ys → AreShown tree us → AreShown tree ys
end_shown tree us xs ys e h = record { each = λ zs t ts d. h.each (xs ++ zs) t ts (e ∙ ap (λ (x : List Terminal). xs ++ x) d ∙ sym (append_assoc xs zs (t ∷ ts))) }

-- what a terminal of a tree is
terminal_shown : (tree : Tree) (xs : List Terminal) (t : Terminal) (ys : List Terminal) → terminals tree.text tree.toks ≡ xs ++ t ∷ ys → t.symbol ≡ symbol_at tree t.number
terminal_shown tree xs t ys e =
    let a = term_at tree.text 0 tree.toks xs t ys (of_terminals tree.text tree.toks (xs ++ t ∷ ys) e) in
    let size : length a.front ≡ t.number = omega (arith, ap (λ (x : Terminal). x.number) a.here) in
    let token : token_at tree.toks t.number ≡ a.k = (λ i. get_or (a.parts i) (sym size i) no_token) ∙ get_or_at a.front a.k a.after no_token (length a.front) refl in
    ap (λ (x : Terminal). x.symbol) a.here ∙ ap (λ (k : Tok). symbol_of k.kind (text_of tree.text k)) (sym token)

-- What is known of the terminals before and after a run from token n to token m, and of its first one.
pub record Around (tree : Tree) (n m : ℕ) (front : List Terminal) (r : Terminal) (tail : List Terminal) : Type 0 where
  pub order : n ≤ m
  pub low : Under n front
  pub high : AtLeast (m + 1) tail
  pub symbol : r.symbol ≡ symbol_at tree n
  pub shown : AreShown tree front

-- A statement in which the run may become the word w, and is one with P then. (A dot may come before the run, too.)
pub record Becomes (tree : Tree) (n m : ℕ) (w : Text) (P : Stmt → Type 0) (us : List Terminal) : Type 0 where
  pub first : Terminal
  pub front : List Terminal
  pub r : Terminal
  pub run : List Terminal
  pub tail : List Terminal
  pub parts : us ≡ (first ∷ front) ++ ((r ∷ run) ++ tail)
  pub begins : r.number ≡ n
  pub ends : (last_or r run).number ≡ m
  pub closed : is_type_run (r ∷ run) ≡ true
  pub named : ends_with_name_or_dot (first ∷ front) ≡ true
  pub reads : Around tree n m (first ∷ front) r tail → ReadsAs n m w P (first ∷ front) tail

pub runs_become : (tree : Tree) (before : List Stmt) (st : Stmt) (after : List Stmt) (n m : ℕ) (w : Text) (P : Stmt → Type 0) → IsTree tree → tree.stmts ≡ before ++ st ∷ after →
    IsTypeName w → IsApart tree n m → length (worded_text tree n m w) < 2 ^ 32 → ((us : List Terminal) → statement us ≡ Some st → Becomes tree n m w P us) → Worded tree n m w before P after
runs_become tree before st after n m w P is parts name apart short shows =
    let t : Text = tree.text in
    let ts : List Terminal = terminals t tree.toks in
    let place = stmt_at_place (statements ts) before st after (of_read t tree.toks ts tree.stmts refl is.read ∙ ap (λ (x : List Stmt). Ok x) parts) in
    let b = shows place.here place.here_is in
    let front : List Terminal = b.first ∷ b.front in
    let tail : List Terminal = b.tail in
    let word : Terminal = word_term w n in
    let f : ℕ → ℕ = fused n m in
    let R : Terminal → Terminal = renumber f in
    let cut : statements ts ≡ place.earlier ++ (front ++ ((b.r ∷ b.run) ++ tail)) ∷ place.later = place.parts ∙ ap (λ (x : List Terminal). place.earlier ++ x ∷ place.later) b.parts in
    let list = joined_run ts place.earlier front b.r b.run tail place.later cut in
    let run = run_tokens t tree.toks n m (joined place.earlier ++ front) b.r b.run (tail ++ joined place.later) is.lexed (of_terminals t tree.toks _ list) b.begins b.ends in
    let x : Text = made_text (word_made w) in
    let k : Tok = run.k in
    let l : Tok = run.l in
    let new : List Tok = made_toks k.start (word_made w) in
    let low : k.start ≤ length t = leads_within t 0 k.start run.front (omega arith) run.cut.until_run in
    let named : ends_with_name_or_dot (terminals_from t 0 run.front) ≡ true = ap ends_with_name_or_dot run.earlier ∙ parts_append (joined place.earlier) b.first b.front ∙ b.named in
    let keeps = letter_follows_dot t run.front k run.more (get_or w 0 0) (subst (λ (y : List Tok). Leads t 0 y (length t)) run.begun is.lexed) run.significant named (ap (λ (y : Tok). is_word_at t (y.start - 1)) (sym run.first_is) ∙ apart.before) name.letter in
    let ends = ap (λ (y : Tok). is_word_at (drop y.end t) 0) (sym run.last_is) ∙ apart.after in
    let lexed = word_rereads t w k.start l.end run.front run.run run.after run.cut run.grows name.word keeps ends in
    let order = run.order in
    let zero : 0 + length run.front ≡ n = omega (arith, run.size) in
    let below = subst (Under n) run.earlier (subst (λ (y : ℕ). Under y (terminals_from t 0 run.front)) zero (terms_under t 0 run.front)) in
    let above = subst (AtLeast (m + 1)) run.later (terms_least t (m + 1) run.after) in
    let around : Around tree n m front b.r tail = record {
      order = order;
      low = (under_parts n (joined place.earlier) front below).1;
      high = (least_parts (m + 1) tail (joined place.later) above).0;
      symbol = run.symbol ∙ ap (symbol_of_token t) (sym run.first_is);
      shown = record {
        each = λ xs u ys e. terminal_shown tree (joined place.earlier ++ xs) u (ys ++ ((b.r ∷ b.run) ++ (tail ++ joined place.later)))
            (list ∙ ap (λ (x : List Terminal). (joined place.earlier ++ x) ++ ((b.r ∷ b.run) ++ (tail ++ joined place.later))) e ∙ regrouped (joined place.earlier) xs (u ∷ ys) ((b.r ∷ b.run) ++ (tail ++ joined place.later)));
      };
    } in
    let reads = b.reads around in
    let fixed : R word ≡ word = ap (λ (y : ℕ). word_term w y) (fused_first n m order) in
    let size : length run.front + 1 ≡ n + 1 = omega (arith, run.size) in
    let kept : map (renumber (moved_number (length run.front + length run.run) (length run.front + 1))) (terminals_from t 0 run.front) ≡ map R (joined place.earlier ++ front) =
    (let p = run.whole in λ i. map (renumber (moved_number (p i) (size i))) (terminals_from t 0 run.front))
    ∙ agree_under (moved_number (m + 1) (n + 1)) f n (terminals_from t 0 run.front) (subst (λ (y : ℕ). Under y (terminals_from t 0 run.front)) zero (terms_under t 0 run.front)) (λ y h. same_low n m y order h)
    ∙ ap (λ (y : List Terminal). map R y) run.earlier in
    let moved : map (renumber (moved_number (length run.front + length run.run) (length run.front + 1))) (terminals_from t (length run.front + length run.run) run.after) ≡ map R (tail ++ joined place.later) =
    (let p = run.whole in λ i. map (renumber (moved_number (p i) (size i))) (terminals_from t (p i) run.after))
    ∙ agree_least (moved_number (m + 1) (n + 1)) f (m + 1) (terminals_from t (m + 1) run.after) (terms_least t (m + 1) run.after) (λ y h. same_high n m y order h)
    ∙ ap (λ (y : List Terminal). map R y) run.later in
    let made : terminals_from (exchanged t k.start l.end x) (length run.front) new ≡ word ∷ [] =
    made_terminals (exchanged t k.start l.end x) k.start (length run.front) (word_made w) (drop l.end t) (exchanged_at t x k.start l.end low) ∙ new_terms (length run.front) w ∙ ap (λ (y : ℕ). word_term w y ∷ []) run.size in
    let terms = terminals_reread t x k.start l.end run.front run.run new run.after run.cut ∙ (λ i. kept i ++ (made i ++ moved i)) in
    let stmts = statements_now f ts place.earlier front b.r b.run tail place.later st word b.closed (word_run (symbol_of Word w) n name.symbol) fixed cut (ap statement (sym b.parts) ∙ place.here_is) in
    let full = full_parts place.earlier (front ++ ((b.r ∷ b.run) ++ tail)) place.later (subst NoneEmpty cut (statements_full ts)) in
    let read = all_between (map (map R) place.earlier) (map R front ++ word ∷ map R tail) (map (map R) place.later) (map (stmt_moved f) before) reads.now (map (stmt_moved f) after)
    (all_renumber f place.earlier before full.0 place.before_is) reads.is (all_renumber f place.later after (full_rest (front ++ ((b.r ∷ b.run) ++ tail)) place.later full.1) place.after_is) in
    let whole : IsTree (tree_with tree n m w before reads.now after k l run.front run.after) = record {
      short = subst (λ (y : Tok). length (exchanged t y.start l.end x) < 2 ^ 32) run.first_is (subst (λ (y : Tok). length (exchanged t (token_at tree.toks n).start y.end x) < 2 ^ 32) run.last_is short);
      lexed = lexed;
      read = read_of _ _ _ _ terms (ap all_statements stmts ∙ read);
    } in
    let first : take n tree.toks ≡ run.front = ap (λ (y : List Tok). take n y) run.parts ∙ take_at run.front (run.run ++ run.after) n (omega (arith, run.size)) in
    let rest : drop (m + 1) tree.toks ≡ run.after =
    ap (λ (y : List Tok). drop (m + 1) y) (run.parts ∙ sym (append_assoc run.front run.run run.after)) ∙ drop_at (run.front ++ run.run) run.after (m + 1) (omega (arith, length-append run.front run.run, run.whole)) in
    let k_is = run.first_is in
    let l_is = run.last_is in
    let same : tree_with tree n m w before reads.now after k l run.front run.after ≡ worded_tree tree n m w before reads.now after =
    (λ i. tree_with tree n m w before reads.now after (sym k_is i) (sym l_is i) (sym first i) (sym rest i)) in
    record {
      now = reads.now;
      has = reads.has;
      is = subst IsTree same whole;
      terms = record {
        earlier = place.earlier;
        front = front;
        r = b.r;
        run = b.run;
        tail = tail;
        later = place.later;
        begins = b.begins;
        ends = b.ends;
        old = cut;
        now = subst (λ (y : Tree). statements (terminals y.text y.toks) ≡ map (map R) place.earlier ++ (map R front ++ word ∷ map R tail) ∷ map (map R) place.later) same (ap statements terms ∙ stmts);
      };
    }
  where
    regrouped : (us vs xs ys : List Terminal) → (us ++ (vs ++ xs)) ++ ys ≡ (us ++ vs) ++ (xs ++ ys)
    regrouped us vs xs ys = simp append_assoc

    symbol_of_token : Text → Tok → Symbol
    symbol_of_token z k = symbol_of k.kind (text_of z k)

    is_word_at : Text → ℕ → Bool
    is_word_at z i = is_word (get_or z i 0)

pub runs_become_words : RunsBecomeWords
runs_become_words tree before st after n m w P is parts name apart short shows =
    runs_become tree before st after n m w P is parts name apart short
    (λ us e.
    let b = shows us e in
    record {
      first = b.first;
      front = b.front;
      r = b.r;
      run = b.run;
      tail = b.tail;
      parts = b.parts;
      begins = b.begins;
      ends = b.ends;
      closed = b.closed;
      named = name_or_dot (b.first ∷ b.front) b.named;
      reads = λ around. b.reads around.order;
    })

pub run_becomes_word : RunBecomesWord
run_becomes_word tree before st after n m w now is parts name apart short shows = runs_become_words tree before st after n m w (λ x. x ≡ now) is parts name apart short shows
