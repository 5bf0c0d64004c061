-- The word CONCURRENTLY after a name or a word of one statement: the new text, its terminals and its tree.
use Rattle.std.proofs.Common.{◌≡◌, ◌⊎◌, inl, inr, ℕ, ◌+◌, ◌<◌, ◌≤◌, ◌^◌, Bool, true, false, cond, List, [], ◌∷◌, ◌++◌, map, length, take, drop, get_or, length-append, append_assoc, sym, refl, ap, ◌∙◌, subst, arith, Option, Some, Ok}
use Rattle.std.proofs.lemmas.Bool.{false≢true}
use Rattle.std.proofs.lemmas.Bool.Decides.{nat_tests}
use Rattle.std.proofs.lemmas.List.{map-append, take_at, drop_at, get_or_at}
use Rattle.std.specs.Prelude.{◌==◌, ◌&&◌, codes}
use Rattle.std.specs.Option.{option_map}
use Rattle.law_edit_cuts.specs.sql_keyword.declared.words.TheConstants.Keyword as keyword
use Rattle.law_edit_cuts.specs.sql_keyword.Find.{keyword_of}
use Rattle.law_edit_cuts.specs.sql_keyword.Texts.{all_keywords, text}
use Rattle.law_edit_cuts.specs.sql_token.declared.token.Tok.{Tok}
use Rattle.law_edit_cuts.specs.sql_token.declared.token.TokKind.{TokKind}
use Rattle.law_edit_cuts.specs.sql_token.declared.token.TokKind.TheVariants as kinds
use Rattle.law_edit_cuts.specs.sql_token.declared.terminal.Symbol.{Symbol}
use Rattle.law_edit_cuts.specs.sql_token.declared.terminal.Symbol.TheVariants as s
use Rattle.law_edit_cuts.specs.sql_token.declared.terminal.Terminal.{Terminal}
use Rattle.law_edit_cuts.specs.sql_token.Token.{Text, Leads, Lexed, At, text_of, is_word}
use Rattle.law_edit_cuts.specs.sql_token.Terminal.{symbol_of, is_significant, terminals, terminals_from, is_opener, is_closer, is_semicolon, is_name, is_name_symbol}
use Rattle.law_edit_cuts.specs.sql_token.Depth.{statements}
use Rattle.law_edit_cuts.specs.sql_tree.declared.nodes.Stmt.{Stmt}
use Rattle.law_edit_cuts.specs.sql_tree.Range.{token_at}
use Rattle.law_edit_cuts.specs.sql_tree.Statement.{Tree, IsTree, statement, all_statements, no_token, last_of}
use Rattle.law_edit_cuts.specs.law_renumber.Moved.{stmt_moved}
use Rattle.law_edit_cuts.specs.law_renumber.Names.{is_quoted_symbol}
use Rattle.law_edit_cuts.specs.law_renumber.Renumber.{renumber}
use Rattle.law_edit_cuts.proofs.of_law_renumber.Seen.{numbers}
use Rattle.law_edit_cuts.proofs.of_law_renumber.Statements.{statement_renumbers}
use Rattle.law_edit_cuts.proofs.of_law_renumber.Readings.{statements_renumber, NoneEmpty, statements_full}
use Rattle.law_edit_tokens.specs.Beside.{begins_punct_or_ends}
use Rattle.law_edit_tokens.specs.Edits.{concurrently_made}
use Rattle.law_edit_tokens.specs.Exchange.{exchanged, made_text, made_toks, reread, Cut, keeps_before}
use Rattle.law_edit_tokens.specs.Terminals.{term_of, made_terms, moved_number}
use Rattle.law_edit_tokens.proofs.After.{leads_append, leads_split, exchanged_at}
use Rattle.law_edit_tokens.proofs.Beside.{no_word_after}
use Rattle.law_edit_tokens.proofs.Edits.{concurrently_rereads, word_ends, last_of_list}
use Rattle.law_edit_tokens.proofs.Terminals.{terms_append, terminals_reread, one_term, made_terminals}
use Rattle.law_edit_cuts.specs.Exchanges.{joined}
use Rattle.law_edit_cuts.specs.Runs.{is_neutral, is_uncut}
use Rattle.law_edit_cuts.proofs.CutLaws.{statement_exchanges}
use Rattle.law_edit_cuts.proofs.Sound.{prefix_is_level}
use Rattle.law_edit_inserts.specs.Concurrently.{key}
use Rattle.law_edit_inserts.specs.Built.{room_after, end_after, concurrently_text, concurrently_tree, Reads}
use Rattle.law_edit_inserts.proofs.TakenConcurrently.{last_after, parts_of, last_with}
use Rattle.law_edit_inserts.proofs.Statements.{all_renumber, joined_append, full_parts, full_rest, joined_moved, stmt_at_place, all_between, read_of, of_read, of_terminals, joined_at, last_one}
use Rattle.law_edit_inserts.proofs.Tokens.{term_at, AtLeast, least_parts, terms_least}

-- ---- names

name_quiet : (x : Symbol) (n m : ℕ) → is_name_symbol x ≡ true → (is_neutral (record { symbol = x; number = n } ∷ []) ≡ true) × (is_neutral (record { symbol = x; number = n } ∷ key keyword.CONCURRENTLY m ∷ []) ≡ true)
unfolding is_opener is_closer is_semicolon
name_quiet (s.Keyword w) n m h = (refl, refl)
name_quiet s.Word n m h = (refl, refl)
name_quiet s.Quoted n m h = (refl, refl)
name_quiet x n m h = absurd (false≢true h)

name_apart : (x : Symbol) (n m : ℕ) → is_name_symbol x ≡ true → (is_uncut (record { symbol = x; number = n } ∷ []) ≡ true) × (is_uncut (record { symbol = x; number = n } ∷ key keyword.CONCURRENTLY m ∷ []) ≡ true)
unfolding is_opener is_closer
name_apart (s.Keyword w) n m h = (refl, refl)
name_apart s.Word n m h = (refl, refl)
name_apart s.Quoted n m h = (refl, refl)
name_apart x n m h = absurd (false≢true h)

name_no_end : (x : Symbol) (n : ℕ) → is_name_symbol x ≡ true → is_semicolon (record { symbol = x; number = n }) ≡ false
unfolding is_semicolon
name_no_end (s.Keyword w) n h = refl
name_no_end s.Word n h = refl
name_no_end s.Quoted n h = refl
name_no_end x n h = absurd (false≢true h)

-- no statement ends in a name, or in one with the word
pub neutral_name : (t : Terminal) (m : ℕ) → is_name t ≡ true → (is_neutral (t ∷ []) ≡ true) × (is_neutral (t ∷ key keyword.CONCURRENTLY m ∷ []) ≡ true)
unfolding is_name
neutral_name t m h = name_quiet t.symbol t.number m h

pub uncut_name : (t : Terminal) (m : ℕ) → is_name t ≡ true → (is_uncut (t ∷ []) ≡ true) × (is_uncut (t ∷ key keyword.CONCURRENTLY m ∷ []) ≡ true)
unfolding is_name
uncut_name t m h = name_apart t.symbol t.number m h

pub name_ends_none : (t : Terminal) → is_name t ≡ true → is_semicolon t ≡ false
unfolding is_name
name_ends_none t h = name_no_end t.symbol t.number h

number_none : (a : Bool) → is_name_symbol (cond a s.One s.Number) ≡ false
number_none true = refl
number_none false = refl

operator_none : (a b c : Bool) → is_name_symbol (cond a (cond b s.Equals s.EqualsOperator) (cond c s.Star s.Operator)) ≡ false
operator_none true true c = refl
operator_none true false c = refl
operator_none false b true = refl
operator_none false b false = refl

punct_none : (a b c d e f g : Bool) →
    is_name_symbol (cond a s.OpenRound (cond b s.CloseRound (cond c s.OpenSquare (cond d s.CloseSquare (cond e s.Comma (cond f s.Semicolon (cond g s.Dot s.Colon))))))) ≡ false
punct_none true b c d e f g = refl
punct_none false true c d e f g = refl
punct_none false false true d e f g = refl
punct_none false false false true e f g = refl
punct_none false false false false true f g = refl
punct_none false false false false false true g = refl
punct_none false false false false false false true = refl
punct_none false false false false false false false = refl

-- the token of a name is a word or quoted
name_kind : (kind : TokKind) (bs : Text) → is_name_symbol (symbol_of kind bs) ≡ true → (kind ≡ kinds.Word) ⊎ ((kind ≡ kinds.Quoted) × (is_quoted_symbol (symbol_of kind bs) ≡ true))
unfolding symbol_of
name_kind kinds.Word bs h = inl refl
name_kind kinds.Quoted bs h = inr (refl, refl)
name_kind kinds.Number bs h = absurd (false≢true (sym (number_none (get_or bs 0 0 == 49 && length bs == 1)) ∙ h))
name_kind kinds.Op bs h = absurd (false≢true (sym (operator_none (get_or bs 0 0 == 61) (length bs == 1) (get_or bs 0 0 == 42 && length bs == 1)) ∙ h))
name_kind kinds.Punct bs h = absurd (false≢true (sym (punct_none (get_or bs 0 0 == 40) (get_or bs 0 0 == 41) (get_or bs 0 0 == 91) (get_or bs 0 0 == 93) (get_or bs 0 0 == 44) (get_or bs 0 0 == 59) (get_or bs 0 0 == 46)) ∙ h))
name_kind kind bs h = absurd (false≢true h)

-- ---- a statement that takes the word

-- It takes the word after its terminal of number n, which is a name or a word, and is `now` then.
pub record Takes (n : ℕ) (now : Stmt) (us : List Terminal) : Type 0 where
  pub first : Terminal
  pub front : List Terminal
  pub word : Terminal
  pub tail : List Terminal
  pub parts : us ≡ (first ∷ front) ++ word ∷ tail
  pub number : word.number ≡ n
  pub name : is_name word ≡ true
  -- no word goes on after a quoted name
  pub quoted : is_quoted_symbol word.symbol ≡ true → begins_punct_or_ends tail ≡ true
  pub reads : AtLeast (n + 1) tail →
      statement (map (renumber (room_after n)) (first ∷ front) ++ word ∷ key keyword.CONCURRENTLY (n + 2) ∷ map (renumber (room_after n)) tail) ≡ Some now

-- ---- the new terminals

-- the token k of number n, after which the word is put, and the terminals then
record WordPut (tree : Tree) (n : ℕ) (front : List Tok) (k : Tok) (after : List Tok) : Type 0 where
  pub lexed : Lexed (exchanged tree.text k.end k.end (made_text concurrently_made)) (reread (front ++ k ∷ []) (made_toks k.end concurrently_made) k.end (k.end + length (made_text concurrently_made)) after)
  pub now : terminals (exchanged tree.text k.end k.end (made_text concurrently_made)) (reread (front ++ k ∷ []) (made_toks k.end concurrently_made) k.end (k.end + length (made_text concurrently_made)) after)
      ≡ map (renumber (room_after n)) (terminals_from tree.text 0 front)
      ++ ((term_of tree.text n k ∷ key keyword.CONCURRENTLY (n + 2) ∷ []) ++ map (renumber (room_after n)) (terminals_from tree.text (n + 1) after))

number_kept : (n m x : ℕ) → x < n → moved_number n m x ≡ x
number_kept n m x h = grind (arith, nat_tests)

concurrently_symbol : symbol_of kinds.Word (codes "concurrently") ≡ s.Keyword keyword.CONCURRENTLY
unfolding symbol_of keyword_of all_keywords text
concurrently_symbol = refl

concurrently_terms : (n : ℕ) → made_terms n concurrently_made ≡ key keyword.CONCURRENTLY (n + 1) ∷ []
unfolding made_terms
concurrently_terms n = let e = concurrently_symbol in λ i. record { symbol = e i; number = n + 1 } ∷ []

word_put : (tree : Tree) (n : ℕ) (front : List Tok) (k : Tok) (after : List Tok) → IsTree tree → length front ≡ n → tree.toks ≡ front ++ k ∷ after → is_significant k.kind ≡ true → keeps_before k.kind 32 ≡ true →
    is_word (get_or (drop k.end tree.text) 0 0) ≡ false → WordPut tree n front k after
word_put tree n front k after is len toks significant keeps ends =
    let t : Text = tree.text in
    let a : ℕ = k.end in
    let w : Text = made_text concurrently_made in
    let new : List Tok = made_toks a concurrently_made in
    let u : Text = exchanged t a a w in
    let lead = leads_split t 0 (length t) front k after (subst (λ (x : List Tok). Leads t 0 x (length t)) toks is.lexed) in
    let here = lead.1.1 in
    let before = here.before in
    let cut : Cut t a a (front ++ k ∷ []) [] after = record { until_run = leads_append t 0 k.start a front (k ∷ []) lead.0 (refl, here, refl); in_run = refl; after_run = lead.1.2 } in
    let low : a ≤ length t = here.within in
    let size : length (front ++ k ∷ []) ≡ n + 1 = omega (arith, length-append front (k ∷ []), len) in
    let f : ℕ → ℕ = room_after n in
    let f_is : moved_number (length (front ++ k ∷ []) + 0) (length (front ++ k ∷ []) + 2) ≡ f =
    (let p : length (front ++ k ∷ []) + 0 ≡ n + 1 = omega arith in let q : length (front ++ k ∷ []) + 2 ≡ n + 3 = omega arith in λ i. moved_number (p i) (q i)) in
    let later : List Terminal = terminals_from t (n + 1) after in
    let earlier : List Terminal = terminals_from t 0 front in
    let this : Terminal = term_of t n k in
    let kept : renumber f this ≡ this = ap (λ (x : ℕ). record this { number = x }) (number_kept (n + 1) (n + 3) n (omega arith)) in
    let zero : 0 + length front ≡ n = omega (arith, len) in
    let front_terms : terminals_from t 0 (front ++ k ∷ []) ≡ earlier ++ this ∷ [] =
    terms_append t 0 front (k ∷ []) ∙ ap (λ (x : ℕ). earlier ++ terminals_from t x (k ∷ [])) zero ∙ ap (λ (x : List Terminal). earlier ++ x) (one_term t n k significant) in
    let new_terms : terminals_from u (length (front ++ k ∷ [])) new ≡ key keyword.CONCURRENTLY (n + 2) ∷ [] =
    made_terminals u a (length (front ++ k ∷ [])) concurrently_made (drop a t) (exchanged_at t w a a low)
    ∙ concurrently_terms (length (front ++ k ∷ []))
    ∙ (let p : length (front ++ k ∷ []) + 1 ≡ n + 2 = omega arith in ap (λ (x : ℕ). key keyword.CONCURRENTLY x ∷ []) p) in
    let later_is : terminals_from t (length (front ++ k ∷ []) + 0) after ≡ later = (let p : length (front ++ k ∷ []) + 0 ≡ n + 1 = omega arith in ap (λ (x : ℕ). terminals_from t x after) p) in
    record {
      lexed = concurrently_rereads t a (front ++ k ∷ []) after cut (omega arith) (last_of_list front k 32 keeps) ends;
      now = terminals_reread t w a a (front ++ k ∷ []) [] new after cut
          ∙ (λ i. map (renumber (f_is i)) (front_terms i) ++ (new_terms i ++ map (renumber (f_is i)) (later_is i)))
          ∙ ap (λ (x : List Terminal). x ++ (key keyword.CONCURRENTLY (n + 2) ∷ map (renumber f) later)) (map-append (renumber f) earlier (this ∷ []) ∙ ap (λ (x : Terminal). map (renumber f) earlier ++ x ∷ []) kept)
          ∙ append_assoc (map (renumber f) earlier) (this ∷ []) (key keyword.CONCURRENTLY (n + 2) ∷ map (renumber f) later);
    }

-- ---- the new statements

abbrev pair : Terminal → ℕ → List Terminal
pair word m = word ∷ key keyword.CONCURRENTLY m ∷ []

-- The statements are those of the moved terminals, but that the word comes after one terminal.
statements_now : (f : ℕ → ℕ) (m : ℕ) (ts : List Terminal) (earlier : List (List Terminal)) (first : Terminal) (front : List Terminal) (word : Terminal) (tail : List Terminal) (later : List (List Terminal)) (old : Stmt) →
    f word.number ≡ word.number → is_name word ≡ true → statements ts ≡ earlier ++ ((first ∷ front) ++ word ∷ tail) ∷ later → statement ((first ∷ front) ++ word ∷ tail) ≡ Some old →
    statements (map (renumber f) (joined earlier ++ (first ∷ front)) ++ (pair word m ++ map (renumber f) (tail ++ joined later)))
    ≡ map (map (renumber f)) earlier ++ (map (renumber f) (first ∷ front) ++ word ∷ key keyword.CONCURRENTLY m ∷ map (renumber f) tail) ∷ map (map (renumber f)) later
statements_now f m ts earlier first front word tail later old kept name cut here =
    let R : Terminal → Terminal = renumber f in
    let F : List Terminal = map R (first ∷ front) in
    let T : List Terminal = map R tail in
    let E : List (List Terminal) = map (map R) earlier in
    let L : List (List Terminal) = map (map R) later in
    let us : List Terminal = (first ∷ front) ++ word ∷ tail in
    let stays : R word ≡ word = ap (λ (x : ℕ). record word { number = x }) kept in
    let parts : map R us ≡ F ++ word ∷ T = map-append R (first ∷ front) (word ∷ tail) ∙ ap (λ (x : Terminal). F ++ x ∷ T) stays in
    let moved : statements (map R ts) ≡ E ++ (F ++ word ∷ T) ∷ L =
    statements_renumber (numbers f) ts ∙ ap (λ (x : List (List Terminal)). map (map R) x) cut ∙ map-append (map R) earlier (us ∷ later) ∙ ap (λ (x : List Terminal). E ++ x ∷ L) parts in
    let read : statement (F ++ word ∷ T) ≡ Some (stmt_moved f old) =
    ap statement (sym parts) ∙ statement_renumbers f first (front ++ word ∷ tail) ∙ ap (λ (x : Option Stmt). option_map (stmt_moved f) x) here in
    let sound = parts_of (F ++ word ∷ T) (stmt_moved f old) read in
    let level = prefix_is_level F (word ∷ T) sound.sound in
    let both = neutral_name word m name in
    let recut = statement_exchanges (map R ts) E F word [] T L both.0 level moved word (key keyword.CONCURRENTLY m ∷ []) both.1 in
    let front_is : map R (joined earlier ++ (first ∷ front)) ≡ joined E ++ F = map-append R (joined earlier) (first ∷ front) ∙ ap (λ (x : List Terminal). x ++ F) (sym (joined_moved f earlier)) in
    let tail_is : map R (tail ++ joined later) ≡ T ++ joined L = map-append R tail (joined later) ∙ ap (λ (x : List Terminal). T ++ x) (sym (joined_moved f later)) in
    let whole : joined (E ++ (F ++ (pair word m ++ T)) ∷ L) ≡ (joined E ++ F) ++ (pair word m ++ (T ++ joined L)) =
    joined_append E ((F ++ (pair word m ++ T)) ∷ L)
    ∙ ap (λ (x : List Terminal). joined E ++ x) (append_assoc F (pair word m ++ T) (joined L))
    ∙ sym (append_assoc (joined E) F (pair word m ++ (T ++ joined L))) in
    (λ i. statements (front_is i ++ (pair word m ++ tail_is i))) ∙ ap statements (sym whole) ∙ recut

-- ---- the new tree

abbrev tree_with : Tree → ℕ → List Stmt → Stmt → List Stmt → Tok → List Tok → List Tok → Tree
tree_with tree n before now after k front rest = record {
  text = exchanged tree.text k.end k.end (made_text concurrently_made);
  toks = reread front (made_toks k.end concurrently_made) k.end (k.end + length (made_text concurrently_made)) rest;
  stmts = map (stmt_moved (room_after n)) before ++ now ∷ map (stmt_moved (room_after n)) after;
}

followed : (ts : List Terminal) (earlier : List (List Terminal)) (front : List Terminal) (word : Terminal) (tail : List Terminal) (later : List (List Terminal)) → is_name word ≡ true →
    statements ts ≡ earlier ++ (front ++ word ∷ tail) ∷ later → begins_punct_or_ends tail ≡ true → begins_punct_or_ends (tail ++ joined later) ≡ true
followed ts earlier front word [] later name cut h = ap (λ (x : List (List Terminal)). begins_punct_or_ends (joined x)) (last_one ts earlier front word later (name_ends_none word name) cut)
followed ts earlier front word (t ∷ tail) later name cut h = h

keeps_space : (kind : TokKind) → (kind ≡ kinds.Word) ⊎ (kind ≡ kinds.Quoted) → (keeps_before kind 32 ≡ true) × (is_significant kind ≡ true)
keeps_space kind h = elim h [
  | inl e ↦ (ap (λ (x : TokKind). keeps_before x 32) e, ap is_significant e)
  | inr e ↦ (ap (λ (x : TokKind). keeps_before x 32) e, ap is_significant e)
]

-- no word goes on after the token
word_stops : (t : Text) (front : List Tok) (k : Tok) (after : List Tok) (n : ℕ) → Lexed t (front ++ k ∷ after) → length front ≡ n → is_name_symbol (symbol_of k.kind (text_of t k)) ≡ true →
    (is_quoted_symbol (symbol_of k.kind (text_of t k)) ≡ true → begins_punct_or_ends (terminals_from t (n + 1) after) ≡ true) →
    (is_word (get_or (drop k.end t) 0 0) ≡ false) × ((kind : TokKind) × ((k.kind ≡ kind) × ((kind ≡ kinds.Word) ⊎ (kind ≡ kinds.Quoted))))
word_stops t front k after n lexed len name quoted = elim (name_kind k.kind (text_of t k) name) [
  | inl e ↦ (word_case e, (kinds.Word, (e, inl refl)))
  | inr e ↦ (no_word_after t front k after lexed (ap (λ (x : ℕ). begins_punct_or_ends (terminals_from t (x + 1) after)) len ∙ quoted e.1), (kinds.Quoted, (e.0, inr refl)))
]
  where
    word_case : k.kind ≡ kinds.Word → is_word (get_or (drop k.end t) 0 0) ≡ false
    word_case e =
        let lead = leads_split t 0 (length t) front k after lexed in
        word_ends t k.start k.end (subst (λ (x : TokKind). At t k.start x k.end) e (subst (λ (x : ℕ). At t x k.kind k.end) (sym lead.1.0) lead.1.1))

name_of : (t u : Terminal) → t ≡ u → is_name t ≡ true → is_name_symbol u.symbol ≡ true
unfolding is_name
name_of t u e h = ap (λ (x : Terminal). is_name_symbol x.symbol) (sym e) ∙ h

pub inserted : (tree : Tree) (before : List Stmt) (s : Stmt) (after : List Stmt) (n : ℕ) (now : Stmt) → IsTree tree → tree.stmts ≡ before ++ s ∷ after →
    ((us : List Terminal) → statement us ≡ Some s → Takes n now us) → length (concurrently_text tree n) < 2 ^ 32 → Reads tree n before now after
inserted tree before s after n now is parts shows short =
    let t : Text = tree.text in
    let ts : List Terminal = terminals t tree.toks in
    let place = stmt_at_place (statements ts) before s after (of_read t tree.toks ts tree.stmts refl is.read ∙ ap (λ (x : List Stmt). Ok x) parts) in
    let takes = shows place.here place.here_is in
    let front : List Terminal = takes.first ∷ takes.front in
    let tail : List Terminal = takes.tail in
    let word : Terminal = takes.word in
    let cut : statements ts ≡ place.earlier ++ (front ++ word ∷ tail) ∷ place.later = place.parts ∙ ap (λ (x : List Terminal). place.earlier ++ x ∷ place.later) takes.parts in
    let at = term_at t 0 tree.toks (joined place.earlier ++ front) word (tail ++ joined place.later)
    (of_terminals t tree.toks _ (joined_at ts place.earlier front word tail place.later cut)) in
    let len : length at.front ≡ n = omega (arith, ap (λ (x : Terminal). x.number) at.here, takes.number) in
    let R : Terminal → Terminal = renumber (room_after n) in
    let zero : 0 + length at.front ≡ n = omega (arith, len) in
    let this : term_of t n at.k ≡ word = ap (λ (x : ℕ). term_of t x at.k) (sym zero) ∙ sym at.here in
    let later : terminals_from t (n + 1) at.after ≡ tail ++ joined place.later = ap (λ (x : ℕ). terminals_from t (x + 1) at.after) (sym zero) ∙ sym at.later in
    let earlier : terminals_from t 0 at.front ≡ joined place.earlier ++ front = sym at.earlier in
    let stop = word_stops t at.front at.k at.after n (subst (λ (x : List Tok). Lexed t x) at.parts is.lexed) len (name_of word (term_of t n at.k) (sym this) takes.name)
    (λ q. ap begins_punct_or_ends later ∙ followed ts place.earlier front word tail place.later takes.name cut (takes.quoted (ap (λ (x : Terminal). is_quoted_symbol x.symbol) (sym this) ∙ q))) in
    let keeps = keeps_space stop.1.0 stop.1.1.1 in
    let put = word_put tree n at.front at.k at.after is len at.parts (ap is_significant stop.1.1.0 ∙ keeps.1) (ap (λ (x : TokKind). keeps_before x 32) stop.1.1.0 ∙ keeps.0) stop.0 in
    let kept : room_after n word.number ≡ word.number = ap (room_after n) takes.number ∙ number_kept (n + 1) (n + 3) n (omega arith) ∙ sym takes.number in
    let terms = put.now ∙ (λ i. map R (earlier i) ++ ((this i ∷ key keyword.CONCURRENTLY (n + 2) ∷ []) ++ map R (later i))) in
    let list = statements_now (room_after n) (n + 2) ts place.earlier takes.first takes.front word tail place.later s kept takes.name cut (ap statement (sym takes.parts) ∙ place.here_is) in
    let above : AtLeast (n + 1) (tail ++ joined place.later) = subst (λ (x : List Terminal). AtLeast (n + 1) x) later (terms_least t (n + 1) at.after) in
    let full = full_parts place.earlier (front ++ word ∷ tail) place.later (subst NoneEmpty cut (statements_full ts)) in
    let read = all_between (map (map R) place.earlier) (map R front ++ word ∷ key keyword.CONCURRENTLY (n + 2) ∷ map R tail) (map (map R) place.later)
    (map (stmt_moved (room_after n)) before) now (map (stmt_moved (room_after n)) after)
    (all_renumber (room_after n) place.earlier before full.0 place.before_is) (takes.reads (least_parts (n + 1) tail (joined place.later) above).0)
    (all_renumber (room_after n) place.later after (full_rest (front ++ word ∷ tail) place.later full.1) place.after_is) in
    let token : token_at tree.toks n ≡ at.k = (λ i. get_or (at.parts i) (sym len i) no_token) ∙ get_or_at at.front at.k at.after no_token (length at.front) refl in
    let first : take (n + 1) tree.toks ≡ at.front ++ at.k ∷ [] =
    (λ i. take (n + 1) (at.parts i)) ∙ ap (λ (x : List Tok). take (n + 1) x) (sym (append_assoc at.front (at.k ∷ []) at.after))
    ∙ take_at (at.front ++ at.k ∷ []) at.after (n + 1) (omega (arith, length-append at.front (at.k ∷ []), len)) in
    let rest : drop (n + 1) tree.toks ≡ at.after =
    (λ i. drop (n + 1) (at.parts i)) ∙ ap (λ (x : List Tok). drop (n + 1) x) (sym (append_assoc at.front (at.k ∷ []) at.after))
    ∙ drop_at (at.front ++ at.k ∷ []) at.after (n + 1) (omega (arith, length-append at.front (at.k ∷ []), len)) in
    let same : tree_with tree n before now after at.k (at.front ++ at.k ∷ []) at.after ≡ concurrently_tree tree n before now after =
    (λ i. tree_with tree n before now after (sym token i) (sym first i) (sym rest i)) in
    let new : Tree = tree_with tree n before now after at.k (at.front ++ at.k ∷ []) at.after in
    let now_list = ap statements terms ∙ list in
    let whole : IsTree new = record {
      short = subst (λ (x : Tok). length (exchanged t x.end x.end (made_text concurrently_made)) < 2 ^ 32) token short;
      lexed = put.lexed;
      read = read_of _ _ _ _ terms (ap all_statements list ∙ read);
    } in
    record {
      is = subst IsTree same whole;
      terms = record {
        earlier = place.earlier;
        front = front;
        t = word;
        tail = tail;
        later = place.later;
        number = takes.number;
        old = cut;
        now = subst (λ (x : Tree). statements (terminals x.text x.toks) ≡ map (map R) place.earlier ++ (map R front ++ word ∷ key keyword.CONCURRENTLY (n + 2) ∷ map R tail) ∷ map (map R) place.later) same now_list;
      };
    }

-- ---- where the statement ends

last_above : (lo : ℕ) (ts : List Terminal) (t : Terminal) → AtLeast lo (t ∷ ts) → lo ≤ (last_of (t ∷ ts)).number
unfolding AtLeast
last_above lo [] t h = h.0
last_above lo (u ∷ ts) t h =
    let p : lo ≤ (last_of (u ∷ ts)).number = last_above lo ts u h.1 in
    subst (λ (x : Terminal). lo ≤ x.number) (sym (last_after (t ∷ []) u ts)) p

pub last_is : (n l : ℕ) (us front : List Terminal) (word : Terminal) (tail : List Terminal) → us ≡ front ++ word ∷ tail → l ≡ (last_of us).number → word.number ≡ n → AtLeast (n + 1) tail →
    last_with tail (n + 2) (room_after n l) ≡ end_after n l
last_is n l us front word [] parts last number above =
    let same : l ≡ n = last ∙ ap (λ (x : List Terminal). (last_of x).number) parts ∙ ap (λ (x : Terminal). x.number) (last_after front word []) ∙ number in
    let test : (l == n) ≡ true = same_number l n same in
    λ i. cond (sym test i) (n + 2) (room_after n l)
  where
    same_number : (a b : ℕ) → a ≡ b → (a == b) ≡ true
    same_number a b e = grind (arith, nat_tests)
last_is n l us front word (t ∷ ts) parts last number above =
    let end : l ≡ (last_of (t ∷ ts)).number = last ∙ ap (λ (x : List Terminal). (last_of x).number) (parts ∙ sym (append_assoc front (word ∷ []) (t ∷ ts))) ∙ ap (λ (x : Terminal). x.number) (last_after (front ++ word ∷ []) t ts) in
    let high = last_above (n + 1) ts t above in
    let test : (l == n) ≡ false = other_number l n (omega arith) in
    λ i. cond (sym test i) (n + 2) (room_after n l)
  where
    other_number : (a b : ℕ) → b < a → (a == b) ≡ false
    other_number a b e = grind (arith, nat_tests)
