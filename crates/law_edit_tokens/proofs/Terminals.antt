-- The terminals of a text in which a run of tokens was exchanged.
use Rattle.std.proofs.Common.{◌≡◌, ℕ, suc, ◌+◌, ◌-◌, ◌<◌, ◌≤◌, Bool, true, false, cond, List, [], ◌∷◌, ◌++◌, map, length, take, drop, append_assoc, sym, refl, ap, ◌∙◌, arith}
use Rattle.std.proofs.lemmas.Bool.{and_parts, not-true}
use Rattle.std.proofs.lemmas.Bool.Decides.{nat_tests}
use Rattle.std.proofs.lemmas.List.{drop-drop, drop_at, take_at}
use Rattle.std.specs.Prelude.{not}
use Rattle.law_renumber.specs.sql_token.declared.token.Tok.{Tok}
use Rattle.law_renumber.specs.sql_token.declared.terminal.Terminal.{Terminal}
use Rattle.law_renumber.specs.sql_token.Token.{Text, Leads, text_of}
use Rattle.law_renumber.specs.sql_token.Terminal.{terminals, terminals_from, is_significant, symbol_of}
use Rattle.law_renumber.proofs.of_sql_token.Ahead.{Agree}
use Rattle.law_renumber.specs.Renumber.{renumber}
use Rattle.law_edit_tokens.specs.Exchange.{exchanged, tok_moved, Made, made_text, made_toks}
use Rattle.law_edit_tokens.specs.Edits.{all_quiet}
use Rattle.law_edit_tokens.specs.Terminals.{term_of, made_terms, moved_number, TerminalsReread}
use Rattle.law_edit_tokens.proofs.Same.{agree_drop, take_same}
use Rattle.law_edit_tokens.proofs.Prefix.{leads_grow}
use Rattle.law_edit_tokens.proofs.After.{exchanged_after, exchanged_agrees, leads_within}

-- ---- the same tokens

pub terms_append : (t : Text) (n : ℕ) (ks ls : List Tok) → terminals_from t n (ks ++ ls) ≡ terminals_from t n ks ++ terminals_from t (n + length ks) ls
terms_append t n [] ls = let zero : n + 0 ≡ n = omega arith in ap (λ (x : ℕ). terminals_from t x ls) (sym zero)
terms_append t n (k ∷ ks) ls =
    by (is_significant k.kind) (terms_append t (n + 1) ks ls ∙ ap (λ (x : ℕ). terminals_from t (n + 1) ks ++ terminals_from t x ls) (next n (length ks)))
  where
    next : (n m : ℕ) → n + 1 + m ≡ n + suc m
    next n m = omega arith

    by : (s : Bool) → terminals_from t (n + 1) (ks ++ ls) ≡ terminals_from t (n + 1) ks ++ terminals_from t (n + suc (length ks)) ls →
        cond s (record { symbol = symbol_of k.kind (text_of t k); number = n } ∷ terminals_from t (n + 1) (ks ++ ls)) (terminals_from t (n + 1) (ks ++ ls))
        ≡ cond s (record { symbol = symbol_of k.kind (text_of t k); number = n } ∷ terminals_from t (n + 1) ks) (terminals_from t (n + 1) ks) ++ terminals_from t (n + suc (length ks)) ls
    by true e = ap (λ (x : List Terminal). record { symbol = symbol_of k.kind (text_of t k); number = n } ∷ x) e
    by false e = e

-- the terminals of the same tokens in two texts, under other numbers
same_terms : (f : ℕ → ℕ) (s : Bool) (k : Tok) (x y : Text) (n m : ℕ) (ts us : List Terminal) → x ≡ y → m ≡ f n → us ≡ map (renumber f) ts →
    cond s (record { symbol = symbol_of k.kind y; number = m } ∷ us) us
    ≡ map (renumber f) (cond s (record { symbol = symbol_of k.kind x; number = n } ∷ ts) ts)
same_terms f true k x y n m ts us p q r = λ i. record { symbol = symbol_of k.kind (sym p i); number = q i } ∷ r i
same_terms f false k x y n m ts us p q r = r

pub terms_prefix : (f : ℕ → ℕ) (t u : Text) (c i e n : ℕ) (ks : List Tok) → Agree t u c → Leads t i ks e → e ≤ c → ((x : ℕ) → x < n + length ks → f x ≡ x) →
    terminals_from u n ks ≡ map (renumber f) (terminals_from t n ks)
terms_prefix f t u c i e n [] a lead h same = refl
terms_prefix f t u c i e n (k ∷ ks) a lead h same =
    let before = lead.1.before in
    let grows = leads_grow t k.end e ks lead.2 in
    let start = lead.0 in
    let text : text_of t k ≡ text_of u k =
    take_same (drop k.start t) (drop k.start u) (c - k.start) (k.end - k.start) (omega arith) (agree_drop t u c k.start (omega arith) a) in
    same_terms f (is_significant k.kind) k (text_of t k) (text_of u k) n n _ _ text (sym (same n (omega arith)))
    (terms_prefix f t u c k.end e (n + 1) ks a lead.2 h (λ x low. same x (omega arith)))

pub terms_after : (f : ℕ → ℕ) (t u : Text) (b c i e n m : ℕ) (ks : List Tok) → drop b t ≡ drop c u → b ≤ i → Leads t i ks e → ((x : ℕ) → m + x ≡ f (n + x)) →
    terminals_from u m (map (tok_moved b c) ks) ≡ map (renumber f) (terminals_from t n ks)
terms_after f t u b c i e n m [] same low lead number = refl
terms_after f t u b c i e n m (k ∷ ks) same low lead number =
    let before = lead.1.before in
    let start = lead.0 in
    let place : b + (k.start - b) ≡ k.start = omega arith in
    let size : c + (k.end - b) - (c + (k.start - b)) ≡ k.end - k.start = omega arith in
    let rest : drop k.start t ≡ drop (c + (k.start - b)) u =
    sym (drop-drop (k.start - b) b t ∙ ap (λ (x : ℕ). drop x t) place) ∙ ap (λ (x : Text). drop (k.start - b) x) same ∙ drop-drop (k.start - b) c u in
    let text : text_of t k ≡ text_of u (tok_moved b c k) =
    ap (λ (x : Text). take (k.end - k.start) x) rest ∙ ap (λ (x : ℕ). take x (drop (c + (k.start - b)) u)) (sym size) in
    let zero : m + 0 ≡ m = omega arith in
    let zero' : n + 0 ≡ n = omega arith in
    same_terms f (is_significant k.kind) k (text_of t k) (text_of u (tok_moved b c k)) n m _ _ text (sym zero ∙ number 0 ∙ ap f zero')
    (terms_after f t u b c k.end e (n + 1) (m + 1) ks same (omega arith) lead.2
    (λ x. let one : m + 1 + x ≡ m + (1 + x) = omega arith in let two : n + (1 + x) ≡ n + 1 + x = omega arith in one ∙ number (1 + x) ∙ ap f two))

number_front : (n m x : ℕ) → x < n → moved_number n m x ≡ x
number_front n m x h = grind (arith, nat_tests)

number_after : (n m x : ℕ) → m + x ≡ moved_number n m (n + x)
number_after n m x = grind (arith, nat_tests)

pub terminals_reread : TerminalsReread
unfolding terminals
terminals_reread t w a b front run new after cut =
    let u : Text = exchanged t a b w in
    let low : a ≤ length t = leads_within t 0 a front (omega arith) cut.until_run in
    let n : ℕ = length front + length run in
    let m : ℕ = length front + length new in
    let f : ℕ → ℕ = moved_number n m in
    let moved : List Tok = map (tok_moved b (a + length w)) after in
    let zero : 0 + length front ≡ length front = omega arith in
    let front_terms : terminals_from u 0 front ≡ map (renumber f) (terminals_from t 0 front) =
    terms_prefix f t u a 0 a 0 front (exchanged_agrees t w a b low) cut.until_run (omega arith) (λ x h. number_front n m x (omega arith)) in
    let after_terms : terminals_from u m moved ≡ map (renumber f) (terminals_from t n after) =
    terms_after f t u b (a + length w) b (length t) n m after (sym (exchanged_after t w a b low)) (omega arith) cut.after_run (λ x. number_after n m x) in
    terms_append u 0 front (new ++ moved)
    ∙ ap (λ (x : ℕ). terminals_from u 0 front ++ terminals_from u x (new ++ moved)) zero
    ∙ (λ i. front_terms i ++ terms_append u (length front) new moved i)
    ∙ ap (λ (x : List Terminal). map (renumber f) (terminals_from t 0 front) ++ (terminals_from u (length front) new ++ x)) after_terms

pub one_term : (t : Text) (n : ℕ) (k : Tok) → is_significant k.kind ≡ true → terminals_from t n (k ∷ []) ≡ term_of t n k ∷ []
one_term t n k h = λ i. cond (h i) (term_of t n k ∷ []) []

pub split_terms : (t : Text) (front : List Tok) (k : Tok) (after : List Tok) → is_significant k.kind ≡ true →
    terminals t (front ++ k ∷ after) ≡ terminals_from t 0 front ++ (term_of t (length front) k ∷ terminals_from t (length front + 1) after)
unfolding terminals
split_terms t front k after h =
    let zero : 0 + length front ≡ length front = omega arith in
    terms_append t 0 front (k ∷ after)
    ∙ ap (λ (x : ℕ). terminals_from t 0 front ++ terminals_from t x (k ∷ after)) zero
    ∙ (λ i. terminals_from t 0 front ++ cond (h i) (term_of t (length front) k ∷ terminals_from t (length front + 1) after) (terminals_from t (length front + 1) after))

-- ---- new terminals

pub made_terminals : (u : Text) (i n : ℕ) (ps : List Made) (rest : Text) → drop i u ≡ made_text ps ++ rest → terminals_from u n (made_toks i ps) ≡ made_terms n ps
unfolding made_terms
made_terminals u i n [] rest same = refl
made_terminals u i n (p ∷ ps) rest same =
    let front : drop i u ≡ p.1 ++ (made_text ps ++ rest) = same ∙ append_assoc p.1 (made_text ps) rest in
    let size : i + length p.1 - i ≡ length p.1 = omega arith in
    let text : take (i + length p.1 - i) (drop i u) ≡ p.1 =
    (λ x. take (size x) (front x)) ∙ take_at p.1 (made_text ps ++ rest) (length p.1) refl in
    let next : drop (i + length p.1) u ≡ made_text ps ++ rest =
    sym (drop-drop (length p.1) i u) ∙ ap (λ (x : Text). drop (length p.1) x) front ∙ drop_at p.1 (made_text ps ++ rest) (length p.1) refl in
    let others = made_terminals u (i + length p.1) (n + 1) ps rest next in
    λ x. cond (is_significant p.0) (record { symbol = symbol_of p.0 (text x); number = n } ∷ others x) (others x)

pub quiet_terms : (t : Text) (n : ℕ) (ks : List Tok) → all_quiet ks ≡ true → terminals_from t n ks ≡ []
quiet_terms t n [] h = refl
quiet_terms t n (k ∷ ks) h =
    let both = and_parts (not (is_significant k.kind)) (all_quiet ks) h in
    let rest = quiet_terms t (n + 1) ks both.1 in
    let none = not-true (is_significant k.kind) both.0 in
    λ x. cond (none x) (record { symbol = symbol_of k.kind (text_of t k); number = n } ∷ rest x) (rest x)

pub made_length : (i : ℕ) (ps : List Made) → length (made_toks i ps) ≡ length ps
made_length i [] = refl
made_length i (p ∷ ps) = ap suc (made_length (i + length p.1) ps)
