-- A Set before the first significant token.
use Rattle.std.proofs.Common.{◌≡◌, ℕ, ◌+◌, ◌≤◌, true, List, [], ◌∷◌, ◌++◌, map, length, drop, sym, refl, ap, ◌∙◌, subst, arith, Some, Ok}
use Rattle.std.specs.Prelude.{codes}
use Rattle.law_edit_cuts.specs.sql_keyword.declared.words.TheConstants.Keyword as keyword
use Rattle.law_edit_cuts.specs.sql_keyword.Same.{same_keyword}
use Rattle.law_edit_cuts.specs.sql_keyword.Find.{keyword_of}
use Rattle.law_edit_cuts.specs.sql_keyword.Texts.{all_keywords, text}
use Rattle.law_edit_cuts.specs.sql_token.declared.token.Tok.{Tok}
use Rattle.law_edit_cuts.specs.sql_token.declared.token.TokKind.TheVariants.{Word, Op, Str, Punct}
use Rattle.law_edit_cuts.specs.sql_token.declared.terminal.Symbol.TheVariants as s
use Rattle.law_edit_cuts.specs.sql_token.declared.terminal.Terminal.{Terminal}
use Rattle.law_edit_cuts.specs.sql_token.Token.{Text, Leads}
use Rattle.law_edit_cuts.specs.sql_token.Terminal.{symbol_of, terminals, terminals_from, is_opener, is_closer, is_semicolon, is_unicode_name, is_keyword, is_name, is_dot}
use Rattle.law_edit_cuts.specs.sql_token.Depth.{statements}
use Rattle.law_edit_cuts.specs.sql_token.Sound.{is_sound, begins_atomic}
use Rattle.law_edit_cuts.specs.sql_tree.declared.nodes.Stmt.{Stmt}
use Rattle.law_edit_cuts.specs.sql_tree.Forms.{take_part, words_of, rows_of, one_word_kind, led_by}
use Rattle.law_edit_cuts.specs.sql_tree.Groups.{path_first}
use Rattle.law_edit_cuts.specs.sql_tree.Tails.{begins_value, parameter}
use Rattle.law_edit_cuts.specs.sql_tree.Statement.{final_kind, body_shape_of, body_by, kind_and_body, front_by, from_verb, form_from, form_of, statement, all_statements, read_tokens}
use Rattle.law_edit_cuts.specs.law_renumber.Moved.{stmt_moved}
use Rattle.law_edit_cuts.specs.law_renumber.Renumber.{renumber}
use Rattle.law_edit_cuts.proofs.of_law_renumber.Readings.{statements_renumber}
use Rattle.law_edit_cuts.proofs.of_law_renumber.Seen.{numbers}
use Rattle.law_edit_tokens.specs.Terminals.{made_terms, moved_number}
use Rattle.law_edit_tokens.proofs.After.{exchanged_at, leads_within, leads_split}
use Rattle.law_edit_tokens.proofs.Terminals.{terms_append, terminals_reread, made_terminals, quiet_terms}
use Rattle.law_edit_inserts.specs.SetInFront.{set_stmt, term, set_terms, room_before, SetInFront}
use Rattle.law_edit_inserts.proofs.Statements.{all_of_both, trees_renumber}
use Rattle.law_edit_cuts.proofs.of_sql_token.Statements.{by_counts}
use Rattle.law_edit_tokens.specs.Exchange.{exchanged, made_text, made_toks, reread, Cut}
use Rattle.law_edit_tokens.specs.Edits.{set_made, all_quiet}
use Rattle.law_edit_tokens.specs.Terminals.{moved_number}
use Rattle.law_edit_tokens.proofs.Edits.{set_rereads}

set_symbol : symbol_of Word (codes "set") ≡ s.Keyword keyword.SET
unfolding symbol_of keyword_of all_keywords text
set_symbol = refl

other_symbols : (digit : ℕ) → (symbol_of Op (codes "=") ≡ s.Equals) × (symbol_of Str (39 ∷ digit ∷ 115 ∷ 39 ∷ []) ≡ s.Str) × (symbol_of Punct (codes ";") ≡ s.Semicolon)
unfolding symbol_of
other_symbols digit = (refl, refl, refl)

set_made_terms : (n digit : ℕ) (name ending : Text) → symbol_of Word name ≡ s.Word → made_terms n (set_made name digit ending) ≡ set_terms n
unfolding made_terms
set_made_terms n digit name ending e =
    let two : n + 1 + 1 ≡ n + 2 = omega arith in
    let four : n + 1 + 1 + 1 + 1 ≡ n + 4 = omega arith in
    let six : n + 1 + 1 + 1 + 1 + 1 + 1 ≡ n + 6 = omega arith in
    let seven : n + 1 + 1 + 1 + 1 + 1 + 1 + 1 ≡ n + 7 = omega arith in
    let set = set_symbol in
    let others = other_symbols digit in
    let equals = others.0 in let str = others.1 in let semicolon = others.2 in
    λ x. term (set x) n ∷ term (e x) (two x) ∷ term (equals x) (four x) ∷ term (str x) (six x) ∷ term (semicolon x) (seven x) ∷ []

set_cut : (n : ℕ) (ts : List Terminal) → statements (set_terms n ++ ts) ≡ set_terms n ∷ statements ts
unfolding is_semicolon is_opener is_closer
set_cut n ts = by_counts (set_terms n ++ ts) ∙ ap (λ (x : List (List Terminal)). set_terms n ∷ x) (sym (by_counts ts))

set_statement : (n : ℕ) → statement (set_terms n) ≡ Some (set_stmt n)
unfolding statement is_sound begins_atomic is_unicode_name is_opener is_closer is_keyword same_keyword is_semicolon form_of from_verb form_from front_by led_by one_word_kind rows_of take_part words_of kind_and_body body_shape_of final_kind body_by parameter path_first begins_value is_name is_dot
set_statement n = refl

-- ---- the tree

read_set : (t u : Text) (toks news : List Tok) (stmts : List Stmt) (n : ℕ) (f : ℕ → ℕ) (later : List Terminal) →
    read_tokens t toks ≡ Ok stmts → terminals t toks ≡ later → terminals u news ≡ set_terms n ++ map (renumber f) later →
    read_tokens u news ≡ Ok (set_stmt n ∷ map (stmt_moved f) stmts)
unfolding read_tokens
read_set t u toks news stmts n f later read old now =
    let others : all_statements (statements later) ≡ Ok stmts = ap (λ (x : List Terminal). all_statements (statements x)) (sym old) ∙ read in
    ap (λ (x : List Terminal). all_statements (statements x)) now
    ∙ ap all_statements (set_cut n (map (renumber f) later))
    ∙ all_of_both (set_terms n) (statements (map (renumber f) later)) (set_stmt n) (map (stmt_moved f) stmts) (set_statement n) (trees_renumber f later stmts others)

old_terms : (t : Text) (front : List Tok) (k : Tok) (after : List Tok) → all_quiet front ≡ true → terminals t (front ++ k ∷ after) ≡ terminals_from t (length front + 0) (k ∷ after)
unfolding terminals
old_terms t front k after quiet =
    let place : 0 + length front ≡ length front + 0 = omega arith in
    let none = quiet_terms t 0 front quiet in
    terms_append t 0 front (k ∷ after) ∙ (λ x. none x ++ terminals_from t (place x) (k ∷ after))

pub set_in_front : SetInFront
set_in_front tree name ending digit front k after is toks quiet significant plain symbol quote end short =
    let t : Text = tree.text in
    let a : ℕ = k.start in
    let w : Text = made_text (set_made name digit ending) in
    let new : List Tok = made_toks a (set_made name digit ending) in
    let n : ℕ = length front in
    let f : ℕ → ℕ = room_before n in
    let zero : n + 0 ≡ n = omega arith in
    let f_is : moved_number (n + 0) (n + 9) ≡ f = ap (λ (x : ℕ). moved_number x (n + 9)) zero in
    let later : List Terminal = terminals_from t (n + 0) (k ∷ after) in
    let lead = leads_split t 0 (length t) front k after (subst (λ (x : List Tok). Leads t 0 x (length t)) toks is.lexed) in
    let cut : Cut t a a front [] (k ∷ after) = record { until_run = lead.0; in_run = refl; after_run = lead.1 } in
    let low : a ≤ length t = leads_within t 0 a front (omega arith) lead.0 in
    let old = ap (λ (x : List Tok). terminals t x) toks ∙ old_terms t front k after quiet in
    let none = quiet_terms t 0 front quiet in
    let made = made_terminals (exchanged t a a w) a n (set_made name digit ending) (drop a t) (exchanged_at t w a a low) ∙ set_made_terms n digit name ending symbol in
    let now : terminals (exchanged t a a w) (reread front new a (a + length w) (k ∷ after)) ≡ set_terms n ++ map (renumber f) later =
    terminals_reread t w a a front [] new (k ∷ after) cut
    ∙ (λ x. map (renumber (f_is x)) (none x) ++ (made x ++ map (renumber (f_is x)) later)) in
    record {
      is = record {
        short = short;
        lexed = set_rereads t name ending digit a front k after cut quiet significant plain quote end;
        read = read_set t (exchanged t a a w) tree.toks (reread front new a (a + length w) (k ∷ after)) tree.stmts n f later is.read old now;
      };
      terms = ap statements now ∙ set_cut n (map (renumber f) later) ∙ ap (λ (x : List (List Terminal)). set_terms n ∷ x) (statements_renumber (numbers f) later ∙ ap (λ (x : List Terminal). map (map (renumber f)) (statements x)) (sym old));
    }

-- the two parameters of the fixes
pub timeouts_are_words : (symbol_of Word (codes "lock_timeout") ≡ s.Word) × (symbol_of Word (codes "statement_timeout") ≡ s.Word)
unfolding symbol_of keyword_of all_keywords text
timeouts_are_words = (refl, refl)
