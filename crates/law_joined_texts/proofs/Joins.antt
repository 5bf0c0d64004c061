-- The tree of two texts, one put after the other.
use Rattle.std.proofs.Common.{◌≡◌, ◌∙◌, ℕ, ◌+◌, ◌-◌, ◌<◌, ◌^◌, Bool, true, false, cond, List, [], ◌∷◌, ◌++◌, length, map, get_or, drop, refl, sym, ap, subst, arith, length-append, Option, Some, None, Ok, Err, Result}
use Rattle.std.proofs.lemmas.Bool.{false≢true}
use Rattle.std.proofs.lemmas.List.{drop_at, get_or_append_left, get_or-append-add, map-id}
use Rattle.std.specs.Prelude.{◌&&◌, ◌||◌}
use Rattle.law_edit_cuts.specs.sql_token.declared.token.Tok.{Tok}
use Rattle.law_edit_cuts.specs.sql_token.declared.terminal.Terminal.{Terminal}
use Rattle.law_edit_cuts.specs.sql_token.Depth.{span_of, statements, statements_from}
use Rattle.law_edit_cuts.specs.sql_token.Sound.{is_sound}
use Rattle.law_edit_cuts.specs.sql_token.Terminal.{is_semicolon, terminals, terminals_from}
use Rattle.law_edit_cuts.specs.sql_token.Token.{Text, At, Leads, Lexed, begins_blank, begins_byte_order_mark, is_blank}
use Rattle.law_edit_cuts.proofs.of_sql_token.Ahead.{Agree}
use Rattle.law_edit_cuts.proofs.of_sql_token.Statements.{by_counts}
use Rattle.law_edit_cuts.specs.sql_tree.declared.nodes.Stmt.{Stmt}
use Rattle.law_edit_cuts.specs.sql_tree.Statement.{all_statements, and_then_all, read_tokens, statement}
use Rattle.law_edit_cuts.specs.law_renumber.Moved.{stmt_moved}
use Rattle.law_edit_cuts.specs.law_renumber.Renumber.{renumber}
use Rattle.law_edit_cuts.specs.law_renumber.Texts.{reading_moved}
use Rattle.law_edit_cuts.proofs.of_law_renumber.Options.{by_words, text_by_all}
use Rattle.law_edit_cuts.proofs.of_law_renumber.Readings.{reading_renumbers}
use Rattle.law_edit_cuts.proofs.of_law_renumber.Seen.{numbers}
use Rattle.law_edit_tokens.specs.Exchange.{Cut, FirstStays, tok_moved}
use Rattle.law_edit_tokens.proofs.After.{at_unstarted, rereads_after_one}
use Rattle.law_edit_tokens.proofs.Prefix.{prefix_stays}
use Rattle.law_edit_tokens.proofs.Terminals.{terms_after, terms_append, terms_prefix}
use Rattle.law_edit_cuts.proofs.Nested.{closed_is_level}
use Rattle.law_edit_cuts.proofs.Sound.{sound_is_closed}
use Rattle.law_joined_texts.specs.Joined.{EndsInBlank, FinishedStays, TreesJoin, ValidTextsJoin, ends_in_semicolon, joined}
use Rattle.law_joined_texts.proofs.Blanks.{blank_keeps, some_byte}
use Rattle.law_joined_texts.proofs.Cuts.{AreLevel, cut_joined, level_ends}
use Rattle.law_edit_tokens.proofs.Last.{last_stays}

-- ---- bytes

-- the first text, in both
agrees : (t u : Text) → Agree t (t ++ u) (length t)
agrees t u = record {
  here = omega arith;
  there = omega (arith, length-append t u);
  same = λ k low. sym (get_or_append_left t u 0 k low);
}

second_at : (t u : Text) → u ≡ drop (length t) (t ++ u)
second_at t u = sym (drop_at t u (length t) refl)

second_byte : (t u : Text) → get_or (t ++ u) (length t) 0 ≡ get_or u 0 0
second_byte t u = let zero : length t + 0 ≡ length t = omega arith in ap (λ (x : ℕ). get_or (t ++ u) x 0) (sym zero) ∙ get_or-append-add t u 0 0

-- neither a blank nor a byte order mark is at the front
no_blank : (t : Text) → begins_blank true t ≡ false → (is_blank (get_or t 0 0) ≡ false) × (begins_byte_order_mark t ≡ false)
no_blank t h = by (is_blank (get_or t 0 0)) (begins_byte_order_mark t) h
  where
    by : (p q : Bool) → (p || (true && q)) ≡ false → (p ≡ false) × (q ≡ false)
    by false false h = (refl, refl)
    by true q h = absurd (false≢true (sym h))
    by false true h = absurd (false≢true (sym h))

-- ---- tokens

module _ (t u : Text) (ks ls : List Tok) (lexed : Lexed t ks) (blank : EndsInBlank ks) (lexed' : Lexed u ls) (fresh : begins_blank true u ≡ false) where
  front : Leads (t ++ u) 0 ks (length t)
  front =
      prefix_stays t (t ++ u) (length t) (agrees t u) 0 ks lexed
      (last_stays t (t ++ u) (length t) 0 ks (agrees t u) lexed (blank_keeps ks (get_or (t ++ u) (length t) 0) blank (ap is_blank (second_byte t u) ∙ (no_blank u fresh).0)))

  first : (c : ℕ) → c ≡ length t → (ls : List Tok) → Lexed u ls → FirstStays (t ++ u) 0 c ls
  first c same [] lead = tt
  first c same (k ∷ ls) lead =
      let some = some_byte t 0 (length t) ks lexed blank in
      let whole : k.end ≡ k.end - 0 = omega arith in
      let here = at_unstarted u (t ++ u) (length t) k.end k.kind (no_blank u fresh).1 some (second_at t u) lead.1 in
      subst (λ (x : ℕ). FirstStays (t ++ u) 0 x (k ∷ ls)) (sym same) (subst (λ (x : ℕ). At (t ++ u) (length t) k.kind (length t + x)) whole here)

  tokens_join : Lexed (t ++ u) (ks ++ map (tok_moved 0 (length t)) ls)
  tokens_join =
      let zero : 0 + length t ≡ length t = omega arith in
      let cut : Cut u 0 0 [] [] ls = record { until_run = refl; in_run = refl; after_run = lexed' } in
      subst (λ (c : ℕ). Lexed (t ++ u) (ks ++ map (tok_moved 0 c) ls)) zero
      (rereads_after_one u t 0 0 [] [] ks ls cut tt (subst (λ (e : ℕ). Leads (t ++ u) 0 ks e) (sym zero) front) (first (0 + length t) zero ls lexed'))

-- ---- terminals

terms_join : (t u : Text) (ks ls : List Tok) → Lexed t ks → Lexed u ls →
    terminals (t ++ u) (ks ++ map (tok_moved 0 (length t)) ls) ≡ terminals t ks ++ map (renumber (λ n. length ks + n)) (terminals u ls)
unfolding terminals
terms_join t u ks ls lexed lexed' =
    let zero : 0 + length ks ≡ length ks = omega arith in
    let moved : List Tok = map (tok_moved 0 (length t)) ls in
    let before : terminals_from (t ++ u) 0 ks ≡ terminals_from t 0 ks =
    terms_prefix (λ x. x) t (t ++ u) (length t) 0 (length t) 0 ks (agrees t u) lexed (omega arith) (λ x low. refl) ∙ map-id (terminals_from t 0 ks) in
    let after : terminals_from (t ++ u) (length ks) moved ≡ map (renumber (λ n. length ks + n)) (terminals_from u 0 ls) =
    terms_after (λ n. length ks + n) u (t ++ u) 0 (length t) 0 (length u) 0 (length ks) ls (second_at t u) (omega arith) lexed' (λ x. let e : x ≡ 0 + x = omega arith in ap (λ (y : ℕ). length ks + y) e) in
    terms_append (t ++ u) 0 ks moved ∙ (λ i. before i ++ terminals_from (t ++ u) (zero i) moved) ∙ ap (λ (x : List Terminal). terminals_from t 0 ks ++ x) after

-- ---- statements

read_is : (t : Text) (toks : List Tok) (stmts : List Stmt) → read_tokens t toks ≡ Ok stmts → all_statements (statements (terminals t toks)) ≡ Ok stmts
unfolding read_tokens
read_is t toks stmts e = e

is_read : (t : Text) (toks : List Tok) (stmts : List Stmt) → all_statements (statements (terminals t toks)) ≡ Ok stmts → read_tokens t toks ≡ Ok stmts
unfolding read_tokens
is_read t toks stmts e = e

statement_sound : (ts : List Terminal) (s : Stmt) → statement ts ≡ Some s → is_sound ts ≡ true
unfolding statement
statement_sound ts s e = by (is_sound ts) _ e
  where
    by : (b : Bool) (o : Option Stmt) → cond b o None ≡ Some s → b ≡ true
    by true o e = refl
    by false o e = absurd (cc)

-- statements that were read are level
level : (all : List (List Terminal)) (stmts : List Stmt) → all_statements all ≡ Ok stmts → AreLevel 0 0 all
level [] stmts read = tt
level (ts ∷ others) stmts read = by (statement ts) refl (all_statements others) refl read (λ more e. level others more e)
  where
    by : (o : Option Stmt) → statement ts ≡ o → (r : Result (List Stmt) ℕ) → all_statements others ≡ r → and_then_all o (span_of ts).first r ≡ Ok stmts
        → ((more : List Stmt) → all_statements others ≡ Ok more → AreLevel 0 0 others) → AreLevel 0 0 (ts ∷ others)
    by None e r f read later = absurd (cc)
    by (Some s) e (Err at) f read later = absurd (cc)
    by (Some s) e (Ok more) f read later =
        let same = (closed_is_level ts (sound_is_closed ts (statement_sound ts s e))).level in
        (omega arith, later more f)

abbrev all_ok : List Stmt → Result (List Stmt) ℕ
all_ok stmts = Ok stmts

-- all statements of two lists
all_join : (all more : List (List Terminal)) (ss rs : List Stmt) → all_statements all ≡ Ok ss → all_statements more ≡ Ok rs → all_statements (all ++ more) ≡ Ok (ss ++ rs)
all_join [] more [] rs e f = f
all_join [] more (s ∷ ss) rs e f = absurd (cc)
all_join (ts ∷ others) more ss rs e f = by (statement ts) (all_statements others) refl e (λ xs g. all_join others more xs rs g f)
  where
    inside : {xs ys : List Stmt} → all_ok xs ≡ all_ok ys → xs ≡ ys
    inside e = cc

    by : (o : Option Stmt) (r : Result (List Stmt) ℕ) → all_statements others ≡ r → and_then_all o (span_of ts).first r ≡ Ok ss
        → ((xs : List Stmt) → all_statements others ≡ Ok xs → all_statements (others ++ more) ≡ Ok (xs ++ rs))
        → and_then_all o (span_of ts).first (all_statements (others ++ more)) ≡ Ok (ss ++ rs)
    by None r g e later = absurd (cc)
    by (Some s) (Err at) g e later = absurd (cc)
    by (Some s) (Ok xs) g e later = ap (and_then_all (Some s) (span_of ts).first) (later xs g) ∙ ap (λ (x : List Stmt). Ok (x ++ rs)) (inside e)

statements_join : (ts us : List Terminal) (stmts : List Stmt) → ends_in_semicolon ts ≡ true → all_statements (statements ts) ≡ Ok stmts → statements (ts ++ us) ≡ statements ts ++ statements us
statements_join ts us stmts semi read =
    let here = by_counts ts in
    let ends = level_ends 0 0 ts semi (level (statements_from 0 0 ts) stmts (sym (ap all_statements here) ∙ read)) in
    by_counts (ts ++ us) ∙ cut_joined 0 0 ts us ends ∙ sym (λ i. here i ++ by_counts us i)

moved_reads : (f : ℕ → ℕ) (us : List Terminal) (stmts : List Stmt) → all_statements (statements us) ≡ Ok stmts → all_statements (statements (map (renumber f) us)) ≡ Ok (map (stmt_moved f) stmts)
moved_reads f us stmts read = reading_renumbers (numbers f) us (text_by_all (renumber f) us (by_words (renumber f) (λ t. refl) us)) ∙ ap (reading_moved f) read

-- ---- trees

pub trees_join : TreesJoin
trees_join a b is finished is' fresh short =
    let f : ℕ → ℕ = λ n. length a.toks + n in
    let ts : List Terminal = terminals a.text a.toks in
    let us : List Terminal = terminals b.text b.toks in
    let read = read_is a.text a.toks a.stmts is.read in
    let moved = moved_reads f us b.stmts (read_is b.text b.toks b.stmts is'.read) in
    record {
      short = short;
      lexed = tokens_join a.text b.text a.toks b.toks is.lexed finished.blank is'.lexed fresh;
      read = is_read (a.text ++ b.text) (joined a b).toks (joined a b).stmts
          (ap (λ (x : List Terminal). all_statements (statements x)) (terms_join a.text b.text a.toks b.toks is.lexed is'.lexed)
          ∙ ap all_statements (statements_join ts (map (renumber f) us) a.stmts finished.semicolon read)
          ∙ all_join (statements ts) (statements (map (renumber f) us)) a.stmts (map (stmt_moved f) b.stmts) read moved);
    }

semicolon_stays : (ts : List Terminal) (f : ℕ → ℕ) (us : List Terminal) → ends_in_semicolon us ≡ true → ends_in_semicolon (ts ++ map (renumber f) us) ≡ true
unfolding is_semicolon
semicolon_stays [] f [] h = absurd (false≢true h)
semicolon_stays [] f (u ∷ []) h = h
semicolon_stays [] f (u ∷ v ∷ us) h = semicolon_stays [] f (v ∷ us) h
semicolon_stays (t ∷ []) f [] h = absurd (false≢true h)
semicolon_stays (t ∷ []) f (u ∷ us) h = semicolon_stays [] f (u ∷ us) h
semicolon_stays (t ∷ x ∷ ts) f us h = semicolon_stays (x ∷ ts) f us h

blank_stays : (ks : List Tok) (c : ℕ) (ls : List Tok) → EndsInBlank ls → EndsInBlank (ks ++ map (tok_moved 0 c) ls)
blank_stays [] c [] h = absurd h
blank_stays [] c (l ∷ []) h = h
blank_stays [] c (l ∷ m ∷ ls) h = blank_stays [] c (m ∷ ls) h
blank_stays (k ∷ []) c [] h = absurd h
blank_stays (k ∷ []) c (l ∷ ls) h = blank_stays [] c (l ∷ ls) h
blank_stays (k ∷ x ∷ ks) c ls h = blank_stays (x ∷ ks) c ls h

pub finished_stays : FinishedStays
finished_stays a b is is' finished = record {
  semicolon = ap ends_in_semicolon (terms_join a.text b.text a.toks b.toks is.lexed is'.lexed)
      ∙ semicolon_stays (terminals a.text a.toks) (λ n. length a.toks + n) (terminals b.text b.toks) finished.semicolon;
  blank = blank_stays a.toks (length a.text) b.toks finished.blank;
}

pub valid_texts_join : ValidTextsJoin
valid_texts_join a t is finished valid fresh short =
    let b = valid.0 in
    let same = valid.1 in
    let text : (joined a b).text ≡ a.text ++ t = ap (λ (u : Text). a.text ++ u) same in (
      joined a b,
      text,
      trees_join a b is finished valid.2 (ap (begins_blank true) same ∙ fresh) (subst (λ (u : Text). length u < 2 ^ 32) (sym text) short),
    )
