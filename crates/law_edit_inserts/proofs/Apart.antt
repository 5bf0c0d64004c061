-- The numbers that a statement holds.
use Rattle.std.proofs.Common.{◌≡◌, ℕ, suc, ◌+◌, ◌<◌, ◌≤◌, Bool, true, false, cond, List, [], ◌∷◌, ◌++◌, map, length, get_or, length-append, append_assoc, sym, refl, ap, ◌∙◌, subst, arith, Option, Some, None, Ok, Result}
use Rattle.std.proofs.lemmas.Bool.Decides.{nat_tests}
use Rattle.std.specs.Prelude.{◌&&◌, nat_le, nat_lt}
use Rattle.std.specs.Option.{option_map, option_and_then}
use Rattle.law_edit_cuts.specs.sql_token.declared.token.Tok.{Tok}
use Rattle.law_edit_cuts.specs.sql_token.declared.terminal.Terminal.{Terminal}
use Rattle.law_edit_cuts.specs.sql_token.Token.{Text}
use Rattle.law_edit_cuts.specs.sql_token.Terminal.{terminals, terminals_from}
use Rattle.law_edit_cuts.specs.sql_token.Depth.{statements, span_of, nothing}
use Rattle.law_edit_cuts.specs.sql_token.Sound.{is_sound}
use Rattle.law_edit_cuts.specs.sql_tree.declared.kinds.StmtKind.{StmtKind}
use Rattle.law_edit_cuts.specs.sql_tree.declared.nodes.Body.{Body}
use Rattle.law_edit_cuts.specs.sql_tree.declared.nodes.Stmt.{Stmt}
use Rattle.law_edit_cuts.specs.sql_tree.Statement.{Tree, statement, all_statements, form_of, without_semicolon, last_of, stmt_in}
use Rattle.law_edit_cuts.specs.law_renumber.Moved.{stmt_moved}
use Rattle.law_edit_cuts.specs.law_renumber.Renumber.{renumber}
use Rattle.law_edit_cuts.proofs.of_law_renumber.Statements.{statement_renumbers}
use Rattle.law_edit_inserts.specs.Apart.{outside, Apart, StatementsApart}
use Rattle.law_edit_cuts.specs.Exchanges.{joined}
use Rattle.law_edit_inserts.proofs.Statements.{all_renumber, of_read, statements_join, joined_append, full_parts, full_rest, stmt_at_place, all_ok}
use Rattle.law_edit_inserts.proofs.Tokens.{AtLeast, Under, least_parts, under_parts, under_both, least_weaker, under_weaker, least_none, terms_least, terms_under, term_at}
use Rattle.law_edit_inserts.proofs.TakenConcurrently.{last_after}
use Rattle.law_edit_cuts.proofs.of_law_renumber.Readings.{NoneEmpty, statements_full}

-- ---- what stays under such numbers

pub stays : (lo hi x : ℕ) → lo ≤ x → x < hi → outside lo hi x ≡ x
stays lo hi x p q = grind (arith, nat_tests)

pub stays_within : (lo hi x : ℕ) → outside lo hi x ≡ x → (lo ≤ x) × (x < hi)
stays_within lo hi x e = by (nat_le lo x) (nat_lt x hi) refl refl e
  where
    by : (a b : Bool) → nat_le lo x ≡ a → nat_lt x hi ≡ b → cond (a && b) x (suc x) ≡ x → (lo ≤ x) × (x < hi)
    by true true p q e = (grind (arith, nat_tests, p), grind (arith, nat_tests, q))
    by true false p q e = absurd (omega arith)
    by false b p q e = absurd (omega arith)

fixed : (lo hi : ℕ) (ts : List Terminal) → AtLeast lo ts → Under hi ts → map (renumber (outside lo hi)) ts ≡ ts
unfolding AtLeast Under
fixed lo hi [] p q = refl
fixed lo hi (t ∷ ts) p q =
    let e = stays lo hi t.number p.0 q.0 in
    let rest = fixed lo hi ts p.1 q.1 in
    λ i. record t { number = e i } ∷ rest i

all_fixed : (lo hi : ℕ) (ss : List (List Terminal)) → AtLeast lo (joined ss) → Under hi (joined ss) → map (map (renumber (outside lo hi))) ss ≡ ss
all_fixed lo hi [] p q = refl
all_fixed lo hi (s ∷ ss) p q =
    let low = least_parts lo s (joined ss) p in
    let high = under_parts hi s (joined ss) q in
    let here = fixed lo hi s low.0 high.0 in
    let rest = all_fixed lo hi ss low.1 high.1 in
    λ i. here i ∷ rest i

same_ok : (ss us : List Stmt) (a b : Result (List Stmt) ℕ) → a ≡ Ok ss → b ≡ Ok us → a ≡ b → ss ≡ us
same_ok ss us a b p q e = inside (sym p ∙ e ∙ q)
  where
    inside : {x y : List Stmt} → all_ok x ≡ all_ok y → x ≡ y
    inside e = cc

stmts_fixed : (lo hi : ℕ) (ss : List (List Terminal)) (stmts : List Stmt) → NoneEmpty ss → AtLeast lo (joined ss) → Under hi (joined ss) → all_statements ss ≡ Ok stmts → map (stmt_moved (outside lo hi)) stmts ≡ stmts
stmts_fixed lo hi ss stmts full p q e =
    same_ok _ _ _ _ (all_renumber (outside lo hi) ss stmts full e) e (ap all_statements (all_fixed lo hi ss p q))

stmt_fixed : (lo hi : ℕ) (t : Terminal) (ts : List Terminal) (s : Stmt) → AtLeast lo (t ∷ ts) → Under hi (t ∷ ts) → statement (t ∷ ts) ≡ Some s → stmt_moved (outside lo hi) s ≡ s
stmt_fixed lo hi t ts s p q e =
    inside (sym (ap (λ (x : Option Stmt). option_map (stmt_moved (outside lo hi)) x) e) ∙ sym (statement_renumbers (outside lo hi) t ts) ∙ ap statement (fixed lo hi (t ∷ ts) p q) ∙ e)
  where
    inside : {x y : Stmt} → Some x ≡ Some y → x ≡ y
    inside e = cc

-- ---- the ends of a statement

-- all but the last terminal, and that one
pub record Lasts (ts : List Terminal) : Type 0 where
  pub front : List Terminal
  pub end : Terminal
  pub parts : ts ≡ front ++ end ∷ []
  pub last : last_of ts ≡ end

pub lasts : (t : Terminal) (ts : List Terminal) → Lasts (t ∷ ts)
lasts t [] = record { front = []; end = t; parts = refl; last = refl }
lasts t (u ∷ us) =
    let l = lasts u us in
    record { front = t ∷ l.front; end = l.end; parts = ap (λ (x : List Terminal). t ∷ x) l.parts; last = last_after (t ∷ []) u us ∙ l.last }

pub span_is : (us : List Terminal) (s : Stmt) → statement us ≡ Some s → (s.first ≡ (get_or us 0 nothing).number) × (s.last ≡ (last_of us).number)
unfolding statement
span_is us s e = by (is_sound us) (form_of (without_semicolon us)) e
  where
    inside : {x y : Stmt} → Some x ≡ Some y → y ≡ x
    inside e = cc

    by : (b : Bool) (r : Option (StmtKind × Body)) → cond b (option_and_then (λ f. Some (stmt_in (span_of us) f)) r) None ≡ Some s → (s.first ≡ (get_or us 0 nothing).number) × (s.last ≡ (last_of us).number)
    by false r e = cc
    by true None e = cc
    by true (Some f) e = let p = inside e in (ap (λ (x : Stmt). x.first) p, ap (λ (x : Stmt). x.last) p)

from_terminals : (t : Text) (toks : List Tok) (ts : List Terminal) → terminals t toks ≡ ts → terminals_from t 0 toks ≡ ts
unfolding terminals
from_terminals t toks ts e = e

apart_of : (tree : Tree) (before : List Stmt) (s : Stmt) (after : List Stmt) (earlier : List (List Terminal)) (here : List Terminal) (later : List (List Terminal)) →
    statements (terminals tree.text tree.toks) ≡ earlier ++ here ∷ later → NoneEmpty (earlier ++ here ∷ later) →
    all_statements earlier ≡ Ok before → statement here ≡ Some s → all_statements later ≡ Ok after → Apart tree before s after
unfolding NoneEmpty AtLeast Under
apart_of tree before s after earlier [] later cut full p q r = absurd (full_parts earlier [] later full).1
apart_of tree before s after earlier (u ∷ us) later cut full p q r =
    let t : Text = tree.text in
    let toks : List Tok = tree.toks in
    let whole : terminals t toks ≡ joined earlier ++ ((u ∷ us) ++ joined later) = sym (statements_join (terminals t toks)) ∙ ap joined cut ∙ joined_append earlier ((u ∷ us) ∷ later) in
    let span = span_is (u ∷ us) s q in
    let ends = lasts u us in
    let a = term_at t 0 toks (joined earlier) u (us ++ joined later) (from_terminals t toks _ whole) in
    let split : joined earlier ++ ((u ∷ us) ++ joined later) ≡ (joined earlier ++ ends.front) ++ ends.end ∷ joined later =
    ap (λ (x : List Terminal). joined earlier ++ (x ++ joined later)) ends.parts
    ∙ ap (λ (x : List Terminal). joined earlier ++ x) (append_assoc ends.front (ends.end ∷ []) (joined later))
    ∙ sym (append_assoc (joined earlier) ends.front (ends.end ∷ joined later)) in
    let b = term_at t 0 toks (joined earlier ++ ends.front) ends.end (joined later) (from_terminals t toks _ (whole ∙ split)) in
    let first : s.first ≡ length a.front = omega (arith, span.0, ap (λ (x : Terminal). x.number) a.here) in
    let last : s.last ≡ length b.front = omega (arith, span.1, ap (λ (x : Terminal). x.number) ends.last, ap (λ (x : Terminal). x.number) b.here) in
    let size : length toks ≡ length b.front + suc (length b.after) = ap length b.parts ∙ length-append b.front (b.k ∷ b.after) in
    let low : Under s.first (joined earlier) =
    subst (λ (x : List Terminal). Under s.first x) (sym a.earlier) (under_weaker (0 + length a.front) s.first (terminals_from t 0 a.front) (omega arith) (terms_under t 0 a.front)) in
    let above : AtLeast s.first (us ++ joined later) =
    subst (λ (x : List Terminal). AtLeast s.first x) (sym a.later) (least_weaker (0 + length a.front + 1) s.first (terminals_from t (0 + length a.front + 1) a.after) (omega arith) (terms_least t (0 + length a.front + 1) a.after)) in
    let under : Under (s.last + 1) (joined earlier ++ ends.front) =
    subst (λ (x : List Terminal). Under (s.last + 1) x) (sym b.earlier) (under_weaker (0 + length b.front) (s.last + 1) (terminals_from t 0 b.front) (omega arith) (terms_under t 0 b.front)) in
    let here_low : AtLeast s.first (u ∷ us) = least_cons s.first u us (omega (arith, span.0)) (least_parts s.first us (joined later) above).0 in
    let here_high : Under (s.last + 1) (u ∷ us) =
    subst (λ (x : List Terminal). Under (s.last + 1) x) (sym ends.parts)
    (under_both (s.last + 1) ends.front (ends.end ∷ []) (under_parts (s.last + 1) (joined earlier) ends.front under).1 (under_one (s.last + 1) ends.end (omega (arith, span.1, ap (λ (x : Terminal). x.number) ends.last)))) in
    let later_low : AtLeast (s.last + 1) (joined later) =
    subst (λ (x : List Terminal). AtLeast (s.last + 1) x) (sym b.later) (least_weaker (0 + length b.front + 1) (s.last + 1) (terminals_from t (0 + length b.front + 1) b.after) (omega arith) (terms_least t (0 + length b.front + 1) b.after)) in
    let later_high : Under (length toks) (joined later) =
    subst (λ (x : List Terminal). Under (length toks) x) (sym b.later)
    (under_weaker (0 + length b.front + 1 + length b.after) (length toks) (terminals_from t (0 + length b.front + 1) b.after) (omega arith) (terms_under t (0 + length b.front + 1) b.after)) in
    let full' = full_parts earlier (u ∷ us) later full in
    record {
      before_is = stmts_fixed 0 s.first earlier before full'.0 (least_none (joined earlier)) low p;
      here_is = stmt_fixed s.first (s.last + 1) u us s here_low here_high q;
      within = omega (arith, last, size);
      after_is = stmts_fixed (s.last + 1) (length toks) later after (full_rest (u ∷ us) later full'.1) later_low later_high r;
    }
  where
    least_cons : (lo : ℕ) (t : Terminal) (ts : List Terminal) → lo ≤ t.number → AtLeast lo ts → AtLeast lo (t ∷ ts)
    least_cons lo t ts p q = (p, q)

    under_one : (hi : ℕ) (t : Terminal) → t.number < hi → Under hi (t ∷ [])
    under_one hi t p = (p, tt)

pub statements_apart : StatementsApart
statements_apart tree before s after is parts =
    let ts = terminals tree.text tree.toks in
    let place = stmt_at_place (statements ts) before s after (of_read tree.text tree.toks ts tree.stmts refl is.read ∙ ap (λ (x : List Stmt). Ok x) parts) in
    apart_of tree before s after place.earlier place.here place.later place.parts (subst NoneEmpty place.parts (statements_full ts)) place.before_is place.here_is place.after_is
