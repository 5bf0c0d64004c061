-- Whole texts of changed terminals.
use Rattle.std.proofs.Common.{◌≡◌, ◌∙◌, ℕ, ◌+◌, Bool, true, false, cond, List, [], ◌∷◌, map, Option, Some, None, Result, Ok, Err, sym, refl, ap, subst}
use Rattle.std.specs.Prelude.{◌==◌, ◌&&◌}
use Rattle.std.specs.Option.{option_map}
use Rattle.std.specs.List.{All}
use Rattle.std.proofs.lemmas.List.Elements.{All-head, All-tail}
use Rattle.sql_token.proofs.Statements.{by_counts}
use Rattle.sql_token.specs.declared.terminal.Terminal.{Terminal}
use Rattle.sql_token.specs.Depth.{onto, one_if, statements, statements_from}
use Rattle.sql_token.specs.Terminal.{is_opener, is_closer, is_semicolon, terminals}
use Rattle.sql_tree.specs.declared.nodes.Stmt.{Stmt}
use Rattle.sql_tree.specs.Statement.{statement, and_then_all, all_statements, read_tokens}
use Rattle.law_renumber.specs.Options.{StatementKept}
use Rattle.law_renumber.proofs.Seen.{semicolon_sees, Change, Changes, changed, opener_sees, closer_sees}
use Rattle.law_renumber.proofs.Statements.{statement_changed}
use Rattle.law_renumber.specs.Moved.{stmt_moved}
use Rattle.law_renumber.specs.Texts.{reading_moved, StatementsRenumber, ReadingRenumbers, TextRenumbers}

-- ---- the statements of a text

onto_moved : (f : Change) (t : Terminal) (ps : List (List Terminal)) → onto (changed f t) (map (map (changed f)) ps) ≡ map (map (changed f)) (onto t ps)
onto_moved f t [] = refl
onto_moved f t (p ∷ ps) = refl

cut_step : (f : Change) (t : Terminal) (a b : Bool) (xs ys xs' ys' : List (List Terminal)) → a ≡ b → xs' ≡ map (map (changed f)) xs → ys' ≡ map (map (changed f)) ys →
    cond a ((changed f t ∷ []) ∷ xs') (onto (changed f t) ys') ≡ map (map (changed f)) (cond b ((t ∷ []) ∷ xs) (onto t ys))
cut_step f t a b xs ys xs' ys' e p q = (λ i. cond (e i) ((changed f t ∷ []) ∷ p i) (onto (changed f t) (q i))) ∙ by b
  where
    by : (b : Bool) → cond b ((changed f t ∷ []) ∷ map (map (changed f)) xs) (onto (changed f t) (map (map (changed f)) ys)) ≡ map (map (changed f)) (cond b ((t ∷ []) ∷ xs) (onto t ys))
    by true = refl
    by false = onto_moved f t ys

cut_renumbers : (f : Change) (o c : ℕ) (ts : List Terminal) → statements_from o c (map (changed f) ts) ≡ map (map (changed f)) (statements_from o c ts)
cut_renumbers f o c [] = refl
cut_renumbers f o c (t ∷ ts) =
    let op = opener_sees f t in let cl = closer_sees f t in
    cut_step f t _ _ _ _ _ _ (ap (λ (x : Bool). o == c && x) (semicolon_sees f t)) (cut_renumbers f 0 0 ts)
    ((λ i. statements_from (o + one_if (op i)) (c + one_if (cl i)) (map (changed f) ts)) ∙ cut_renumbers f (o + one_if (is_opener t)) (c + one_if (is_closer t)) ts)

pub statements_renumber : Changes StatementsRenumber
statements_renumber f ts = by_counts (map (changed f) ts) ∙ cut_renumbers f 0 0 ts ∙ ap (map (map (changed f))) (sym (by_counts ts))

-- ---- each statement has a terminal

-- None of these lists is empty.
unfoldable pub NoneEmpty : List (List Terminal) → Type 0
NoneEmpty [] = Unit {0}
NoneEmpty ([] ∷ ss) = ⊥
NoneEmpty ((t ∷ ts) ∷ ss) = NoneEmpty ss

onto_full : (t : Terminal) (ss : List (List Terminal)) → NoneEmpty ss → NoneEmpty (onto t ss)
unfolding NoneEmpty
onto_full t [] h = tt
onto_full t ([] ∷ ss) h = absurd h
onto_full t ((u ∷ us) ∷ ss) h = h

chosen_full : (b : Bool) (t : Terminal) (ss us : List (List Terminal)) → NoneEmpty ss → NoneEmpty us → NoneEmpty (cond b ((t ∷ []) ∷ ss) (onto t us))
unfolding NoneEmpty
chosen_full true t ss us p q = p
chosen_full false t ss us p q = onto_full t us q

pub cut_full : (o c : ℕ) (ts : List Terminal) → NoneEmpty (statements_from o c ts)
unfolding NoneEmpty
cut_full o c [] = tt
cut_full o c (t ∷ ts) = chosen_full (o == c && is_semicolon t) t _ _ (cut_full 0 0 ts) (cut_full (o + one_if (is_opener t)) (c + one_if (is_closer t)) ts)

pub statements_full : (ts : List Terminal) → NoneEmpty (statements ts)
statements_full ts = subst NoneEmpty (sym (by_counts ts)) (cut_full 0 0 ts)

-- ---- what reading them gives

both_moved : (f : Change) (s : Option Stmt) (n : ℕ) (r : Result (List Stmt) ℕ) → and_then_all (option_map (stmt_moved f.number) s) (f.number n) (reading_moved f.number r) ≡ reading_moved f.number (and_then_all s n r)
both_moved f None n r = refl
both_moved f (Some s) n (Ok ss) = refl
both_moved f (Some s) n (Err m) = refl

all_renumber : (f : Change) (ss : List (List Terminal)) → NoneEmpty ss → All (StatementKept (changed f)) ss →
    all_statements (map (map (changed f)) ss) ≡ reading_moved f.number (all_statements ss)
unfolding NoneEmpty
all_renumber f [] full h = refl
all_renumber f ([] ∷ ss) full h = absurd full
all_renumber f ((t ∷ ts) ∷ ss) full h =
    let here = statement_changed f t ts (All-head (StatementKept (changed f)) (t ∷ ts) ss h) in
    let others = all_renumber f ss full (All-tail (StatementKept (changed f)) (t ∷ ts) ss h) in
    (λ i. and_then_all (here i) (f.number t.number) (others i)) ∙ both_moved f (statement (t ∷ ts)) t.number (all_statements ss)

pub reading_renumbers : Changes ReadingRenumbers
reading_renumbers f ts h =
    ap all_statements (statements_renumber f ts) ∙ all_renumber f (statements ts) (statements_full ts) h

pub text_renumbers : Changes TextRenumbers
unfolding read_tokens
text_renumbers f t u ks ls same h = ap (λ ts. all_statements (statements ts)) same ∙ reading_renumbers f (terminals t ks) h
