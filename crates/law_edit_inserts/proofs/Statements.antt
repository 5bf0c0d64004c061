-- The statements of a tree, and the terminals that each is read of.
use Rattle.std.proofs.Common.{◌≡◌, ℕ, ◌+◌, Bool, true, false, cond, List, [], ◌∷◌, ◌++◌, map, append_assoc, sym, refl, ap, ◌∙◌, Option, Some, None, Result, Ok, Err}
use Rattle.std.proofs.lemmas.Bool.{false≢true}
use Rattle.std.proofs.lemmas.List.{map-append}
use Rattle.std.specs.Prelude.{◌==◌, ◌&&◌}
use Rattle.std.specs.Option.{option_map}
use Rattle.law_edit_cuts.specs.sql_token.declared.token.Tok.{Tok}
use Rattle.law_edit_cuts.specs.sql_token.declared.terminal.Terminal.{Terminal}
use Rattle.law_edit_cuts.specs.sql_token.Token.{Text}
use Rattle.law_edit_cuts.specs.sql_token.Terminal.{is_opener, is_closer, is_semicolon, terminals, terminals_from}
use Rattle.law_edit_cuts.specs.sql_token.Depth.{onto, one_if, statements, statements_from, span_of}
use Rattle.law_edit_cuts.proofs.of_sql_token.Statements.{by_counts}
use Rattle.law_edit_cuts.specs.sql_tree.declared.nodes.Stmt.{Stmt}
use Rattle.law_edit_cuts.specs.sql_tree.Statement.{statement, and_then_all, all_statements, read_tokens}
use Rattle.law_edit_cuts.specs.law_renumber.Renumber.{renumber}
use Rattle.law_edit_cuts.specs.law_renumber.Moved.{stmt_moved}
use Rattle.law_edit_cuts.proofs.of_law_renumber.Seen.{numbers}
use Rattle.law_edit_cuts.proofs.of_law_renumber.Statements.{statement_renumbers}
use Rattle.law_edit_cuts.proofs.of_law_renumber.Readings.{statements_renumber, NoneEmpty, statements_full, cut_full}
use Rattle.law_edit_cuts.specs.Exchanges.{joined}
use Rattle.law_edit_cuts.proofs.Cuts.{heads, rests, no_list}
use Rattle.law_edit_cuts.proofs.CutLaws.{joined_onto}

-- ---- trees

-- the first statement and the others
pub record First (ts : List Terminal) (others : List (List Terminal)) (stmts : List Stmt) : Type 0 where
  pub one : Stmt
  pub rest : List Stmt
  pub here : statement ts ≡ Some one
  pub there : all_statements others ≡ Ok rest
  pub both : stmts ≡ one ∷ rest

pub first_of : (ts : List Terminal) (others : List (List Terminal)) (stmts : List Stmt) → all_statements (ts ∷ others) ≡ Ok stmts → First ts others stmts
first_of ts others stmts e = by (statement ts) (all_statements others) refl refl e
  where
    by : (s : Option Stmt) (r : Result (List Stmt) ℕ) → statement ts ≡ s → all_statements others ≡ r → and_then_all s (span_of ts).first r ≡ Ok stmts → First ts others stmts
    by None r p q e = cc
    by (Some s) (Err n) p q e = cc
    by (Some s) (Ok ss) p q e = record { one = s; rest = ss; here = p; there = q; both = cc }

pub all_of_both : (ts : List Terminal) (others : List (List Terminal)) (s : Stmt) (ss : List Stmt) → statement ts ≡ Some s → all_statements others ≡ Ok ss → all_statements (ts ∷ others) ≡ Ok (s ∷ ss)
all_of_both ts others s ss p q = λ i. and_then_all (p i) (span_of ts).first (q i)

abbrev pub all_ok : List Stmt → Result (List Stmt) ℕ
all_ok ss = Ok ss

nil_of : (stmts : List Stmt) → all_ok [] ≡ all_ok stmts → [] ≡ stmts
nil_of stmts e = cc

no_statement : (f : ℕ → ℕ) (stmts : List Stmt) → all_ok [] ≡ all_ok stmts → all_ok [] ≡ all_ok (map (stmt_moved f) stmts)
no_statement f stmts e = λ i. all_ok (map (stmt_moved f) (nil_of stmts e i))

pub all_renumber : (f : ℕ → ℕ) (ss : List (List Terminal)) (stmts : List Stmt) → NoneEmpty ss → all_statements ss ≡ Ok stmts →
    all_statements (map (map (renumber f)) ss) ≡ Ok (map (stmt_moved f) stmts)
unfolding NoneEmpty
all_renumber f [] stmts full e = no_statement f stmts e
all_renumber f ([] ∷ ss) stmts full e = absurd full
all_renumber f ((t ∷ ts) ∷ ss) stmts full e =
    let p = first_of (t ∷ ts) ss stmts e in
    all_of_both (map (renumber f) (t ∷ ts)) (map (map (renumber f)) ss) (stmt_moved f p.one) (map (stmt_moved f) p.rest)
    (statement_renumbers f t ts ∙ ap (λ (x : Option Stmt). option_map (stmt_moved f) x) p.here)
    (all_renumber f ss p.rest full p.there)
    ∙ ap (λ (x : List Stmt). Ok (map (stmt_moved f) x)) (sym p.both)

pub trees_renumber : (f : ℕ → ℕ) (ts : List Terminal) (stmts : List Stmt) → all_statements (statements ts) ≡ Ok stmts →
    all_statements (statements (map (renumber f) ts)) ≡ Ok (map (stmt_moved f) stmts)
trees_renumber f ts stmts e = ap all_statements (statements_renumber (numbers f) ts) ∙ all_renumber f (statements ts) stmts (statements_full ts) e

-- ---- the text of statements

joined_from : (o c : ℕ) (ts : List Terminal) → joined (statements_from o c ts) ≡ ts
joined_from o c [] = refl
joined_from o c (t ∷ ts) = by (o == c && is_semicolon t) (joined_from 0 0 ts) (joined_from (o + one_if (is_opener t)) (c + one_if (is_closer t)) ts)
  where
    by : (b : Bool) → joined (statements_from 0 0 ts) ≡ ts → joined (statements_from (o + one_if (is_opener t)) (c + one_if (is_closer t)) ts) ≡ ts →
        joined (cond b ((t ∷ []) ∷ statements_from 0 0 ts) (onto t (statements_from (o + one_if (is_opener t)) (c + one_if (is_closer t)) ts))) ≡ t ∷ ts
    by true p q = ap (λ (x : List Terminal). t ∷ x) p
    by false p q = joined_onto t _ ∙ ap (λ (x : List Terminal). t ∷ x) q

pub statements_join : (ts : List Terminal) → joined (statements ts) ≡ ts
statements_join ts = ap joined (by_counts ts) ∙ joined_from 0 0 ts

pub joined_append : (ss us : List (List Terminal)) → joined (ss ++ us) ≡ joined ss ++ joined us
joined_append [] us = refl
joined_append (s ∷ ss) us = ap (λ (x : List Terminal). s ++ x) (joined_append ss us) ∙ sym (append_assoc s (joined ss) (joined us))

pub joined_moved : (f : ℕ → ℕ) (ss : List (List Terminal)) → joined (map (map (renumber f)) ss) ≡ map (renumber f) (joined ss)
joined_moved f [] = refl
joined_moved f (s ∷ ss) = ap (λ (x : List Terminal). map (renumber f) s ++ x) (joined_moved f ss) ∙ sym (map-append (renumber f) s (joined ss))

pub full_parts : (ss : List (List Terminal)) (us : List Terminal) (vs : List (List Terminal)) → NoneEmpty (ss ++ us ∷ vs) → NoneEmpty ss × NoneEmpty (us ∷ vs)
unfolding NoneEmpty
full_parts [] us vs h = (tt, h)
full_parts ([] ∷ ss) us vs h = absurd h
full_parts ((t ∷ ts) ∷ ss) us vs h = full_parts ss us vs h

pub full_rest : (us : List Terminal) (vs : List (List Terminal)) → NoneEmpty (us ∷ vs) → NoneEmpty vs
unfolding NoneEmpty
full_rest [] vs h = absurd h
full_rest (t ∷ ts) vs h = h

-- the terminals of a statement between others
pub record StmtAt (ss : List (List Terminal)) (before : List Stmt) (s : Stmt) (after : List Stmt) : Type 0 where
  pub earlier : List (List Terminal)
  pub here : List Terminal
  pub later : List (List Terminal)
  pub parts : ss ≡ earlier ++ here ∷ later
  pub before_is : all_statements earlier ≡ Ok before
  pub here_is : statement here ≡ Some s
  pub after_is : all_statements later ≡ Ok after

pub stmt_at_place : (ss : List (List Terminal)) (before : List Stmt) (s : Stmt) (after : List Stmt) → all_statements ss ≡ Ok (before ++ s ∷ after) → StmtAt ss before s after
stmt_at_place [] [] s after e = cc
stmt_at_place [] (b ∷ before) s after e = cc
stmt_at_place (us ∷ ss) [] s after e =
    let p = first_of us ss (s ∷ after) e in
    record {
      earlier = [];
      here = us;
      later = ss;
      parts = refl;
      before_is = refl;
      here_is = p.here ∙ ap (λ (x : Stmt). Some x) (sym (first p.both));
      after_is = p.there ∙ ap (λ (x : List Stmt). Ok x) (sym (rest p.both));
    }
  where
    first : {x y : Stmt} {us vs : List Stmt} → x ∷ us ≡ y ∷ vs → x ≡ y
    first e = cc

    rest : {x y : Stmt} {us vs : List Stmt} → x ∷ us ≡ y ∷ vs → us ≡ vs
    rest e = cc
stmt_at_place (us ∷ ss) (b ∷ before) s after e =
    let p = first_of us ss (b ∷ (before ++ s ∷ after)) e in
    let q = stmt_at_place ss before s after (p.there ∙ ap (λ (x : List Stmt). Ok x) (sym (rest p.both))) in
    record {
      earlier = us ∷ q.earlier;
      here = q.here;
      later = q.later;
      parts = ap (λ (x : List (List Terminal)). us ∷ x) q.parts;
      before_is = all_of_both us q.earlier b before (p.here ∙ ap (λ (x : Stmt). Some x) (sym (first p.both))) q.before_is;
      here_is = q.here_is;
      after_is = q.after_is;
    }
  where
    first : {x y : Stmt} {us vs : List Stmt} → x ∷ us ≡ y ∷ vs → x ≡ y
    first e = cc

    rest : {x y : Stmt} {us vs : List Stmt} → x ∷ us ≡ y ∷ vs → us ≡ vs
    rest e = cc

pub all_between : (earlier : List (List Terminal)) (here : List Terminal) (later : List (List Terminal)) (before : List Stmt) (s : Stmt) (after : List Stmt) →
    all_statements earlier ≡ Ok before → statement here ≡ Some s → all_statements later ≡ Ok after → all_statements (earlier ++ here ∷ later) ≡ Ok (before ++ s ∷ after)
all_between [] here later [] s after p q r = all_of_both here later s after q r
all_between [] here later (b ∷ before) s after p q r = cc
all_between (us ∷ earlier) here later before s after p q r =
    let o = first_of us earlier before p in
    all_of_both us (earlier ++ here ∷ later) o.one (o.rest ++ s ∷ after) o.here (all_between earlier here later o.rest s after o.there q r)
    ∙ ap (λ (x : List Stmt). Ok (x ++ s ∷ after)) (sym o.both)

-- ---- the last statement

no_terminal : (front : List Terminal) (word : Terminal) → [] ≡ front ++ word ∷ [] → ⊥
no_terminal [] word e = cc
no_terminal (t ∷ front) word e = cc

only_one : (t : Terminal) (front : List Terminal) (word : Terminal) → t ∷ [] ≡ front ++ word ∷ [] → t ≡ word
only_one t [] word e = first e
  where
    first : {x y : Terminal} {us vs : List Terminal} → x ∷ us ≡ y ∷ vs → x ≡ y
    first e = cc
only_one t (u ∷ front) word e = absurd (no_terminal front word (rest e))
  where
    rest : {x y : Terminal} {us vs : List Terminal} → x ∷ us ≡ y ∷ vs → us ≡ vs
    rest e = cc

rest_of : {x y : Terminal} {us vs : List Terminal} → x ∷ us ≡ y ∷ vs → us ≡ vs
rest_of e = cc

longer : (t u : Terminal) (us : List Terminal) (word : Terminal) → t ∷ u ∷ us ≡ word ∷ [] → ⊥
longer t u us word e = cc

onto_last : (t word : Terminal) (later S earlier : List (List Terminal)) (front : List Terminal) → onto t S ≡ earlier ++ (front ++ word ∷ []) ∷ later →
    ((xs : List (List Terminal)) (us : List Terminal) → S ≡ xs ++ (us ++ word ∷ []) ∷ later → later ≡ []) → NoneEmpty S → later ≡ []
unfolding NoneEmpty
onto_last t word later [] [] front e next full = sym (rests e)
onto_last t word later [] (x ∷ xs) front e next full = absurd (no_list xs (front ++ word ∷ []) later (rests e))
onto_last t word later (p ∷ ps) (x ∷ xs) front e next full = let q = rests e in next (p ∷ xs) front (ap (λ (l : List (List Terminal)). p ∷ l) q)
onto_last t word later ([] ∷ ps) [] front e next full = absurd full
onto_last t word later ((u ∷ us) ∷ ps) [] [] e next full = absurd (longer t u us word (heads e))
onto_last t word later ((u ∷ us) ∷ ps) [] (v ∷ front) e next full = let h = rest_of (heads e) in let q = rests e in next [] front (λ i. h i ∷ q i)

-- A statement that does not end with `;` is the last one.
last_from : (o c : ℕ) (ts : List Terminal) (earlier : List (List Terminal)) (front : List Terminal) (word : Terminal) (later : List (List Terminal)) → is_semicolon word ≡ false →
    statements_from o c ts ≡ earlier ++ (front ++ word ∷ []) ∷ later → later ≡ []
last_from o c [] earlier front word later none e = absurd (no_list earlier (front ++ word ∷ []) later e)
last_from o c (t ∷ ts) earlier front word later none e =
    by (o == c && is_semicolon t) refl earlier front e
    (λ xs q. last_from 0 0 ts xs front word later none q)
    (λ xs us q. last_from (o + one_if (is_opener t)) (c + one_if (is_closer t)) ts xs us word later none q)
    (cut_full (o + one_if (is_opener t)) (c + one_if (is_closer t)) ts)
  where
    second : (a b : Bool) → (a && b) ≡ true → b ≡ true
    second true b h = h
    second false b h = absurd (false≢true h)

    by : (b : Bool) → (o == c && is_semicolon t) ≡ b → (earlier : List (List Terminal)) (front : List Terminal) →
        cond b ((t ∷ []) ∷ statements_from 0 0 ts) (onto t (statements_from (o + one_if (is_opener t)) (c + one_if (is_closer t)) ts)) ≡ earlier ++ (front ++ word ∷ []) ∷ later →
        ((xs : List (List Terminal)) → statements_from 0 0 ts ≡ xs ++ (front ++ word ∷ []) ∷ later → later ≡ []) →
        ((xs : List (List Terminal)) (us : List Terminal) → statements_from (o + one_if (is_opener t)) (c + one_if (is_closer t)) ts ≡ xs ++ (us ++ word ∷ []) ∷ later → later ≡ []) →
        NoneEmpty (statements_from (o + one_if (is_opener t)) (c + one_if (is_closer t)) ts) → later ≡ []
    by true h [] front e cut next full =
        let same = only_one t front word (heads e) in
        absurd (false≢true (sym none ∙ ap is_semicolon (sym same) ∙ second (o == c) (is_semicolon t) h))
    by true h (x ∷ xs) front e cut next full = cut xs (rests e)
    by false h earlier front e cut next full = onto_last t word later (statements_from (o + one_if (is_opener t)) (c + one_if (is_closer t)) ts) earlier front e next full

pub last_one : (ts : List Terminal) (earlier : List (List Terminal)) (front : List Terminal) (word : Terminal) (later : List (List Terminal)) → is_semicolon word ≡ false →
    statements ts ≡ earlier ++ (front ++ word ∷ []) ∷ later → later ≡ []
last_one ts earlier front word later none e = last_from 0 0 ts earlier front word later none (sym (by_counts ts) ∙ e)

-- ---- trees

pub read_of : (u : Text) (toks : List Tok) (ts : List Terminal) (stmts : List Stmt) → terminals u toks ≡ ts → all_statements (statements ts) ≡ Ok stmts → read_tokens u toks ≡ Ok stmts
unfolding read_tokens
read_of u toks ts stmts e h = ap (λ (x : List Terminal). all_statements (statements x)) e ∙ h

pub of_read : (u : Text) (toks : List Tok) (ts : List Terminal) (stmts : List Stmt) → terminals u toks ≡ ts → read_tokens u toks ≡ Ok stmts → all_statements (statements ts) ≡ Ok stmts
unfolding read_tokens
of_read u toks ts stmts e h = ap (λ (x : List Terminal). all_statements (statements x)) (sym e) ∙ h

pub of_terminals : (t : Text) (toks : List Tok) (ts : List Terminal) → terminals t toks ≡ ts → terminals_from t 0 toks ≡ ts
unfolding terminals
of_terminals t toks ts e = e

pub joined_at : (ts : List Terminal) (earlier : List (List Terminal)) (front : List Terminal) (r : Terminal) (tail : List Terminal) (later : List (List Terminal)) →
    statements ts ≡ earlier ++ (front ++ r ∷ tail) ∷ later → ts ≡ (joined earlier ++ front) ++ r ∷ (tail ++ joined later)
joined_at ts earlier front r tail later e =
    sym (statements_join ts)
    ∙ ap joined e
    ∙ joined_append earlier ((front ++ r ∷ tail) ∷ later)
    ∙ ap (λ (x : List Terminal). joined earlier ++ x) (append_assoc front (r ∷ tail) (joined later))
    ∙ sym (append_assoc (joined earlier) front (r ∷ (tail ++ joined later)))
