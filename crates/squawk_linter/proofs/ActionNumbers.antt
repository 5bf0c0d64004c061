-- The actions of a tree begin at tokens of its text: the numbers that a statement holds are those of its terminals, since
-- a map that changes all others changes nothing of it.
use Rattle.std.proofs.Common.{◌≡◌, ◌∙◌, ℕ, suc, ◌+◌, ◌<◌, Bool, true, false, cond, List, [], ◌∷◌, length, map, refl, ap, sym, subst, inl, inr, arith, Option, Some, None, Ok, Err, Result}
use Rattle.std.proofs.lemmas.Bool.{ltb-true}
use Rattle.std.proofs.lemmas.Bool.Decides.{nat_tests}
use Rattle.std.specs.Option.{option_map}
use Rattle.std.specs.Prelude.{◌==◌, ◌&&◌, nat_lt}
use Rattle.sql_read.specs.sql_token.declared.token.Tok.{Tok}
use Rattle.sql_read.specs.sql_token.declared.terminal.Terminal.{Terminal}
use Rattle.sql_read.specs.sql_token.Depth.{one_if, onto, span_of, statements, statements_from}
use Rattle.sql_read.specs.sql_token.Terminal.{is_closer, is_opener, is_semicolon, is_significant, symbol_of, terminals, terminals_from}
use Rattle.sql_read.specs.sql_token.Token.{Text, text_of}
use Rattle.sql_read.proofs.of_sql_token.Statements.{by_counts}
use Rattle.sql_read.specs.sql_tree.declared.nodes.Action.{Action}
use Rattle.sql_read.specs.sql_tree.declared.nodes.Body.{Body}
use Rattle.sql_read.specs.sql_tree.declared.nodes.Body.TheVariants as body
use Rattle.sql_read.specs.sql_tree.declared.nodes.Stmt.{Stmt}
use Rattle.sql_read.specs.sql_tree.Nodes.{actions_in}
use Rattle.sql_read.specs.sql_tree.Statement.{Tree, IsTree, all_statements, and_then_all, read_tokens, statement}
use Rattle.fix_edit.specs.law_renumber.Moved.{action_moved, body_moved, stmt_moved}
use Rattle.fix_edit.specs.law_renumber.Renumber.{renumber}
use Rattle.fix_edit.proofs.of_law_renumber.Statements.{statement_renumbers}
use Rattle.squawk_linter.proofs.Members.{Member}

-- ---- numbers below a bound

abbrev Under : ℕ → List Terminal → Type 0
Under n [] = Unit {0}
Under n (t ∷ ts) = (t.number < n) × Under n ts

-- at least one terminal, and the numbers of all are below the bound
abbrev Full : ℕ → List Terminal → Type 0
Full n [] = ⊥
Full n (t ∷ ts) = (t.number < n) × Under n ts

abbrev AllFull : ℕ → List (List Terminal) → Type 0
AllFull n [] = Unit {0}
AllFull n (ts ∷ others) = Full n ts × AllFull n others

full_under : (n : ℕ) (ts : List Terminal) → Full n ts → Under n ts
full_under n [] h = absurd h
full_under n (t ∷ ts) h = h

under_more : (n : ℕ) (ts : List Terminal) → Under n ts → (m : ℕ) → n ≡ m → Under m ts
under_more n ts h m e = subst (λ k. Under k ts) e h

terms_under : (t : Text) (n : ℕ) (ks : List Tok) → Under (n + length ks) (terminals_from t n ks)
terms_under t n [] = tt
terms_under t n (k ∷ ks) =
    by (is_significant k.kind) (under_more (n + 1 + length ks) (terminals_from t (n + 1) ks) (terms_under t (n + 1) ks) (n + suc (length ks)) (omega arith))
  where
    by : (b : Bool) → Under (n + suc (length ks)) (terminals_from t (n + 1) ks)
        → Under (n + suc (length ks)) (cond b (record { symbol = symbol_of k.kind (text_of t k); number = n } ∷ terminals_from t (n + 1) ks) (terminals_from t (n + 1) ks))
    by true h = (omega arith, h)
    by false h = h

onto_full : (n : ℕ) (t : Terminal) (others : List (List Terminal)) → t.number < n → AllFull n others → AllFull n (onto t others)
onto_full n t [] h g = ((h, tt), tt)
onto_full n t (ts ∷ others) h g = ((h, full_under n ts g.0), g.1)

parts_full : (n o c : ℕ) (ts : List Terminal) → Under n ts → AllFull n (statements_from o c ts)
parts_full n o c [] h = tt
parts_full n o c (t ∷ ts) h =
    by (o == c && is_semicolon t) (parts_full n 0 0 ts h.1) (parts_full n (o + one_if (is_opener t)) (c + one_if (is_closer t)) ts h.1)
  where
    by : (b : Bool) → AllFull n (statements_from 0 0 ts) → AllFull n (statements_from (o + one_if (is_opener t)) (c + one_if (is_closer t)) ts)
        → AllFull n (cond b ((t ∷ []) ∷ statements_from 0 0 ts) (onto t (statements_from (o + one_if (is_opener t)) (c + one_if (is_closer t)) ts)))
    by true ended goes_on = ((h.0, tt), ended)
    by false ended goes_on = onto_full n t (statements_from (o + one_if (is_opener t)) (c + one_if (is_closer t)) ts) h.0 goes_on

-- the terminals of each statement of a tree
tree_full : (tree : Tree) → AllFull (length tree.toks) (statements (terminals tree.text tree.toks))
unfolding terminals
tree_full tree =
    let ts : List Terminal = terminals_from tree.text 0 tree.toks in
    subst (AllFull (length tree.toks)) (sym (by_counts ts)) (parts_full (length tree.toks) 0 0 ts (under_more (0 + length tree.toks) ts (terms_under tree.text 0 tree.toks) (length tree.toks) (omega arith)))

-- ---- what stays under such numbers

-- the numbers below the bound stay, and all others change
abbrev below : ℕ → ℕ → ℕ
below n x = cond (nat_lt x n) x (suc x)

stays : (n x : ℕ) → x < n → below n x ≡ x
stays n x h = grind (arith, nat_tests)

is_below : (n x : ℕ) → below n x ≡ x → x < n
is_below n x e = by (nat_lt x n) refl e
  where
    by : (b : Bool) → nat_lt x n ≡ b → cond b x (suc x) ≡ x → x < n
    by true lt e = ltb-true x n lt
    by false ge e = absurd (omega arith)

fixed : (n : ℕ) (ts : List Terminal) → Under n ts → map (renumber (below n)) ts ≡ ts
fixed n [] h = refl
fixed n (t ∷ ts) h =
    let e = stays n t.number h.0 in
    let rest = fixed n ts h.1 in
    λ i. record t { number = e i } ∷ rest i

stmt_fixed : (n : ℕ) (ts : List Terminal) (s : Stmt) → Full n ts → statement ts ≡ Some s → stmt_moved (below n) s ≡ s
stmt_fixed n [] s h e = absurd h
stmt_fixed n (t ∷ ts) s h e =
    inside (sym (ap (λ (x : Option Stmt). option_map (stmt_moved (below n)) x) e) ∙ sym (statement_renumbers (below n) t ts) ∙ ap statement (fixed n (t ∷ ts) h) ∙ e)
  where
    inside : {x y : Stmt} → Some x ≡ Some y → x ≡ y
    inside e = cc

-- ---- statements and their actions

abbrev all_ok : List Stmt → Result (List Stmt) ℕ
all_ok stmts = Ok stmts

-- each statement that was read stays
stmts_fixed : (n : ℕ) (all : List (List Terminal)) (stmts : List Stmt) → AllFull n all → all_statements all ≡ Ok stmts → (s : Stmt) → Member s stmts → stmt_moved (below n) s ≡ s
stmts_fixed n [] [] full read s m = absurd m
stmts_fixed n [] (x ∷ stmts) full read s m = absurd (cc)
stmts_fixed n (ts ∷ others) stmts full read s m =
    by (statement ts) refl (all_statements others) refl (λ xs e k. stmts_fixed n others xs full.1 e s k) read m
  where
    by : (o : Option Stmt) → statement ts ≡ o → (r : Result (List Stmt) ℕ) → all_statements others ≡ r
        → ((xs : List Stmt) → all_statements others ≡ Ok xs → Member s xs → stmt_moved (below n) s ≡ s) → and_then_all o (span_of ts).first r ≡ Ok stmts → Member s stmts → stmt_moved (below n) s ≡ s
    by None e r f later g m = absurd (cc)
    by (Some x) e (Err at) f later g m = absurd (cc)
    by (Some x) e (Ok xs) f later g m = of_parts (subst (λ ss. Member s ss) (sym (all_of g)) m)
      where
        all_of : {xs ys : List Stmt} → all_ok xs ≡ all_ok ys → xs ≡ ys
        all_of e = cc

        of_parts : Member s (x ∷ xs) → stmt_moved (below n) s ≡ s
        of_parts (inl same) = subst (λ (y : Stmt). stmt_moved (below n) y ≡ y) same (stmt_fixed n ts x full.0 e)
        of_parts (inr k) = later xs f k

actions_moved : (f : ℕ → ℕ) (b : Body) → actions_in (body_moved f b) ≡ map (action_moved f) (actions_in b)
actions_moved f (body.Alter path actions) = refl
actions_moved f _ = refl

one_fixed : (f : ℕ → ℕ) (actions : List Action) (a : Action) → map (action_moved f) actions ≡ actions → Member a actions → f a.first ≡ a.first
one_fixed f [] a e m = absurd m
one_fixed f (x ∷ actions) a e (inl same) = subst (λ (y : Action). f y.first ≡ y.first) same (ap (λ (y : Action). y.first) (heads e))
  where
    heads : {x y : Action} {xs ys : List Action} → x ∷ xs ≡ y ∷ ys → x ≡ y
    heads e = cc
one_fixed f (x ∷ actions) a e (inr m) = one_fixed f actions a (tails e) m
  where
    tails : {x y : Action} {xs ys : List Action} → x ∷ xs ≡ y ∷ ys → xs ≡ ys
    tails e = cc

read_is : (t : Text) (toks : List Tok) (stmts : List Stmt) → read_tokens t toks ≡ Ok stmts → all_statements (statements (terminals t toks)) ≡ Ok stmts
unfolding read_tokens
read_is t toks stmts e = e

pub action_within : (tree : Tree) → IsTree tree → (s : Stmt) (a : Action) → Member s tree.stmts → Member a (actions_in s.body) → a.first < length tree.toks
action_within tree is s a in_s in_a =
    let n : ℕ = length tree.toks in
    let same : stmt_moved (below n) s ≡ s =
    stmts_fixed n (statements (terminals tree.text tree.toks)) tree.stmts (tree_full tree) (read_is tree.text tree.toks tree.stmts is.read) s in_s in
    let actions : map (action_moved (below n)) (actions_in s.body) ≡ actions_in s.body =
    sym (actions_moved (below n) s.body) ∙ ap (λ (x : Stmt). actions_in x.body) same in
    is_below n a.first (one_fixed (below n) (actions_in s.body) a actions in_a)
