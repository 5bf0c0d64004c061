-- A text has one answer.
use Rattle.std.proofs.Common.{◌≡◌, ◌∙◌, sym, subst, List, ℕ, Result, Ok, Err, refl}
use Rattle.sql_token.specs.declared.token.Tok.{Tok}
use Rattle.sql_token.specs.Token.{Text, Lexed}
use Rattle.sql_token.proofs.TokenLaws.{one_lexed}
use Rattle.sql_tree.specs.declared.nodes.Stmt.{Stmt}
use Rattle.sql_tree.specs.Statement.{Tree, IsTree, IsSyntaxAt, read_tokens, no_token}
use Rattle.std.specs.Prelude.{slice_index_or}

-- the tokens of one text are the same
same_tokens : (t u : Text) (ks ls : List Tok) → t ≡ u → Lexed t ks → Lexed u ls → ks ≡ ls
same_tokens t u ks ls e p q = one_lexed u ks ls (subst (λ (x : Text). Lexed x ks) e p) q

same_reading : (t u : Text) (ks ls : List Tok) → t ≡ u → ks ≡ ls → read_tokens t ks ≡ read_tokens u ls
same_reading t u ks ls e f = λ i. read_tokens (e i) (f i)

tree_eq : (a b : Tree) → a.text ≡ b.text → a.toks ≡ b.toks → a.stmts ≡ b.stmts → a ≡ b
tree_eq a b p q r = λ i. record { text = p i; toks = q i; stmts = r i }

ok_eq : (x y : List Stmt) (r s : Result (List Stmt) ℕ) → r ≡ s → r ≡ Ok x → s ≡ Ok y → x ≡ y
ok_eq x y r s e p q = cc

err_eq : (x y : ℕ) (r s : Result (List Stmt) ℕ) → r ≡ s → r ≡ Err x → s ≡ Err y → x ≡ y
err_eq x y r s e p q = cc

ok_err : (x : List Stmt) (y : ℕ) (r s : Result (List Stmt) ℕ) → r ≡ s → r ≡ Ok x → s ≡ Err y → ⊥
ok_err x y r s e p q = cc

pub one_tree : (a b : Tree) → a.text ≡ b.text → IsTree a → IsTree b → a ≡ b
one_tree a b e p q =
    let toks = same_tokens a.text b.text a.toks b.toks e p.lexed q.lexed in
    let reading = same_reading a.text b.text a.toks b.toks e toks in
    tree_eq a b e toks (ok_eq a.stmts b.stmts (read_tokens a.text a.toks) (read_tokens b.text b.toks) reading p.read q.read)

pub one_fault : (t : Text) (a b : ℕ) → IsSyntaxAt t a → IsSyntaxAt t b → a ≡ b
one_fault t a b p q =
    let toks = one_lexed t p.toks q.toks p.lexed q.lexed in
    let reading = same_reading t t p.toks q.toks refl toks in
    let number = err_eq p.number q.number (read_tokens t p.toks) (read_tokens t q.toks) reading p.refused q.refused in
    p.place ∙ (λ i. (slice_index_or (toks i) (number i) no_token).start) ∙ sym q.place

pub not_both : (a : Tree) (t : Text) (at : ℕ) → a.text ≡ t → IsTree a → IsSyntaxAt t at → ⊥
not_both a t at e p q =
    let toks = same_tokens a.text t a.toks q.toks e p.lexed q.lexed in
    let reading = same_reading a.text t a.toks q.toks e toks in
    ok_err a.stmts q.number (read_tokens a.text a.toks) (read_tokens t q.toks) reading p.read q.refused
