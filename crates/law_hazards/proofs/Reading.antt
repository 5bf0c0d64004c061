-- Each statement of a tree, and the terminals that it is read from.
use Rattle.std.proofs.Common.{◌≡◌, ◌<◌, ◌∙◌, sym, ap, subst, refl, arith, ℕ, zero, suc, ◌-◌, List, [], ◌∷◌, ◌++◌, drop, take, length, All, Option, Some, None, Result, Ok, Err}
use Rattle.std.proofs.lemmas.List.{append_assoc, take-append-drop}
use Rattle.std.proofs.lemmas.List.Elements.{All-cons, All-nil}
use Rattle.law_renumber.specs.sql_token.declared.terminal.Terminal.{Terminal}
use Rattle.law_renumber.specs.sql_token.Chunks.{chunks, chunks_after}
use Rattle.law_renumber.specs.sql_token.Depth.{ends_at, first_len, first_place, span_of, statements}
use Rattle.law_renumber.specs.sql_token.Terminal.{terminals}
use Rattle.law_renumber.specs.sql_tree.declared.nodes.Stmt.{Stmt}
use Rattle.law_renumber.specs.sql_tree.Statement.{IsTree, Tree, all_statements, and_then_all, read_tokens, statement}
use Rattle.hazard_find.specs.lint_transaction.Transaction.{no_stmt, stmt_at}

-- The statement is what its own terminals are, which others of the text come before and after.
pub record IsRead (all : List Terminal) (s : Stmt) : Type 0 where
  pub before : List Terminal
  pub own : List Terminal
  pub after : List Terminal
  pub parts : all ≡ before ++ (own ++ after)
  pub is_statement : statement own ≡ Some s

-- ---- statements one after another

abbrev joined : List (List Terminal) → List Terminal
joined [] = []
joined (ts ∷ tss) = ts ++ joined tss

chunks_joined : (n : ℕ) (ts : List Terminal) → joined (chunks_after first_len n ts) ≡ drop n ts
chunks_joined zero [] = refl
chunks_joined (suc n) [] = refl
chunks_joined zero (t ∷ ts) =
    let k : ℕ = first_place (ends_at (t ∷ ts)) (length (t ∷ ts)) in
    let same : suc k - 1 ≡ k = omega arith in
    ap (λ n. t ∷ (take k ts ++ joined (chunks_after first_len n ts))) same
    ∙ (ap (λ us. t ∷ (take k ts ++ us)) (chunks_joined k ts) ∙ ap (λ us. t ∷ us) (take-append-drop k ts))
chunks_joined (suc n) (t ∷ ts) = chunks_joined n ts

-- ---- all statements

abbrev read_of : Result (List Stmt) ℕ → List Stmt
read_of (Ok ss) = ss
read_of (Err n) = []

module _ (all : List Terminal) where
  followed : (o : Option Stmt) (n : ℕ) (r : Result (List Stmt) ℕ) → ((s : Stmt) → o ≡ Some s → IsRead all s) → All (IsRead all) (read_of r)
      → All (IsRead all) (read_of (and_then_all o n r))
  followed None n r here others = All-nil (IsRead all)
  followed (Some s) n (Ok ss) here others = All-cons (IsRead all) s ss (here s refl) others
  followed (Some s) n (Err m) here others = All-nil (IsRead all)

  all_read : (before : List Terminal) (tss : List (List Terminal)) → all ≡ before ++ joined tss → All (IsRead all) (read_of (all_statements tss))
  all_read before [] h = All-nil (IsRead all)
  all_read before (ts ∷ tss) h =
      followed (statement ts) (span_of ts).first (all_statements tss)
      (λ s is. record { before = before; own = ts; after = joined tss; parts = h; is_statement = is })
      (all_read (before ++ ts) tss (h ∙ sym (append_assoc before ts (joined tss))))

-- a statement of a tree
pub read_there : (tree : Tree) → IsTree tree → (i : ℕ) → i < length tree.stmts → IsRead (terminals tree.text tree.toks) (stmt_at tree i)
unfolding read_tokens statements chunks
read_there tree is i l =
    let ts : List Terminal = terminals tree.text tree.toks in
    let all : All (IsRead ts) (read_of (Ok tree.stmts)) =
    subst (λ (r : Result (List Stmt) ℕ). All (IsRead ts) (read_of r)) is.read (all_read ts [] (statements ts) (sym (chunks_joined 0 ts)))
    in
    all i no_stmt l
