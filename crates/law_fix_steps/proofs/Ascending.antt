-- The terminals of a statement ascend.
use Rattle.std.proofs.Common.{◌≡◌, ℕ, suc, ◌+◌, ◌≤◌, List, [], ◌∷◌, ◌++◌, length, sym, refl, ap, ◌∙◌, subst, arith, Ok}
use Rattle.law_type_fixes.specs.sql_token.declared.terminal.Terminal.{Terminal}
use Rattle.law_type_fixes.specs.sql_token.Depth.{statements}
use Rattle.law_type_fixes.specs.sql_token.Terminal.{terminals}
use Rattle.law_type_fixes.specs.sql_tree.declared.nodes.Stmt.{Stmt}
use Rattle.law_type_fixes.specs.sql_tree.Statement.{Tree, IsTree, without_semicolon}
use Rattle.law_type_fixes.proofs.of_law_renumber.Ordered.{Numbered}
use Rattle.law_type_fixes.specs.law_edit_cuts.Exchanges.{joined}
use Rattle.law_type_fixes.proofs.of_law_edit_inserts.Fields.{ended}
use Rattle.law_type_fixes.proofs.of_law_edit_inserts.TakenConcurrently.{Read, parts_of}
use Rattle.law_type_fixes.proofs.of_law_edit_inserts.Statements.{joined_append, of_read, statements_join, stmt_at_place}
use Rattle.law_type_fixes.proofs.TypesApart.{all_numbered, numbered_parts}

-- and one more
pub numbered_one : (lo mid : ℕ) (xs : List Terminal) (t : Terminal) → Numbered lo xs mid → mid ≤ t.number → Numbered lo (xs ++ t ∷ []) (suc t.number)
numbered_one lo mid [] t h le = (omega (arith, h, le), omega arith)
numbered_one lo mid (x ∷ xs) t h le = (h.0, numbered_one (suc x.number) mid xs t h.1 le)

-- The terminals that a statement of a tree is read of, without its semicolon.
pub record Ascends (st : Stmt) : Type 0 where
  pub us : List Terminal
  pub read : Read us st
  pub lo : ℕ
  pub hi : ℕ
  pub up : Numbered lo (without_semicolon us) hi

pub ascends : (tree : Tree) (before : List Stmt) (st : Stmt) (after : List Stmt) → IsTree tree → tree.stmts ≡ before ++ st ∷ after → Ascends st
ascends tree before st after is parts =
    let ts = terminals tree.text tree.toks in
    let place = stmt_at_place (statements ts) before st after (of_read tree.text tree.toks ts tree.stmts refl is.read ∙ ap (λ (x : List Stmt). Ok x) parts) in
    let whole : ts ≡ joined place.earlier ++ (place.here ++ joined place.later) =
    sym (statements_join ts) ∙ ap joined place.parts ∙ joined_append place.earlier (place.here ∷ place.later) in
    let numbers = subst (λ (x : List Terminal). Numbered 0 x (0 + length tree.toks)) whole (all_numbered tree.text tree.toks) in
    let a = numbered_parts 0 (0 + length tree.toks) (joined place.earlier) (place.here ++ joined place.later) numbers in
    let b = numbered_parts a.mid (0 + length tree.toks) place.here (joined place.later) a.right in
    let end = ended place.here in
    let c = numbered_parts a.mid b.mid (without_semicolon place.here) end.end (subst (λ (x : List Terminal). Numbered a.mid x b.mid) end.parts b.left) in
    record { us = place.here; read = parts_of place.here st place.here_is; lo = a.mid; hi = c.mid; up = c.left }
