-- The state of the machine after a statement.
use Rattle.std.proofs.Common.{◌≡◌, ◌∙◌, sym, ap, refl, subst, arith, ℕ, suc, ◌+◌, Bool, ◌&&◌, ◌||◌, not, List, Option, Some, None}
use Rattle.std.specs.Prelude.{if◌then◌else◌}
use Rattle.std.specs.Map.{lookup}
use Rattle.lint_pass.specs.sql_token.declared.token.Span.{Span}
use Rattle.sql_tree.specs.declared.nodes.Stmt.{Stmt}
use Rattle.sql_tree.specs.Statement.{Tree}
use Rattle.lint_pass.specs.lint_transaction.SpanMap.{get_span}
use Rattle.lint_pass.specs.lint_transaction.Transaction.{begins, chains, created, ends, is_path, same_path, stmt_at}
use Rattle.lock_machine.specs.Machine.{Machine, after, before, births_with, running}
use Rattle.lock_machine.specs.MachineWalk.{IsMachine, Kept}

-- the birth of a path, after a statement that creates a table or not
pub birth_with : (tree : Tree) (path : List (List ℕ)) (made : Option Span) (number : ℕ) (births : List (List (List ℕ) × ℕ))
    → lookup (same_path path) (births_with tree made number births) ≡ (if is_path tree made path then Some number else lookup (same_path path) births)
birth_with tree path None number births = refl
birth_with tree path (Some span) number births = refl

-- what is kept after a table was created, the number was taken and the mark was set
pub kept_after : (tree : Tree) (s : Stmt) (m : Machine) (old born counted new : Kept)
    → born.number ≡ old.number → born.in_block ≡ old.in_block
    → ((path : List (List ℕ)) → get_span tree born.births path ≡ (if is_path tree (created s) path then Some (if old.in_block then old.number else old.number + 1) else get_span tree old.births path))
    → counted.number ≡ (if born.in_block && not (ends s) then born.number else born.number + 1) → counted.in_block ≡ born.in_block → counted.births ≡ born.births
    → new.number ≡ counted.number → new.in_block ≡ (if ends s then chains s else begins s || counted.in_block) → new.births ≡ counted.births
    → IsMachine tree m old → IsMachine tree (after tree s m) new
kept_after tree s m old born counted new n b h cn cb ch nn nb nh kept = record {
  same_number =
      let number = n ∙ kept.same_number in
      let block = b ∙ kept.same_block in
      nn ∙ (cn ∙ (λ x. if block x && not (ends s) then number x else number x + 1));
  same_block =
      let block = cb ∙ (b ∙ kept.same_block) in
      nb ∙ (λ x. if ends s then chains s else begins s || block x);
  same_births = λ path.
      ap (λ births. get_span tree births path) (nh ∙ ch)
      ∙ (h path
      ∙ ((λ x. if is_path tree (created s) path then Some (if kept.same_block x then kept.same_number x else kept.same_number x + 1) else kept.same_births path x)
      ∙ sym (birth_with tree path (created s) (running m) m.births)));
}

before_next : (assumed : Bool) (tree : Tree) (i : ℕ) (s : Stmt) → s ≡ stmt_at tree i → after tree s (before assumed tree i) ≡ before assumed tree (i + 1)
before_next assumed tree i s e =
    let next : suc i ≡ i + 1 = omega arith in
    ap (λ (x : Stmt). after tree x (before assumed tree i)) e ∙ ap (before assumed tree) next

-- what is kept after statement i is the state before the next one
pub kept_next : (assumed : Bool) (tree : Tree) (i : ℕ) (s : Stmt) (kept : Kept) → s ≡ stmt_at tree i → IsMachine tree (after tree s (before assumed tree i)) kept
    → IsMachine tree (before assumed tree (i + 1)) kept
kept_next assumed tree i s kept e h = subst (λ m. IsMachine tree m kept) (before_next assumed tree i s e) h
