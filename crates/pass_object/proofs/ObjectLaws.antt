-- What is known of created objects goes on from statement to statement.
use Rattle.std.proofs.Common.{◌≡◌, ◌∙◌, ap, refl, subst, ℕ, ◌+◌, add-one, Bool, ◌||◌, List, Option, Some, None}
use Rattle.lint_base.specs.declared.violation.Violation.{Violation}
use Rattle.lint_base.specs.RuleSets.{Rules}
use Rattle.lint_pass.specs.sql_tree.declared.nodes.Stmt.{Stmt}
use Rattle.lint_pass.specs.sql_tree.Path.{path_cuts}
use Rattle.lint_pass.specs.sql_tree.Statement.{Tree}
use Rattle.lint_pass.specs.lint_transaction.Transaction.{stmt_at}
use Rattle.lint_pass.proofs.of_lint_transaction.EarlierLaws.{or_swap}
use Rattle.pass_object.specs.KnownObjects.{IsKnowing, Objects, created, creates, has_named, has_object, is_known, is_known_named, is_named, is_of_known}
use Rattle.pass_object.specs.ExistingObjectCompatibility.{existing_at, unless_known}
use Rattle.pass_object.specs.declared.known_objects.NamedObject.{NamedObject}
use Rattle.pass_object.specs.declared.known_objects.Object.{Object}

-- after one more statement
pub objects_next : (tree : Tree) (i : ℕ) (s : Stmt) (m : Option NamedObject) (old new : Objects) → s ≡ stmt_at tree i → m ≡ created s
    → ((object : Object) (path : List (List ℕ)) → has_object tree new object path ≡ (is_named tree object path m || has_object tree old object path)) → IsKnowing tree i old → IsKnowing tree (i + 1) new
objects_next tree i s m old new e m_is put h = record {
  known_here = λ object path.
      rw add-one (put object path
      ∙ (λ x. is_named tree object path ((m_is ∙ ap created e) x) || h.known_here object path x)
      ∙ or_swap (creates tree object path (stmt_at tree i)) (is_known tree object path i));
}

-- what is known of an object is right
pub named_known : (tree : Tree) (i : ℕ) (known : Objects) (n : Option NamedObject) → IsKnowing tree i known → has_named tree known n ≡ is_known_named tree i n
named_known tree i known None h = refl
named_known tree i known (Some n) h = h.known_here n.object (path_cuts tree.text tree.toks n.path)

-- what holds of the reports by what is known holds of those on statement i
pub reported : (P : List Violation → Type 0) (tree : Tree) (rules : Rules) (i : ℕ) (known : Bool) (s : Stmt) → known ≡ is_of_known tree i s → s ≡ stmt_at tree i → P (unless_known known tree rules s) → P (existing_at tree rules i)
reported P tree rules i known s k e h =
    subst (λ (t : Stmt). P (unless_known (is_of_known tree i t) tree rules t)) e (subst (λ (b : Bool). P (unless_known b tree rules s)) k h)
