-- Each report of a domain's constraints is of its rule, and is in the text.
use Rattle.std.specs.Prelude.{ℕ, ◌-◌, All, List, [], ◌∷◌, length, slice_index_or, refl}
use Rattle.std.proofs.lemmas.List.Elements.{All-nil}
use Rattle.lint_pass.specs.sql_tree.declared.kinds.StmtKind.TheVariants as stmt
use Rattle.lint_pass.specs.sql_tree.declared.nodes.Body.{Body}
use Rattle.lint_pass.specs.sql_tree.declared.nodes.Body.TheVariants as body
use Rattle.lint_pass.specs.sql_tree.declared.nodes.Constraint.{Constraint}
use Rattle.lint_pass.specs.sql_tree.declared.nodes.Stmt.{Stmt}
use Rattle.lint_pass.specs.sql_tree.Nodes.{actions_in}
use Rattle.lint_pass.specs.sql_tree.Statement.{Tree}
use Rattle.lint_pass.specs.lint_base.declared.rule.Rule.{Rule}
use Rattle.lint_pass.specs.lint_base.declared.rule.Rule.TheVariants as rule
use Rattle.lint_pass.specs.lint_base.declared.violation.Violation.{Violation}
use Rattle.lint_pass.specs.lint_node.Same.{same_kind}
use Rattle.lint_pass.specs.Laws.{HasCode, IsRead, IsPlacedIn}
use Rattle.lint_pass.specs.PlaceLaws.{span_place}
use Rattle.lint_pass.specs.RuleLaws.{one_all, where_all}
use Rattle.lint_pass.specs.Those.{those}
use Rattle.lint_pass.specs.ThoseLaws.{those_all}
use Rattle.pass_client.specs.DomainConstraints.{report, created, reports_of_ban_create_domain_with_constraint, adds_constraint, added_report, reports_of_ban_alter_domain_with_add_constraint}

report_coded : (code : Rule) (tree : Tree) (first last : ℕ) → HasCode code (report code tree first last)
unfolding report
report_coded code tree first last = refl

report_placed : (code : Rule) (tree : Tree) (first last : ℕ) → IsRead tree → IsPlacedIn tree (report code tree first last)
unfolding report
report_placed code tree first last read = record { range = span_place tree read first last; edits = tt }

created_all : (P : Violation → Type 0) (tree : Tree) (b : Body) → ((first last : ℕ) → P (report rule.BanCreateDomainWithConstraint tree first last)) → All P (reports_of_ban_create_domain_with_constraint tree b)
created_all P tree (body.Domain constraints) h = each constraints
  where
    each : (cs : List Constraint) → All P (created tree cs)
    each [] = All-nil P
    each (c ∷ cs) = one_all P (report rule.BanCreateDomainWithConstraint tree c.first (slice_index_or (c ∷ cs) (length (c ∷ cs) - 1) c).last) (h c.first (slice_index_or (c ∷ cs) (length (c ∷ cs) - 1) c).last)
created_all P tree _ h = All-nil P

added_all : (P : Violation → Type 0) (tree : Tree) (s : Stmt) → ((first last : ℕ) → P (report rule.BanAlterDomainWithAddConstraint tree first last)) → All P (reports_of_ban_alter_domain_with_add_constraint tree s)
added_all P tree s h =
    where_all P (same_kind s.kind stmt.AlterDomain) (those adds_constraint (added_report tree) (actions_in s.body))
    (λ _. those_all P adds_constraint (added_report tree) (actions_in s.body) (λ a. h a.first a.last))

pub created_coded : (tree : Tree) (s : Stmt) → All (HasCode rule.BanCreateDomainWithConstraint) (reports_of_ban_create_domain_with_constraint tree s.body)
created_coded tree s = created_all (HasCode rule.BanCreateDomainWithConstraint) tree s.body (report_coded rule.BanCreateDomainWithConstraint tree)

pub created_placed : (tree : Tree) (s : Stmt) → IsRead tree → All (IsPlacedIn tree) (reports_of_ban_create_domain_with_constraint tree s.body)
created_placed tree s read = created_all (IsPlacedIn tree) tree s.body (λ first last. report_placed rule.BanCreateDomainWithConstraint tree first last read)

pub added_coded : (tree : Tree) (s : Stmt) → All (HasCode rule.BanAlterDomainWithAddConstraint) (reports_of_ban_alter_domain_with_add_constraint tree s)
added_coded tree s = added_all (HasCode rule.BanAlterDomainWithAddConstraint) tree s (report_coded rule.BanAlterDomainWithAddConstraint tree)

pub added_placed : (tree : Tree) (s : Stmt) → IsRead tree → All (IsPlacedIn tree) (reports_of_ban_alter_domain_with_add_constraint tree s)
added_placed tree s read = added_all (IsPlacedIn tree) tree s (λ first last. report_placed rule.BanAlterDomainWithAddConstraint tree first last read)
