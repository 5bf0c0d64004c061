-- Which constraints of domains are reported (PostgreSQL manual, CREATE DOMAIN and ALTER DOMAIN).
use Rattle.std.specs.Prelude.{ℕ, ◌-◌, Bool, List, [], ◌∷◌, length, slice_index_or, Some, None, codes, if◌then◌else◌}
use Rattle.lint_pass.specs.sql_tree.declared.kinds.ActionKind.TheVariants as action
use Rattle.lint_pass.specs.sql_tree.declared.kinds.StmtKind.TheVariants as stmt
use Rattle.lint_pass.specs.sql_tree.declared.nodes.Action.{Action}
use Rattle.lint_pass.specs.sql_tree.declared.nodes.Body.{Body}
use Rattle.lint_pass.specs.sql_tree.declared.nodes.Body.TheVariants as body
use Rattle.lint_pass.specs.sql_tree.declared.nodes.Constraint.{Constraint}
use Rattle.lint_pass.specs.sql_tree.declared.nodes.Stmt.{Stmt}
use Rattle.lint_pass.specs.sql_tree.Nodes.{actions_in}
use Rattle.lint_pass.specs.sql_tree.Range.{span_range_of}
use Rattle.lint_pass.specs.sql_tree.Statement.{Tree}
use Rattle.lint_pass.specs.lint_base.declared.rule.Rule.{Rule}
use Rattle.lint_pass.specs.lint_base.declared.rule.Rule.TheVariants as rule
use Rattle.lint_pass.specs.lint_base.declared.violation.Violation.{Violation}
use Rattle.lint_pass.specs.lint_node.Same.{same_action, same_kind}
use Rattle.lint_pass.specs.Those.{those}

-- the report of a rule from one token to another
unfoldable pub report : Rule → Tree → ℕ → ℕ → Violation
report code tree first last = record {
  code = code;
  message = codes "domains with constraints have poor support for online migrations";
  text_range = span_range_of tree.toks first last;
  note = None;
  help = Some (codes "use table and column constraints instead");
  fix = None;
}

-- ---- CREATE DOMAIN

-- from the first of its constraints to the last one, where it has any
abbrev pub created : Tree → List Constraint → List Violation
created tree [] = []
created tree (c ∷ cs) = report rule.BanCreateDomainWithConstraint tree c.first (slice_index_or (c ∷ cs) (length (c ∷ cs) - 1) c).last ∷ []

abbrev pub reports_of_ban_create_domain_with_constraint : Tree → Body → List Violation
reports_of_ban_create_domain_with_constraint tree (body.Domain constraints) = created tree constraints
reports_of_ban_create_domain_with_constraint tree _ = []

-- ---- ALTER DOMAIN

abbrev pub adds_constraint : Action → Bool
adds_constraint a = same_action a.kind action.AddConstraint

abbrev pub added_report : Tree → Action → Violation
added_report tree a = report rule.BanAlterDomainWithAddConstraint tree a.first a.last

-- each ADD of a constraint
abbrev pub reports_of_ban_alter_domain_with_add_constraint : Tree → Stmt → List Violation
reports_of_ban_alter_domain_with_add_constraint tree s =
    if same_kind s.kind stmt.AlterDomain
    then those adds_constraint (added_report tree) (actions_in s.body)
    else []
