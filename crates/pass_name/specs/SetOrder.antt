-- When the parts of SET clauses begin at tokens that ascend.
use Rattle.std.proofs.Common.{ℕ, List, [], length, map}
use Rattle.std.specs.List.{flat_map}
use Rattle.std.specs.Prelude.{All}
use Rattle.lint_pass.specs.sql_tree.declared.kinds.StmtKind.{StmtKind}
use Rattle.lint_pass.specs.sql_tree.declared.nodes.Body.{Body}
use Rattle.lint_pass.specs.sql_tree.declared.nodes.Body.TheVariants as body
use Rattle.lint_pass.specs.sql_tree.declared.nodes.SetPart.{SetPart}
use Rattle.lint_pass.specs.sql_tree.declared.nodes.Stmt.{Stmt}
use Rattle.lint_pass.specs.sql_tree.Statement.{Tree}
use Rattle.law_renumber.proofs.Ordered.{Up}

-- the SET clauses of a statement
abbrev pub sets_in : Body → List (List SetPart)
sets_in (body.Write write) = write.sets
sets_in _ = []

-- where the parts of a clause begin
abbrev pub part_starts : List SetPart → List ℕ
part_starts parts = map (λ part. part.first) parts

-- where the parts of all clauses of a statement begin
abbrev pub set_starts : Body → List ℕ
set_starts b = flat_map part_starts (sets_in b)

-- the parts of the SET clauses of a body begin at tokens that ascend, from lo on and below hi
abbrev pub InBody : ℕ → ℕ → Body → Type 0
InBody lo hi b = Up lo (set_starts b) hi

-- the same of a statement's form
abbrev pub InForm : ℕ → ℕ → StmtKind × Body → Type 0
InForm lo hi f = InBody lo hi f.1

-- the same of a statement
abbrev pub InStmt : ℕ → ℕ → Stmt → Type 0
InStmt lo hi s = InBody lo hi s.body

-- the parts of each SET clause of a statement
abbrev pub HaveOrder : Tree → Stmt → Type 0
HaveOrder tree s = All (λ parts. Up 0 (part_starts parts) (length tree.toks)) (sets_in s.body)
