-- What is reported of an existing object, by the kind of the statement that changes it (PostgreSQL manual, ALTER TABLE, ALTER
-- FOREIGN TABLE, ALTER DOMAIN, CREATE INDEX, ALTER TYPE and ALTER SEQUENCE).
use Rattle.std.specs.Prelude.{ℕ, List, [], ◌∷◌, ◌++◌, map, codes}
use Rattle.lint_base.specs.declared.rule.Rule.TheVariants as rule
use Rattle.lint_pass.specs.sql_tree.declared.kinds.ActionKind.TheVariants as action
use Rattle.lint_pass.specs.sql_tree.declared.kinds.PieceKind.TheVariants as piece
use Rattle.lint_pass.specs.sql_tree.declared.kinds.StmtKind.{StmtKind}
use Rattle.lint_pass.specs.sql_tree.declared.kinds.StmtKind.TheVariants as stmt
use Rattle.lint_pass.specs.sql_tree.declared.nodes.ConKind.TheVariants as constraint
use Rattle.pass_object.specs.declared.changes.Spot.{Spot}
use Rattle.pass_object.specs.declared.changes.Spot.TheVariants as spot
use Rattle.pass_object.specs.Changes.{Row}

-- ---- ends of messages

abbrev rejects : List ℕ → List ℕ
rejects front = front ++ codes " can reject writes from existing clients"

abbrev rejects_even : List ℕ → List ℕ
rejects_even front = rejects front ++ codes ", even when it is `not valid`"

abbrev changes_generated : List ℕ → List ℕ
changes_generated front = front ++ codes " can change values generated for existing clients"

abbrev changes_parent : List ℕ → List ℕ
changes_parent front = front ++ codes " changes which rows existing clients can read and write through the parent table"

-- ---- rows

abbrev new_column : Row
new_column = (rule.BanAddColumn, spot.Action action.AddColumn, codes "adding a column changes the shape of rows existing clients receive and can break positional inserts")

abbrev restricts : Spot → List ℕ → Row
restricts s message = (rule.BanNewWriteRestriction, s, message)

abbrev alters_values : Spot → List ℕ → Row
alters_values s front = (rule.BanAlterSequenceValues, s, changes_generated front)

abbrev detaches : Spot → List ℕ → Row
detaches s front = (rule.BanDetachInheritance, s, changes_parent front)

-- the constraints of a new column that its values may not meet
abbrev new_column_constraints : List Row
new_column_constraints =
    map (λ c. restricts (spot.NewColumn c) (rejects (codes "a new column constraint")))
    (constraint.NotNull ∷ constraint.References ∷ constraint.Check ∷ constraint.Unique ∷ constraint.PrimaryKey ∷ [])

abbrev alter_table : List Row
alter_table =
    (new_column
    ∷ restricts (spot.Action action.AddConstraint) (rejects_even (codes "a new constraint"))
    ∷ restricts (spot.Piece piece.SetNotNull) (rejects (codes "`set not null`"))
    ∷ [])
    ++ new_column_constraints
    ++ (restricts spot.Timing (codes "changing constraint enforcement or timing can reject existing client writes")
    ∷ alters_values (spot.OnePiece piece.Restart) (codes "restarting an identity sequence")
    ∷ alters_values (spot.OnePiece piece.SetSequence) (codes "changing an identity sequence option")
    ∷ alters_values (spot.AmongPieces piece.Restart) (codes "changing an identity sequence")
    ∷ alters_values (spot.AmongPieces piece.SetSequence) (codes "changing an identity sequence")
    ∷ detaches (spot.Action action.DetachPartition) (codes "detaching a partition")
    ∷ detaches (spot.Action action.NoInherit) (codes "`no inherit`")
    ∷ [])

abbrev alter_foreign_table : List Row
alter_foreign_table =
    (new_column ∷ [])
    ++ new_column_constraints
    ++ (restricts (spot.Action action.AddConstraint) (codes "a foreign table constraint can reject existing client writes")
    ∷ restricts (spot.Piece piece.SetNotNull) (codes "`set not null` can reject existing client writes")
    ∷ [])

abbrev alter_domain : List Row
alter_domain =
    restricts (spot.Action action.SetNotNull) (rejects (codes "a domain `not null` requirement"))
    ∷ restricts (spot.Action action.AddConstraint) (rejects_even (codes "a domain constraint"))
    ∷ []

abbrev create_index : List Row
create_index = restricts spot.UniqueIndex (rejects (codes "a unique index") ++ codes ", even when created `concurrently`") ∷ []

abbrev alter_type : List Row
alter_type =
    (rule.BanAddEnumValue, spot.Action action.AddValue, codes "adding an enum value changes the set of values existing clients can receive")
    ∷ (rule.BanAddCompositeAttribute, spot.Piece piece.AddAttribute, codes "adding a composite attribute changes the shape of values existing clients receive")
    ∷ []

abbrev alter_sequence : List Row
alter_sequence = alters_values spot.SequencePiece (codes "changing a sequence option") ∷ []

-- the rows of a kind; of any other kind nothing is reported
abbrev pub rows_of : StmtKind → List Row
rows_of stmt.AlterTable = alter_table
rows_of stmt.AlterForeignTable = alter_foreign_table
rows_of stmt.AlterDomain = alter_domain
rows_of stmt.CreateIndex = create_index
rows_of stmt.AlterType = alter_type
rows_of stmt.AlterSequence = alter_sequence
rows_of _ = []
