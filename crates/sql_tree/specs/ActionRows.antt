-- The rows that an ALTER action is read by.
use Rattle.std.specs.Prelude.{List, [], map}
use Rattle.sql_token.specs.sql_keyword.declared.words.Keyword.{Keyword}
use Rattle.sql_token.specs.sql_keyword.declared.words.Keyword.TheVariants as k
use Rattle.sql_token.specs.sql_keyword.declared.words.Verb.TheVariants as verbs
use Rattle.sql_token.specs.sql_keyword.declared.words.Other.TheVariants as others
use Rattle.sql_token.specs.declared.terminal.Symbol.{Symbol}
use Rattle.sql_token.specs.declared.terminal.Symbol.TheVariants as s
use Rattle.sql_tree.specs.declared.actions.TheConstants.{OWNER, SCHEMA, RENAME, TYPE, DOMAIN, SEQUENCE, FUNCTION, CONFIG, EXTENSION, POLICY, PUBLICATION, GROUP, PRIVILEGES, ADD, DROP, ALTER, RENAME_COLUMN, VALIDATE, DETACH, ENABLE, DISABLE, FORCE, NO, REPLICA, SET, RESET, CLUSTER}
use Rattle.sql_tree.specs.declared.kinds.StmtKind.{StmtKind}
use Rattle.sql_tree.specs.declared.kinds.StmtKind.TheVariants as stmt
use Rattle.sql_tree.specs.Forms.{ActionRow}

-- read before all others, by the first word
unfoldable pub first_rows : Keyword → List ActionRow
first_rows (k.Other others.Owner) = map (λ r. (r.0, r.1.now)) OWNER
first_rows (k.Verb verbs.Set) = map (λ r. (r.0, r.1.now)) SCHEMA
first_rows (k.Other others.Rename) = map (λ r. (r.0, r.1.now)) RENAME
first_rows _ = []

-- read next, of one kind of statement
unfoldable pub own_rows : StmtKind → List ActionRow
own_rows stmt.AlterType = map (λ r. (r.0, r.1.now)) TYPE
own_rows stmt.AlterDomain = map (λ r. (r.0, r.1.now)) DOMAIN
own_rows stmt.AlterView = map (λ r. (r.0, r.1.now)) DOMAIN
own_rows stmt.AlterSequence = map (λ r. (r.0, r.1.now)) SEQUENCE
own_rows stmt.AlterFunction = map (λ r. (r.0, r.1.now)) FUNCTION
own_rows stmt.AlterProcedure = map (λ r. (r.0, r.1.now)) FUNCTION
own_rows stmt.AlterRoutine = map (λ r. (r.0, r.1.now)) FUNCTION
own_rows stmt.AlterRole = map (λ r. (r.0, r.1.now)) CONFIG
own_rows stmt.AlterUser = map (λ r. (r.0, r.1.now)) CONFIG
own_rows stmt.AlterDatabase = map (λ r. (r.0, r.1.now)) CONFIG
own_rows stmt.AlterSystem = map (λ r. (r.0, r.1.now)) CONFIG
own_rows stmt.AlterExtension = map (λ r. (r.0, r.1.now)) EXTENSION
own_rows stmt.AlterPolicy = map (λ r. (r.0, r.1.now)) POLICY
own_rows stmt.AlterPublication = map (λ r. (r.0, r.1.now)) PUBLICATION
own_rows stmt.AlterGroup = map (λ r. (r.0, r.1.now)) GROUP
own_rows stmt.AlterDefaultPrivileges = map (λ r. (r.0, r.1.now)) PRIVILEGES
own_rows _ = []

-- read next, of every kind of statement, by the first word
unfoldable pub general_rows : Keyword → List ActionRow
general_rows (k.Other others.Add) = map (λ r. (r.0, r.1.now)) ADD
general_rows (k.Verb verbs.Drop) = map (λ r. (r.0, r.1.now)) DROP
general_rows (k.Verb verbs.Alter) = map (λ r. (r.0, r.1.now)) ALTER
general_rows (k.Other others.Rename) = map (λ r. (r.0, r.1.now)) RENAME_COLUMN
general_rows (k.Other others.Validate) = map (λ r. (r.0, r.1.now)) VALIDATE
general_rows (k.Other others.Detach) = map (λ r. (r.0, r.1.now)) DETACH
general_rows (k.Other others.Enable) = map (λ r. (r.0, r.1.now)) ENABLE
general_rows (k.Other others.Disable) = map (λ r. (r.0, r.1.now)) DISABLE
general_rows (k.Other others.Force) = map (λ r. (r.0, r.1.now)) FORCE
general_rows (k.Other others.No) = map (λ r. (r.0, r.1.now)) NO
general_rows (k.Other others.Replica) = map (λ r. (r.0, r.1.now)) REPLICA
general_rows (k.Verb verbs.Set) = map (λ r. (r.0, r.1.now)) SET
general_rows (k.Verb verbs.Reset) = map (λ r. (r.0, r.1.now)) RESET
general_rows (k.Verb verbs.Cluster) = map (λ r. (r.0, r.1.now)) CLUSTER
general_rows _ = []

-- the same by the first symbol: nothing where it is no key word
unfoldable pub first_rows_at : Symbol → List ActionRow
first_rows_at (s.Keyword w) = first_rows w
first_rows_at _ = []

unfoldable pub general_rows_at : Symbol → List ActionRow
general_rows_at (s.Keyword w) = general_rows w
general_rows_at _ = []
