-- The keywords and their texts.
-- Written by tools/keywords.py: edit the list of words there.
use Rattle.std.specs.Prelude.{ℕ, List, [], ◌∷◌, codes}
use Rattle.sql_keyword.specs.declared.words.Keyword.{Keyword}
use Rattle.sql_keyword.specs.declared.words.Keyword.TheVariants as k
use Rattle.sql_keyword.specs.declared.words.Verb.TheVariants as verbs
use Rattle.sql_keyword.specs.declared.words.Object.TheVariants as objects
use Rattle.sql_keyword.specs.declared.words.Other.TheVariants as others

unfoldable pub text : Keyword → List ℕ
text (k.Verb verbs.Abort) = codes "ABORT"
text (k.Object objects.Access) = codes "ACCESS"
text (k.Other others.Add) = codes "ADD"
text (k.Other others.After) = codes "AFTER"
text (k.Object objects.Aggregate) = codes "AGGREGATE"
text (k.Other others.All) = codes "ALL"
text (k.Verb verbs.Alter) = codes "ALTER"
text (k.Other others.Always) = codes "ALWAYS"
text (k.Verb verbs.Analyse) = codes "ANALYSE"
text (k.Verb verbs.Analyze) = codes "ANALYZE"
text (k.Other others.And) = codes "AND"
text (k.Other others.Array) = codes "ARRAY"
text (k.Other others.As) = codes "AS"
text (k.Other others.Atomic) = codes "ATOMIC"
text (k.Object objects.Attribute) = codes "ATTRIBUTE"
text (k.Other others.Authorization) = codes "AUTHORIZATION"
text (k.Other others.Before) = codes "BEFORE"
text (k.Verb verbs.Begin) = codes "BEGIN"
text (k.Other others.Bit) = codes "BIT"
text (k.Other others.By) = codes "BY"
text (k.Other others.Cache) = codes "CACHE"
text (k.Verb verbs.Call) = codes "CALL"
text (k.Other others.Called) = codes "CALLED"
text (k.Other others.Cascade) = codes "CASCADE"
text (k.Object objects.Cast) = codes "CAST"
text (k.Other others.Chain) = codes "CHAIN"
text (k.Other others.Char) = codes "CHAR"
text (k.Other others.Character) = codes "CHARACTER"
text (k.Other others.Characteristics) = codes "CHARACTERISTICS"
text (k.Other others.Check) = codes "CHECK"
text (k.Verb verbs.Checkpoint) = codes "CHECKPOINT"
text (k.Object objects.Class) = codes "CLASS"
text (k.Verb verbs.Close) = codes "CLOSE"
text (k.Verb verbs.Cluster) = codes "CLUSTER"
text (k.Other others.Collate) = codes "COLLATE"
text (k.Object objects.Collation) = codes "COLLATION"
text (k.Object objects.Column) = codes "COLUMN"
text (k.Verb verbs.Comment) = codes "COMMENT"
text (k.Verb verbs.Commit) = codes "COMMIT"
text (k.Other others.Compression) = codes "COMPRESSION"
text (k.Other others.Concurrently) = codes "CONCURRENTLY"
text (k.Object objects.Configuration) = codes "CONFIGURATION"
text (k.Object objects.Constraint) = codes "CONSTRAINT"
text (k.Object objects.Constraints) = codes "CONSTRAINTS"
text (k.Object objects.Conversion) = codes "CONVERSION"
text (k.Verb verbs.Copy) = codes "COPY"
text (k.Other others.Cost) = codes "COST"
text (k.Verb verbs.Create) = codes "CREATE"
text (k.Other others.Cycle) = codes "CYCLE"
text (k.Object objects.Data) = codes "DATA"
text (k.Object objects.Database) = codes "DATABASE"
text (k.Verb verbs.Deallocate) = codes "DEALLOCATE"
text (k.Verb verbs.Declare) = codes "DECLARE"
text (k.Other others.Default) = codes "DEFAULT"
text (k.Other others.Deferrable) = codes "DEFERRABLE"
text (k.Verb verbs.Delete) = codes "DELETE"
text (k.Other others.Detach) = codes "DETACH"
text (k.Object objects.Dictionary) = codes "DICTIONARY"
text (k.Other others.Disable) = codes "DISABLE"
text (k.Verb verbs.Discard) = codes "DISCARD"
text (k.Other others.Distinct) = codes "DISTINCT"
text (k.Verb verbs.Do) = codes "DO"
text (k.Object objects.Domain) = codes "DOMAIN"
text (k.Other others.Double) = codes "DOUBLE"
text (k.Verb verbs.Drop) = codes "DROP"
text (k.Other others.Enable) = codes "ENABLE"
text (k.Verb verbs.End) = codes "END"
text (k.Other others.Enforced) = codes "ENFORCED"
text (k.Object objects.Event) = codes "EVENT"
text (k.Other others.Except) = codes "EXCEPT"
text (k.Other others.Exclude) = codes "EXCLUDE"
text (k.Other others.Exclusive) = codes "EXCLUSIVE"
text (k.Verb verbs.Execute) = codes "EXECUTE"
text (k.Other others.Exists) = codes "EXISTS"
text (k.Verb verbs.Explain) = codes "EXPLAIN"
text (k.Other others.Expression) = codes "EXPRESSION"
text (k.Object objects.Extension) = codes "EXTENSION"
text (k.Other others.External) = codes "EXTERNAL"
text (k.Other others.False) = codes "FALSE"
text (k.Object objects.Family) = codes "FAMILY"
text (k.Verb verbs.Fetch) = codes "FETCH"
text (k.Other others.Finalize) = codes "FINALIZE"
text (k.Other others.For) = codes "FOR"
text (k.Other others.Force) = codes "FORCE"
text (k.Object objects.Foreign) = codes "FOREIGN"
text (k.Other others.Freeze) = codes "FREEZE"
text (k.Other others.From) = codes "FROM"
text (k.Other others.Full) = codes "FULL"
text (k.Object objects.Function) = codes "FUNCTION"
text (k.Other others.Generated) = codes "GENERATED"
text (k.Other others.Global) = codes "GLOBAL"
text (k.Verb verbs.Grant) = codes "GRANT"
text (k.Object objects.Graph) = codes "GRAPH"
text (k.Object objects.Group) = codes "GROUP"
text (k.Other others.Having) = codes "HAVING"
text (k.Other others.Identity) = codes "IDENTITY"
text (k.Other others.If) = codes "IF"
text (k.Other others.Immutable) = codes "IMMUTABLE"
text (k.Verb verbs.Import) = codes "IMPORT"
text (k.Other others.In) = codes "IN"
text (k.Other others.Increment) = codes "INCREMENT"
text (k.Object objects.Index) = codes "INDEX"
text (k.Other others.Inherit) = codes "INHERIT"
text (k.Other others.Initially) = codes "INITIALLY"
text (k.Verb verbs.Insert) = codes "INSERT"
text (k.Other others.Intersect) = codes "INTERSECT"
text (k.Other others.Interval) = codes "INTERVAL"
text (k.Other others.Into) = codes "INTO"
text (k.Other others.Is) = codes "IS"
text (k.Other others.Key) = codes "KEY"
text (k.Other others.Label) = codes "LABEL"
text (k.Object objects.Language) = codes "LANGUAGE"
text (k.Object objects.Large) = codes "LARGE"
text (k.Other others.Leakproof) = codes "LEAKPROOF"
text (k.Other others.Level) = codes "LEVEL"
text (k.Other others.Like) = codes "LIKE"
text (k.Other others.Limit) = codes "LIMIT"
text (k.Verb verbs.Listen) = codes "LISTEN"
text (k.Verb verbs.Load) = codes "LOAD"
text (k.Other others.Local) = codes "LOCAL"
text (k.Verb verbs.Lock) = codes "LOCK"
text (k.Other others.Logged) = codes "LOGGED"
text (k.Object objects.Mapping) = codes "MAPPING"
text (k.Other others.Matched) = codes "MATCHED"
text (k.Object objects.Materialized) = codes "MATERIALIZED"
text (k.Other others.Maxvalue) = codes "MAXVALUE"
text (k.Verb verbs.Merge) = codes "MERGE"
text (k.Object objects.Method) = codes "METHOD"
text (k.Other others.Minvalue) = codes "MINVALUE"
text (k.Other others.Mode) = codes "MODE"
text (k.Verb verbs.Move) = codes "MOVE"
text (k.Other others.No) = codes "NO"
text (k.Other others.Not) = codes "NOT"
text (k.Verb verbs.Notify) = codes "NOTIFY"
text (k.Other others.Nowait) = codes "NOWAIT"
text (k.Other others.Null) = codes "NULL"
text (k.Object objects.Object) = codes "OBJECT"
text (k.Other others.Offset) = codes "OFFSET"
text (k.Other others.On) = codes "ON"
text (k.Other others.Only) = codes "ONLY"
text (k.Object objects.Operator) = codes "OPERATOR"
text (k.Other others.Options) = codes "OPTIONS"
text (k.Other others.Or) = codes "OR"
text (k.Other others.Order) = codes "ORDER"
text (k.Other others.Owned) = codes "OWNED"
text (k.Other others.Owner) = codes "OWNER"
text (k.Other others.Parallel) = codes "PARALLEL"
text (k.Object objects.Parser) = codes "PARSER"
text (k.Object objects.Partition) = codes "PARTITION"
text (k.Object objects.Policy) = codes "POLICY"
text (k.Other others.Precision) = codes "PRECISION"
text (k.Verb verbs.Prepare) = codes "PREPARE"
text (k.Other others.Prepared) = codes "PREPARED"
text (k.Other others.Primary) = codes "PRIMARY"
text (k.Object objects.Privileges) = codes "PRIVILEGES"
text (k.Other others.Procedural) = codes "PROCEDURAL"
text (k.Object objects.Procedure) = codes "PROCEDURE"
text (k.Object objects.Property) = codes "PROPERTY"
text (k.Object objects.Publication) = codes "PUBLICATION"
text (k.Verb verbs.Reassign) = codes "REASSIGN"
text (k.Other others.Recursive) = codes "RECURSIVE"
text (k.Other others.References) = codes "REFERENCES"
text (k.Verb verbs.Refresh) = codes "REFRESH"
text (k.Verb verbs.Reindex) = codes "REINDEX"
text (k.Verb verbs.Release) = codes "RELEASE"
text (k.Other others.Rename) = codes "RENAME"
text (k.Verb verbs.Repack) = codes "REPACK"
text (k.Other others.Replace) = codes "REPLACE"
text (k.Other others.Replica) = codes "REPLICA"
text (k.Verb verbs.Reset) = codes "RESET"
text (k.Other others.Restart) = codes "RESTART"
text (k.Other others.Returning) = codes "RETURNING"
text (k.Other others.Returns) = codes "RETURNS"
text (k.Verb verbs.Revoke) = codes "REVOKE"
text (k.Object objects.Role) = codes "ROLE"
text (k.Verb verbs.Rollback) = codes "ROLLBACK"
text (k.Object objects.Routine) = codes "ROUTINE"
text (k.Other others.Row) = codes "ROW"
text (k.Other others.Rows) = codes "ROWS"
text (k.Object objects.Rule) = codes "RULE"
text (k.Verb verbs.Savepoint) = codes "SAVEPOINT"
text (k.Object objects.Schema) = codes "SCHEMA"
text (k.Object objects.Search) = codes "SEARCH"
text (k.Other others.Security) = codes "SECURITY"
text (k.Verb verbs.Select) = codes "SELECT"
text (k.Object objects.Sequence) = codes "SEQUENCE"
text (k.Object objects.Server) = codes "SERVER"
text (k.Other others.Session) = codes "SESSION"
text (k.Verb verbs.Set) = codes "SET"
text (k.Other others.Share) = codes "SHARE"
text (k.Verb verbs.Show) = codes "SHOW"
text (k.Other others.Stable) = codes "STABLE"
text (k.Verb verbs.Start) = codes "START"
text (k.Object objects.Statistics) = codes "STATISTICS"
text (k.Other others.Storage) = codes "STORAGE"
text (k.Other others.Strict) = codes "STRICT"
text (k.Object objects.Subscription) = codes "SUBSCRIPTION"
text (k.Other others.Support) = codes "SUPPORT"
text (k.Object objects.System) = codes "SYSTEM"
text (k.Object objects.Table) = codes "TABLE"
text (k.Object objects.Tablespace) = codes "TABLESPACE"
text (k.Other others.Temp) = codes "TEMP"
text (k.Object objects.Template) = codes "TEMPLATE"
text (k.Other others.Temporary) = codes "TEMPORARY"
text (k.Object objects.Text) = codes "TEXT"
text (k.Other others.Then) = codes "THEN"
text (k.Other others.Time) = codes "TIME"
text (k.Other others.Timestamp) = codes "TIMESTAMP"
text (k.Other others.To) = codes "TO"
text (k.Other others.Transaction) = codes "TRANSACTION"
text (k.Object objects.Transform) = codes "TRANSFORM"
text (k.Object objects.Trigger) = codes "TRIGGER"
text (k.Other others.True) = codes "TRUE"
text (k.Verb verbs.Truncate) = codes "TRUNCATE"
text (k.Other others.Trusted) = codes "TRUSTED"
text (k.Object objects.«Type») = codes "TYPE"
text (k.Other others.Union) = codes "UNION"
text (k.Other others.Unique) = codes "UNIQUE"
text (k.Verb verbs.Unlisten) = codes "UNLISTEN"
text (k.Other others.Unlogged) = codes "UNLOGGED"
text (k.Verb verbs.Update) = codes "UPDATE"
text (k.Object objects.User) = codes "USER"
text (k.Other others.Using) = codes "USING"
text (k.Verb verbs.Vacuum) = codes "VACUUM"
text (k.Other others.Valid) = codes "VALID"
text (k.Other others.Validate) = codes "VALIDATE"
text (k.Other others.Value) = codes "VALUE"
text (k.Verb verbs.Values) = codes "VALUES"
text (k.Other others.Varchar) = codes "VARCHAR"
text (k.Other others.Varying) = codes "VARYING"
text (k.Other others.Verbose) = codes "VERBOSE"
text (k.Object objects.View) = codes "VIEW"
text (k.Other others.Volatile) = codes "VOLATILE"
text (k.Other others.When) = codes "WHEN"
text (k.Other others.Where) = codes "WHERE"
text (k.Other others.Window) = codes "WINDOW"
text (k.Verb verbs.With) = codes "WITH"
text (k.Other others.Without) = codes "WITHOUT"
text (k.Other others.Work) = codes "WORK"
text (k.Object objects.Wrapper) = codes "WRAPPER"
text (k.Other others.Zone) = codes "ZONE"

-- all keywords
unfoldable pub all_keywords : List Keyword
all_keywords =
    (k.Verb verbs.Abort) ∷
    (k.Object objects.Access) ∷
    (k.Other others.Add) ∷
    (k.Other others.After) ∷
    (k.Object objects.Aggregate) ∷
    (k.Other others.All) ∷
    (k.Verb verbs.Alter) ∷
    (k.Other others.Always) ∷
    (k.Verb verbs.Analyse) ∷
    (k.Verb verbs.Analyze) ∷
    (k.Other others.And) ∷
    (k.Other others.Array) ∷
    (k.Other others.As) ∷
    (k.Other others.Atomic) ∷
    (k.Object objects.Attribute) ∷
    (k.Other others.Authorization) ∷
    (k.Other others.Before) ∷
    (k.Verb verbs.Begin) ∷
    (k.Other others.Bit) ∷
    (k.Other others.By) ∷
    (k.Other others.Cache) ∷
    (k.Verb verbs.Call) ∷
    (k.Other others.Called) ∷
    (k.Other others.Cascade) ∷
    (k.Object objects.Cast) ∷
    (k.Other others.Chain) ∷
    (k.Other others.Char) ∷
    (k.Other others.Character) ∷
    (k.Other others.Characteristics) ∷
    (k.Other others.Check) ∷
    (k.Verb verbs.Checkpoint) ∷
    (k.Object objects.Class) ∷
    (k.Verb verbs.Close) ∷
    (k.Verb verbs.Cluster) ∷
    (k.Other others.Collate) ∷
    (k.Object objects.Collation) ∷
    (k.Object objects.Column) ∷
    (k.Verb verbs.Comment) ∷
    (k.Verb verbs.Commit) ∷
    (k.Other others.Compression) ∷
    (k.Other others.Concurrently) ∷
    (k.Object objects.Configuration) ∷
    (k.Object objects.Constraint) ∷
    (k.Object objects.Constraints) ∷
    (k.Object objects.Conversion) ∷
    (k.Verb verbs.Copy) ∷
    (k.Other others.Cost) ∷
    (k.Verb verbs.Create) ∷
    (k.Other others.Cycle) ∷
    (k.Object objects.Data) ∷
    (k.Object objects.Database) ∷
    (k.Verb verbs.Deallocate) ∷
    (k.Verb verbs.Declare) ∷
    (k.Other others.Default) ∷
    (k.Other others.Deferrable) ∷
    (k.Verb verbs.Delete) ∷
    (k.Other others.Detach) ∷
    (k.Object objects.Dictionary) ∷
    (k.Other others.Disable) ∷
    (k.Verb verbs.Discard) ∷
    (k.Other others.Distinct) ∷
    (k.Verb verbs.Do) ∷
    (k.Object objects.Domain) ∷
    (k.Other others.Double) ∷
    (k.Verb verbs.Drop) ∷
    (k.Other others.Enable) ∷
    (k.Verb verbs.End) ∷
    (k.Other others.Enforced) ∷
    (k.Object objects.Event) ∷
    (k.Other others.Except) ∷
    (k.Other others.Exclude) ∷
    (k.Other others.Exclusive) ∷
    (k.Verb verbs.Execute) ∷
    (k.Other others.Exists) ∷
    (k.Verb verbs.Explain) ∷
    (k.Other others.Expression) ∷
    (k.Object objects.Extension) ∷
    (k.Other others.External) ∷
    (k.Other others.False) ∷
    (k.Object objects.Family) ∷
    (k.Verb verbs.Fetch) ∷
    (k.Other others.Finalize) ∷
    (k.Other others.For) ∷
    (k.Other others.Force) ∷
    (k.Object objects.Foreign) ∷
    (k.Other others.Freeze) ∷
    (k.Other others.From) ∷
    (k.Other others.Full) ∷
    (k.Object objects.Function) ∷
    (k.Other others.Generated) ∷
    (k.Other others.Global) ∷
    (k.Verb verbs.Grant) ∷
    (k.Object objects.Graph) ∷
    (k.Object objects.Group) ∷
    (k.Other others.Having) ∷
    (k.Other others.Identity) ∷
    (k.Other others.If) ∷
    (k.Other others.Immutable) ∷
    (k.Verb verbs.Import) ∷
    (k.Other others.In) ∷
    (k.Other others.Increment) ∷
    (k.Object objects.Index) ∷
    (k.Other others.Inherit) ∷
    (k.Other others.Initially) ∷
    (k.Verb verbs.Insert) ∷
    (k.Other others.Intersect) ∷
    (k.Other others.Interval) ∷
    (k.Other others.Into) ∷
    (k.Other others.Is) ∷
    (k.Other others.Key) ∷
    (k.Other others.Label) ∷
    (k.Object objects.Language) ∷
    (k.Object objects.Large) ∷
    (k.Other others.Leakproof) ∷
    (k.Other others.Level) ∷
    (k.Other others.Like) ∷
    (k.Other others.Limit) ∷
    (k.Verb verbs.Listen) ∷
    (k.Verb verbs.Load) ∷
    (k.Other others.Local) ∷
    (k.Verb verbs.Lock) ∷
    (k.Other others.Logged) ∷
    (k.Object objects.Mapping) ∷
    (k.Other others.Matched) ∷
    (k.Object objects.Materialized) ∷
    (k.Other others.Maxvalue) ∷
    (k.Verb verbs.Merge) ∷
    (k.Object objects.Method) ∷
    (k.Other others.Minvalue) ∷
    (k.Other others.Mode) ∷
    (k.Verb verbs.Move) ∷
    (k.Other others.No) ∷
    (k.Other others.Not) ∷
    (k.Verb verbs.Notify) ∷
    (k.Other others.Nowait) ∷
    (k.Other others.Null) ∷
    (k.Object objects.Object) ∷
    (k.Other others.Offset) ∷
    (k.Other others.On) ∷
    (k.Other others.Only) ∷
    (k.Object objects.Operator) ∷
    (k.Other others.Options) ∷
    (k.Other others.Or) ∷
    (k.Other others.Order) ∷
    (k.Other others.Owned) ∷
    (k.Other others.Owner) ∷
    (k.Other others.Parallel) ∷
    (k.Object objects.Parser) ∷
    (k.Object objects.Partition) ∷
    (k.Object objects.Policy) ∷
    (k.Other others.Precision) ∷
    (k.Verb verbs.Prepare) ∷
    (k.Other others.Prepared) ∷
    (k.Other others.Primary) ∷
    (k.Object objects.Privileges) ∷
    (k.Other others.Procedural) ∷
    (k.Object objects.Procedure) ∷
    (k.Object objects.Property) ∷
    (k.Object objects.Publication) ∷
    (k.Verb verbs.Reassign) ∷
    (k.Other others.Recursive) ∷
    (k.Other others.References) ∷
    (k.Verb verbs.Refresh) ∷
    (k.Verb verbs.Reindex) ∷
    (k.Verb verbs.Release) ∷
    (k.Other others.Rename) ∷
    (k.Verb verbs.Repack) ∷
    (k.Other others.Replace) ∷
    (k.Other others.Replica) ∷
    (k.Verb verbs.Reset) ∷
    (k.Other others.Restart) ∷
    (k.Other others.Returning) ∷
    (k.Other others.Returns) ∷
    (k.Verb verbs.Revoke) ∷
    (k.Object objects.Role) ∷
    (k.Verb verbs.Rollback) ∷
    (k.Object objects.Routine) ∷
    (k.Other others.Row) ∷
    (k.Other others.Rows) ∷
    (k.Object objects.Rule) ∷
    (k.Verb verbs.Savepoint) ∷
    (k.Object objects.Schema) ∷
    (k.Object objects.Search) ∷
    (k.Other others.Security) ∷
    (k.Verb verbs.Select) ∷
    (k.Object objects.Sequence) ∷
    (k.Object objects.Server) ∷
    (k.Other others.Session) ∷
    (k.Verb verbs.Set) ∷
    (k.Other others.Share) ∷
    (k.Verb verbs.Show) ∷
    (k.Other others.Stable) ∷
    (k.Verb verbs.Start) ∷
    (k.Object objects.Statistics) ∷
    (k.Other others.Storage) ∷
    (k.Other others.Strict) ∷
    (k.Object objects.Subscription) ∷
    (k.Other others.Support) ∷
    (k.Object objects.System) ∷
    (k.Object objects.Table) ∷
    (k.Object objects.Tablespace) ∷
    (k.Other others.Temp) ∷
    (k.Object objects.Template) ∷
    (k.Other others.Temporary) ∷
    (k.Object objects.Text) ∷
    (k.Other others.Then) ∷
    (k.Other others.Time) ∷
    (k.Other others.Timestamp) ∷
    (k.Other others.To) ∷
    (k.Other others.Transaction) ∷
    (k.Object objects.Transform) ∷
    (k.Object objects.Trigger) ∷
    (k.Other others.True) ∷
    (k.Verb verbs.Truncate) ∷
    (k.Other others.Trusted) ∷
    (k.Object objects.«Type») ∷
    (k.Other others.Union) ∷
    (k.Other others.Unique) ∷
    (k.Verb verbs.Unlisten) ∷
    (k.Other others.Unlogged) ∷
    (k.Verb verbs.Update) ∷
    (k.Object objects.User) ∷
    (k.Other others.Using) ∷
    (k.Verb verbs.Vacuum) ∷
    (k.Other others.Valid) ∷
    (k.Other others.Validate) ∷
    (k.Other others.Value) ∷
    (k.Verb verbs.Values) ∷
    (k.Other others.Varchar) ∷
    (k.Other others.Varying) ∷
    (k.Other others.Verbose) ∷
    (k.Object objects.View) ∷
    (k.Other others.Volatile) ∷
    (k.Other others.When) ∷
    (k.Other others.Where) ∷
    (k.Other others.Window) ∷
    (k.Verb verbs.With) ∷
    (k.Other others.Without) ∷
    (k.Other others.Work) ∷
    (k.Object objects.Wrapper) ∷
    (k.Other others.Zone) ∷
    []
