-- Statements that may take long, so that a limit on the wait for a lock or on the statement is worth its line.
use Rattle.std.specs.Prelude.{Bool, true, false, ◌||◌, List}
use Rattle.std.specs.List.{list_any}
use Rattle.sql_tree.specs.declared.kinds.StmtKind.{StmtKind}
use Rattle.sql_tree.specs.declared.kinds.StmtKind.TheVariants as stmt
use Rattle.sql_tree.specs.declared.nodes.Body.{Body}
use Rattle.sql_tree.specs.declared.nodes.Body.TheVariants as body
use Rattle.sql_tree.specs.declared.nodes.ConKind.{ConKind}
use Rattle.sql_tree.specs.declared.nodes.ConKind.TheVariants as con
use Rattle.sql_tree.specs.declared.nodes.Constraint.{Constraint}
use Rattle.sql_tree.specs.declared.nodes.Elem.{Elem}
use Rattle.sql_tree.specs.declared.nodes.Elem.TheVariants as elem
use Rattle.sql_tree.specs.declared.nodes.Stmt.{Stmt}
use Rattle.lint_lock.specs.Lock.{is_foreign_kind}

-- ALTER of any kind of object
abbrev pub alters : StmtKind → Bool
alters stmt.AlterAggregate = true
alters stmt.AlterCollation = true
alters stmt.AlterConversion = true
alters stmt.AlterDatabase = true
alters stmt.AlterDefaultPrivileges = true
alters stmt.AlterDomain = true
alters stmt.AlterEventTrigger = true
alters stmt.AlterExtension = true
alters stmt.AlterForeignDataWrapper = true
alters stmt.AlterForeignTable = true
alters stmt.AlterFunction = true
alters stmt.AlterGroup = true
alters stmt.AlterIndex = true
alters stmt.AlterLanguage = true
alters stmt.AlterLargeObject = true
alters stmt.AlterMaterializedView = true
alters stmt.AlterOperator = true
alters stmt.AlterOperatorClass = true
alters stmt.AlterOperatorFamily = true
alters stmt.AlterPolicy = true
alters stmt.AlterPropertyGraph = true
alters stmt.AlterProcedure = true
alters stmt.AlterPublication = true
alters stmt.AlterRole = true
alters stmt.AlterRoutine = true
alters stmt.AlterRule = true
alters stmt.AlterSchema = true
alters stmt.AlterSequence = true
alters stmt.AlterServer = true
alters stmt.AlterStatistics = true
alters stmt.AlterSubscription = true
alters stmt.AlterSystem = true
alters stmt.AlterTable = true
alters stmt.AlterTablespace = true
alters stmt.AlterTextSearchConfiguration = true
alters stmt.AlterTextSearchDictionary = true
alters stmt.AlterTextSearchParser = true
alters stmt.AlterTextSearchTemplate = true
alters stmt.AlterTrigger = true
alters stmt.AlterType = true
alters stmt.AlterUser = true
alters stmt.AlterUserMapping = true
alters stmt.AlterView = true
alters _ = false

-- CREATE of any kind of object
abbrev pub creates : StmtKind → Bool
creates stmt.CreateAccessMethod = true
creates stmt.CreateAggregate = true
creates stmt.CreateCast = true
creates stmt.CreateCollation = true
creates stmt.CreateConversion = true
creates stmt.CreateDatabase = true
creates stmt.CreateDomain = true
creates stmt.CreateEventTrigger = true
creates stmt.CreateExtension = true
creates stmt.CreateForeignDataWrapper = true
creates stmt.CreateForeignTable = true
creates stmt.CreateFunction = true
creates stmt.CreateGroup = true
creates stmt.CreateIndex = true
creates stmt.CreateLanguage = true
creates stmt.CreateMaterializedView = true
creates stmt.CreateOperator = true
creates stmt.CreateOperatorClass = true
creates stmt.CreateOperatorFamily = true
creates stmt.CreatePolicy = true
creates stmt.CreatePropertyGraph = true
creates stmt.CreateProcedure = true
creates stmt.CreatePublication = true
creates stmt.CreateRole = true
creates stmt.CreateRule = true
creates stmt.CreateSchema = true
creates stmt.CreateSequence = true
creates stmt.CreateServer = true
creates stmt.CreateStatistics = true
creates stmt.CreateSubscription = true
creates stmt.CreateTable = true
creates stmt.CreateTableAs = true
creates stmt.CreateTablespace = true
creates stmt.CreateTextSearchConfiguration = true
creates stmt.CreateTextSearchDictionary = true
creates stmt.CreateTextSearchParser = true
creates stmt.CreateTextSearchTemplate = true
creates stmt.CreateTransform = true
creates stmt.CreateTrigger = true
creates stmt.CreateType = true
creates stmt.CreateUser = true
creates stmt.CreateUserMapping = true
creates stmt.CreateView = true
creates _ = false

-- DROP of any kind of object
abbrev pub drops : StmtKind → Bool
drops stmt.DropAccessMethod = true
drops stmt.DropAggregate = true
drops stmt.DropCast = true
drops stmt.DropCollation = true
drops stmt.DropConversion = true
drops stmt.DropDatabase = true
drops stmt.DropDomain = true
drops stmt.DropEventTrigger = true
drops stmt.DropExtension = true
drops stmt.DropForeignDataWrapper = true
drops stmt.DropForeignTable = true
drops stmt.DropFunction = true
drops stmt.DropGroup = true
drops stmt.DropIndex = true
drops stmt.DropLanguage = true
drops stmt.DropMaterializedView = true
drops stmt.DropOperator = true
drops stmt.DropOperatorClass = true
drops stmt.DropOperatorFamily = true
drops stmt.DropOwned = true
drops stmt.DropPolicy = true
drops stmt.DropPropertyGraph = true
drops stmt.DropProcedure = true
drops stmt.DropPublication = true
drops stmt.DropRole = true
drops stmt.DropRoutine = true
drops stmt.DropRule = true
drops stmt.DropSchema = true
drops stmt.DropSequence = true
drops stmt.DropServer = true
drops stmt.DropStatistics = true
drops stmt.DropSubscription = true
drops stmt.DropTable = true
drops stmt.DropTablespace = true
drops stmt.DropTextSearchConfig = true
drops stmt.DropTextSearchDict = true
drops stmt.DropTextSearchParser = true
drops stmt.DropTextSearchTemplate = true
drops stmt.DropTransform = true
drops stmt.DropTrigger = true
drops stmt.DropType = true
drops stmt.DropUser = true
drops stmt.DropUserMapping = true
drops stmt.DropView = true
drops _ = false

-- any other statement that reads or rewrites much, or waits for a lock
abbrev pub takes_long : StmtKind → Bool
takes_long stmt.SelectInto = true
takes_long stmt.Cluster = true
takes_long stmt.CommentOn = true
takes_long stmt.ImportForeignSchema = true
takes_long stmt.Load = true
takes_long stmt.Lock = true
takes_long stmt.Refresh = true
takes_long stmt.Reindex = true
takes_long stmt.Truncate = true
takes_long stmt.Vacuum = true
takes_long _ = false

abbrev pub is_slow_kind : StmtKind → Bool
is_slow_kind kind = alters kind || creates kind || drops kind || takes_long kind

abbrev pub is_references_kind : ConKind → Bool
is_references_kind con.References = true
is_references_kind _ = false

abbrev pub is_reference : Constraint → Bool
is_reference c = is_references_kind c.kind

-- a FOREIGN KEY constraint, or a column with REFERENCES
abbrev pub refers : Elem → Bool
refers (elem.Constraint c) = is_foreign_kind c.kind
refers (elem.Column c) = list_any is_reference c.constraints
refers _ = false

abbrev pub has_reference : Body → Bool
has_reference (body.Table temp guarded on_commit_drop word path elems) = list_any refers elems
has_reference _ = false

abbrev pub slow_by : StmtKind → Body → Bool
slow_by stmt.CreateTable b = has_reference b
slow_by kind b = is_slow_kind kind

-- CREATE TABLE is slow only where it refers to another table.
abbrev pub is_slow : Stmt → Bool
is_slow s = slow_by s.kind s.body
