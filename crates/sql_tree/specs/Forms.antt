-- Forms of statements: what each part of a row takes, and the row that reads a statement.
use Rattle.std.specs.Prelude.{ℕ, ◌==◌, List, [], ◌∷◌, length, map, Bool, true, false, not, ◌&&◌, ◌||◌, if◌then◌else◌, Option, Some, None}
use Rattle.std.specs.Option.{option_and_then}
use Rattle.sql_token.specs.sql_keyword.declared.words.Keyword.{Keyword}
use Rattle.sql_token.specs.sql_keyword.declared.words.Keyword.TheVariants as k
use Rattle.sql_token.specs.sql_keyword.declared.words.Verb.TheVariants as verbs
use Rattle.sql_token.specs.sql_keyword.declared.words.Object.TheVariants as objects
use Rattle.sql_token.specs.sql_keyword.declared.words.Other.TheVariants as others
use Rattle.sql_token.specs.sql_keyword.declared.words.TheConstants.Keyword as keyword
use Rattle.sql_token.specs.declared.terminal.Symbol.{Symbol}
use Rattle.sql_token.specs.declared.terminal.Symbol.TheVariants as s
use Rattle.sql_token.specs.declared.terminal.Terminal.{Terminal}
use Rattle.sql_token.specs.Terminal.{is_keyword, is_name, is_dot}
use Rattle.sql_tree.specs.declared.kinds.StmtKind.{StmtKind}
use Rattle.sql_tree.specs.declared.kinds.ActionKind.{ActionKind}
use Rattle.sql_tree.specs.declared.forms.Fact.{Fact}
use Rattle.sql_tree.specs.declared.forms.Fact.TheVariants as m
use Rattle.sql_tree.specs.declared.forms.Phrase.{Phrase}
use Rattle.sql_tree.specs.declared.forms.Phrase.TheVariants as phrase
use Rattle.sql_tree.specs.declared.forms.Part.{Part}
use Rattle.sql_tree.specs.declared.forms.Part.TheVariants as p
use Rattle.sql_tree.specs.declared.forms.Captures.{Captures}
use Rattle.sql_tree.specs.declared.forms.Family.{Family}
use Rattle.sql_tree.specs.declared.forms.Family.TheVariants as family
use Rattle.sql_tree.specs.declared.kinds.StmtKind.TheVariants as stmt
use Rattle.sql_tree.specs.declared.create_forms.TheConstants.{CREATE_RELATION, CREATE_CODE, CREATE_DATA_TYPE, CREATE_SERVICE, CREATE_OTHER}
use Rattle.sql_tree.specs.declared.alter_forms.TheConstants.{ALTER_RELATION, ALTER_CODE, ALTER_DATA_TYPE, ALTER_SERVICE, ALTER_OTHER}
use Rattle.sql_tree.specs.declared.drop_forms.TheConstants.{DROP_RELATION, DROP_CODE, DROP_DATA_TYPE, DROP_SERVICE, DROP_OTHER}
use Rattle.sql_tree.specs.declared.other_forms.TheConstants.{START, COMMIT, END, ROLLBACK, ABORT, SELECT, INSERT, UPDATE, MERGE, SET, RESET, PREPARE, COMMENT, IMPORT, SECURITY, REFRESH, CLUSTER}
use Rattle.sql_tree.specs.Split.{from_mark, into, privileges, after_list}
use Rattle.sql_tree.specs.Words.{is_of_class}

-- what is kept so far, and the terminals that are left
pub record State : Type 0 where
  pub kept : Captures
  pub left : List Terminal

abbrev pub at : Captures → List Terminal → State
at c ts = record { kept = c; left = ts }

-- ---- steps

-- the terminals after one that passes the test, which is kept
abbrev pub one : (Terminal → Bool) → (Terminal → Captures → Captures) → Captures → List Terminal → Option State
one test keep c [] = None
one test keep c (t ∷ ts) = if test t then Some (at (keep t c) ts) else None

abbrev pub nothing_kept : Terminal → Captures → Captures
nothing_kept t c = c

abbrev pub word_kept : Terminal → Captures → Captures
word_kept t c = record c { word = Some t.number }

abbrev pub name_kept : Terminal → Captures → Captures
name_kept t c = record c { name = Some t.number }

abbrev pub concurrently_kept : Terminal → Captures → Captures
concurrently_kept t c = record c { concurrently = Some t.number }

abbrev pub record_fact : Fact → Captures → Captures
record_fact m.Nothing c = c
record_fact m.Unique c = record c { unique = true }
record_fact m.Guarded c = record c { guarded = true }
record_fact m.Chain c = record c { chain = true }
record_fact m.Replace c = record c { replace = true }
record_fact m.NotPlain c = record c { not_plain = true }
record_fact m.Placed c = record c { placed = true }

-- an optional part: what it takes, or nothing
abbrev pub or_here : Option State → Captures → List Terminal → State
or_here (Some s) c ts = s
or_here None c ts = at c ts

unfoldable pub words_of : Phrase → List Keyword
words_of phrase.IfExists = keyword.IF ∷ keyword.EXISTS ∷ []
words_of phrase.IfNotExists = keyword.IF ∷ keyword.NOT ∷ keyword.EXISTS ∷ []
words_of phrase.AndChain = keyword.AND ∷ keyword.CHAIN ∷ []
words_of phrase.AndNoChain = keyword.AND ∷ keyword.NO ∷ keyword.CHAIN ∷ []
words_of phrase.OrReplace = keyword.OR ∷ keyword.REPLACE ∷ []
words_of phrase.SetData = keyword.SET ∷ keyword.DATA ∷ []

-- the terminals after this word
abbrev pub after_word : Keyword → List Terminal → Option (List Terminal)
after_word w [] = None
after_word w (t ∷ ts) = if is_keyword w t then Some ts else None

-- the terminals after these words, which come one after another
abbrev pub after_words : List Keyword → List Terminal → Option (List Terminal)
after_words [] ts = Some ts
after_words (w ∷ ws) ts = option_and_then (after_words ws) (after_word w ts)

abbrev pub take_phrase : Phrase → Fact → Captures → List Terminal → Option State
take_phrase f mark c ts = option_and_then (λ rest. Some (at (record_fact mark c) rest)) (after_words (words_of f) ts)

abbrev pub either_of : {A : Type 0} → Option A → Option A → Option A
either_of (Some s) other = Some s
either_of None other = other

-- names alternating with dots after a name of number n: the last name's number, and what is left
abbrev pub names_end : ℕ → List Terminal → ℕ × List Terminal
names_end n [] = (n, [])
names_end n (d ∷ []) = (n, d ∷ [])
names_end n (d ∷ t ∷ ts) = if is_dot d && is_name t then names_end t.number ts else (n, d ∷ t ∷ ts)

abbrev pub take_path : Captures → List Terminal → Option State
take_path c [] = None
take_path c (t ∷ ts) =
    if is_name t
    then Some (at (record c { path = Some (record { first = t.number; last = (names_end t.number ts).0 }) }) (names_end t.number ts).1)
    else None

abbrev pub is_temp : Terminal → Bool
is_temp t = is_keyword keyword.TEMP t || is_keyword keyword.TEMPORARY t

abbrev pub is_other_mod : Terminal → Bool
is_other_mod t = is_keyword keyword.GLOBAL t || is_keyword keyword.LOCAL t || is_keyword keyword.UNLOGGED t

abbrev pub take_mods : Captures → List Terminal → State
take_mods c [] = at c []
take_mods c (t ∷ ts) =
    if is_temp t then take_mods (record c { temp = true }) ts
    else (if is_other_mod t then take_mods c ts else at c (t ∷ ts))

-- a name that is not the word ON
abbrev pub index_name : Captures → List Terminal → Option State
index_name c ts = one (λ t. is_name t && not (is_keyword keyword.ON t)) name_kept c ts

abbrev pub guard : Captures → List Terminal → State
guard c ts = or_here (take_phrase phrase.IfNotExists m.Guarded c ts) c ts

abbrev pub take_index_name : Captures → List Terminal → State
take_index_name c ts = or_here (index_name (guard c ts).kept (guard c ts).left) c ts

abbrev pub take_chain : Captures → List Terminal → State
take_chain c ts =
    or_here (either_of (take_phrase phrase.AndChain m.Chain c ts) (take_phrase phrase.AndNoChain m.Nothing c ts)) c ts

abbrev pub take_concurrently : Captures → List Terminal → State
take_concurrently c ts = or_here (one (is_keyword keyword.CONCURRENTLY) concurrently_kept c ts) c ts

abbrev pub is_star_symbol : Symbol → Bool
is_star_symbol s.Star = true
is_star_symbol _ = false

abbrev pub take_star : Captures → List Terminal → State
take_star c ts = or_here (one (λ t. is_star_symbol t.symbol) nothing_kept c ts) c ts

-- what comes after the INTO of a SELECT
abbrev pub take_into : Captures → List Terminal → Option State
take_into c ts = one (is_keyword keyword.INTO) nothing_kept c (from_mark into ts)

abbrev pub is_str_symbol : Symbol → Bool
is_str_symbol s.Str = true
is_str_symbol _ = false

-- a bracket list, all of it
abbrev pub take_list : Captures → List Terminal → Option State
take_list c ts = option_and_then (λ rest. Some (at c rest)) (after_list ts)

-- what is left, where it is something
abbrev pub some_left : Captures → List Terminal → Option State
some_left c [] = None
some_left c (t ∷ ts) = Some (at c (t ∷ ts))

abbrev pub opened : Captures → Captures
opened c = record c { open_ended = true }

abbrev pub take_rest : Captures → List Terminal → State
take_rest c ts = at (opened c) ts

-- ---- parts and rows

-- what a part takes: None where it is missing
unfoldable pub take_part : Part → Captures → List Terminal → Option State
take_part (p.Word w) c ts = one (is_keyword w) nothing_kept c ts
take_part (p.AnyOf class) c ts = one (is_of_class class) nothing_kept c ts
take_part (p.Object w) c ts = one (is_keyword w) word_kept c ts
take_part (p.MaybeObject w) c ts = Some (or_here (one (is_keyword w) word_kept c ts) c ts)
take_part (p.Tell mark) c ts = Some (at (record_fact mark c) ts)
take_part (p.Flag w mark) c ts = Some (or_here (one (is_keyword w) (λ t c. record_fact mark c) c ts) c ts)
take_part (p.Either v w) c ts = Some (or_here (one (λ t. is_keyword v t || is_keyword w t) word_kept c ts) c ts)
take_part (p.Maybe f mark) c ts = Some (or_here (take_phrase f mark c ts) c ts)
take_part p.Chain c ts = Some (take_chain c ts)
take_part p.Concurrently c ts = Some (take_concurrently c ts)
take_part p.IndexName c ts = Some (take_index_name c ts)
take_part p.Mods c ts = Some (take_mods c ts)
take_part p.Name c ts = one is_name name_kept c ts
take_part p.Path c ts = take_path c ts
take_part p.AnyName c ts = one is_name nothing_kept c ts
take_part p.Str c ts = one (λ t. is_str_symbol t.symbol) name_kept c ts
take_part p.List c ts = take_list c ts
take_part p.MaybeList c ts = Some (or_here (take_list c ts) c ts)
take_part p.Star c ts = Some (take_star c ts)
take_part p.Into c ts = take_into c ts
take_part p.Privileges c ts = some_left c (from_mark privileges ts)
take_part p.Rest c ts = Some (take_rest c ts)
take_part p.Tail c ts = some_left (opened c) ts

-- these parts one after another
abbrev pub in_turn : List Part → Captures → List Terminal → Option State
in_turn [] c ts = Some (at c ts)
in_turn (x ∷ xs) c ts = option_and_then (λ s. in_turn xs s.kept s.left) (take_part x c ts)

-- nothing is left but what the form leaves open
abbrev pub all_taken : State → Option State
all_taken s = if s.kept.open_ended || length s.left == 0 then Some s else None

-- a kind, its lead words after the first, and what follows them
abbrev pub Row : Type 0
Row = StmtKind × List Part × List Part

-- what follows the lead words, to the end
abbrev pub finished : {K : Type 0} → K → List Part → State → Option (K × State)
finished kind parts s = option_and_then (λ e. option_and_then (λ w. Some (kind, w)) (all_taken e)) (in_turn parts s.kept s.left)

abbrev pub led_or : Option State → Row → Option (StmtKind × State) → Option (StmtKind × State)
led_or None r other = other
led_or (Some s) r other = finished r.0 r.2 s

abbrev pub fresh : Captures
fresh = record {
  word = None;
  path = None;
  name = None;
  concurrently = None;
  unique = false;
  temp = false;
  guarded = false;
  chain = false;
  replace = false;
  not_plain = false;
  placed = false;
  open_ended = false;
}

-- the first row whose lead words match
abbrev pub first_led : List Row → List Terminal → Option (StmtKind × State)
first_led [] ts = None
first_led (r ∷ rs) ts = led_or (in_turn r.1 fresh ts) r (first_led rs ts)

-- a kind of an action, and all that it is made of
abbrev pub ActionRow : Type 0
ActionRow = ActionKind × List Part

-- the first row that reads all
abbrev pub first_whole : {K : Type 0} → List (K × List Part) → List Terminal → Option (K × State)
first_whole [] ts = None
first_whole (r ∷ rs) ts = either_of (finished r.0 r.1 (at fresh ts)) (first_whole rs ts)

-- ---- tables of rows

-- the family of the object that this word names, or that may come before it
unfoldable pub family_of : Keyword → Family
family_of (k.Object objects.Table) = family.Relation
family_of (k.Other others.Temp) = family.Relation
family_of (k.Other others.Temporary) = family.Relation
family_of (k.Other others.Global) = family.Relation
family_of (k.Other others.Local) = family.Relation
family_of (k.Other others.Unlogged) = family.Relation
family_of (k.Other others.Unique) = family.Relation
family_of (k.Object objects.Index) = family.Relation
family_of (k.Object objects.Sequence) = family.Relation
family_of (k.Object objects.View) = family.Relation
family_of (k.Other others.Recursive) = family.Relation
family_of (k.Object objects.Materialized) = family.Relation
family_of (k.Object objects.Foreign) = family.Relation
family_of (k.Object objects.Property) = family.Relation
family_of (k.Other others.Or) = family.Code
family_of (k.Object objects.Function) = family.Code
family_of (k.Object objects.Procedure) = family.Code
family_of (k.Object objects.Routine) = family.Code
family_of (k.Object objects.Aggregate) = family.Code
family_of (k.Object objects.Trigger) = family.Code
family_of (k.Object objects.Constraint) = family.Code
family_of (k.Object objects.Rule) = family.Code
family_of (k.Object objects.Language) = family.Code
family_of (k.Other others.Trusted) = family.Code
family_of (k.Other others.Procedural) = family.Code
family_of (k.Object objects.Policy) = family.Code
family_of (k.Object objects.Event) = family.Code
family_of (k.Object objects.Transform) = family.Code
family_of (k.Object objects.«Type») = family.DataType
family_of (k.Object objects.Domain) = family.DataType
family_of (k.Object objects.Cast) = family.DataType
family_of (k.Object objects.Collation) = family.DataType
family_of (k.Object objects.Operator) = family.DataType
family_of (k.Object objects.Role) = family.Service
family_of (k.Object objects.User) = family.Service
family_of (k.Object objects.Group) = family.Service
family_of (k.Object objects.Database) = family.Service
family_of (k.Object objects.Tablespace) = family.Service
family_of (k.Object objects.Server) = family.Service
family_of (k.Object objects.Publication) = family.Service
family_of (k.Object objects.Subscription) = family.Service
family_of (k.Object objects.System) = family.Service
family_of _ = family.Other

abbrev pub family_by : Symbol → Family
family_by (s.Keyword w) = family_of w
family_by _ = family.Other

-- the family that the first of these terminals tells
abbrev pub family_first : List Terminal → Family
family_first [] = family.Other
family_first (t ∷ ts) = family_by t.symbol

unfoldable pub create_rows : Family → List Row
create_rows family.Relation = map (λ r. (r.0, r.1.now, r.2.now)) CREATE_RELATION
create_rows family.Code = map (λ r. (r.0, r.1.now, r.2.now)) CREATE_CODE
create_rows family.DataType = map (λ r. (r.0, r.1.now, r.2.now)) CREATE_DATA_TYPE
create_rows family.Service = map (λ r. (r.0, r.1.now, r.2.now)) CREATE_SERVICE
create_rows family.Other = map (λ r. (r.0, r.1.now, r.2.now)) CREATE_OTHER

unfoldable pub alter_rows : Family → List Row
alter_rows family.Relation = map (λ r. (r.0, r.1.now, r.2.now)) ALTER_RELATION
alter_rows family.Code = map (λ r. (r.0, r.1.now, r.2.now)) ALTER_CODE
alter_rows family.DataType = map (λ r. (r.0, r.1.now, r.2.now)) ALTER_DATA_TYPE
alter_rows family.Service = map (λ r. (r.0, r.1.now, r.2.now)) ALTER_SERVICE
alter_rows family.Other = map (λ r. (r.0, r.1.now, r.2.now)) ALTER_OTHER

unfoldable pub drop_rows : Family → List Row
drop_rows family.Relation = map (λ r. (r.0, r.1.now, r.2.now)) DROP_RELATION
drop_rows family.Code = map (λ r. (r.0, r.1.now, r.2.now)) DROP_CODE
drop_rows family.DataType = map (λ r. (r.0, r.1.now, r.2.now)) DROP_DATA_TYPE
drop_rows family.Service = map (λ r. (r.0, r.1.now, r.2.now)) DROP_SERVICE
drop_rows family.Other = map (λ r. (r.0, r.1.now, r.2.now)) DROP_OTHER

-- the rows of a first word, and of what follows it
unfoldable pub rows_of : Keyword → List Terminal → List Row
rows_of (k.Verb verbs.Create) ts = create_rows (family_first ts)
rows_of (k.Verb verbs.Alter) ts = alter_rows (family_first ts)
rows_of (k.Verb verbs.Drop) ts = drop_rows (family_first ts)
rows_of (k.Verb verbs.Start) ts = map (λ r. (r.0, r.1.now, r.2.now)) START
rows_of (k.Verb verbs.Commit) ts = map (λ r. (r.0, r.1.now, r.2.now)) COMMIT
rows_of (k.Verb verbs.End) ts = map (λ r. (r.0, r.1.now, r.2.now)) END
rows_of (k.Verb verbs.Rollback) ts = map (λ r. (r.0, r.1.now, r.2.now)) ROLLBACK
rows_of (k.Verb verbs.Abort) ts = map (λ r. (r.0, r.1.now, r.2.now)) ABORT
rows_of (k.Verb verbs.Select) ts = map (λ r. (r.0, r.1.now, r.2.now)) SELECT
rows_of (k.Verb verbs.Insert) ts = map (λ r. (r.0, r.1.now, r.2.now)) INSERT
rows_of (k.Verb verbs.Update) ts = map (λ r. (r.0, r.1.now, r.2.now)) UPDATE
rows_of (k.Verb verbs.Merge) ts = map (λ r. (r.0, r.1.now, r.2.now)) MERGE
rows_of (k.Verb verbs.Set) ts = map (λ r. (r.0, r.1.now, r.2.now)) SET
rows_of (k.Verb verbs.Reset) ts = map (λ r. (r.0, r.1.now, r.2.now)) RESET
rows_of (k.Verb verbs.Prepare) ts = map (λ r. (r.0, r.1.now, r.2.now)) PREPARE
rows_of (k.Verb verbs.Comment) ts = map (λ r. (r.0, r.1.now, r.2.now)) COMMENT
rows_of (k.Verb verbs.Import) ts = map (λ r. (r.0, r.1.now, r.2.now)) IMPORT
rows_of (k.Other others.Security) ts = map (λ r. (r.0, r.1.now, r.2.now)) SECURITY
rows_of (k.Verb verbs.Refresh) ts = map (λ r. (r.0, r.1.now, r.2.now)) REFRESH
rows_of (k.Verb verbs.Cluster) ts = map (λ r. (r.0, r.1.now, r.2.now)) CLUSTER
rows_of _ ts = []

-- the kind that a first word tells alone
unfoldable pub one_word_kind : Keyword → Option StmtKind
one_word_kind (k.Verb verbs.Analyse) = Some stmt.Analyze
one_word_kind (k.Verb verbs.Analyze) = Some stmt.Analyze
one_word_kind (k.Verb verbs.Begin) = Some stmt.Begin
one_word_kind (k.Verb verbs.Call) = Some stmt.Call
one_word_kind (k.Verb verbs.Checkpoint) = Some stmt.Checkpoint
one_word_kind (k.Verb verbs.Close) = Some stmt.Close
one_word_kind (k.Verb verbs.Copy) = Some stmt.Copy
one_word_kind (k.Verb verbs.Deallocate) = Some stmt.Deallocate
one_word_kind (k.Verb verbs.Declare) = Some stmt.Declare
one_word_kind (k.Verb verbs.Delete) = Some stmt.Delete
one_word_kind (k.Verb verbs.Discard) = Some stmt.Discard
one_word_kind (k.Verb verbs.Do) = Some stmt.Do
one_word_kind (k.Verb verbs.Execute) = Some stmt.Execute
one_word_kind (k.Verb verbs.Explain) = Some stmt.Explain
one_word_kind (k.Verb verbs.Fetch) = Some stmt.Fetch
one_word_kind (k.Verb verbs.Grant) = Some stmt.Grant
one_word_kind (k.Verb verbs.Listen) = Some stmt.Listen
one_word_kind (k.Verb verbs.Load) = Some stmt.Load
one_word_kind (k.Verb verbs.Lock) = Some stmt.Lock
one_word_kind (k.Verb verbs.Move) = Some stmt.Move
one_word_kind (k.Verb verbs.Notify) = Some stmt.Notify
one_word_kind (k.Verb verbs.Reassign) = Some stmt.Reassign
one_word_kind (k.Verb verbs.Reindex) = Some stmt.Reindex
one_word_kind (k.Verb verbs.Release) = Some stmt.ReleaseSavepoint
one_word_kind (k.Verb verbs.Repack) = Some stmt.Repack
one_word_kind (k.Verb verbs.Revoke) = Some stmt.Revoke
one_word_kind (k.Verb verbs.Savepoint) = Some stmt.SavepointCreate
one_word_kind (k.Verb verbs.Show) = Some stmt.Show
one_word_kind (k.Object objects.Table) = Some stmt.Table
one_word_kind (k.Verb verbs.Truncate) = Some stmt.Truncate
one_word_kind (k.Verb verbs.Unlisten) = Some stmt.Unlisten
one_word_kind (k.Verb verbs.Vacuum) = Some stmt.Vacuum
one_word_kind (k.Verb verbs.Values) = Some stmt.Values
one_word_kind _ = None

-- a kind of statement whose form takes anything
abbrev pub anything : StmtKind → List Terminal → StmtKind × State
anything kind ts = (kind, take_rest fresh ts)

abbrev pub kind_or_row : Option StmtKind → List Row → List Terminal → Option (StmtKind × State)
kind_or_row (Some kind) rows ts = Some (anything kind ts)
kind_or_row None rows ts = first_led rows ts

-- the kind of a statement that begins with this word, and what its form keeps of what follows
unfoldable pub led_by : Keyword → List Terminal → Option (StmtKind × State)
led_by w ts = kind_or_row (one_word_kind w) (rows_of w ts) ts
