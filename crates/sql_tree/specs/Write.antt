-- What a query gives and what a statement writes (PostgreSQL manual, SELECT, INSERT, UPDATE, MERGE, CREATE VIEW).
use Rattle.std.specs.Prelude.{ℕ, ◌-◌, ◌==◌, Bool, true, false, not, ◌&&◌, ◌||◌, if◌then◌else◌, List, [], ◌∷◌, length, drop, map, option_to_list, Option, Some, None}
use Rattle.std.specs.List.{filter_map}
use Rattle.std.specs.Option.{option_and_then}
use Rattle.sql_token.specs.sql_keyword.declared.words.Keyword.{Keyword}
use Rattle.sql_token.specs.sql_keyword.declared.words.Keyword.TheVariants as k
use Rattle.sql_token.specs.sql_keyword.declared.words.Verb.TheVariants as verbs
use Rattle.sql_token.specs.sql_keyword.declared.words.Object.TheVariants as objects
use Rattle.sql_token.specs.sql_keyword.declared.words.TheConstants.Keyword as keyword
use Rattle.sql_token.specs.declared.token.Span.{Span}
use Rattle.sql_token.specs.declared.terminal.Symbol.{Symbol}
use Rattle.sql_token.specs.declared.terminal.Symbol.TheVariants as s
use Rattle.sql_token.specs.declared.terminal.Terminal.{Terminal}
use Rattle.sql_token.specs.Terminal.{is_keyword, is_name, is_dot}
use Rattle.sql_token.specs.Depth.{span_of}
use Rattle.sql_tree.specs.declared.kinds.StmtKind.{StmtKind}
use Rattle.sql_tree.specs.declared.kinds.StmtKind.TheVariants as stmt
use Rattle.sql_tree.specs.declared.nodes.SetPart.{SetPart}
use Rattle.sql_tree.specs.declared.nodes.Target.{Target}
use Rattle.sql_tree.specs.declared.nodes.TableWrite.{TableWrite}
use Rattle.sql_tree.specs.declared.nodes.ViewDefinition.{ViewDefinition}
use Rattle.sql_tree.specs.Forms.{names_end, after_word, after_words}
use Rattle.sql_tree.specs.Groups.{is_open_square_symbol, is_list, inside_list}
use Rattle.sql_tree.specs.Split.{Test, comma, word, equals, do_update_set, then_update_set, then_insert, clause_end, merge_clause_end, target_list_end, begins_list, after_list, has, until, from_mark, split, all_of}

-- ---- names with accessors: `.name` and `[..]`

abbrev pub is_after_dot : Option Terminal → Bool
is_after_dot None = false
is_after_dot (Some earlier) = is_dot earlier

abbrev pub begins_name : List Terminal → Bool
begins_name [] = false
begins_name (t ∷ ts) = is_name t

-- `[`, a dot with a name after it, or a name after a dot
abbrev pub is_accessor : Option Terminal → Terminal → List Terminal → Bool
is_accessor earlier t after = is_open_square_symbol t.symbol || (is_dot t && begins_name after) || (is_name t && is_after_dot earlier)

-- what is no part of the accessors of a name
unfoldable pub no_accessor : Option Terminal → Terminal → List Terminal → Bool
no_accessor earlier t after = not (is_accessor earlier t after)

abbrev pub target_named : ℕ → Bool → Target
target_named number partial = record { name = number; partial = partial }

-- a name and its accessors
unfoldable pub target : List Terminal → Option Target
target [] = None
target (t ∷ ts) =
    if is_name t && not (has no_accessor ts) then Some (target_named t.number (not (length ts == 0))) else None

-- the targets between commas: what is none is left out
unfoldable pub targets_between : List Terminal → List Target
targets_between ts = filter_map target (split comma ts)

-- ---- SET clauses

-- what comes before the first `=`: nothing where there is none
unfoldable pub assigned : List Terminal → List Terminal
assigned ts = if has equals ts then until equals ts else []

abbrev pub list_targets : List Terminal → List Target
list_targets left = if is_list left then targets_between (inside_list left) else []

abbrev pub set_part_of : List Terminal → List Terminal → Option Target → SetPart
set_part_of ts left (Some t) =
    record { first = (span_of ts).first; last = (span_of ts).last; single = true; targets = t ∷ [] }
set_part_of ts left None =
    record { first = (span_of ts).first; last = (span_of ts).last; single = false; targets = list_targets left }

-- `name accessors = ..` or `( targets ) = ..`. Any other part has no targets, and an empty one is no part.
unfoldable pub set_part : List Terminal → Option SetPart
set_part [] = None
set_part (t ∷ ts) = Some (set_part_of (t ∷ ts) (assigned (t ∷ ts)) (target (assigned (t ∷ ts))))

-- a clause, by what follows its word SET
unfoldable pub set_clause : Test → List Terminal → List SetPart
set_clause end ts = filter_map set_part (split comma (until end ts))

abbrev pub others : {A : Type 0} → List A → List A
others [] = []
others (x ∷ xs) = xs

-- the clauses after DO UPDATE SET or THEN UPDATE SET; one also ends where the next begins
unfoldable pub set_clauses : Test → Test → List Terminal → List (List SetPart)
set_clauses mark end tail = map (λ part. set_clause end (drop 2 part)) (others (split mark tail))

-- the clause of an UPDATE, after the first word SET
unfoldable pub update_clause : List Terminal → List (List SetPart)
update_clause tail = if has (word keyword.SET) tail then set_clause clause_end (drop 1 (from_mark (word keyword.SET) tail)) ∷ [] else []

unfoldable pub sets_of : StmtKind → List Terminal → List (List SetPart)
sets_of stmt.Update tail = update_clause tail
sets_of stmt.Insert tail = set_clauses do_update_set clause_end tail
sets_of stmt.Merge tail = set_clauses then_update_set merge_clause_end tail
sets_of kind tail = []

-- ---- lists of columns

abbrev pub is_query_word : Keyword → Bool
is_query_word (k.Verb verbs.Select) = true
is_query_word (k.Verb verbs.With) = true
is_query_word (k.Verb verbs.Values) = true
is_query_word (k.Object objects.Table) = true
is_query_word _ = false

abbrev pub is_query_symbol : Symbol → Bool
is_query_symbol (s.Keyword w) = is_query_word w
is_query_symbol s.OpenRound = true
is_query_symbol _ = false

abbrev pub begins_query : List Terminal → Bool
begins_query [] = false
begins_query (t ∷ ts) = is_query_symbol t.symbol

-- the columns of the bracket list that comes first, which is no query
unfoldable pub column_list : List Terminal → Option (List Target)
column_list ts =
    if begins_list ts && not (begins_query (inside_list ts)) then Some (targets_between (inside_list ts)) else None

abbrev pub after_name : List Terminal → List Terminal → List Terminal
after_name ts [] = ts
after_name ts (t ∷ rest) = if is_name t then rest else ts

-- what follows `AS name`, where it comes first
unfoldable pub after_alias : List Terminal → List Terminal
after_alias [] = []
after_alias (t ∷ ts) = if is_keyword keyword.AS t then after_name (t ∷ ts) ts else t ∷ ts

unfoldable pub insert_lists : List Terminal → List (List Target)
insert_lists tail = filter_map (λ part. column_list (drop 1 part)) (others (split then_insert tail))

unfoldable pub lists_of : StmtKind → List Terminal → List (List Target)
lists_of stmt.Insert tail = option_to_list (column_list (after_alias tail))
lists_of stmt.Merge tail = insert_lists tail
lists_of kind tail = []

-- what INSERT, UPDATE or MERGE writes, by its table and what follows
unfoldable pub table_write : StmtKind → Span → List Terminal → TableWrite
table_write kind path tail = record { path = path; sets = sets_of kind tail; lists = lists_of kind tail }

-- ---- targets of queries

abbrev pub name_after_as : List Terminal → Option ℕ
name_after_as (a ∷ t ∷ []) = if is_keyword keyword.AS a && is_name t then Some t.number else None
name_after_as _ = None

-- the name of a closing `AS name`
unfoldable pub alias_name : List Terminal → Option ℕ
alias_name ts = name_after_as (drop (length ts - 2) ts)

abbrev pub last_name : ℕ × List Terminal → Option ℕ
last_name p = if length p.1 == 0 then Some p.0 else None

-- the last name of a path that is all of it
unfoldable pub path_name : List Terminal → Option ℕ
path_name [] = None
path_name (t ∷ ts) = if is_name t then last_name (names_end t.number ts) else None

abbrev pub name_or : Option ℕ → Option ℕ → Option ℕ
name_or (Some n) other = Some n
name_or None other = other

unfoldable pub query_target : List Terminal → Option Target
query_target ts = option_and_then (λ n. Some (target_named n false)) (name_or (alias_name ts) (path_name ts))

abbrev pub left_or : List Terminal → Option (List Terminal) → List Terminal
left_or ts (Some rest) = rest
left_or ts None = ts

-- what follows ALL, DISTINCT or DISTINCT ON ( .. ), where one of them comes first
unfoldable pub after_distinct : List Terminal → List Terminal
after_distinct [] = []
after_distinct (t ∷ ts) =
    if is_keyword keyword.ALL t then ts
    else (if is_keyword keyword.DISTINCT t then left_or ts (option_and_then after_list (after_word keyword.ON ts))
    else t ∷ ts)

-- The targets of a query that have a name, by what follows its word SELECT.
unfoldable pub targets : List Terminal → List Target
targets ts = filter_map query_target (split comma (until target_list_end (after_distinct ts)))

-- ---- views

unfoldable pub column_name : List Terminal → Option Target
column_name (t ∷ []) = if is_name t then Some (target_named t.number false) else None
column_name _ = None

-- the names of the bracket list that comes first, where it holds nothing but names
unfoldable pub view_columns : List Terminal → Option (List Target)
view_columns tail = if begins_list tail then all_of column_name (split comma (inside_list tail)) else None

abbrev pub targets_of_select : Option (List Terminal) → List Target
targets_of_select None = []
targets_of_select (Some ts) = targets ts

-- the targets of the query after the first AS, where it begins with SELECT
unfoldable pub view_targets : List Terminal → List Target
view_targets ts = targets_of_select (after_words (keyword.AS ∷ keyword.SELECT ∷ []) (from_mark (word keyword.AS) ts))

abbrev pub named_or : {A : Type 0} → List A → Option (List A) → List A
named_or other None = other
named_or other (Some xs) = xs

-- What CREATE VIEW defines, by what follows its path. An empty list of columns names none.
unfoldable pub view_definition : Bool → List Terminal → ViewDefinition
view_definition replace tail =
    record { replace = replace; columns = named_or [] (view_columns tail); targets = view_targets tail }
