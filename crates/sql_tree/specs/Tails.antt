-- What follows the lead words of a statement, where no row can say it (PostgreSQL manual: DROP TABLE, REINDEX, VACUUM,
-- TRUNCATE, SET, LOCK).
use Rattle.std.specs.Prelude.{ℕ, zero, suc, ◌-◌, nat_lt, Bool, true, false, ◌&&◌, ◌||◌, if◌then◌else◌, List, [], ◌∷◌, length, map, drop, slice_index_or, Option, Some, None}
use Rattle.std.specs.Option.{option_and_then}
use Rattle.std.specs.List.{list_any}
use Rattle.sql_token.specs.sql_keyword.declared.words.Keyword.{Keyword}
use Rattle.sql_token.specs.sql_keyword.declared.words.Keyword.TheVariants as k
use Rattle.sql_token.specs.sql_keyword.declared.words.Object.TheVariants as objects
use Rattle.sql_token.specs.sql_keyword.declared.words.TheConstants.Keyword as keyword
use Rattle.sql_token.specs.declared.token.Span.{Span}
use Rattle.sql_token.specs.declared.terminal.Symbol.{Symbol}
use Rattle.sql_token.specs.declared.terminal.Symbol.TheVariants as s
use Rattle.sql_token.specs.declared.terminal.Terminal.{Terminal}
use Rattle.sql_token.specs.Terminal.{is_keyword}
use Rattle.sql_token.specs.Depth.{span_of, nothing}
use Rattle.sql_tree.specs.declared.nodes.Body.{Body}
use Rattle.sql_tree.specs.declared.nodes.Body.TheVariants as body
use Rattle.sql_tree.specs.declared.nodes.LockMode.{LockMode}
use Rattle.sql_tree.specs.declared.nodes.ReindexTarget.{ReindexTarget}
use Rattle.sql_tree.specs.declared.nodes.ReindexTarget.TheVariants as target
use Rattle.sql_tree.specs.declared.other_forms.TheConstants.{LOCK_MODES}
use Rattle.sql_tree.specs.Forms.{names_end, after_word, after_words, either_of}
use Rattle.sql_tree.specs.Groups.{inside_list, path_first}
use Rattle.sql_tree.specs.Split.{comma, split, begins_with, begins_list, closing, is_comma_symbol}

abbrev pub from_to : ℕ → ℕ → Span
from_to first last = record { first = first; last = last }

-- ---- paths

-- a comma and a path, where they come first, and what follows them
abbrev pub comma_path : List Terminal → Option (Span × List Terminal)
comma_path [] = None
comma_path (t ∷ ts) = if is_comma_symbol t.symbol then path_first ts else None

abbrev pub path_and_more : (List Terminal → List Span) → Option (Span × List Terminal) → List Span
path_and_more more None = []
path_and_more more (Some (path, rest)) = path ∷ more rest

-- the paths that follow, each after a comma, as far as they go, and n of them at most
abbrev pub paths_after : ℕ → List Terminal → List Span
paths_after zero ts = []
paths_after (suc n) ts = path_and_more (paths_after n) (comma_path ts)

-- a path from the name `first` on, which ends at the last of its names, and the paths that follow
abbrev pub path_then : ℕ → ℕ × List Terminal → List Span
path_then first (last, rest) = from_to first last ∷ paths_after (length rest) rest

-- A path, of which the names from `first` to `last` were read, and then a comma and a path as often as they come.
abbrev pub paths_from : ℕ → ℕ → List Terminal → List Span
paths_from first last ts = path_then first (names_end last ts)

abbrev pub all_read : Span × List Terminal → Option (Option Span)
all_read (path, []) = Some (Some path)
all_read (path, t ∷ ts) = None

-- a path or nothing, and no more than that
unfoldable pub whole_path : List Terminal → Option (Option Span)
whole_path [] = Some None
whole_path (t ∷ ts) = option_and_then all_read (path_first (t ∷ ts))

-- ---- options in brackets

-- what follows the bracket list that comes first, or all where there is none
unfoldable pub after_options : List Terminal → List Terminal
after_options ts = if begins_list ts then drop (closing 0 0 ts) ts else ts

-- whether one of the options is like this
unfoldable pub any_option : (List Terminal → Bool) → List Terminal → Bool
any_option test inside = list_any test (split comma inside)

-- the terminals after this word, where it comes first
unfoldable pub after_flag : Keyword → List Terminal → List Terminal
after_flag w [] = []
after_flag w (t ∷ ts) = if is_keyword w t then ts else t ∷ ts

-- ---- REINDEX

abbrev pub target_word : Keyword → Option ReindexTarget
target_word (k.Object objects.Index) = Some target.Index
target_word (k.Object objects.Table) = Some target.Table
target_word (k.Object objects.Schema) = Some target.Schema
target_word (k.Object objects.Database) = Some target.Database
target_word (k.Object objects.System) = Some target.System
target_word _ = None

abbrev pub target_symbol : Symbol → Option ReindexTarget
target_symbol (s.Keyword w) = target_word w
target_symbol _ = None

-- an option CONCURRENTLY, whatever its value
unfoldable pub is_concurrent : List Terminal → Bool
is_concurrent option = begins_with keyword.CONCURRENTLY option

-- the same with a value
unfoldable pub is_valued : List Terminal → Bool
is_valued option = begins_with keyword.CONCURRENTLY option && nat_lt 1 (length option)

abbrev pub reindex_body : List Terminal → Terminal → List Terminal → ReindexTarget → Option Span → Body
reindex_body inside word rest found path =
    body.Reindex found word.number (begins_with keyword.CONCURRENTLY rest || any_option is_concurrent inside) (any_option is_valued inside) path

-- what is rebuilt, by its word and what follows
unfoldable pub reindex_object : List Terminal → List Terminal → Option Body
reindex_object inside [] = None
reindex_object inside (t ∷ ts) =
    option_and_then (λ found. option_and_then (λ path.
    Some (reindex_body inside t ts found path)) (whole_path (after_flag keyword.CONCURRENTLY ts))) (target_symbol t.symbol)

-- [( options )], the word of what is rebuilt, [CONCURRENTLY], [path], and nothing more
unfoldable pub reindex : List Terminal → Option Body
reindex ts = reindex_object (inside_list ts) (after_options ts)

-- ---- VACUUM

abbrev pub is_one_symbol : Symbol → Bool
is_one_symbol s.One = true
is_one_symbol _ = false

-- TRUE, ON or 1
unfoldable pub is_on : Terminal → Bool
is_on t = is_keyword keyword.TRUE t || is_keyword keyword.ON t || is_one_symbol t.symbol

-- an option FULL that is not turned off
unfoldable pub is_full : List Terminal → Bool
is_full [] = false
is_full (t ∷ []) = is_keyword keyword.FULL t
is_full (t ∷ v ∷ []) = is_keyword keyword.FULL t && is_on v
is_full (t ∷ v ∷ u ∷ ts) = false

unfoldable pub is_full_vacuum : List Terminal → Bool
is_full_vacuum ts = begins_with keyword.FULL (after_options ts) || any_option is_full (inside_list ts)

abbrev pub some_span : List Terminal → Option Span
some_span [] = None
some_span (t ∷ ts) = Some (span_of (t ∷ ts))

abbrev pub after_either : Keyword → Keyword → List Terminal → List Terminal
after_either v w [] = []
after_either v w (t ∷ ts) = if is_keyword v t || is_keyword w t then ts else t ∷ ts

-- what follows [( options )] [FULL] [FREEZE] [VERBOSE] [ANALYZE or ANALYSE], where it is something
unfoldable pub vacuum_tables : List Terminal → Option Span
vacuum_tables ts =
    some_span (after_either keyword.ANALYZE keyword.ANALYSE (after_flag keyword.VERBOSE (after_flag keyword.FREEZE (after_flag keyword.FULL (after_options ts)))))

-- ---- TRUNCATE

abbrev pub cascade_number : Terminal → Option ℕ
cascade_number t = if is_keyword keyword.CASCADE t then Some t.number else None

-- the last terminal, where it is the word CASCADE
unfoldable pub last_cascade : List Terminal → Option ℕ
last_cascade ts = cascade_number (slice_index_or ts (length ts - 1) nothing)

-- ---- SET

abbrev pub is_equals_symbol : Symbol → Bool
is_equals_symbol s.Equals = true
is_equals_symbol s.EqualsOperator = true
is_equals_symbol _ = false

-- TO or an operator that begins with `=`
unfoldable pub begins_value : List Terminal → Bool
begins_value [] = false
begins_value (t ∷ ts) = is_keyword keyword.TO t || is_equals_symbol t.symbol

abbrev pub path_to : Span × List Terminal → Option Span
path_to (path, rest) = if begins_value rest then Some path else None

-- the path of the parameter: before TO, or before an operator that begins with `=`
unfoldable pub parameter : List Terminal → Option Span
parameter ts = option_and_then path_to (path_first ts)

-- ---- LOCK

abbrev pub ends : List Terminal → Bool
ends [] = true
ends (t ∷ []) = is_keyword keyword.NOWAIT t
ends (t ∷ u ∷ ts) = false

abbrev pub does_end : Option (List Terminal) → Bool
does_end None = false
does_end (Some rest) = ends rest

-- these words and MODE, and then nothing or NOWAIT
unfoldable pub is_mode : List Keyword → List Terminal → Bool
is_mode ws ts = does_end (option_and_then (after_word keyword.MODE) (after_words ws ts))

abbrev pub mode_by : List (LockMode × List Keyword) → List Terminal → Option LockMode
mode_by [] ts = None
mode_by (r ∷ rs) ts = if is_mode r.1 ts then Some r.0 else mode_by rs ts

unfoldable pub mode_of : List Terminal → Option LockMode
mode_of ts = mode_by (map (λ r. (r.0, r.1.now)) LOCK_MODES) ts

-- what follows the last one of this word
abbrev pub after_last : Keyword → List Terminal → Option (List Terminal)
after_last w [] = None
after_last w (t ∷ ts) = either_of (after_last w ts) (after_word w (t ∷ ts))

-- the mode between the last word IN and MODE, at the end
abbrev pub lock_mode : List Terminal → Option LockMode
lock_mode ts = option_and_then mode_of (after_last keyword.IN ts)
